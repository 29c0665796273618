-- "The command" of the coordinator: the order that a line is. A line that is no order is answered by its first fault from the left, with the column.
use Rattle.std.specs.Prelude.{ℕ, ◌+◌, ◌≡◌, List, [], ◌∷◌, Option, Some, None, Result, Ok, length}
use Rattle.lines.specs.Words.{Word, words, uncommented}
use Rattle.lines.specs.Hex.{Part}
use Rattle.lines.specs.Mistakes.{wrong}
use Rattle.lines.specs.Behind.{tail, first_two, first_hex, first_bytes, closing, of_read}
use Rattle.lines.specs.Names.{spells}
use Rattle.lines.specs.declared.Fault.TheVariants.{Unknown}
use Rattle.lines.specs.declared.Mistake.{Mistake}
use Rattle.lines.specs.declared.orders.Order.{Order}
use Rattle.lines.specs.declared.orders.Order.TheVariants as order
use Rattle.lines.specs.declared.titles.Title.{Title}
use Rattle.lines.specs.declared.titles.Title.TheVariants as title
use Rattle.lines.specs.declared.titles.Lone.{Lone}
use Rattle.lines.specs.declared.titles.Lone.TheVariants as lone
use Rattle.lines.specs.declared.titles.Paired.{Paired}
use Rattle.lines.specs.declared.titles.Paired.TheVariants as paired

-- ---- the names of the orders: those with words behind them, and those with none
abbrev pub title_of : List ℕ → Option Title
title_of w =
    spells w "grant" (title.Paired paired.Grant)
    (spells w "message" (title.Paired paired.Message)
    (spells w "serve" title.Serve
    (spells w "granted" (title.Lone lone.Granted)
    (spells w "help" (title.Lone lone.Help)
    (spells w "quit" (title.Lone lone.Quit)
    (spells w "exit" (title.Lone lone.Quit) None))))))

-- ---- the orders
abbrev pub lone_order : Lone → Order
lone_order lone.Granted = order.Granted
lone_order lone.Help = order.Help
lone_order lone.Quit = order.Quit

abbrev pub paired_order : Paired → ℕ → ℕ → Order
paired_order paired.Grant a b = order.Grant a b
paired_order paired.Message a b = order.Message a b

abbrev pub with_pair : Paired → ℕ → List Word → Result Order Mistake
with_pair p end ws = of_read (λ q. paired_order p q.0 q.1) (first_two end ws) (tail (tail ws))

abbrev pub with_serve : ℕ → List Word → Result Order Mistake
with_serve end ws = of_read (λ s. order.Serve s.from s.to) (first_hex end ws) (tail ws)

-- an order, and the word behind `serve`
pub record Ordered : Type 0 where
  pub order : Result Order Mistake
  pub word : List ℕ

abbrev pub alone : Result Order Mistake → Ordered
alone o = record { order = o; word = [] }

-- the order of a name, and of the words behind it
abbrev pub titled : Title → ℕ → List Word → Ordered
titled (title.Lone l) end ws = alone (closing (lone_order l) ws)
titled (title.Paired p) end ws = alone (with_pair p end ws)
titled title.Serve end ws = record { order = with_serve end ws; word = first_bytes ws }

-- a name that begins in this column, or none
abbrev pub entitled : Option Title → ℕ → ℕ → List Word → Ordered
entitled None column end ws = alone (wrong Unknown column)
entitled (Some t) column end ws = titled t end ws

-- the order of a line's words, of its text, and of the whole line
abbrev pub words_order : ℕ → List Word → Ordered
words_order end [] = alone (Ok order.Blank)
words_order end (w ∷ ws) = entitled (title_of w.bytes) w.column end ws

abbrev pub text_order : List ℕ → Ordered
text_order text = words_order (length text + 1) (words 1 text)

unfoldable pub ordered : List ℕ → Ordered
ordered line = text_order (uncommented line)

-- ---- the promise of read_order: the order, and that `serve` says where its word stands in the line
abbrev pub Served : List ℕ → List ℕ → Result Order Mistake → Type 0
Served line word o = (from to : ℕ) → o ≡ Ok (order.Serve from to) → Part line from to word

pub record ReadOrder (line : List ℕ) (o : Result Order Mistake) : Type 0 where
  pub answered : o ≡ (ordered line).order
  pub served : Served line (ordered line).word o
