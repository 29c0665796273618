-- What a line of the coordinator's command says of its first word.
use Prim.Native.Nat.{ℕ}
use mathlib.Core.Path.{◌≡◌, ap, ◌∙◌}
use mathlib.Core.List.{List}
use lib.ListN.{take}
use Rattle.std.specs.Prelude.{Result}
use Rattle.lines.specs.Words.{leading, of_class}
use Rattle.lines.specs.Orders.{text_order, ordered}
use Rattle.lines.specs.declared.Mistake.{Mistake}
use Rattle.lines.specs.declared.words.Class.TheVariants.{Text}
use Rattle.lines.specs.declared.orders.Order.{Order}
use Rattle.lines.proofs.Calling.{uncommented_run}

pub order_read : (line : List ℕ) (end : ℕ) {r : Result Order Mistake} → end ≡ leading (of_class Text) line → r ≡ (text_order (take end line)).order → r ≡ (ordered line).order
unfolding ordered
order_read line end {r} e k = k ∙ ap (λ (t : List ℕ). (text_order t).order) (ap (λ (n : ℕ). take n line) e ∙ uncommented_run line)
