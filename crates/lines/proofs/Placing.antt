-- Where a hex word stands: `hear` and `serve` tell the part of the line that is the word behind them.
use Prim.Native.Nat.{ℕ, ◌+◌, ◌-◌, ◌≤◌, ◌%◌}
use mathlib.Core.Path.{◌≡◌, refl, ap, subst}
use mathlib.Core.List.{List, [], ◌∷◌, ◌++◌}
use native.Mathlib.Omega.{arith}
use lib.Dec.{eqb, ltb}
use borrow.Author.Tests.{eqb-true, eqb-false}
use lib.ListN.{length, take, drop, length-append, length-drop, take-append-drop}
use lib.Seq.{take-append-le, drop-append-le, length-take-le}
use Rattle.lines.specs.Words.{Word, word, words_from, hex_digit, leading, of_class}
use Rattle.lines.specs.Hex.{hex_at, Part}
use Rattle.lines.specs.Behind.{tail, first_number, first_two, first_hex, first_bytes, closing, of_read}
use Rattle.lines.specs.Names.{name_of, topic_of}
use Rattle.lines.specs.Lines.{items, counted, on_topic, bare_call, single_call, double_call, of_list, helped, heard, commits, gossips, called, named, of_text, parsed, Heard}
use Rattle.lines.specs.Orders.{title_of, lone_order, paired_order, with_serve, titled, entitled, text_order, ordered, Served}
use Rattle.lines.specs.Promises.{bytes_of}
use Rattle.lines.specs.declared.Mistake.{Mistake}
use Rattle.lines.specs.declared.Topic.{Topic}
use Rattle.std.specs.Prelude.{Option, Some, None, Result, Ok, Err}
use Rattle.lines.specs.declared.Call.{Call}
use Rattle.lines.specs.declared.Call.TheVariants as call
use Rattle.lines.specs.declared.words.Class.TheVariants.{Gap, Ink, Text}
use Rattle.lines.specs.declared.words.Span.{Span}
use Rattle.lines.specs.declared.names.Name.{Name}
use Rattle.lines.specs.declared.names.Name.TheVariants as name
use Rattle.lines.specs.declared.names.Bare.{Bare}
use Rattle.lines.specs.declared.names.Bare.TheVariants as bare
use Rattle.lines.specs.declared.names.Single.{Single}
use Rattle.lines.specs.declared.names.Single.TheVariants as single
use Rattle.lines.specs.declared.names.Double.{Double}
use Rattle.lines.specs.declared.names.Double.TheVariants as double
use Rattle.lines.specs.declared.numbers.Row.TheVariants.{Write, Stamp}
use Rattle.lines.specs.declared.orders.Order.TheVariants as order
use Rattle.lines.specs.declared.titles.Title.{Title}
use Rattle.lines.specs.declared.titles.Title.TheVariants as title
use Rattle.lines.specs.declared.titles.Lone.{Lone}
use Rattle.lines.specs.declared.titles.Lone.TheVariants as lone
use Rattle.lines.specs.declared.titles.Paired.{Paired}
use Rattle.lines.specs.declared.titles.Paired.TheVariants as paired
use Rattle.lines.proofs.Cases.{by_test}
use Rattle.lines.proofs.Spans.{Searched, stands, next_found}
use Rattle.lines.proofs.Calling.{uncommented_run}

-- ---- the part of a text is that of a line which begins with it
part_longer : {text word : List ℕ} {from to : ℕ} (rest : List ℕ) → Part text from to word → Part (text ++ rest) from to word
part_longer {text} {word} {from} {to} rest p =
    let a : from ≤ length text = omega (arith, p.straight, p.within) in
    let b : to - from ≤ length (drop from text) = simp length-drop (omega (arith, p.within)) in
    record {
      straight = p.straight;
      within = simp length-append (omega (arith, p.within));
      part = rw (drop-append-le from text rest a, take-append-le (to - from) (drop from text) rest b) p.part;
    }

part_line : {word : List ℕ} {from to : ℕ} (line : List ℕ) (k : ℕ) → Part (take k line) from to word → Part line from to word
part_line {word} {from} {to} line k p = subst (λ (l : List ℕ). Part l from to word) (take-append-drop k line) (part_longer (drop k line) p)

-- ---- the next word of a text
span : List ℕ → ℕ → Span
span text at =
    let gap = leading (of_class Gap) (drop at text) in
    record { from = at + gap; to = at + gap + leading (of_class Ink) (drop (at + gap) text) }

spans : (text : List ℕ) (at : ℕ) → at ≤ length text → Searched text at (span text at)
unfolding span
spans text at h = next_found text at _ _ h refl refl

-- there is none, or there is one
by_word : {C : Type 0} (text : List ℕ) (at : ℕ) → at ≤ length text → (words_from text at ≡ [] → C)
    → ((s : Span) → s.from ≤ s.to → s.to ≤ length text → words_from text at ≡ word (s.from + 1) (bytes_of text s) ∷ words_from text s.to → C) → C
by_word text at h f g =
    let s = span text at in
    let n = spans text at h in
    by_test (eqb s.from s.to)
    (λ e. f (n.none (eqb-true s.from s.to e)))
    (λ e. g s n.straight n.within (stands n (eqb-false s.from s.to e)).words)

clash : {C : Type 0} → ◌≡◌ {A = ℕ} 0 1 → C
clash z = absurd (omega arith)

-- ---- a hex word stands where its columns say
part_columns : (column : ℕ) (bytes : List ℕ) (x : Span) → hex_at column bytes ≡ Ok x → (x.from ≡ column - 1) × (x.to ≡ column - 1 + length bytes)
part_columns column bytes x q =
    by_test (ltb (leading hex_digit bytes) (length bytes))
    (λ a. let z = rw a at q in clash (cc))
    (λ a.
    by_test (ltb 1024 (length bytes))
    (λ b. let z = rw (a, b) at q in clash (cc))
    (λ b.
    by_test (eqb (length bytes % 2) 1)
    (λ c. let z = rw (a, b, c) at q in clash (cc))
    (λ c. let z : x ≡ record { from = column - 1; to = column - 1 + length bytes } = cc (rw (a, b, c) at q) in (ap (λ (y : Span). y.from) z, ap (λ (y : Span). y.to) z))))

word_part : (text : List ℕ) (s : Span) → s.from ≤ s.to → s.to ≤ length text → (x : Span) → hex_at (s.from + 1) (bytes_of text s) ≡ Ok x
    → Part text x.from x.to (bytes_of text s)
word_part text s h g x q =
    let p = part_columns (s.from + 1) (bytes_of text s) x q in
    let l : s.to - s.from ≤ length (drop s.from text) = simp length-drop (omega arith) in
    let n : length (bytes_of text s) ≡ s.to - s.from = length-take-le (s.to - s.from) (drop s.from text) l in
    let a : x.from ≡ s.from = omega (arith, p.0) in
    let b : x.to ≡ s.to = omega (arith, p.1) in
    record { straight = omega arith; within = omega arith; part = rw (a, b) }

-- the word behind a name
behind : (text : List ℕ) (at end : ℕ) → at ≤ length text → (x : Span) → first_hex end (words_from text at) ≡ Ok x
    → Part text x.from x.to (first_bytes (words_from text at))
behind text at end h x q =
    by_word text at h
    (λ e. let z = rw e at q in clash (cc))
    (λ s a b e. rw e (word_part text s a b x (rw e at q)))

-- ---- what holds of every mistake and of what is read holds of the answer
module _ {A : Type 0} (P : Result A Mistake → Type 0) (w : (m : Mistake) → P (Err m)) where
  closing_keeps : (a : A) (ws : List Word) → P (Ok a) → P (closing a ws)
  closing_keeps a [] p = p
  closing_keeps a (v ∷ ws) p = w _

  read_keeps : {B : Type 0} (f : B → A) (r : Result B Mistake) (ws : List Word) → ((b : B) → r ≡ Ok b → P (Ok (f b))) → P (of_read f r ws)
  read_keeps f (Err m) ws p = w m
  read_keeps f (Ok b) ws p = closing_keeps (f b) ws (p b refl)

-- ---- the calls: no other is a `hear`
module _ (line : List ℕ) (bytes : List ℕ) where
  wrong_call : (m : Mistake) → Heard line bytes (Err m)
  wrong_call m = λ from to e. clash (cc)

  bare_call_lem : (b : Bare) → Heard line bytes (Ok (bare_call b))
  bare_call_lem bare.Standing = λ from to e. clash (cc)
  bare_call_lem bare.Fresh = λ from to e. clash (cc)
  bare_call_lem bare.Known = λ from to e. clash (cc)
  bare_call_lem bare.Quit = λ from to e. clash (cc)

  single_call_lem : (s : Single) (n : ℕ) → Heard line bytes (Ok (single_call s n))
  single_call_lem single.Flush n = λ from to e. clash (cc)
  single_call_lem single.Now n = λ from to e. clash (cc)
  single_call_lem single.Cut n = λ from to e. clash (cc)
  single_call_lem single.Ask n = λ from to e. clash (cc)

  double_call_lem : (d : Double) (a b : ℕ) → Heard line bytes (Ok (double_call d a b))
  double_call_lem double.Read a b = λ from to e. clash (cc)
  double_call_lem double.Clock a b = λ from to e. clash (cc)

  list_call : (f : ℕ → Call) (l : Result ℕ Mistake) → ((n : ℕ) → Heard line bytes (Ok (f n))) → Heard line bytes (of_list f l)
  list_call f (Err m) p = wrong_call m
  list_call f (Ok n) p = p n

  topic_call : (t : Option Topic) (column : ℕ) (ws : List Word) → Heard line bytes (on_topic t column ws)
  topic_call None column ws = wrong_call _
  topic_call (Some t) column ws = closing_keeps (Heard line bytes) wrong_call (call.Help t) ws (λ from to e. clash (cc))

  help_call : (ws : List Word) → Heard line bytes (helped ws)
  help_call [] = λ from to e. clash (cc)
  help_call (w ∷ ws) = topic_call (topic_of w.bytes) w.column ws

commit_call_lem : (line : List ℕ) (n : Result ℕ Mistake) (r : Result (List (ℕ × ℕ)) Mistake) → Heard line (commits n r).word (commits n r).call
commit_call_lem line (Err m) r = wrong_call line [] m
commit_call_lem line (Ok t) r = list_call line [] (call.Commit t) (counted r) (λ n from to e. clash (cc))

gossip_call_lem : (line : List ℕ) (i : Result (ℕ × ℕ) Mistake) (r : Result (List (ℕ × ℕ)) Mistake) → Heard line (gossips i r).word (gossips i r).call
gossip_call_lem line (Err m) r = wrong_call line [] m
gossip_call_lem line (Ok p) r = list_call line [] (call.Gossip p.0 p.1) (counted r) (λ n from to e. clash (cc))

module _ (line : List ℕ) (k : ℕ) where
  hear_call : (end at : ℕ) → at ≤ length (take k line) → Heard line (heard end (words_from (take k line) at)).word (heard end (words_from (take k line) at)).call
  hear_call end at h =
      read_keeps (Heard line (first_bytes (words_from (take k line) at))) (wrong_call line (first_bytes (words_from (take k line) at)))
      (λ s. call.Hear s.from s.to) (first_hex end (words_from (take k line) at)) (tail (words_from (take k line) at))
      (λ x q from to e.
      let a : x.from ≡ from = cc in
      let b : x.to ≡ to = cc in
      part_line line k (rw (a, b) at (behind (take k line) at end h x q)))

  name_call : (n : Name) (end at : ℕ) → at ≤ length (take k line)
      → Heard line (called n end (words_from (take k line) at)).word (called n end (words_from (take k line) at)).call
  name_call name.Commit end at h = commit_call_lem line (first_number end (words_from (take k line) at)) (items Write (tail (words_from (take k line) at)))
  name_call name.Gossip end at h = gossip_call_lem line (first_two end (words_from (take k line) at)) (items Stamp (tail (tail (words_from (take k line) at))))
  name_call (name.Bare b) end at h = closing_keeps (Heard line []) (wrong_call line []) (bare_call b) (words_from (take k line) at) (bare_call_lem line [] b)
  name_call (name.Single s) end at h =
      read_keeps (Heard line []) (wrong_call line []) (single_call s) (first_number end (words_from (take k line) at)) (tail (words_from (take k line) at)) (λ n q. single_call_lem line [] s n)
  name_call (name.Double d) end at h =
      read_keeps (Heard line []) (wrong_call line []) (λ p. double_call d p.0 p.1) (first_two end (words_from (take k line) at)) (tail (tail (words_from (take k line) at)))
      (λ p q. double_call_lem line [] d p.0 p.1)
  name_call name.Hear end at h = hear_call end at h
  name_call name.Help end at h = help_call line [] (words_from (take k line) at)

  named_call : (n : Option Name) (column end at : ℕ) → at ≤ length (take k line)
      → Heard line (named n column end (words_from (take k line) at)).word (named n column end (words_from (take k line) at)).call
  named_call None column end at h = wrong_call line [] _
  named_call (Some n) column end at h = name_call n end at h

  text_call : Heard line (of_text (take k line)).word (of_text (take k line)).call
  text_call =
      by_word (take k line) 0 (omega arith)
      (λ e. rw e (λ from to q. clash (cc)))
      (λ s a b e. rw e (named_call (name_of (bytes_of (take k line) s)) (s.from + 1) (length (take k line) + 1) s.to b))

pub line_heard : (line : List ℕ) → Heard line (parsed line).word (parsed line).call
unfolding parsed
line_heard line = subst (λ (t : List ℕ). Heard line (of_text t).word (of_text t).call) (uncommented_run line) (text_call line (leading (of_class Text) line))

-- ---- the orders: no other is a `serve`
module _ (line : List ℕ) (bytes : List ℕ) where
  wrong_order : (m : Mistake) → Served line bytes (Err m)
  wrong_order m = λ from to e. clash (cc)

  lone_order_lem : (l : Lone) → Served line bytes (Ok (lone_order l))
  lone_order_lem lone.Granted = λ from to e. clash (cc)
  lone_order_lem lone.Help = λ from to e. clash (cc)
  lone_order_lem lone.Quit = λ from to e. clash (cc)

  paired_order_lem : (p : Paired) (a b : ℕ) → Served line bytes (Ok (paired_order p a b))
  paired_order_lem paired.Grant a b = λ from to e. clash (cc)
  paired_order_lem paired.Message a b = λ from to e. clash (cc)

module _ (line : List ℕ) (k : ℕ) where
  serve_order : (end at : ℕ) → at ≤ length (take k line) → Served line (first_bytes (words_from (take k line) at)) (with_serve end (words_from (take k line) at))
  serve_order end at h =
      read_keeps (Served line (first_bytes (words_from (take k line) at))) (wrong_order line (first_bytes (words_from (take k line) at)))
      (λ s. order.Serve s.from s.to) (first_hex end (words_from (take k line) at)) (tail (words_from (take k line) at))
      (λ x q from to e.
      let a : x.from ≡ from = cc in
      let b : x.to ≡ to = cc in
      part_line line k (rw (a, b) at (behind (take k line) at end h x q)))

  title_order : (t : Title) (end at : ℕ) → at ≤ length (take k line)
      → Served line (titled t end (words_from (take k line) at)).word (titled t end (words_from (take k line) at)).order
  title_order (title.Lone l) end at h = closing_keeps (Served line []) (wrong_order line []) (lone_order l) (words_from (take k line) at) (lone_order_lem line [] l)
  title_order (title.Paired p) end at h =
      read_keeps (Served line []) (wrong_order line []) (λ q. paired_order p q.0 q.1) (first_two end (words_from (take k line) at)) (tail (tail (words_from (take k line) at)))
      (λ q e. paired_order_lem line [] p q.0 q.1)
  title_order title.Serve end at h = serve_order end at h

  entitled_order : (t : Option Title) (column end at : ℕ) → at ≤ length (take k line)
      → Served line (entitled t column end (words_from (take k line) at)).word (entitled t column end (words_from (take k line) at)).order
  entitled_order None column end at h = wrong_order line [] _
  entitled_order (Some t) column end at h = title_order t end at h

  text_order_lem : Served line (text_order (take k line)).word (text_order (take k line)).order
  text_order_lem =
      by_word (take k line) 0 (omega arith)
      (λ e. rw e (λ from to q. clash (cc)))
      (λ s a b e. rw e (entitled_order (title_of (bytes_of (take k line) s)) (s.from + 1) (length (take k line) + 1) s.to b))

pub line_served : (line : List ℕ) → Served line (ordered line).word (ordered line).order
unfolding ordered
line_served line = subst (λ (t : List ℕ). Served line (text_order t).word (text_order t).order) (uncommented_run line) (text_order_lem line (leading (of_class Text) line))
