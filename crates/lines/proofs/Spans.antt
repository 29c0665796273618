-- The words of a text by runs of bytes: the blanks before a word are passed, and a word is the run up to the next blank.
use Prim.Native.Nat.{ℕ, suc, ◌+◌, ◌-◌, ◌<◌, ◌≤◌}
use mathlib.Core.Path.{◌≡◌, refl, ap, sym, ◌∙◌, subst}
use mathlib.Core.Bool.{false}
use mathlib.Core.List.{List, [], ◌∷◌}
use native.Mathlib.Numerals.{add-one}
use native.Mathlib.Omega.{arith}
use native.Mathlib.Nat.{add-zero, add-suc, suc-add}
use lib.Dec.{eqb}
use lib.ListN.{length, take, drop, length-drop}
use lib.Seq.{take_all, drop-drop}
use borrow.Author.Tests.{eq-eqb, ne_eqb}
use Rattle.lines.specs.Words.{blank, Word, word, led, words, words_from, leading, of_class}
use Rattle.lines.specs.Promises.{bytes_of, Stands}
use Rattle.lines.specs.declared.words.Class.TheVariants.{Gap, Ink}
use Rattle.lines.specs.declared.words.Span.{Span}
use Rattle.lines.proofs.Cases.{by_test}
use Rattle.lines.proofs.Runs.{run_within}

pub rest_of : (s : List ℕ) (at : ℕ) → take (length s - at) (drop at s) ≡ drop at s
rest_of s at = take_all (length s - at) (drop at s) (simp length-drop (omega arith))

-- blanks before the words
pub words_gap : (column : ℕ) (bs : List ℕ) → words column bs ≡ words (column + leading (of_class Gap) bs) (drop (leading (of_class Gap) bs) bs)
words_gap column [] = refl
words_gap column (b ∷ bs) =
    let ih = words_gap (suc column) bs in
    by_test (blank b) (λ e. rw (e, add-suc, ← suc-add) ih) (λ e. rw (e, add-zero, e))

-- no word begins before its bytes do
Beyond : ℕ → List Word → Type 0
Beyond column [] = Unit
Beyond column (w ∷ ws) = column ≤ w.column

beyond_led : (column b : ℕ) (ws : List Word) → Beyond column (led column b ws)
unfolding Beyond
beyond_led column b [] = omega arith
beyond_led column b (w ∷ ws) = by_test (eqb w.column (suc column)) (λ e. rw e (omega arith)) (λ e. rw e (omega arith))

beyond_less : (column : ℕ) (ws : List Word) → Beyond (suc column) ws → Beyond column ws
unfolding Beyond
beyond_less column [] h = tt
beyond_less column (w ∷ ws) h = omega arith

beyond : (column : ℕ) (bs : List ℕ) → Beyond column (words column bs)
unfolding Beyond
beyond column [] = tt
beyond column (b ∷ bs) =
    let ih = beyond (suc column) bs in
    by_test (blank b) (λ e. rw e (beyond_less column (words (suc column) bs) ih)) (λ e. rw e (beyond_led column b (words (suc column) bs)))

led_apart : (column b : ℕ) (ws : List Word) → Beyond (suc (suc column)) ws → led column b ws ≡ word column (b ∷ []) ∷ ws
unfolding Beyond
led_apart column b [] h = refl
led_apart column b (w ∷ ws) h =
    let d : w.column ≡ suc column → ⊥ = λ e. omega arith in
    rw (ne_eqb w.column (suc column) d)

led_joins : (column b : ℕ) (bs : List ℕ) (ws : List Word) → led column b (word (suc column) bs ∷ ws) ≡ word column (b ∷ bs) ∷ ws
led_joins column b bs ws = rw (eq-eqb (suc column) (suc column) refl)

-- a word at the beginning
abbrev Whole : ℕ → List ℕ → ℕ → Type 0
Whole column bs n = words column bs ≡ word column (take n bs) ∷ words (column + n) (drop n bs)

word_first : (column b : ℕ) (bs : List ℕ) → blank b ≡ false → Whole column (b ∷ bs) (suc (leading (of_class Ink) bs))
word_first column b [] e = rw e
word_first column b (d ∷ bs) e =
    by_test (blank d)
    (λ t. rw (e, t, add-one, t) (led_apart column b _ (beyond (suc (suc column)) bs)))
    (λ t.
    let ih = word_first (suc column) d bs t in
    rw (e, ih, t, led_joins, add-suc column (suc _), ← suc-add))

pub word_run : (column : ℕ) (bs : List ℕ) → 0 < leading (of_class Ink) bs → Whole column bs (leading (of_class Ink) bs)
word_run column [] h = absurd (omega arith)
word_run column (b ∷ bs) h =
    by_test (blank b)
    (λ e. let z : 0 < 0 = rw e at h in absurd (omega arith))
    (λ e.
    let n : suc (leading (of_class Ink) bs) ≡ leading (of_class Ink) (b ∷ bs) = rw e in
    subst (Whole column (b ∷ bs)) n (word_first column b bs e))

-- where no word follows the blanks, nothing does
gap_stops : (bs : List ℕ) → leading (of_class Ink) (drop (leading (of_class Gap) bs) bs) ≡ 0 → drop (leading (of_class Gap) bs) bs ≡ []
gap_stops [] h = refl
gap_stops (b ∷ bs) h =
    by_test (blank b)
    (λ e. rw e (gap_stops bs (rw e at h)))
    (λ e. let z : suc _ ≡ 0 = rw (e, e) at h in absurd (omega arith))

gap_ends : (bs : List ℕ) (gap : ℕ) → gap ≡ leading (of_class Gap) bs → leading (of_class Ink) (drop gap bs) ≡ 0 → drop gap bs ≡ []
gap_ends bs gap g h = rw g (gap_stops bs (rw g at h))

-- where the blanks from `at` on end, and the bytes behind them: none, or the next word
pub record Searched (text : List ℕ) (at : ℕ) (s : Span) : Type 0 where
  pub onward : at ≤ s.from
  pub straight : s.from ≤ s.to
  pub within : s.to ≤ length text
  pub none : s.from ≡ s.to → words_from text at ≡ []
  pub some : s.from < s.to → words_from text at ≡ word (s.from + 1) (bytes_of text s) ∷ words_from text s.to

pub stands : {text : List ℕ} {at : ℕ} {s : Span} → Searched text at s → (s.from ≡ s.to → ⊥) → Stands text at s
stands n h =
    let l : _ < _ = omega (arith, n.straight) in
    record { onward = n.onward; some = l; within = n.within; words = n.some l }

-- the search for the next word: the blanks from `at` on, then the word
pub next_found : (text : List ℕ) (at : ℕ) (gap ink : ℕ) → at ≤ length text
    → gap ≡ leading (of_class Gap) (drop at text) → ink ≡ leading (of_class Ink) (drop (at + gap) text)
    → Searched text at (record { from = at + gap; to = at + gap + ink })
next_found text at gap ink h g i =
    let l : gap ≤ length text - at = rw (g, ← length-drop) (run_within (of_class Gap) (drop at text)) in
    let m : ink ≤ length text - (at + gap) = rw (i, ← length-drop) (run_within (of_class Ink) (drop (at + gap) text)) in
    let past : drop gap (drop at text) ≡ drop (at + gap) text = drop-drop gap at text in
    let skipped : words_from text at ≡ words_from text (at + gap) = rw (← g, past, suc-add) at (words_gap (suc at) (drop at text)) in
    record {
      onward = omega arith;
      straight = omega arith;
      within = omega arith;
      none = λ e.
          let z : leading (of_class Ink) (drop gap (drop at text)) ≡ 0 = rw past (sym i ∙ omega arith) in
          let n : drop (at + gap) text ≡ [] = sym past ∙ gap_ends (drop at text) gap g z in
          skipped ∙ ap (words (suc (at + gap))) n;
      some = λ e.
          let p : 0 < leading (of_class Ink) (drop (at + gap) text) = rw (← i) (omega arith) in
          let w : at + gap + ink - (at + gap) ≡ ink = omega arith in
          let q = rw (← i, drop-drop ink (at + gap) text, suc-add) at (word_run (suc (at + gap)) (drop (at + gap) text) p) in
          rw (w, add-one) (skipped ∙ q);
    }

-- the same of the rest of a text as code cuts it
pub run_found : (text : List ℕ) (at gap : ℕ) → at ≤ length text → gap ≡ leading (of_class Gap) (take (length text - at) (drop at text))
    → (ink : ℕ) → ink ≡ leading (of_class Ink) (take (length text - (at + gap)) (drop (at + gap) text)) → Searched text at (record { from = at + gap; to = at + gap + ink })
run_found text at gap h g ink i =
    next_found text at gap ink h (g ∙ ap (leading (of_class Gap)) (rest_of text at)) (i ∙ ap (leading (of_class Ink)) (rest_of text (at + gap)))
