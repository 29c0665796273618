-- The text of a line, and the call that it is.
use Prim.Native.Nat.{ℕ}
use mathlib.Core.Path.{◌≡◌, refl, ap, ◌∙◌, subst}
use mathlib.Core.List.{List, [], ◌∷◌}
use lib.Dec.{eqb}
use lib.ListN.{take}
use Rattle.std.specs.Prelude.{Result}
use Rattle.lines.specs.Words.{uncommented, leading, of_class}
use Rattle.lines.specs.Lines.{of_text, parsed, Reading}
use Rattle.lines.specs.declared.Mistake.{Mistake}
use Rattle.lines.specs.declared.Call.{Call}
use Rattle.lines.specs.declared.words.Class.TheVariants.{Text}
use Rattle.lines.proofs.Cases.{by_test}

pub uncommented_run : (s : List ℕ) → take (leading (of_class Text) s) s ≡ uncommented s
uncommented_run [] = refl
uncommented_run (b ∷ bs) =
    let ih = uncommented_run bs in
    by_test (eqb b 35) (λ e. rw e) (λ e. rw e (ap (λ l. b ∷ l) ih))

pub line_read : (line : List ℕ) (end : ℕ) {r : Result Call Mistake} {fs ss : List ℕ} → end ≡ leading (of_class Text) line → Reading (of_text (take end line)) r fs ss
    → Reading (parsed line) r fs ss
unfolding parsed
line_read line end {r} {fs} {ss} e k =
    subst (λ (t : List ℕ). Reading (of_text t) r fs ss) (ap (λ (n : ℕ). take n line) e ∙ uncommented_run line) k
