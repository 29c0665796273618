-- The number of eight bytes, as two of four.
use Prim.Native.Nat.{ℕ, ◌+◌, ◌*◌, ◌<◌, ◌≤◌}
use mathlib.Core.Path.{◌≡◌, ap, sym, ◌∙◌, subst}
use mathlib.Core.List.{List, [], ◌∷◌}
use native.Mathlib.Omega.{arith}
use lib.ListN.{length, take, drop, get_or, length-drop}
use lib.Seq.{drop-drop, get_or-drop}
use Rattle.model.specs.Bytes.{from_be}

-- four bytes make a number below 2 ^ 32
fits : (l : List ℕ) → ((i : ℕ) → get_or l i 0 < 256) → from_be (take 4 l) < 4294967296
fits [] h = omega arith
fits (a ∷ []) h = omega (arith, h 0)
fits (a ∷ b ∷ []) h = omega (arith, h 0, h 1)
fits (a ∷ b ∷ c ∷ []) h = omega (arith, h 0, h 1, h 2)
fits (a ∷ b ∷ c ∷ d ∷ l) h = omega (arith, h 0, h 1, h 2, h 3)

joined : (l : List ℕ) → 8 ≤ length l → from_be (take 4 l) * 4294967296 + from_be (take 4 (drop 4 l)) ≡ from_be (take 8 l)
joined (a ∷ b ∷ c ∷ d ∷ e ∷ f ∷ g ∷ h ∷ l) n = omega arith
joined (a ∷ b ∷ c ∷ d ∷ e ∷ f ∷ g ∷ []) n = absurd (omega arith)
joined (a ∷ b ∷ c ∷ d ∷ e ∷ f ∷ []) n = absurd (omega arith)
joined (a ∷ b ∷ c ∷ d ∷ e ∷ []) n = absurd (omega arith)
joined (a ∷ b ∷ c ∷ d ∷ []) n = absurd (omega arith)
joined (a ∷ b ∷ c ∷ []) n = absurd (omega arith)
joined (a ∷ b ∷ []) n = absurd (omega arith)
joined (a ∷ []) n = absurd (omega arith)
joined [] n = absurd (omega arith)

module _ (s : List ℕ) (at : ℕ) where
  pub half_fits : ((i : ℕ) → get_or s i 0 < 256) → {x : ℕ} → x ≡ from_be (take 4 (drop at s)) → x < 4294967296
  half_fits h e = subst (λ (x : ℕ). x < 4294967296) (sym e) (fits (drop at s) (λ i. subst (λ (b : ℕ). b < 256) (sym (get_or-drop at s i 0)) (h (at + i))))

  pub word : at + 8 ≤ length s → {x y : ℕ} → x ≡ from_be (take 4 (drop at s)) → y ≡ from_be (take 4 (drop (at + 4) s)) → x * 4294967296 + y ≡ from_be (take 8 (drop at s))
  word h e f =
      let l : 8 ≤ length (drop at s) = omega (arith, length-drop at s) in
      rw (e, f ∙ ap (λ (r : List ℕ). from_be (take 4 r)) (sym (drop-drop 4 at s))) (joined (drop at s) l)
