-- A request's four fields, written one behind another; and what each test of bytes settles.
use Prim.Native.Nat.{ℕ}
use mathlib.Core.Path.{◌≡◌, refl, ap, ◌∙◌}
use mathlib.Core.Bool.{Bool, true, false}
use mathlib.Core.List.{List, ◌∷◌, ◌++◌}
use lib.ListN.{length, take, drop, get_or}
use lib.Seq.{drop-drop}
use borrow.Author.Tests.{eq-eqb, ne_eqb}
use Rattle.model.specs.Lists.{both}
use Rattle.model.specs.Bytes.{be, from_be, write_at}
use Rattle.model.specs.Exchange.{request_bytes, request_in}
use Rattle.std.specs.Prelude.{Some, None}
use Rattle.requests.specs.Asking.{asked}

behind : (j : List ℕ) → drop 8 (drop 8 (drop 1 (drop 2 j))) ≡ drop 19 j
behind j = rw (drop-drop 1 2 j, drop-drop 8 3 j, drop-drop 8 11 j)

pub fields : (j : List ℕ) {j₁ j₂ j₃ j₄ : List ℕ} (from to : ℕ) → j₁ ≡ write_at 0 (be 2 17) j → j₂ ≡ write_at 2 (be 1 4) j₁ → j₃ ≡ write_at 3 (be 8 from) j₂
    → j₄ ≡ write_at 11 (be 8 to) j₃ → j₄ ≡ write_at 0 (request_bytes from to) j
unfolding request_bytes
fields j from to a b c d =
    d ∙ ap (write_at 11 (be 8 to)) (c ∙ ap (write_at 3 (be 8 from)) (b ∙ ap (write_at 2 (be 1 4)) a))
    ∙ ap (λ rest. 0 ∷ 17 ∷ 4 ∷ (be 8 from ++ (be 8 to ++ rest))) (behind j)

-- ---- bytes that are no request, by their length, their length field, their kind
none_both : (b : Bool) → both b false ≡ false
none_both true = refl
none_both false = refl

module _ (bytes : List ℕ) where
  pub other_size : (length bytes ≡ 19 → ⊥) → None ≡ asked (request_in bytes)
  unfolding request_in
  other_size e = rw (ne_eqb (length bytes) 19 e)

  pub other_length : (from_be (take 2 bytes) ≡ 17 → ⊥) → None ≡ asked (request_in bytes)
  unfolding request_in
  other_length e = rw (ne_eqb (from_be (take 2 bytes)) 17 e, none_both)

  pub other_kind : (get_or bytes 2 0 ≡ 4 → ⊥) → None ≡ asked (request_in bytes)
  unfolding request_in
  other_kind e = rw (ne_eqb (get_or bytes 2 0) 4 e, none_both, none_both)

  pub a_request : length bytes ≡ 19 → from_be (take 2 bytes) ≡ 17 → get_or bytes 2 0 ≡ 4
      → Some (record { from = from_be (take 8 (drop 3 bytes)); to = from_be (take 8 (drop 11 bytes)) }) ≡ asked (request_in bytes)
  unfolding request_in
  a_request a b c = rw (eq-eqb (length bytes) 19 a, eq-eqb (from_be (take 2 bytes)) 17 b, eq-eqb (get_or bytes 2 0) 4 c)
