-- One turn of the compaction, on lists, and what it comes to; and one turn of a copy of rows.
--     step      row i is looked at: it is put at place k, and k goes on where it is chosen
--     copied    a row more is as in the list that is copied
use Prim.Native.Nat.{ℕ, zero, suc, ◌+◌, ◌<◌, ◌≤◌}
use mathlib.Core.Path.{◌≡◌, refl, sym, ◌∙◌, ap, subst}
use mathlib.Core.Bool.{Bool, true, false}
use mathlib.Core.List.{List, [], ◌∷◌, ◌++◌, append-nil, tail-eq_of_cons-eq, head-eq_of_cons-eq}
use native.Mathlib.Numerals.{add-one}
use native.Mathlib.Omega.{arith}
use lib.ListN.{length, take, drop, get_or, set, length-set}
use lib.Seq.{take-suc, drop-cons, take-set-le, drop-set-lt, take-suc-set}
use mir.Val.{bool_byte}
use Rattle.model.specs.declared.Past.{Past}
use Rattle.model.specs.Lists.{pick}
use Rattle.tables.specs.Rows.{past_of}
use Rattle.tables.specs.Compaction.{chosen, Compacted}

-- the row that stands for no row
abbrev pub no_past : Past
no_past = past_of []

-- the place after a row
abbrev after : Bool → ℕ → ℕ
after true k = k + 1
after false k = k

pub after_is : (b : Bool) (k : ℕ) → after b k ≡ k + bool_byte b
after_is true k = refl
after_is false k = omega arith

-- the chosen ones of one row more
pick_app : (b : Bool) (x : Past) (xs ys : List Past) → pick b (x ∷ (xs ++ ys)) (xs ++ ys) ≡ pick b (x ∷ xs) xs ++ ys
pick_app true x xs ys = refl
pick_app false x xs ys = refl

chosen_suc : (i : ℕ) (bs : List Bool) (xs : List Past) → i < length bs → i < length xs
    → chosen (take (suc i) bs) (take (suc i) xs) ≡ chosen (take i bs) (take i xs) ++ pick (get_or bs i false) (get_or xs i no_past ∷ []) []
chosen_suc i [] xs l m = absurd (omega arith)
chosen_suc i (b ∷ bs) [] l m = absurd (omega arith)
chosen_suc zero (b ∷ bs) (x ∷ xs) l m = refl
chosen_suc (suc i) (b ∷ bs) (x ∷ xs) l m =
    let ih = chosen_suc i bs xs (omega arith) (omega arith) in
    ap (λ (r : List Past). pick b (x ∷ r) r) ih ∙ pick_app b x (chosen (take i bs) (take i xs)) (pick (get_or bs i false) (get_or xs i no_past ∷ []) [])

-- the rows that are kept, once y stands at k
kept_one : (b : Bool) (zs : List Past) (k : ℕ) (y : Past) → k < length zs → take (after b k) (set zs k y) ≡ take k zs ++ pick b (y ∷ []) []
kept_one true zs k y l = rw (add-one k, take-suc-set zs k y)
kept_one false zs k y l = take-set-le k zs k y (omega arith) ∙ sym (append-nil (take k zs))

after_le : (b : Bool) (k i : ℕ) → k ≤ i → after b k ≤ suc i
after_le true k i l = omega arith
after_le false k i l = omega arith

module _ (bs : List Bool) (i : ℕ) (xs zs : List Past) (k : ℕ) (lb : i < length bs) (lz : i < length zs) (c : Compacted bs i xs zs k) where
  abbrev y : Past
  y = get_or zs i no_past

  lx : i < length xs
  lx = subst (λ (m : ℕ). i < m) c.1 lz

  both : y ∷ drop (suc i) zs ≡ get_or xs i no_past ∷ drop (suc i) xs
  both = sym (drop-cons zs i no_past lz) ∙ c.3 ∙ drop-cons xs i no_past lx

  rows : take (after (get_or bs i false) k) (set zs k y) ≡ chosen (take (suc i) bs) (take (suc i) xs)
  rows = kept_one (get_or bs i false) zs k y (omega (arith, c.0)) ∙ ap (λ (ws : List Past). ws ++ pick (get_or bs i false) (y ∷ []) []) c.2
      ∙ ap (λ (w : Past). chosen (take i bs) (take i xs) ++ pick (get_or bs i false) (w ∷ []) []) (head-eq_of_cons-eq both) ∙ sym (chosen_suc i bs xs lb lx)

  pub step : Compacted bs (i + 1) xs (set zs k y) (after (get_or bs i false) k)
  step = subst (λ (j : ℕ). Compacted bs j xs (set zs k y) (after (get_or bs i false) k)) (sym (add-one i)) (
    after_le (get_or bs i false) k i c.0,
    length-set zs k y ∙ c.1,
    rows,
    drop-set-lt (suc i) zs k y (omega (arith, c.0)) ∙ tail-eq_of_cons-eq both,
  )

pub copied : {A : Type 0} (ys zs : List A) (i : ℕ) (d y : A) → i < length ys → i < length zs → take i ys ≡ take i zs → y ≡ get_or zs i d
    → take (i + 1) (set ys i y) ≡ take (i + 1) zs
copied ys zs i d y l m e q = rw (add-one, take-suc-set ys i y, take-suc zs i d, e, q)
