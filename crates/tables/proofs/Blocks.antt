-- A block of rows of a table, from place j on: those of them that are chosen go to the place at, and the rows behind the block stay.
--     each_all                   all are chosen where each is
--     stood                      where all are chosen, they stand there already, if at is j
--     moved                      copied out, compacted and copied back at another place
--     turned, over               a compaction by blocks: a block more, and its end
use Prim.Native.Nat.{ℕ, zero, suc, ◌+◌, ◌-◌, ◌<◌, ◌≤◌}
use mathlib.Core.Path.{◌≡◌, refl, sym, ◌∙◌, ap, subst}
use mathlib.Core.Bool.{Bool, true, false}
use mathlib.Core.List.{List, [], ◌∷◌, ◌++◌, map}
use native.Mathlib.Omega.{arith}
use lib.ListN.{length, take, drop, get_or, length-drop}
use lib.Seq.{length-take-le, drop-drop, take-add}
use Rattle.model.specs.declared.Past.{Past}
use Rattle.model.specs.Lists.{pick, kept, all_b}
use Rattle.tables.specs.Compaction.{chosen, Compacted}
use Rattle.tables.proofs.Keeping.{kept_append}
use Rattle.tables.proofs.Searches.{both_left, both_right}

-- ---- are all of them chosen?
abbrev pub all_of : List Bool → Bool
all_of bs = all_b (λ b. b) bs

pub each_all : (bs : List Bool) → ((k : ℕ) → k < length bs → get_or bs k false ≡ true) → all_of bs ≡ true
each_all [] e = refl
each_all (b ∷ bs) e = rw (e 0 (omega arith)) (each_all bs (λ k h. e (suc k) (omega arith)))

-- ---- one block
chosen_all : (bs : List Bool) (xs : List Past) → length bs ≡ length xs → all_of bs ≡ true → xs ≡ chosen bs xs
chosen_all [] [] l e = refl
chosen_all [] (x ∷ xs) l e = absurd (omega arith)
chosen_all (b ∷ bs) [] l e = refl
chosen_all (b ∷ bs) (x ∷ xs) l e =
    let ih = chosen_all bs xs (omega arith) (both_right b (all_of bs) e) in
    rw (both_left b (all_of bs) e) (ap (λ (r : List Past). x ∷ r) ih)

-- the rows behind a later place are the same too
drop_later : (i j : ℕ) (ts ps : List Past) → i ≤ j → drop i ts ≡ drop i ps → drop j ts ≡ drop j ps
drop_later i j ts ps l e =
    let q : i + (j - i) ≡ j = omega arith in
    subst (λ (k : ℕ). drop k ts ≡ drop k ps) q (sym (drop-drop (j - i) i ts) ∙ ap (drop (j - i)) e ∙ drop-drop (j - i) i ps)

-- all choices, of as many rows
chosen_whole : (bs : List Bool) (xs : List Past) → chosen (take (length bs) bs) (take (length bs) xs) ≡ chosen bs xs
chosen_whole [] xs = refl
chosen_whole (b ∷ bs) [] = refl
chosen_whole (b ∷ bs) (x ∷ xs) = ap (λ (r : List Past). pick b (x ∷ r) r) (chosen_whole bs xs)

-- rows ws written over those from place at on
abbrev Over : List Past → ℕ → List Past → List Past → Type 0
Over ps at ws ts = (take (at + length ws) ts ≡ take at ps ++ ws) × (drop (at + length ws) ts ≡ drop (at + length ws) ps)

-- what a block leaves: r rows in front, those before at and the chosen ones of the rows from j on, as many as choices
abbrev Dropped : ℕ → ℕ → List Bool → List Past → List Past → ℕ → Type 0
Dropped at j bs ps ts r =
    (r ≤ j + length bs) × (take r ts ≡ take at ps ++ chosen bs (take (length bs) (drop j ps))) × (drop (j + length bs) ts ≡ drop (j + length bs) ps)

module _ (at j : ℕ) (bs : List Bool) (ps : List Past) where
  pub stood : at ≡ j → j + length bs ≤ length ps → all_of bs ≡ true → Dropped at j bs ps ps (j + length bs)
  stood a lj e =
      let d = length-drop j ps in
      let l = sym (length-take-le (length bs) (drop j ps) (omega arith)) in
      let c = chosen_all bs (take (length bs) (drop j ps)) l e in
      (omega arith, take-add j (length bs) ps ∙ (λ i. take (sym a i) ps ++ c i), refl)

  pub moved : (us zs ws ts : List Past) (k : ℕ) → at ≤ j → length us ≡ length bs → us ≡ take (length bs) (drop j ps) → Compacted bs (length bs) us zs k
      → ws ≡ take k zs → Over ps at ws ts → Dropped at j bs ps ts (at + k)
  moved us zs ws ts k a n u c w p =
      let q : length ws ≡ k = ap length w ∙ length-take-le k zs (omega (arith, c.0, c.1)) in
      let l : at + k ≤ j + length bs = omega (arith, c.0) in
      let o : Over ps at ws ts = p in (
        l,
        ap (λ (m : ℕ). take (at + m) ts) (sym q) ∙ o.0 ∙ ap (λ (r : List Past). take at ps ++ r) (w ∙ c.2 ∙ chosen_whole bs us ∙ ap (chosen bs) u),
        drop_later (at + k) (j + length bs) ts ps l (subst (λ (m : ℕ). drop (at + m) ts ≡ drop (at + m) ps) q o.1),
      )

-- ---- block after block
-- what a test chooses passes it
chosen_map : (f : Past → Bool) (n : ℕ) (xs : List Past) → chosen (take n (map f xs)) (take n xs) ≡ kept f (take n xs)
chosen_map f zero xs = refl
chosen_map f (suc n) [] = refl
chosen_map f (suc n) (x ∷ xs) = ap (λ (r : List Past). pick (f x) (x ∷ r) r) (chosen_map f n xs)

-- i rows are passed, and at of them are kept, in front of the table ts
abbrev pub Passed : (Past → Bool) → List Past → List Past → ℕ → ℕ → Type 0
Passed f ps ts at i = (at ≤ i) × (take at ts ≡ kept f (take i ps)) × (drop i ts ≡ drop i ps)

module _ (f : Past → Bool) (ps ts : List Past) (at i : ℕ) (p : Passed f ps ts at i) where
  pub turned : (m : ℕ) (bs : List Bool) (us : List Past) (r : ℕ) → length bs ≡ m → bs ≡ take m (map f (drop i ts)) → Dropped at i bs ts us r → Passed f ps us r (i + m)
  turned m bs us r n e d =
      let q : Passed f ps us r (i + length bs) =
      (let c = ap (λ (cs : List Bool). chosen cs (take (length bs) (drop i ts))) (e ∙ ap (λ (k : ℕ). take k (map f (drop i ts))) (sym n))
      ∙ chosen_map f (length bs) (drop i ts) ∙ ap (λ (qs : List Past). kept f (take (length bs) qs)) p.2 in
      let k = kept_append f (take i ps) (take (length bs) (drop i ps)) in
      (d.0, d.1 ∙ (λ j. p.1 j ++ c j) ∙ sym (ap (kept f) (take-add i (length bs) ps) ∙ k), d.2 ∙ drop_later i (i + length bs) ts ps (omega arith) p.2)) in
      subst (λ (k : ℕ). Passed f ps us r (i + k)) n q

  pub over : (n : ℕ) → i ≡ n → n ≤ length ts → (take at ts ≡ kept f (take n ps)) × (at ≡ length (kept f (take n ps)))
  over n e l =
      let q = subst (λ (j : ℕ). take at ts ≡ kept f (take j ps)) e p.1 in
      (q, sym (length-take-le at ts (omega (arith, p.0))) ∙ ap length q)
