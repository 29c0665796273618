-- What a page's share tells of all rows: those that stay, those that leave one, and that nothing is dropped where all stay.
use Prim.Native.Nat.{ℕ, ◌+◌, ◌-◌, ◌≤◌}
use mathlib.Core.Path.{◌≡◌, refl, ap, sym, ◌∙◌}
use mathlib.Core.Bool.{Bool, true, false}
use mathlib.Core.List.{List, [], ◌∷◌}
use native.Mathlib.Omega.{arith}
use lib.ListN.{length, take}
use lib.Seq.{length-take-le}
use Rattle.model.specs.declared.Pending.{Pending}
use Rattle.model.specs.declared.Past.{Past}
use Rattle.model.specs.Lists.{kept}
use Rattle.model.specs.Changes.{of_page}
use Rattle.tables.specs.Rows.{pasts}
use Rattle.tables.proofs.Cases.{by_test}
use Rattle.tables.proofs.Searches.{both_left}
use Rattle.shares.specs.Shares.{row_of_page, rows_at, Numbered}
use Rattle.shares.proofs.Numbers.{numbered_count}
use Rattle.flushes.specs.declared.rows.Rule.{Rule}
use Rattle.flushes.specs.Parts.{stays_under, leaves_under, Holding}

module _ {A : Type 0} (f : A → Bool) where
  kept_again : (g : A → Bool) → ((x : A) → f x ≡ true → g x ≡ true) → (l : List A) → kept f (kept g l) ≡ kept f l
  kept_again g t [] = refl
  kept_again g t (x ∷ xs) =
      let ih = kept_again g t xs in
      by_test (f x)
      (λ q. rw (t x q, q, ih))
      (λ q. by_test (g x) (λ e. rw (e, q) ih) (λ e. rw (e, q) ih))

  others_kept : (g : A → Bool) → ((x : A) → g x ≡ false → f x ≡ true) → (l : List A)
      → length (kept f l) + length (kept g l) ≡ length l + length (kept f (kept g l))
  others_kept g t [] = refl
  others_kept g t (x ∷ xs) =
      let ih = others_kept g t xs in
      by_test (g x)
      (λ e. by_test (f x) (λ q. rw (e, q) (omega arith)) (λ q. rw (e, q) (omega arith)))
      (λ e. rw (e, t x e) (omega arith))

  kept_fewer : (l : List A) → length (kept f l) ≤ length l
  kept_fewer [] = omega arith
  kept_fewer (x ∷ xs) = let ih = kept_fewer xs in by_test (f x) (λ q. rw q (omega arith)) (λ q. rw q (omega arith))

  kept_all : (l : List A) → length (kept f l) ≡ length l → kept f l ≡ l
  kept_all [] e = refl
  kept_all (x ∷ xs) e =
      by_test (f x)
      (λ q. let r = rw q at e in rw q (ap (λ (l : List A). x ∷ l) (kept_all xs (omega arith))))
      (λ q. let r = rw q at e in absurd (omega (arith, kept_fewer xs)))

-- ---- past rows
module _ (snapshots : List ℕ) (rule : Rule) where
  other_stays : (q : Past) → row_of_page rule.page q ≡ false → stays_under snapshots rule q ≡ true
  other_stays q e = rw e

  -- those of other pages, and those of the page that stay
  pub staying_start : {d : Past} {l : List Past} {n : ℕ} {ns : List ℕ} → Numbered d (row_of_page rule.page) l n ns → n ≤ length l
      → n - length ns + length (kept (stays_under snapshots rule) (rows_at d l ns)) ≡ length (kept (stays_under snapshots rule) (take n l))
  staying_start {d} {l} {n} {ns} a h =
      rw a.rows
      (omega (arith, numbered_count a, others_kept (stays_under snapshots rule) (row_of_page rule.page) other_stays (take n l), length-take-le n l h, kept_fewer (row_of_page rule.page) (take n l)))

  pub all_stay : {past : List (List ℕ)} {n r : ℕ} → n ≤ length (pasts past) → r ≡ length (kept (stays_under snapshots rule) (take n (pasts past))) → r ≡ n
      → Holding past n (kept (stays_under snapshots rule) (take n (pasts past)))
  all_stay {past} {n} {r} b e z =
      let q = kept_all (stays_under snapshots rule) (take n (pasts past)) (sym e ∙ z ∙ sym (length-take-le n (pasts past) b)) in
      record { rows = sym q; count = sym z ∙ e }

-- ---- entries
module _ (disk dated snapshots : List ℕ) (rule : Rule) where
  leaver_there : (e : Pending) → leaves_under disk dated snapshots rule e ≡ true → of_page rule.page e ≡ true
  leaver_there e t = both_left (of_page rule.page e) _ t

  pub leaving_start : {d : Pending} {l : List Pending} {n : ℕ} {ns : List ℕ} → Numbered d (of_page rule.page) l n ns
      → kept (leaves_under disk dated snapshots rule) (rows_at d l ns) ≡ kept (leaves_under disk dated snapshots rule) (take n l)
  leaving_start {d} {l} {n} {ns} a =
      ap (kept (leaves_under disk dated snapshots rule)) a.rows
      ∙ kept_again (leaves_under disk dated snapshots rule) (of_page rule.page) leaver_there (take n l)

  -- no more than there are entries of the page
  pub leaving_few : {d : Pending} {l : List Pending} {n : ℕ} {ns : List ℕ} → Numbered d (of_page rule.page) l n ns
      → length (kept (leaves_under disk dated snapshots rule) (take n l)) ≤ length ns
  leaving_few {d} {l} {n} {ns} a =
      omega (arith, numbered_count a, ap length a.rows, ap length (leaving_start a), kept_fewer (leaves_under disk dated snapshots rule) (rows_at d l ns))
