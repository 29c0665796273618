-- A page as of a stamp: the sixteen words of the copy that serves it, else what is looked up.
use Rattle.std.specs.Prelude.{Option, Some, None}
use Prim.Native.Nat.{ℕ, ◌*◌, ◌≤◌, ◌<◌}
use mathlib.Core.Path.{◌≡◌, ap, sym, ◌∙◌}
use native.Mathlib.Omega.{arith}
use lib.ListN.{length, take, drop, length-take, length-drop}
use Rattle.model.specs.Store.{Store, Copy, by, unserved, oldest, page16, object_at, page_of, slot_of, look, as_of, page_as_of}
use Rattle.tables.specs.declared.Store as held
use Rattle.tables.specs.Rows.{copy_heads, copies_of}
use Rattle.tables.specs.Contents.{stored}
use Rattle.tables.specs.Lookups.{Serving, served_at}
use Rattle.tables.proofs.Copies.{no_copy, copy_of, copies_of_length, copy_values}
use Rattle.tables.proofs.Counts.{up_to_take}
use Rattle.views.proofs.Pages.{page_length, page_at_lem, page_of_lem}

-- ---- of any store
module _ (st : Store) (p s : ℕ) where
  pub page_served : (c : Copy) → oldest p s st.copies ≡ by c → length c.values ≡ 16 → c.values ≡ page_as_of st p s
  unfolding page_as_of
  page_served c e l =
      page_of_lem c.values (λ k. as_of st (object_at p k) s) l
      (λ k h.
      let q : page_of (object_at p k) ≡ p = omega arith in
      let r : slot_of (object_at p k) ≡ k = omega arith in
      rw (q, e, r))

  pub page_looked : oldest p s st.copies ≡ unserved → page16 (λ k. (look st (object_at p k) s).value) ≡ page_as_of st p s
  unfolding page_as_of
  page_looked e =
      page_of_lem (page16 (λ k. (look st (object_at p k) s).value)) (λ k. as_of st (object_at p k) s) (page_length _)
      (λ k h.
      let q : page_of (object_at p k) ≡ p = omega arith in
      page_at_lem (λ k. (look st (object_at p k) s).value) k h ∙ rw (q, e))

-- ---- of the tables' contents, by the index of the copy that serves
module _ (st : held.Store) (page s : ℕ) (m : st.heads.copies ≤ 128) (l : length (copy_heads st.copies) ≡ 128) where
  found_is : (f : Option ℕ) → Serving page s st.heads.copies (copy_heads st.copies) f
      → oldest page s (stored st).copies ≡ served_at f (copies_of (copy_heads st.copies) st.copied)
  found_is f v =
      let w : st.heads.copies ≤ length (copies_of (copy_heads st.copies) st.copied) = rw (copies_of_length (copy_heads st.copies) st.copied) (omega arith) in
      ap (oldest page s) (up_to_take no_copy st.heads.copies (copies_of (copy_heads st.copies) st.copied) w) ∙ sym (v.copy st.copied)

  pub shown_served : length st.copied ≡ 2048 → (i : ℕ) → Serving page s st.heads.copies (copy_heads st.copies) (Some i)
      → take 16 (drop (16 * i) st.copied) ≡ page_as_of (stored st) page s
  shown_served w i v =
      let b : i < st.heads.copies = v.inside in
      let z : 16 * i ≡ i * 16 = omega arith in
      let e : take 16 (drop (16 * i) st.copied) ≡ (copy_of (copy_heads st.copies) st.copied i).values = rw z (sym (copy_values (copy_heads st.copies) st.copied i (omega arith))) in
      let n : length (take 16 (drop (16 * i) st.copied)) ≡ 16 = simp (length-take, length-drop) (omega arith) in
      e ∙ page_served (stored st) page s (copy_of (copy_heads st.copies) st.copied i) (found_is (Some i) v) (sym (ap length e) ∙ n)

  pub shown_looked : Serving page s st.heads.copies (copy_heads st.copies) None
      → page16 (λ k. (look (stored st) (object_at page k) s).value) ≡ page_as_of (stored st) page s
  shown_looked v = page_looked (stored st) page s (found_is None v)
