-- The oldest serving copy among those from a row on, whatever words they hold, after one copy more.
use Rattle.std.specs.Prelude.{Some, None}
use Prim.Native.Nat.{ℕ, ◌-◌, ◌<◌, ◌≤◌}
use mathlib.Core.Path.{◌≡◌, refl, ◌∙◌, ap, sym}
use mathlib.Core.Bool.{false}
use mathlib.Core.List.{List}
use native.Mathlib.Omega.{arith}
use lib.ListN.{take, drop}
use lib.Dec.{eqb, ltb, leb}
use borrow.Author.Tests.{eq-eqb, ne_eqb, ltb-true, ltb-false, le-leb, lt-leb}
use Rattle.model.specs.Lists.{both, pick}
use Rattle.model.specs.Store.{Served, unserved, by, older, oldest}
use Rattle.tables.specs.declared.CopyHead.{CopyHead}
use Rattle.tables.specs.Rows.{copies_of, copy_head_at}
use Rattle.tables.specs.Lookups.{Serving}
use Rattle.tables.proofs.Cases.{by_test}
use Rattle.tables.proofs.Backward.{Turn, back_start, back_cons, back_end}
use Rattle.tables.proofs.Copies.{no_copy, copy_of, copy_page, copy_stamp, copies_turn}

abbrev pub oldest_from : List CopyHead → ℕ → ℕ → ℕ → ℕ → List ℕ → Served
oldest_from hs n p s i words = oldest p s (drop i (take n (copies_of hs words)))

-- what the code holds of the copies from row i on: the stamp and the index of the one that serves, or the largest number and n
pub record Best (hs : List CopyHead) (n p s best at i : ℕ) : Type 0 where
  pub stamped : best ≡ (copy_head_at hs at).stamp
  pub serves : (words : List ℕ) → oldest_from hs n p s i words ≡ by (copy_of hs words at)

pub record Held (hs : List CopyHead) (n p s best at i : ℕ) : Type 0 where
  pub no : n ≤ at → (words : List ℕ) → oldest_from hs n p s i words ≡ unserved
  pub most : n ≤ at → best ≡ 18446744073709551615
  pub yes : at < n → Best hs n p s best at i

pub held_start : (hs : List CopyHead) (n p s : ℕ) → Held hs n p s 18446744073709551615 n n
held_start hs n p s = record { no = λ e words. rw (back_start n (copies_of hs words)); most = λ e. refl; yes = λ e. absurd (omega arith) }

module _ {hs : List CopyHead} {n i : ℕ} (t : Turn hs n i) {x : CopyHead} (r : x ≡ copy_head_at hs (i - 1)) {p s best at : ℕ} (v : Held hs n p s best at i) where
  turned : (words : List ℕ)
      → oldest_from hs n p s (i - 1) words
      ≡ older (pick (both (eqb x.page p) (leb s x.stamp)) (by (copy_of hs words (i - 1))) unserved) (oldest_from hs n p s i words)
  turned words = rw (back_cons (copies_turn t words) no_copy, copy_page hs words (i - 1), copy_stamp hs words (i - 1), r)

  -- a copy that doesn't serve: another page's, or an earlier one
  skipped : both (eqb x.page p) (leb s x.stamp) ≡ false → Held hs n p s best at (i - 1)
  skipped e = record {
    no = λ z words. rw (turned words, e) (v.no z words);
    most = v.most;
    yes = λ z. let b = v.yes z in record { stamped = b.stamped; serves = λ words. rw (turned words, e) (b.serves words) };
  }

  pub held_other : (x.page ≡ p → ⊥) → Held hs n p s best at (i - 1)
  held_other e = skipped (rw (ne_eqb _ _ e))

  pub held_early : x.page ≡ p → x.stamp < s → Held hs n p s best at (i - 1)
  held_early e f = skipped (rw (eq-eqb _ _ e) (lt-leb _ _ f))

  -- one that serves: it is taken, or the one found stays
  module _ (e : x.page ≡ p) (f : s ≤ x.stamp) where
    first : (words : List ℕ) → n ≤ at → oldest_from hs n p s (i - 1) words ≡ by (copy_of hs words (i - 1))
    first words z = rw (turned words, eq-eqb _ _ e, le-leb _ _ f, v.no z words)

    choice : (words : List ℕ) → at < n → oldest_from hs n p s (i - 1) words ≡ by (pick (leb x.stamp best) (copy_of hs words (i - 1)) (copy_of hs words at))
    choice words z =
        let q = (v.yes z).stamped in
        rw (turned words, eq-eqb _ _ e, le-leb _ _ f, (v.yes z).serves words, copy_stamp hs words (i - 1), copy_stamp hs words at, ← r, ← q)

    pub held_taken : x.stamp ≤ best → Held hs n p s x.stamp (i - 1) (i - 1)
    held_taken b = record {
      no = λ z. absurd (omega arith);
      most = λ z. absurd (omega arith);
      yes = λ _. record {
        stamped = ap (λ y. y.stamp) r;
        serves = λ words. by_test (ltb at n) (λ z. rw (choice words (ltb-true _ _ z), le-leb _ _ b)) (λ z. first words (ltb-false _ _ z));
      };
    }

    -- where none is found yet every stamp is taken
    pub held_kept : best < x.stamp → x.stamp ≤ 18446744073709551615 → Held hs n p s best at (i - 1)
    held_kept b w = record {
      no = λ z. let q = v.most z in absurd (omega arith);
      most = v.most;
      yes = λ z. record {
        stamped = (v.yes z).stamped;
        serves = λ words. rw (choice words z, lt-leb _ _ b);
      };
    }

-- ---- the answer, once all rows are passed
module _ {hs : List CopyHead} {n p s best at i : ℕ} (v : Held hs n p s best at i) (z : i ≤ 0) where
  pub serving_found : at < n → Serving p s n hs (Some at)
  serving_found e = record {
    copy = λ words. sym ((v.yes e).serves words) ∙ ap (oldest p s) (back_end i (take n (copies_of hs words)) z);
    inside = e;
  }

  pub serving_none : n ≤ at → Serving p s n hs None
  serving_none e = record {
    copy = λ words. sym (v.no e words) ∙ ap (oldest p s) (back_end i (take n (copies_of hs words)) z);
    inside = tt;
  }
