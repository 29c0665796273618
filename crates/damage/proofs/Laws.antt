-- What the tests of damage find, by the model's definitions: objects met again, a chain of tests, and the counts.
use Prim.Native.Nat.{ℕ, zero, suc, ◌<◌, ◌≤◌}
use mathlib.Core.Path.{◌≡◌, refl, ap, ◌∙◌, sym}
use mathlib.Core.Bool.{Bool, true, false, not}
use mathlib.Core.List.{List, [], ◌∷◌, map}
use native.Mathlib.Omega.{arith}
use lib.ListN.{length, take, get_or, length-map, length-take, get_or-map}
use lib.Seq.{length-take-le, get_or-take}
use lib.Dec.{ltb, leb}
use borrow.Author.Tests.{not-false, ltb-false, leb-true, leb-false, lt-ltb, le-ltb}
use Rattle.model.specs.declared.Pending.{Pending}
use Rattle.model.specs.Lists.{both, either, any_b, all_b, twice_b}
use Rattle.model.specs.Damage.{overfull, misnumbered, doubled, misordered, damaged}
use Rattle.rules.proofs.Laws.{within}
use Rattle.rules.proofs.Marks.{few_once}
pub use Rattle.rules.proofs.Marks.{blank_at}
use Rattle.tables.specs.declared.Heads.{Heads}
use Rattle.tables.specs.Rows.{pending_of, past_of, pendings, pasts, copy_heads, copies_of, pending_at}
use Rattle.tables.specs.declared.Store as held
use Rattle.tables.specs.Contents.{contents, stored, Counted}
use Rattle.tables.proofs.Searches.{both_left}
use Rattle.tables.proofs.Cases.{by_test, clash}
use Rattle.tables.proofs.Copies.{no_copy, copies_of_length}
use Rattle.tables.proofs.Counts.{up_to_take, up_to_length}
use Rattle.damage.specs.Sifted.{Sifted}

-- ---- a chain of tests
pub hit : {a : Bool} (b : Bool) → a ≡ true → true ≡ either a b
hit b e = rw e

pub pass : {a b r : Bool} → a ≡ false → r ≡ b → r ≡ either a b
pass e g = rw e g

either_left : (a b : Bool) → either a b ≡ false → a ≡ false
either_left true b e = e
either_left false b e = refl

either_right : (a b : Bool) → either a b ≡ false → b ≡ false
either_right true b e = clash e
either_right false b e = e

either_turned : (a b : Bool) → either a b ≡ either b a
either_turned true true = refl
either_turned true false = refl
either_turned false true = refl
either_turned false false = refl

either_flat : (a b c d e : Bool) → either a (either b (either c (either d e))) ≡ either (either a (either b c)) (either e d)
either_flat true b c d e = refl
either_flat false true c d e = refl
either_flat false false true d e = refl
either_flat false false false d e = either_turned d e

-- where none passes, the one at i does not
any_at : {A : Type 0} (f : A → Bool) (n : ℕ) (l : List A) (i : ℕ) (d : A) → i < n → n ≤ length l → any_b f (take n l) ≡ false → f (get_or l i d) ≡ false
any_at f zero l i d h k e = absurd (omega arith)
any_at f (suc n) [] i d h k e = absurd (omega arith)
any_at f (suc n) (x ∷ xs) zero d h k e = either_left (f x) (any_b f (take n xs)) e
any_at f (suc n) (x ∷ xs) (suc i) d h k e = any_at f n xs i d (omega arith) (omega arith) (either_right (f x) (any_b f (take n xs)) e)

-- ---- objects met again: what a turn at i finds, and the end, over the objects of the first n entries
abbrev pub objects_of : ℕ → List Pending → List ℕ
objects_of n es = map (λ e. e.object) (take n es)

pub record Turn (n : ℕ) (es : List Pending) (i : ℕ) (e : Pending) : Type 0 where
  pub rows : n ≤ length es
  pub inside : i < n
  pub entry : e ≡ pending_at es i

pub objects_length : (n : ℕ) (es : List Pending) → n ≤ length es → length (objects_of n es) ≡ n
objects_length n es l = length-map (take n es) (λ e. e.object) ∙ length-take-le n es l

-- of fewer than two entries none is a second one
pub lone : (n : ℕ) (es : List Pending) → n < 2 → twice_b (objects_of n es) ≡ false
lone n es h = few_once (objects_of n es) (simp (length-map, length-take) (omega arith))

module _ {n : ℕ} {es : List Pending} {i : ℕ} {e : Pending} (t : Turn n es i e) where
  pub object_at_lem : get_or (objects_of n es) i 0 ≡ e.object
  object_at_lem =
      get_or-map (λ (e : Pending). e.object) (take n es) i (pending_of [])
      ∙ ap (λ e. e.object) (get_or-take n es i (pending_of []) t.inside ∙ sym t.entry)

  pub object_low : any_b (λ (e : Pending). leb 512 e.object) (take n es) ≡ false → e.object < 512
  object_low o = leb-false 512 e.object (rw t.entry (any_at (λ (e : Pending). leb 512 e.object) n es i (pending_of []) t.inside t.rows o))

-- ---- snapshots out of order: some test of `ascending_within` fails
not_both : (a b : Bool) → either (not a) (not b) ≡ not (both a b)
not_both true b = refl
not_both false b = refl

leb_not : (a b : ℕ) → ltb b a ≡ not (leb a b)
leb_not a b = by_test (leb a b) (λ t. rw t (le-ltb b a (leb-true a b t))) (λ t. rw t (lt-ltb b a (leb-false a b t)))

any_beyond : (h : ℕ) (l : List ℕ) → any_b (ltb h) l ≡ not (all_b (λ s. leb s h) l)
any_beyond h [] = refl
any_beyond h (x ∷ xs) = rw (leb_not x h, any_beyond h xs) (not_both (leb x h) (all_b (λ s. leb s h) xs))

-- ---- the counts
abbrev pub over_count : Heads → Bool
over_count h = either (ltb 128 h.pending) (either (ltb 256 h.past) (either (ltb 64 h.snapshots) (ltb 128 h.copies)))

none_of : (a b c d : Bool) → either a (either b (either c d)) ≡ false → (a ≡ false) × (b ≡ false) × (c ≡ false) × (d ≡ false)
none_of a b c d e =
    let f = either_right a (either b (either c d)) e in
    let g = either_right b (either c d) f in
    (either_left a (either b (either c d)) e, either_left b (either c d) f, either_left c d g, either_right c d g)

pub counted : (h : Heads) → over_count h ≡ false → Counted h
counted h e =
    let f = none_of (ltb 128 h.pending) (ltb 256 h.past) (ltb 64 h.snapshots) (ltb 128 h.copies) e in
    record {
      pending_count = ltb-false 128 h.pending f.0;
      past_count = ltb-false 256 h.past f.1;
      snapshot_count = ltb-false 64 h.snapshots f.2;
      copy_count = ltb-false 128 h.copies f.3;
    }

-- ---- the whole: where the counts are within their limits, the tests that are left
abbrev pub tested : List (List ℕ) → List (List ℕ) → List ℕ → List (List ℕ) → List ℕ → Heads → Bool
tested pending past snapshots copies copied h =
    either (any_b (λ e. leb 512 e.object) (take h.pending (pendings pending)))
    (either (any_b (λ q. leb 512 q.object) (take h.past (pasts past)))
    (either (any_b (λ c. leb 32 c.page) (take h.copies (copies_of (copy_heads copies) copied)))
    (either (not (within 0 h.horizon (take h.snapshots snapshots))) (twice_b (objects_of h.pending (pendings pending))))))

module _ (values stamps : List ℕ) (pending past : List (List ℕ)) (snapshots : List ℕ) (copies : List (List ℕ)) (copied : List ℕ) (h : Heads) where
  over_is : over_count h ≡ overfull (contents values stamps pending past snapshots copies copied h)
  unfolding overfull
  over_is =
      rw (
        up_to_length (pending_of []) h.pending (pendings pending),
        up_to_length (past_of []) h.past (pasts past),
        up_to_length 0 h.snapshots snapshots,
        up_to_length no_copy h.copies (copies_of (copy_heads copies) copied),
      )

  pub damaged_over : over_count h ≡ true → true ≡ damaged (contents values stamps pending past snapshots copies copied h)
  unfolding damaged
  damaged_over e = hit _ (sym over_is ∙ e)

  pub damaged_is : length (pendings pending) ≡ 128 → length (pasts past) ≡ 256 → length snapshots ≡ 64 → length (copy_heads copies) ≡ 128 → over_count h ≡ false
      → tested pending past snapshots copies copied h ≡ damaged (contents values stamps pending past snapshots copies copied h)
  unfolding damaged misnumbered doubled misordered
  damaged_is p q s k e =
      let c : Counted h = counted h e in
      let w : h.copies ≤ length (copies_of (copy_heads copies) copied) = rw (copies_of_length (copy_heads copies) copied) (omega arith) in
      rw (
        ← over_is,
        e,
        up_to_take (pending_of []) h.pending (pendings pending) (omega arith),
        up_to_take (past_of []) h.past (pasts past) (omega arith),
        up_to_take 0 h.snapshots snapshots (omega arith),
        up_to_take no_copy h.copies (copies_of (copy_heads copies) copied) w,
        any_beyond,
        not_both,
        either_flat,
      )

-- ---- of a store: the tests of the ranges, in their order
abbrev pub ranges : held.Store → Bool
ranges s =
    either
    (either
    (either
    (either (over_count s.heads) (any_b (λ e. leb 512 e.object) (take s.heads.pending (pendings s.written.pending))))
    (any_b (λ q. leb 512 q.object) (take s.heads.past (pasts s.written.past))))
    (any_b (λ c. leb 32 c.page) (take s.heads.copies (copies_of (copy_heads s.copies) s.copied))))
    (not (within 0 s.heads.horizon (take s.heads.snapshots s.snapshots)))

either_chain : (o p q c n t : Bool) → either (either (either (either (either o p) q) c) n) t ≡ either o (either p (either q (either c (either n t))))
either_chain true p q c n t = refl
either_chain false true q c n t = refl
either_chain false false true c n t = refl
either_chain false false false true n t = refl
either_chain false false false false n t = refl

module _ (s : held.Store) (p : length (pendings s.written.pending) ≡ 128) (q : length (pasts s.written.past) ≡ 256)
    (k : length s.snapshots ≡ 64) (c : length (copy_heads s.copies) ≡ 128) where
  whole : damaged (stored s) ≡ either (ranges s) (twice_b (objects_of s.heads.pending (pendings s.written.pending)))
  whole =
      let e = either_chain (over_count s.heads) _ _ _ _ (twice_b (objects_of s.heads.pending (pendings s.written.pending))) in
      by_test (over_count s.heads)
      (λ t. sym (damaged_over s.written.disk s.written.dated s.written.pending s.written.past s.snapshots s.copies s.copied s.heads t) ∙ hit _ t ∙ sym e)
      (λ t. sym (damaged_is s.written.disk s.written.dated s.written.pending s.written.past s.snapshots s.copies s.copied s.heads p q k c t) ∙ pass t refl ∙ sym e)

  pub sifted : {r : Bool} → r ≡ ranges s → Sifted r s
  sifted e = record {
    hit = λ t. whole ∙ sym (hit _ (sym e ∙ t));
    left = λ t. whole ∙ sym (pass (sym e ∙ t) refl);
    counted = λ t. counted s.heads (either_left _ _ (either_left _ _ (either_left _ _ (either_left _ _ (sym e ∙ t)))));
    low = λ t. either_right _ _ (either_left _ _ (either_left _ _ (either_left _ _ (sym e ∙ t))));
    rising = λ t. both_left _ _ (not-false _ (either_right _ _ (sym e ∙ t)));
  }
