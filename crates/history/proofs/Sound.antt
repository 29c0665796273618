-- In a sound store a read at a known snapshot shows the truth.
use Prim.Native.Nat.{ℕ, ◌-◌, ◌≤◌, ◌<◌, max}
use mathlib.Core.Path.{◌≡◌, refl, ap, sym, ◌∙◌}
use mathlib.Core.Bool.{Bool, true, false}
use mathlib.Core.List.{List, [], ◌∷◌}
use native.Mathlib.Nat.{le_refl}
use native.Mathlib.Omega.{arith}
use lib.Dec.{ltb, leb, eqb}
use borrow.Author.Tests.{ltb-true, leb-true, eqb-true, lt-ltb, le-leb, lt-leb, eq-eqb}
use Rattle.model.specs.declared.Pending.{Pending}
use Rattle.model.specs.declared.Past.{Past}
use Rattle.model.specs.declared.Seen.{Seen}
use Rattle.model.specs.Lists.{both, any_b, elem_b}
use Rattle.model.specs.Store.{Copy, Store, page_of, mark, in_span, holds_b, beyond_b, live_b, Slot, none, some, lookup, Served, unserved, by, oldest, disk, current, span_or, look, served_or, as_of}
use Rattle.history.proofs.Laws.{by_test, clash, by_le, both_yes, both_left, both_right, either_left, either_right, either_none, either_cases}
use Rattle.history.specs.Words.{All}
use Rattle.history.proofs.Lists.{any_elem}
use Rattle.history.proofs.Invariant.{needed_b, WaitOk, TrueRow, ServedBy, SoundAt}

pub by_slot : {C : Type 0} (x : Slot) → (x ≡ none → C) → ((e : Pending) → x ≡ some e → C) → C
by_slot none f g = f refl
by_slot (some e) f g = g e refl

-- ---- needed stamps
pub needed_cases : {C : Type 0} (h : ℕ) (known : List ℕ) (m s : ℕ) → needed_b h known m s ≡ true → (h < s → C) → (elem_b s known ≡ true → m < s → C) → C
needed_cases h known m s n f g =
    either_cases (ltb h s) (both (elem_b s known) (ltb m s)) n
    (λ e. f (ltb-true h s e))
    (λ e. g (both_left (elem_b s known) (ltb m s) e) (ltb-true m s (both_right (elem_b s known) (ltb m s) e)))

pub needed_beyond : (h : ℕ) (known : List ℕ) (m s : ℕ) → h < s → needed_b h known m s ≡ true
needed_beyond h known m s l = either_left (both (elem_b s known) (ltb m s)) (lt-ltb h s l)

pub needed_known : (h : ℕ) (known : List ℕ) (m s : ℕ) → elem_b s known ≡ true → m < s → needed_b h known m s ≡ true
needed_known h known m s e l = either_right (ltb h s) (both_yes e (lt-ltb m s l))

-- what a row that holds s says of numbers
pub record Held (o s : ℕ) (q : Past) : Type 0 where
  pub object : q.object ≡ o
  pub low : q.from ≤ s
  pub high : s < q.until

pub held : (o s : ℕ) (q : Past) → holds_b o s q ≡ true → Held o s q
held o s q h =
    let r = both_right (eqb q.object o) (in_span s q) h in
    record {
      object = eqb-true q.object o (both_left (eqb q.object o) (in_span s q) h);
      low = leb-true q.from s (both_left (leb q.from s) (ltb s q.until) r);
      high = ltb-true s q.until (both_right (leb q.from s) (ltb s q.until) r);
    }

pub holds : (o s : ℕ) (q : Past) → q.object ≡ o → q.from ≤ s → s < q.until → holds_b o s q ≡ true
holds o s q e l h = both_yes (eq-eqb q.object o e) (both_yes (le-leb q.from s l) (lt-ltb s q.until h))

-- a row that holds a needed stamp is live
pub live_needed : (h : ℕ) (known : List ℕ) (cs : List Copy) (o s : ℕ) (q : Past) → needed_b h known (mark cs (page_of o)) s ≡ true → holds_b o s q ≡ true
    → live_b h known cs q ≡ true
live_needed h known cs o s q n e =
    let r = held o s q e in
    let low = r.low in
    let high = r.high in
    let m : ℕ = mark cs (page_of q.object) in
    let f : ℕ → Bool = λ x. both (in_span x q) (ltb m x) in
    let same : m ≡ mark cs (page_of o) = ap (λ x. mark cs (page_of x)) r.object in
    needed_cases h known (mark cs (page_of o)) s n
    (λ l. either_left (any_b f known) (both_yes (lt-ltb q.from q.until (omega arith)) (lt-ltb h (q.until - 1) (omega arith))))
    (λ k l.
    either_right (beyond_b h q)
    (any_elem f s known k (both_yes (both_right (eqb q.object o) (in_span s q) e) (lt-ltb m s (omega arith)))))

-- ---- the first row that holds s, where all rows are true
pub span_true : (L : ℕ → Seen) (last o s : ℕ) (qs : List Past) (d : Seen) → All (TrueRow L last o) qs → any_b (holds_b o s) qs ≡ true → L s ≡ span_or o s qs d
span_true L last o s [] d a h = clash false h refl
span_true L last o s (q ∷ qs) d a h =
    by_test (holds_b o s q) (λ e. rw e (a.0 s e).0) (λ e. rw e (span_true L last o s qs d a.1 (rw e at h)))

pub span_none : (o s : ℕ) (qs : List Past) (d : Seen) → any_b (holds_b o s) qs ≡ false → span_or o s qs d ≡ d
span_none o s [] d h = refl
span_none o s (q ∷ qs) d h =
    let z = either_none (holds_b o s q) (any_b (holds_b o s) qs) h in
    rw z.0 (span_none o s qs d z.1)

-- ---- what follows
module _ (o : ℕ) (L : ℕ → Seen) (st : Store) (k : SoundAt o L st) where
  -- from its writing stamp on, the current value is the value
  pub now_from : (s : ℕ) → (current st o).stamp ≤ s → L s ≡ current st o
  now_from s h =
      by_le st.last s (k.now s)
      (λ l.
      let e = k.now st.last (le_refl st.last) in
      let f : (L st.last).stamp ≡ (current st o).stamp = ap (λ x. x.stamp) e in
      k.truth.same s st.last (omega arith) (omega arith) ∙ e)

  pub current_last : (current st o).stamp ≤ st.last
  current_last =
      let f : (L st.last).stamp ≡ (current st o).stamp = ap (λ x. x.stamp) (k.now st.last (le_refl st.last)) in
      omega (arith, k.truth.bounded st.last)

  pub disk_last : (disk st o).stamp ≤ st.last
  disk_last =
      by_slot (lookup o st.pending)
      (λ f. rw f at current_last)
      (λ e f.
      let w : WaitOk L st.last (disk st o) e = rw f at k.waits in
      omega (arith, w.since e.first (le_refl e.first), k.truth.bounded e.first))

  -- pending, past and disk answer right wherever they are needed
  pub look_true : (s : ℕ) → needed_b st.horizon st.snapshots (mark st.copies (page_of o)) s ≡ true → look st o s ≡ L s
  look_true s n =
      let qs = st.past in
      let d = disk st o in
      let yes : any_b (holds_b o s) qs ≡ true → span_or o s qs d ≡ L s = λ h. sym (span_true L st.last o s qs d k.rows h) in
      by_slot (lookup o st.pending)
      (λ f.
      rw f
      (by_test (any_b (holds_b o s) qs) yes
      (λ h.
      span_none o s qs d h
      ∙ by_le d.stamp s (λ l. sym (rw f at (now_from s (rw f l)))) (λ l. sym (k.covers s n (rw f l) h)))))
      (λ e f.
      rw f
      (by_le e.latest s
      (λ l. rw (le-leb e.latest s l) (sym (rw f at (now_from s (rw f l)))))
      (λ l. rw (lt-leb e.latest s l) (by_test (any_b (holds_b o s) qs) yes (λ h. span_none o s qs d h ∙ sym (k.covers s n (rw f l) h))))))

-- ---- copies
-- beyond the mark no copy serves
pub unserved_beyond : (cs : List Copy) (p s : ℕ) → mark cs p < s → oldest p s cs ≡ unserved
unserved_beyond [] p s h = refl
unserved_beyond (c ∷ cs) p s h =
    by_test (eqb c.page p)
    (λ e.
    let l : max c.stamp (mark cs p) < s = rw e at h in
    rw (e, lt-leb s c.stamp (omega arith)) (unserved_beyond cs p s (omega arith)))
    (λ e. rw e (unserved_beyond cs p s (rw e at h)))

pub served_value : (x : Served) (o v w : ℕ) → ServedBy v o x → served_or x o w ≡ v
served_value unserved o v w h = absurd h
served_value (by c) o v w h = h

-- THE READ: at each known snapshot a sound store shows the truth
pub read_true : (o : ℕ) (L : ℕ → Seen) (st : Store) → SoundAt o L st → (s : ℕ) → elem_b s st.snapshots ≡ true → as_of st o s ≡ (L s).value
read_true o L st k s e =
    by_le s (mark st.copies (page_of o))
    (λ l. served_value (oldest (page_of o) s st.copies) o (L s).value (look st o s).value (k.served s e l))
    (λ l.
    rw (unserved_beyond st.copies (page_of o) s l)
    (ap (λ x. x.value) (look_true o L st k s (needed_known st.horizon st.snapshots (mark st.copies (page_of o)) s e l))))
