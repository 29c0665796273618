-- Laws of copies: marks and serving copies of a joined list.
use Prim.Native.Nat.{ℕ, ◌≤◌, ◌<◌, max}
use mathlib.Core.Path.{◌≡◌, refl, ap, sym, ◌∙◌}
use mathlib.Core.Bool.{false}
use mathlib.Core.List.{List, [], ◌∷◌, ◌++◌}
use native.Mathlib.Omega.{arith}
use lib.Dec.{leb, eqb}
use borrow.Author.Tests.{eqb-false, le-leb, lt-leb, ne_eqb}
use Rattle.model.specs.Lists.{both, pick}
use Rattle.model.specs.Store.{Copy, mark, Served, unserved, by, older, oldest}
use Rattle.history.proofs.Laws.{by_test, by_le, pick_all}
use Rattle.history.specs.Words.{All}
use Rattle.history.proofs.Invariant.{ServedBy}

-- ---- the mark
pub mark_append : (cs ds : List Copy) (p : ℕ) → mark (cs ++ ds) p ≡ max (mark cs p) (mark ds p)
mark_append [] ds p = omega arith
mark_append (c ∷ cs) ds p =
    let ih = mark_append cs ds p in
    by_test (eqb c.page p) (λ e. rw e (omega arith)) (λ e. rw e ih)

pub mark_bound : (n : ℕ) (cs : List Copy) (p : ℕ) → All (λ c. c.stamp ≤ n) cs → mark cs p ≤ n
mark_bound n [] p h = omega arith
mark_bound n (c ∷ cs) p h =
    let ih = mark_bound n cs p h.1 in
    let l = h.0 in
    by_test (eqb c.page p) (λ e. rw e (omega arith)) (λ e. rw e ih)

-- stamps from n up give a mark from n up, if any
pub mark_least : (n : ℕ) (cs : List Copy) (p : ℕ) → All (λ c. n ≤ c.stamp) cs → 0 < mark cs p → n ≤ mark cs p
mark_least n [] p h l = absurd (omega arith)
mark_least n (c ∷ cs) p h l =
    let b = h.0 in
    by_test (eqb c.page p)
    (λ e. rw e (omega arith))
    (λ e. rw e (mark_least n cs p h.1 (rw e at l)))

-- copies of another page
pub mark_other : (p q : ℕ) (cs : List Copy) → All (λ c. c.page ≡ p) cs → eqb q p ≡ false → mark cs q ≡ 0
mark_other p q [] h n = refl
mark_other p q (c ∷ cs) h n = rw (ne_eqb c.page q (λ e. eqb-false q p n (sym e ∙ h.0))) (mark_other p q cs h.1 n)

pub oldest_other : (p q s : ℕ) (cs : List Copy) → All (λ c. c.page ≡ p) cs → eqb q p ≡ false → oldest q s cs ≡ unserved
oldest_other p q s [] h n = refl
oldest_other p q s (c ∷ cs) h n = rw (ne_eqb c.page q (λ e. eqb-false q p n (sym e ∙ h.0))) (oldest_other p q s cs h.1 n)

-- ---- the older of two
pub older_none : (x : Served) → older x unserved ≡ x
older_none unserved = refl
older_none (by c) = refl

pub older_assoc : (x y z : Served) → older (older x y) z ≡ older x (older y z)
older_assoc unserved y z = refl
older_assoc (by c) unserved z = refl
older_assoc (by c) (by d) unserved = refl
older_assoc (by c) (by d) (by e) =
    by_le c.stamp d.stamp
    (λ l.
    by_le d.stamp e.stamp
    (λ m. rw (le-leb c.stamp d.stamp l, le-leb d.stamp e.stamp m, le-leb c.stamp d.stamp l, le-leb c.stamp e.stamp (omega arith)))
    (λ m. rw (le-leb c.stamp d.stamp l, lt-leb d.stamp e.stamp m)))
    (λ l.
    by_le d.stamp e.stamp
    (λ m. rw (lt-leb c.stamp d.stamp l, le-leb d.stamp e.stamp m, lt-leb c.stamp d.stamp l))
    (λ m. rw (lt-leb c.stamp d.stamp l, lt-leb d.stamp e.stamp m, lt-leb c.stamp e.stamp (omega arith))))

pub oldest_append : (p s : ℕ) (cs ds : List Copy) → oldest p s (cs ++ ds) ≡ older (oldest p s cs) (oldest p s ds)
oldest_append p s [] ds = refl
oldest_append p s (c ∷ cs) ds =
    let x = pick (both (eqb c.page p) (leb s c.stamp)) (by c) unserved in
    ap (older x) (oldest_append p s cs ds) ∙ sym (older_assoc x (oldest p s cs) (oldest p s ds))

-- ---- bounds on the serving copy's stamp
abbrev pub AtMost : ℕ → Served → Type 0
AtMost n unserved = Unit {0}
AtMost n (by c) = c.stamp ≤ n

abbrev pub AtLeast : ℕ → Served → Type 0
AtLeast n unserved = Unit {0}
AtLeast n (by c) = n ≤ c.stamp

most_older : (n : ℕ) (x y : Served) → AtMost n x → AtMost n y → AtMost n (older x y)
most_older n unserved y h k = k
most_older n (by c) unserved h k = h
most_older n (by c) (by d) h k = pick_all (λ (e : Copy). e.stamp ≤ n) (leb c.stamp d.stamp) (λ e. h) (λ e. k)

least_older : (n : ℕ) (x y : Served) → AtLeast n x → AtLeast n y → AtLeast n (older x y)
least_older n unserved y h k = k
least_older n (by c) unserved h k = h
least_older n (by c) (by d) h k = pick_all (λ (e : Copy). n ≤ e.stamp) (leb c.stamp d.stamp) (λ e. h) (λ e. k)

most_weak : (n m : ℕ) (x : Served) → n ≤ m → AtMost n x → AtMost m x
most_weak n m unserved l h = tt
most_weak n m (by c) l h = omega arith

pub oldest_most : (p s : ℕ) (cs : List Copy) → AtMost (mark cs p) (oldest p s cs)
oldest_most p s [] = tt
oldest_most p s (c ∷ cs) =
    let ih = oldest_most p s cs in
    by_test (eqb c.page p)
    (λ e.
    let n = max c.stamp (mark cs p) in
    rw e
    (most_older n (pick (leb s c.stamp) (by c) unserved) (oldest p s cs)
    (pick_all (AtMost n) (leb s c.stamp) {x = by c} (λ q. omega arith) (λ q. tt))
    (most_weak (mark cs p) n (oldest p s cs) (omega arith) ih)))
    (λ e. rw e ih)

pub oldest_least : (n p s : ℕ) (cs : List Copy) → All (λ c. n ≤ c.stamp) cs → AtLeast n (oldest p s cs)
oldest_least n p s [] h = tt
oldest_least n p s (c ∷ cs) h =
    least_older n (pick (both (eqb c.page p) (leb s c.stamp)) (by c) unserved) (oldest p s cs)
    (pick_all (AtLeast n) (both (eqb c.page p) (leb s c.stamp)) {x = by c} (λ q. h.0) (λ q. tt))
    (oldest_least n p s cs h.1)

-- two stamps below all copies are served alike
pub oldest_low : (n p s u : ℕ) (cs : List Copy) → All (λ c. n ≤ c.stamp) cs → s ≤ n → u ≤ n → oldest p s cs ≡ oldest p u cs
oldest_low n p s u [] h l m = refl
oldest_low n p s u (c ∷ cs) h l m =
    let b = h.0 in
    rw (le-leb s c.stamp (omega arith), le-leb u c.stamp (omega arith), oldest_low n p s u cs h.1 l m)

-- an old copy goes before newer ones
pub served_first : (n v o : ℕ) (x y : Served) → ServedBy v o x → AtMost n x → AtLeast n y → ServedBy v o (older x y)
served_first n v o unserved y h a b = absurd h
served_first n v o (by c) unserved h a b = h
served_first n v o (by c) (by d) h a b = rw (le-leb c.stamp d.stamp (omega arith)) h
