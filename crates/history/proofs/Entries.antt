-- Laws of a flush: the entries that go, the disk that takes them, the past values that they leave.
use Prim.Native.Nat.{ℕ, ◌<◌}
use mathlib.Core.Path.{◌≡◌, refl, ap, sym, ◌∙◌}
use mathlib.Core.Bool.{Bool, true, false, not}
use mathlib.Core.List.{List, [], ◌∷◌, map}
use native.Mathlib.Omega.{arith}
use lib.ListN.{length, get_or, set, length-set}
use lib.Seq.{get_or-set_same, get_or-set_other}
use lib.Dec.{eqb}
use borrow.Author.Tests.{eqb-true, eqb-false, eq-eqb, ne_eqb}
use Rattle.model.specs.declared.Pending.{Pending}
use Rattle.model.specs.Lists.{any_b, kept}
use Rattle.model.specs.Store.{page_of, Slot, none, some, lookup}
use Rattle.model.specs.Changes.{of_page, stored}
use Rattle.history.proofs.Laws.{by_test, either_left, either_right}
use Rattle.history.specs.Words.{All}
use Rattle.history.proofs.Lists.{all_map}
use Rattle.history.proofs.Invariant.{Single}

-- ---- what is found
pub no_some : {C : Type 0} (e : Pending) (x : Slot) → x ≡ none → x ≡ some e → C
no_some e x p q = let z : ◌≡◌ {A = ℕ} 0 1 = cc in absurd (omega arith)

pub found_object : (o : ℕ) (es : List Pending) (e : Pending) → lookup o es ≡ some e → e.object ≡ o
found_object o [] e h = no_some e none refl h
found_object o (x ∷ xs) e h =
    by_test (eqb x.object o)
    (λ q.
    let h2 : some x ≡ some e = rw q at h in
    let same : x ≡ e = cc in
    sym (ap (λ y. y.object) same) ∙ eqb-true x.object o q)
    (λ q. found_object o xs e (rw q at h))

-- each entry is the one that is found for its object
pub all_found : (es : List Pending) → Single es → All (λ e. lookup e.object es ≡ some e) es
all_found [] h = tt
all_found (x ∷ xs) h = (
  rw (eq-eqb x.object x.object refl),
  all_map
      (λ e f.
      by_test (eqb x.object e.object)
      (λ q. no_some e (lookup e.object xs) (ap (λ y. lookup y xs) (sym (eqb-true x.object e.object q)) ∙ h.0) f)
      (λ q. rw q f))
      xs (all_found xs h.1),
)

-- ---- entries that a test keeps
pub kept_none : (f : Pending → Bool) (o : ℕ) (es : List Pending) → lookup o es ≡ none → lookup o (kept f es) ≡ none
kept_none f o [] h = refl
kept_none f o (e ∷ es) h =
    by_test (eqb e.object o)
    (λ q. no_some e (some e) (rw q at h) refl)
    (λ q. let ih = kept_none f o es (rw q at h) in by_test (f e) (λ p. rw (p, q) ih) (λ p. rw p ih))

pub single_kept : (f : Pending → Bool) (es : List Pending) → Single es → Single (kept f es)
single_kept f [] h = tt
single_kept f (e ∷ es) h =
    let ih = single_kept f es h.1 in
    by_test (f e) (λ p. rw p (kept_none f e.object es h.0, ih)) (λ p. rw p ih)

-- the object's own page goes, another stays
pub gone : (o : ℕ) (es : List Pending) → lookup o (kept (λ e. not (of_page (page_of o) e)) es) ≡ none
gone o [] = refl
gone o (e ∷ es) =
    let ih = gone o es in
    by_test (of_page (page_of o) e)
    (λ p. rw p ih)
    (λ p.
    let n : eqb e.object o ≡ false = ne_eqb e.object o (λ q. eqb-false (page_of e.object) (page_of o) p (ap page_of q)) in
    rw (p, n) ih)

pub stayed : (o p : ℕ) (es : List Pending) → eqb (page_of o) p ≡ false → lookup o (kept (λ e. not (of_page p e)) es) ≡ lookup o es
stayed o p [] h = refl
stayed o p (e ∷ es) h =
    let ih = stayed o p es h in
    by_test (of_page p e)
    (λ q.
    let n : eqb e.object o ≡ false = ne_eqb e.object o (λ r. eqb-false (page_of o) p h (ap page_of (sym r) ∙ eqb-true (page_of e.object) p q)) in
    rw (q, n) ih)
    (λ q. by_test (eqb e.object o) (λ r. rw (q, r)) (λ r. rw (q, r) ih))

-- an entry of the page is among those that go
pub any_gone : {A : Type 0} (f : A → Bool) (g : Pending → A) (o : ℕ) (es : List Pending) (e : Pending) → lookup o es ≡ some e → f (g e) ≡ true
    → any_b f (map g (kept (of_page (page_of o)) es)) ≡ true
any_gone f g o [] e h t = no_some e none refl h
any_gone f g o (x ∷ xs) e h t =
    by_test (eqb x.object o)
    (λ q.
    let h2 : some x ≡ some e = rw q at h in
    let same : x ≡ e = cc in
    let p : of_page (page_of o) x ≡ true = eq-eqb (page_of x.object) (page_of o) (ap page_of (eqb-true x.object o q)) in
    rw p (either_left (any_b f (map g (kept (of_page (page_of o)) xs))) (ap (λ y. f (g y)) same ∙ t)))
    (λ q.
    let ih = any_gone f g o xs e (rw q at h) t in
    by_test (of_page (page_of o) x) (λ p. rw p (either_right (f (g x)) ih)) (λ p. rw p ih))

-- ---- the disk
module _ (p : ℕ) (f : Pending → ℕ) where
  pub stored_length : (es : List Pending) (l : List ℕ) → length (stored p f es l) ≡ length l
  stored_length [] l = refl
  stored_length (e ∷ es) l =
      by_test (of_page p e)
      (λ q. rw q (stored_length es (set l e.object (f e)) ∙ length-set l e.object (f e)))
      (λ q. rw q (stored_length es l))

  pub stored_away : (o : ℕ) (es : List Pending) (l : List ℕ) → eqb (page_of o) p ≡ false → get_or (stored p f es l) o 0 ≡ get_or l o 0
  stored_away o [] l h = refl
  stored_away o (e ∷ es) l h =
      by_test (of_page p e)
      (λ q.
      rw q
      (stored_away o es (set l e.object (f e)) h
      ∙ get_or-set_other l e.object o (f e) 0 (λ r. eqb-false (page_of o) p h (ap page_of r ∙ eqb-true (page_of e.object) p q))))
      (λ q. rw q (stored_away o es l h))

  pub stored_none : (o : ℕ) (es : List Pending) (l : List ℕ) → lookup o es ≡ none → get_or (stored p f es l) o 0 ≡ get_or l o 0
  stored_none o [] l h = refl
  stored_none o (e ∷ es) l h =
      by_test (eqb e.object o)
      (λ q. no_some e (some e) (rw q at h) refl)
      (λ n.
      let h2 : lookup o es ≡ none = rw n at h in
      by_test (of_page p e)
      (λ q. rw q (stored_none o es (set l e.object (f e)) h2 ∙ get_or-set_other l e.object o (f e) 0 (λ r. eqb-false e.object o n (sym r))))
      (λ q. rw q (stored_none o es l h2)))

pub stored_some : (f : Pending → ℕ) (o : ℕ) (es : List Pending) (l : List ℕ) (e : Pending) → Single es → o < length l → lookup o es ≡ some e
    → get_or (stored (page_of o) f es l) o 0 ≡ f e
stored_some f o [] l e s b h = no_some e none refl h
stored_some f o (x ∷ xs) l e s b h =
    by_test (eqb x.object o)
    (λ q.
    let r : x.object ≡ o = eqb-true x.object o q in
    let h2 : some x ≡ some e = rw q at h in
    let same : x ≡ e = cc in
    let p : of_page (page_of o) x ≡ true = eq-eqb (page_of x.object) (page_of o) (ap page_of r) in
    let n : lookup o xs ≡ none = ap (λ y. lookup y xs) (sym r) ∙ s.0 in
    rw p
    (stored_none (page_of o) f o xs (set l x.object (f x)) n
    ∙ ap (λ y. get_or (set l y (f x)) o 0) r
    ∙ get_or-set_same l o (f x) 0 b
    ∙ ap f same))
    (λ q.
    let h2 : lookup o xs ≡ some e = rw q at h in
    by_test (of_page (page_of o) x)
    (λ p. rw p (stored_some f o xs (set l x.object (f x)) e s.1 (omega (arith, length-set l x.object (f x))) h2))
    (λ p. rw p (stored_some f o xs l e s.1 b h2)))
