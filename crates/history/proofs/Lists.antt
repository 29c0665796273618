-- Laws of lists.
use Prim.Native.Nat.{ℕ, zero, suc, ◌≤◌, ◌<◌}
use mathlib.Core.Path.{◌≡◌, refl, ap, sym, ◌∙◌, subst}
use mathlib.Core.Bool.{Bool, true, false}
use mathlib.Core.List.{List, [], ◌∷◌, ◌++◌, map}
use native.Mathlib.Nat.{le_refl}
use native.Mathlib.Omega.{arith}
use lib.ListN.{length, take, drop, get_or}
use lib.Dec.{ltb, eqb}
use borrow.Author.Tests.{ltb-true, eqb-true, lt-ltb, eq-eqb}
use Rattle.model.specs.Lists.{either, any_b, all_b, kept, elem_b, rising_from, tab, some_below}
use Rattle.model.specs.Store.{page16, some_slot}
use Rattle.history.specs.Words.{All}
use Rattle.history.proofs.Laws.{by_test, clash, by_eq, both_yes, split, either_left, either_right, either_none, neither, either_cases, pick_all}

-- ---- a fact of all of a list; strictly ascending
abbrev pub Rising : List ℕ → Type 0
Rising [] = Unit {0}
Rising (x ∷ xs) = All (λ y. x < y) xs × Rising xs

module _ {A : Type 0} where
  pub all_map : {P Q : A → Type 0} → ((x : A) → P x → Q x) → (l : List A) → All P l → All Q l
  all_map f [] h = tt
  all_map f (x ∷ xs) h = (f x h.0, all_map f xs h.1)

  pub all_every : (P : A → Type 0) → ((x : A) → P x) → (l : List A) → All P l
  all_every P f [] = tt
  all_every P f (x ∷ xs) = (f x, all_every P f xs)

  pub all_append : (P : A → Type 0) (l m : List A) → All P l → All P m → All P (l ++ m)
  all_append P [] m h k = k
  all_append P (x ∷ xs) m h k = (h.0, all_append P xs m h.1 k)

  pub all_part : (P : A → Type 0) (l m : List A) → All P (l ++ m) → All P l
  all_part P [] m h = tt
  all_part P (x ∷ xs) m h = (h.0, all_part P xs m h.1)

  pub all_rest : (P : A → Type 0) (l m : List A) → All P (l ++ m) → All P m
  all_rest P [] m h = h
  all_rest P (x ∷ xs) m h = all_rest P xs m h.1

  pub all_take : (P : A → Type 0) (i : ℕ) (l : List A) → All P l → All P (take i l)
  all_take P zero l h = tt
  all_take P (suc i) [] h = tt
  all_take P (suc i) (x ∷ xs) h = (h.0, all_take P i xs h.1)

  pub all_drop : (P : A → Type 0) (i : ℕ) (l : List A) → All P l → All P (drop i l)
  all_drop P zero l h = h
  all_drop P (suc i) [] h = tt
  all_drop P (suc i) (x ∷ xs) h = all_drop P i xs h.1

  pub all_get_d : (P : A → Type 0) (i : ℕ) (l : List A) (d : A) → P d → All P l → P (get_or l i d)
  all_get_d P i [] d k h = k
  all_get_d P zero (x ∷ xs) d k h = h.0
  all_get_d P (suc i) (x ∷ xs) d k h = all_get_d P i xs d k h.1

  pub all_kept : (P : A → Type 0) (f : A → Bool) (l : List A) → All P l → All P (kept f l)
  all_kept P f [] h = tt
  all_kept P f (x ∷ xs) h = let ih = all_kept P f xs h.1 in pick_all (All P) (f x) (λ e. (h.0, ih)) (λ e. ih)

  pub kept_test : (f : A → Bool) (l : List A) → All (λ x. f x ≡ true) (kept f l)
  kept_test f [] = tt
  kept_test f (x ∷ xs) = let ih = kept_test f xs in pick_all (All (λ x. f x ≡ true)) (f x) (λ e. (e, ih)) (λ e. ih)

  pub any_append : (f : A → Bool) (l m : List A) → any_b f (l ++ m) ≡ either (any_b f l) (any_b f m)
  any_append f [] m = refl
  any_append f (x ∷ xs) m = by_test (f x) (λ e. rw e) (λ e. rw e (any_append f xs m))

  -- a filter that keeps all that f takes
  pub any_kept : (f g : A → Bool) → ((x : A) → f x ≡ true → g x ≡ true) → (l : List A) → any_b f (kept g l) ≡ any_b f l
  any_kept f g k [] = refl
  any_kept f g k (x ∷ xs) =
      let ih = any_kept f g k xs in
      by_test (f x) (λ e. rw (k x e, e)) (λ e. by_test (g x) (λ q. rw (q, e) ih) (λ q. rw (q, e) ih))

pub all_both : {A : Type 0} (P Q : A → Type 0) (l : List A) → All P l → All Q l → All (λ x. P x × Q x) l
all_both P Q [] h k = tt
all_both P Q (x ∷ xs) h k = ((h.0, k.0), all_both P Q xs h.1 k.1)

pub all_mapped : {A B : Type 0} (P : B → Type 0) (g : A → B) (l : List A) → All (λ x. P (g x)) l → All P (map g l)
all_mapped P g [] h = tt
all_mapped P g (x ∷ xs) h = (h.0, all_mapped P g xs h.1)

pub all_true : {A : Type 0} (f : A → Bool) (l : List A) → all_b f l ≡ true → All (λ x. f x ≡ true) l
all_true f [] h = tt
all_true f (x ∷ xs) h = let z = split (f x) (all_b f xs) h in (z.0, all_true f xs z.1)

pub none_any : {A : Type 0} (f : A → Bool) (l : List A) → All (λ x. f x ≡ false) l → any_b f l ≡ false
none_any f [] h = refl
none_any f (x ∷ xs) h = neither h.0 (none_any f xs h.1)

pub kept_length : {A : Type 0} (f : A → Bool) (l : List A) → length (kept f l) ≤ length l
kept_length f [] = le_refl 0
kept_length f (x ∷ xs) = let ih = kept_length f xs in by_test (f x) (λ e. rw e (omega arith)) (λ e. rw e (omega arith))

-- ---- membership
pub all_elem : (P : ℕ → Type 0) (s : ℕ) (l : List ℕ) → elem_b s l ≡ true → All P l → P s
all_elem P s [] e h = clash false e refl
all_elem P s (x ∷ xs) e h = either_cases (eqb x s) (elem_b s xs) e (λ q. subst P (eqb-true x s q) h.0) (λ q. all_elem P s xs q h.1)

pub any_elem : (f : ℕ → Bool) (s : ℕ) (l : List ℕ) → elem_b s l ≡ true → f s ≡ true → any_b f l ≡ true
any_elem f s [] e h = e
any_elem f s (x ∷ xs) e h =
    either_cases (eqb x s) (elem_b s xs) e (λ q. either_left (any_b f xs) (ap f (eqb-true x s q) ∙ h)) (λ q. either_right (f x) (any_elem f s xs q h))

-- each element of a list is in it
pub elem_all : (l : List ℕ) → All (λ s. elem_b s l ≡ true) l
elem_all [] = tt
elem_all (x ∷ xs) =
    (either_left (elem_b x xs) (eq-eqb x x refl), all_map (λ s e. either_right (eqb x s) e) xs (elem_all xs))

-- in a filtered list
pub elem_kept : (f : ℕ → Bool) (s : ℕ) (l : List ℕ) → f s ≡ true → elem_b s (kept f l) ≡ elem_b s l
elem_kept f s l h = any_kept (λ x. eqb x s) f (λ x e. ap f (eqb-true x s e) ∙ h) l

pub elem_dropped : (f : ℕ → Bool) (s : ℕ) (l : List ℕ) → f s ≡ false → elem_b s (kept f l) ≡ false
elem_dropped f s l h =
    by_test (elem_b s (kept f l)) (λ e. clash (f s) (all_elem (λ x. f x ≡ true) s (kept f l) e (kept_test f l)) h) (λ e. e)

pub elem_within : (f : ℕ → Bool) (s : ℕ) (l : List ℕ) → elem_b s (kept f l) ≡ true → elem_b s l ≡ true
elem_within f s l e =
    by_test (f s) (λ h. sym (elem_kept f s l h) ∙ e) (λ h. clash (elem_b s (kept f l)) e (elem_dropped f s l h))

-- ---- strictly ascending
pub rising_kept : (f : ℕ → Bool) (l : List ℕ) → Rising l → Rising (kept f l)
rising_kept f [] h = tt
rising_kept f (x ∷ xs) h = let ih = rising_kept f xs h.1 in pick_all Rising (f x) (λ e. (all_kept (λ y. x < y) f xs h.0, ih)) (λ e. ih)

pub rising_append : (n : ℕ) (l m : List ℕ) → Rising l → All (λ s. s ≤ n) l → Rising m → All (λ s. n < s) m → Rising (l ++ m)
rising_append n [] m h a k b = k
rising_append n (x ∷ xs) m h a k b =
    let le = a.0 in
    (all_append (λ y. x < y) xs m h.0 (all_map (λ y g. omega arith) m b), rising_append n xs m h.1 a.1 k b)

-- each against the one before is each against all before
pub rising_true : (lo : ℕ) (l : List ℕ) → rising_from lo l ≡ true → All (λ s. lo < s) l × Rising l
rising_true lo [] h = (tt, tt)
rising_true lo (x ∷ xs) h =
    let z = split (ltb lo x) (rising_from x xs) h in
    let l = ltb-true lo x z.0 in
    let ih = rising_true x xs z.1 in
    ((l, all_map (λ s (g : x < s). omega arith) xs ih.0), (ih.0, ih.1))

pub true_rising : (lo : ℕ) (l : List ℕ) → All (λ s. lo < s) l → Rising l → rising_from lo l ≡ true
true_rising lo [] a r = refl
true_rising lo (x ∷ xs) a r = both_yes (lt-ltb lo x a.0) (true_rising x xs r.0 r.1)

-- ---- tables of a function
pub get_d_tab : (n k : ℕ) (f : ℕ → ℕ) → k < n → get_or (tab n f) k 0 ≡ f k
get_d_tab zero k f h = absurd (omega arith)
get_d_tab (suc n) zero f h = refl
get_d_tab (suc n) (suc k) f h = get_d_tab n k (λ i. f (suc i)) (omega arith)

pub tab_same : (n : ℕ) (f g : ℕ → ℕ) → ((k : ℕ) → k < n → f k ≡ g k) → tab n f ≡ tab n g
tab_same zero f g h = refl
tab_same (suc n) f g h =
    rw (h 0 (omega arith)) (ap (λ l. g 0 ∷ l) (tab_same n (λ k. f (suc k)) (λ k. g (suc k)) (λ k l. h (suc k) (omega arith))))

pub none_below : (n k : ℕ) (f : ℕ → Bool) → some_below n f ≡ false → k < n → f k ≡ false
none_below zero k f e h = absurd (omega arith)
none_below (suc n) k f e h =
    let z = either_none (f n) (some_below n f) e in
    by_eq k n (λ q. ap f q ∙ z.0) (λ q. none_below n k f z.1 (omega arith))

pub get_d_page : (k : ℕ) (f : ℕ → ℕ) → k < 16 → get_or (page16 f) k 0 ≡ f k
unfolding page16
get_d_page k f h = get_d_tab 16 k f h

pub page_same : (f g : ℕ → ℕ) → ((k : ℕ) → k < 16 → f k ≡ g k) → page16 f ≡ page16 g
unfolding page16
page_same f g h = tab_same 16 f g h

pub no_slot : (k : ℕ) (f : ℕ → Bool) → some_slot f ≡ false → k < 16 → f k ≡ false
unfolding some_slot
no_slot k f e h = none_below 16 k f e h
