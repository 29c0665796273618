-- A list as it is read: what is stored, with what is left to read, is the whole list, up to 17.
use Prim.Native.Nat.{ℕ, suc, ◌+◌, ◌-◌, ◌<◌, ◌≤◌}
use mathlib.Core.Path.{◌≡◌, refl, ap, sym, ◌∙◌, subst}
use mathlib.Core.List.{List, [], ◌∷◌, ◌++◌, map, append_assoc}
use native.Mathlib.Numerals.{add-one}
use native.Mathlib.Omega.{arith}
use lib.Dec.{ltb}
use Rattle.std.specs.Prelude.{Result, Ok, Err}
use lib.ListN.{length, take, set, length-append, length-set}
use lib.Seq.{take-suc-set, take-set-le}
use borrow.Author.Tests.{ltb-true, ltb-false}
use Rattle.model.specs.Lists.{pick}
use Rattle.lines.specs.Words.{Word, word}
use Rattle.lines.specs.Numbers.{item_at}
use Rattle.lines.specs.Lines.{before, items}
use Rattle.lines.proofs.Cases.{by_test}
use Rattle.lines.specs.declared.Mistake.{Mistake}
use Rattle.lines.specs.declared.numbers.Row.{Row}

-- these, and up to k more
abbrev pub capped : ℕ → List (ℕ × ℕ) → Result (List (ℕ × ℕ)) Mistake → Result (List (ℕ × ℕ)) Mistake
capped k done (Ok ps) = Ok (done ++ take k ps)
capped k done (Err m) = Err m

pub record Stored (rest whole : Result (List (ℕ × ℕ)) Mistake) (firsts seconds : List ℕ) (count : ℕ) : Type 0 where
  pub done : List (ℕ × ℕ)
  pub filled : length done ≡ count
  pub room : count ≤ 17
  pub firsts_size : length firsts ≡ 17
  pub seconds_size : length seconds ≡ 17
  pub first : take count firsts ≡ map (λ p. p.0) done
  pub second : take count seconds ≡ map (λ p. p.1) done
  pub sum : capped (17 - count) done rest ≡ capped 17 [] whole

-- one more is stored
capped_more : (k : ℕ) (done : List (ℕ × ℕ)) (p : ℕ × ℕ) (r : Result (List (ℕ × ℕ)) Mistake) → capped (suc k) done (before (Ok p) r) ≡ capped k (done ++ (p ∷ [])) r
capped_more k done p (Ok ps) = rw append_assoc
capped_more k done p (Err m) = refl

-- one more is passed over
capped_full : (done : List (ℕ × ℕ)) (p : ℕ × ℕ) (r : Result (List (ℕ × ℕ)) Mistake) → capped 0 done (before (Ok p) r) ≡ capped 0 done r
capped_full done p (Ok ps) = refl
capped_full done p (Err m) = refl

map_more : {A B : Type 0} (f : A → B) (l : List A) (x : A) → map f l ++ (f x ∷ []) ≡ map f (l ++ (x ∷ []))
map_more f [] x = refl
map_more f (y ∷ l) x = ap (λ m. f y ∷ m) (map_more f l x)

-- the table after a number is stored behind the others
more : (f : ℕ × ℕ → ℕ) (done : List (ℕ × ℕ)) (t : List ℕ) (count : ℕ) (p : ℕ × ℕ) → count < length t → take count t ≡ map f done
    → take (count + 1) (set t count (f p)) ≡ map f (done ++ (p ∷ []))
more f done t count p h e = rw (add-one, take-suc-set t count (f p), e) (map_more f done p)

module _ (p : ℕ × ℕ) (rest whole : Result (List (ℕ × ℕ)) Mistake) (fs ss : List ℕ) (count : ℕ) (s : Stored (before (Ok p) rest) whole fs ss count) where
  stored_more : count < 17 → Stored rest whole (set fs count p.0) (set ss count p.1) (count + 1)
  stored_more h =
      let k : 17 - count ≡ suc (17 - (count + 1)) = omega arith in
      let hf : count < length fs = omega (arith, s.firsts_size) in
      let hs : count < length ss = omega (arith, s.seconds_size) in
      record {
        done = s.done ++ (p ∷ []);
        filled = simp length-append (omega (arith, s.filled));
        room = omega arith;
        firsts_size = simp length-set s.firsts_size;
        seconds_size = simp length-set s.seconds_size;
        first = more (λ p. p.0) s.done fs count p hf s.first;
        second = more (λ p. p.1) s.done ss count p hs s.second;
        sum = sym (capped_more (17 - (count + 1)) s.done p rest) ∙ ap (λ (n : ℕ). capped n s.done (before (Ok p) rest)) (sym k) ∙ s.sum;
      }

  stored_full : 17 ≤ count → Stored rest whole (set fs count p.0) (set ss count p.1) count
  stored_full h =
      let k : 17 - count ≡ 0 = omega arith in
      let o : count ≤ count = omega arith in
      record {
        done = s.done;
        filled = s.filled;
        room = s.room;
        firsts_size = simp length-set s.firsts_size;
        seconds_size = simp length-set s.seconds_size;
        first = rw (take-set-le count fs count p.0 o) s.first;
        second = rw (take-set-le count ss count p.1 o) s.second;
        sum = rw (k, ← capped_full s.done p rest, ← k) s.sum;
      }

  pub stored_turn : (fs' ss' : List ℕ) (count' : ℕ) → count' ≡ pick (ltb count 17) (count + 1) count → fs' ≡ set fs count p.0 → ss' ≡ set ss count p.1
      → Stored rest whole fs' ss' count'
  stored_turn fs' ss' count' n f g =
      by_test (ltb count 17)
      (λ t. rw (n, f, g, t) (stored_more (ltb-true count 17 t)))
      (λ t. rw (n, f, g, t) (stored_full (ltb-false count 17 t)))

-- ---- the same, over the words that are left
module _ (row : Row) (ws : List Word) {whole : Result (List (ℕ × ℕ)) Mistake} {fs ss : List ℕ} {count : ℕ} (s : Stored (items row ws) whole fs ss count) where
  module _ (column : ℕ) (bytes : List ℕ) (rest : List Word) (e : ws ≡ word column bytes ∷ rest) where
    -- the first word's item stands before the rest
    first_item : (i : Result (ℕ × ℕ) Mistake) → item_at row column bytes ≡ i → Stored (before i (items row rest)) whole fs ss count
    first_item i t =
        subst (λ (x : Result (ℕ × ℕ) Mistake). Stored (before x (items row rest)) whole fs ss count) t
        (subst (λ (v : List Word). Stored (items row v) whole fs ss count) e s)

    pub list_turn : {p : ℕ × ℕ} → item_at row column bytes ≡ Ok p
        → (fs' ss' : List ℕ) (count' : ℕ) → count' ≡ pick (ltb count 17) (count + 1) count → fs' ≡ set fs count p.0 → ss' ≡ set ss count p.1
        → Stored (items row rest) whole fs' ss' count'
    list_turn {p} t = stored_turn p (items row rest) whole fs ss count (first_item (Ok p) t)
