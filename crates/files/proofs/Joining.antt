-- The first bytes of one text and another behind it.
use Rattle.std.proofs.Common.{ℕ, zero, suc, List, [], ◌∷◌, ◌++◌, ◌-◌, ◌≡◌, refl, ap, ap₂, ◌∙◌, sym, length, take, length-take, arith}

pub take_both : (n : ℕ) (xs ys : List ℕ) → take n (xs ++ ys) ≡ take n xs ++ take (n - length xs) ys
take_both zero xs ys = let e : 0 - length xs ≡ 0 = omega arith in rw e
take_both (suc n) [] ys = let e : suc n - 0 ≡ suc n = omega arith in rw e
take_both (suc n) (x ∷ xs) ys =
    let e : suc n - length (x ∷ xs) ≡ n - length xs = omega arith in
    rw e (ap (λ (l : List ℕ). x ∷ l) (take_both n xs ys))

pub joined : (xs ys : List ℕ) {zs zs' : List ℕ} (n : ℕ) → zs ≡ [] ++ take (n - 0) xs → zs' ≡ zs ++ take (n - length zs) ys → zs' ≡ take n (xs ++ ys)
joined xs ys {zs} n f g =
    let e : n - 0 ≡ n = omega arith in
    let h : zs ≡ take n xs = rw e at f in
    let l : n - length zs ≡ n - length xs = omega (arith, ap length h, length-take n xs) in
    g ∙ ap₂ (λ (a b : List ℕ). a ++ b) h (ap (λ (k : ℕ). take k ys) l) ∙ sym (take_both n xs ys)
