-- The count of a body's rows: the last byte of what stands before them.
use Rattle.std.specs.Prelude.{ℕ, ◌≡◌, ◌≤◌, ◌+◌, ◌*◌, ◌-◌, List, length, get_or}

-- the byte tells n, and the body has n rows of so many bytes behind its front
pub record Counted (body : List ℕ) (front row n : ℕ) : Type 0 where
  pub told : n ≡ get_or body (front - 1) 0
  pub few : n ≤ 16
  pub fits : length body ≡ front + row * n

-- no count fits
pub record Uncounted (body : List ℕ) (front row : ℕ) : Type 0 where
  pub none : get_or body (front - 1) 0 ≤ 16 → length body ≡ front + row * get_or body (front - 1) 0 → ⊥
