-- The newest of a page's writing stamps, and a lull: no value of a page was written beyond one stamp and before another.
use Rattle.std.specs.Prelude.{ℕ, max, ◌≡◌, Bool, true, List, [], ◌∷◌, take, ltb, leb}
use Rattle.model.specs.Lists.{either, pick, all_b, kept}
use Rattle.model.specs.Changes.{of_page}
use Rattle.tables.specs.declared.Heads.{Heads}
use Rattle.tables.specs.declared.Written.{Written}
use Rattle.tables.specs.Rows.{pendings, pasts}
use Rattle.shares.specs.Shares.{row_of_page}

-- the newer of two stamps, the second where it isn't beyond a bound
abbrev pub newer_of : ℕ → ℕ → ℕ → ℕ
newer_of bound newest w = pick (ltb bound w) newest (max newest w)

-- the newest of a stamp and of those of a list that aren't beyond a bound
abbrev pub newest_of : {A : Type 0} → (A → ℕ) → ℕ → ℕ → List A → ℕ
newest_of stamp bound least [] = least
newest_of stamp bound least (x ∷ xs) = newest_of stamp bound (newer_of bound least (stamp x)) xs

-- no value of a page was written beyond one stamp and before the other
pub record Lull : Type 0 where
  pub from : ℕ
  pub until : ℕ

-- a stamp outside a lull
abbrev pub outside_b : Lull → ℕ → Bool
outside_b l w = either (leb w l.from) (leb l.until w)

-- the page's entries and past rows were written outside a lull
pub record Still (w : Written) (h : Heads) (page : ℕ) (l : Lull) : Type 0 where
  pub entries : all_b (λ e. outside_b l e.latest) (kept (of_page page) (take h.pending (pendings w.pending))) ≡ true
  pub past_rows : all_b (λ q. outside_b l q.from) (kept (row_of_page page) (take h.past (pasts w.past))) ≡ true
