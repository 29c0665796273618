-- A page's share of the tables: its past rows and its entries, by their numbers.
use Rattle.std.specs.Prelude.{ℕ, ◌≤◌, ◌<◌, ◌≡◌, Bool, List, [], ◌∷◌, length, take, get_or, eqb}
use Rattle.model.specs.declared.Past.{Past}
use Rattle.model.specs.Lists.{kept}
use Rattle.model.specs.Store.{page_of}
use Rattle.model.specs.Changes.{of_page}
use Rattle.tables.specs.declared.Heads.{Heads}
use Rattle.tables.specs.Rows.{pending_of, past_of, pendings, pasts}
use Rattle.tables.specs.declared.Written.{Written}
use Rattle.shares.specs.declared.Share.{Share}

-- a past row of the page
abbrev pub row_of_page : ℕ → Past → Bool
row_of_page p q = eqb (page_of q.object) p

-- the rows with these numbers
abbrev pub rows_at : {A : Type 0} → A → List A → List ℕ → List A
rows_at d l [] = []
rows_at d l (i ∷ is) = get_or l i d ∷ rows_at d l is

-- the numbers are those of the rows that pass, among the first n, in their order
pub record Numbered {A : Type 0} (d : A) (f : A → Bool) (l : List A) (n : ℕ) (numbers : List ℕ) : Type 0 where
  pub rows : rows_at d l numbers ≡ kept f (take n l)
  pub inside : (j : ℕ) → j < length numbers → get_or numbers j 0 < n
  pub fewer : length numbers ≤ n

pub record Shared (w : Written) (h : Heads) (page : ℕ) (share : Share) : Type 0 where
  pub past_rows : Numbered (past_of []) (row_of_page page) (pasts w.past) h.past share.rows.items
  pub entries : Numbered (pending_of []) (of_page page) (pendings w.pending) h.pending share.entries.items
