-- A page as of many stamps at once: where a stamp lies among others, and the sixteen words of each.
use Rattle.std.specs.Prelude.{ℕ, Some, ◌+◌, ◌*◌, ◌≤◌, ◌<◌, ◌≡◌, List, [], length, take, drop, get_or}
use Rattle.model.specs.Store.{page16, object_at}
use Rattle.tables.specs.declared.Heads.{Heads}
use Rattle.tables.specs.Contents.{contents}
use Rattle.tables.specs.declared.Written.{Written}
use Rattle.views.specs.declared.Word.{Word}
use Rattle.views.specs.Views.{viewed}

-- stamps in order, the earlier first; two may be equal
abbrev pub Ordered : List ℕ → Type 0
Ordered l = (i j : ℕ) → i ≤ j → j < length l → get_or l i 0 ≤ get_or l j 0

-- r of the stamps are before a stamp, and the others at or behind it
pub record FirstFrom (stamps : List ℕ) (stamp r : ℕ) : Type 0 where
  pub inside : r ≤ length stamps
  pub before : (i : ℕ) → i < r → get_or stamps i 0 < stamp
  pub behind : (i : ℕ) → r ≤ i → i < length stamps → stamp ≤ get_or stamps i 0

-- sixteen words for each stamp, from a place on; the words before it are as they were
pub record Pages (f : ℕ → List ℕ) (stamps : List ℕ) (at : ℕ) (words₀ words : List ℕ) : Type 0 where
  pub pages : (j : ℕ) → j < length stamps → take 16 (drop (at + 16 * j) words) ≡ f (get_or stamps j 0)
  pub untouched : take at words ≡ take at words₀
  pub size : length words ≡ length words₀

-- the page's values, or their ages, as of a stamp where no copy serves
abbrev pub page_at : Written → Heads → ℕ → Word → ℕ → List ℕ
page_at w h p word s = page16 (λ k. viewed (contents w.disk w.dated w.pending w.past [] [] [] h) (record { page = p; as_of = Some s; word = word }) (object_at p k))
