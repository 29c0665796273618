-- What holds of a store that accepted changes leave: of each object (SoundAt), of the tables (Whole), of
-- their counts (Fits), and all of it (Sound).
use Prim.Native.Nat.{ℕ, ◌≤◌, ◌<◌}
use mathlib.Core.Path.{◌≡◌}
use mathlib.Core.Bool.{Bool, true, false}
use mathlib.Core.List.{List, [], ◌∷◌}
use lib.ListN.{length, get_or}
use lib.Dec.{ltb}
use Rattle.model.specs.declared.Pending.{Pending}
use Rattle.model.specs.declared.Past.{Past}
use Rattle.model.specs.declared.Seen.{Seen}
use Rattle.model.specs.Lists.{both, either, any_b, elem_b}
use Rattle.model.specs.Store.{Store, page_of, slot_of, mark, holds_b, Slot, none, some, lookup, Served, unserved, by, oldest, disk, past_seen, current}
use Rattle.model.specs.Changes.{Change}
use Rattle.history.specs.History.{latest}
use Rattle.history.specs.Words.{All}
use Rattle.history.proofs.Lists.{Rising}

-- a stamp whose value must still be found among pending, past and disk: h the horizon, m the mark of the object's page
abbrev pub needed_b : ℕ → List ℕ → ℕ → ℕ → Bool
needed_b h known m s = either (ltb h s) (both (elem_b s known) (ltb m s))

-- L s: the object's value as of s with its writing stamp, in truth
pub record Truth (L : ℕ → Seen) (last : ℕ) : Type 0 where
  pub upto : (s : ℕ) → (L s).stamp ≤ s
  pub bounded : (s : ℕ) → (L s).stamp ≤ last
  pub same : (s u : ℕ) → s ≤ u → (L u).stamp ≤ s → L s ≡ L u

-- a pending entry, over the disk's value d
pub record WaitOk (L : ℕ → Seen) (last : ℕ) (d : Seen) (e : Pending) : Type 0 where
  pub begun : e.first ≤ last
  pub before : (s : ℕ) → d.stamp ≤ s → s < e.first → L s ≡ d
  pub since : (s : ℕ) → e.first ≤ s → d.stamp < (L s).stamp

abbrev pub Waits : (ℕ → Seen) → ℕ → Seen → Slot → Type 0
Waits L last d none = Unit {0}
Waits L last d (some e) = WaitOk L last d e

-- a past value says the truth of object o
abbrev pub TrueRow : (ℕ → Seen) → ℕ → ℕ → Past → Type 0
TrueRow L last o q = (s : ℕ) → holds_b o s q ≡ true → (L s ≡ past_seen q) × (s < last)

abbrev pub ServedBy : ℕ → ℕ → Served → Type 0
ServedBy v o unserved = ⊥
ServedBy v o (by c) = get_or c.values (slot_of o) 0 ≡ v

pub record SoundAt (o : ℕ) (L : ℕ → Seen) (st : Store) : Type 0 where
  pub truth : Truth L st.last
  pub now : (s : ℕ) → st.last ≤ s → L s ≡ current st o
  pub waits : Waits L st.last (disk st o) (lookup o st.pending)
  pub rows : All (TrueRow L st.last o) st.past
  pub covers : (s : ℕ) → needed_b st.horizon st.snapshots (mark st.copies (page_of o)) s ≡ true → s < (current st o).stamp
      → any_b (holds_b o s) st.past ≡ false → L s ≡ disk st o
  pub served : (s : ℕ) → elem_b s st.snapshots ≡ true → s ≤ mark st.copies (page_of o)
      → ServedBy (L s).value o (oldest (page_of o) s st.copies)

-- one entry an object
abbrev pub Single : List Pending → Type 0
Single [] = Unit {0}
Single (e ∷ es) = (lookup e.object es ≡ none) × Single es

-- what holds of the store as a whole
pub record Whole (st : Store) : Type 0 where
  pub rising : Rising st.snapshots
  pub known : All (λ s. s ≤ st.horizon) st.snapshots
  pub positive : All (λ s. 0 < s) st.snapshots
  pub marks : (p : ℕ) → mark st.copies p ≤ st.horizon
  pub values_size : length st.values ≡ 512
  pub stamps_size : length st.stamps ≡ 512
  pub single : Single st.pending
  pub pending_objects : All (λ e. e.object < 512) st.pending
  pub past_objects : All (λ q. q.object < 512) st.past
  pub copy_pages : All (λ c. c.page < 32) st.copies

-- the limits
pub record Fits (st : Store) : Type 0 where
  pub pending_room : length st.pending ≤ 128
  pub past_room : length st.past ≤ 256
  pub snapshot_room : length st.snapshots ≤ 64
  pub copy_room : length st.copies ≤ 128

-- all of it: the store holds what the history says
pub record Sound (h : List Change) (st : Store) : Type 0 where
  pub each : (o : ℕ) → o < 512 → SoundAt o (λ s. latest h o s) st
  pub whole : Whole st
  pub fits : Fits st
