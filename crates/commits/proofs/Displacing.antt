-- The row of an object's entry: whether it has one, and what a write there displaces. And a past value judged by what a store holds.
use Rattle.std.specs.Prelude.{Option, Some, None, MatchOption}
use Rattle.std.specs.Option.{is_some}
use Prim.Native.Nat.{ℕ, ◌≤◌, ◌<◌}
use mathlib.Core.Path.{◌≡◌, sym, ap, ◌∙◌}
use mathlib.Core.Bool.{Bool, true, false}
use mathlib.Core.List.{List}
use native.Mathlib.Omega.{arith}
use lib.ListN.{length, take, length-take}
use Rattle.model.specs.declared.Past.{Past}
use Rattle.model.specs.Store.{none, some, lookup, live_b}
use Rattle.tables.specs.declared.Store.{Store}
use Rattle.tables.specs.Rows.{pendings, copy_heads, copies_of, pending_at}
use Rattle.tables.specs.Lookups.{find_pending}
use Rattle.tables.specs.Contents.{stored, Counted}
use Rattle.tables.proofs.Copies.{no_copy, copies_of_length}
use Rattle.tables.proofs.Counts.{up_to_take}
use Rattle.tables.proofs.Bridges.{found_row, lookup_row, lookup_none}
use Rattle.commits.specs.Rows.{new_in, live_in, displaces_in}
use Rattle.commits.specs.Promises.{entries, value_at}
use Rattle.commits.proofs.Finding.{pending_taken}

-- a past value judged by the first snapshots and copies
pub live_stored : (s : Store) (q : Past) → length s.snapshots ≡ 64 → length (copy_heads s.copies) ≡ 128 → Counted s.heads → {r : Bool}
    → ((copied : List ℕ) → r ≡ live_b s.heads.horizon (take s.heads.snapshots s.snapshots) (take s.heads.copies (copies_of (copy_heads s.copies) copied)) q)
    → r ≡ live_in (stored s) q
live_stored s q l m c e =
    let w : s.heads.copies ≤ length (copies_of (copy_heads s.copies) s.copied) = rw (copies_of_length (copy_heads s.copies) s.copied) (omega arith) in
    rw (up_to_take 0 s.heads.snapshots s.snapshots (omega arith), up_to_take no_copy s.heads.copies (copies_of (copy_heads s.copies) s.copied) w) (e s.copied)

-- whether the value that a row holds is displaced, as the code's answer tells
pub displaced_is : (L : Past → Bool) (x : Past) (r : Option Past) → MatchOption r (L x ≡ false) (λ q. (q ≡ x) × (L q ≡ true)) → is_some r ≡ L x
displaced_is L x (Some q) e = rw (← e.0) (sym e.1)
displaced_is L x None e = sym e

pub few : (s : Store) → Counted s.heads → length (entries s) ≤ 128
few s c = simp length-take (omega arith)

module _ (s : Store) (p : length (pendings s.written.pending) ≡ 128) (c : Counted s.heads) where
  pub as_entries : (stored s).pending ≡ entries s
  as_entries = pending_taken s.written.pending s.heads p c

  pub in_table : s.heads.pending ≤ length (pendings s.written.pending)
  in_table = omega arith

  module _ (o row : ℕ) (f : find_pending o (entries s) ≡ Some row) where
    pub entry_at : lookup o (stored s).pending ≡ some (pending_at (pendings s.written.pending) row)
    entry_at = ap (lookup o) as_entries ∙ lookup_row o (pendings s.written.pending) s.heads.pending row in_table f

    pub row_low : row < 128
    row_low = let l = found_row o (pendings s.written.pending) s.heads.pending row in_table f in omega arith

    pub old_at : false ≡ new_in (stored s).pending o
    old_at = rw entry_at

    pub displaces_at : (t : ℕ) {b : Bool} → b ≡ live_in (stored s) (value_at s row o t) → b ≡ displaces_in (live_in (stored s)) t (stored s).pending o
    displaces_at t e = rw entry_at e

  module _ (o : ℕ) (f : find_pending o (entries s) ≡ None) where
    pub none_at : lookup o (stored s).pending ≡ none
    none_at = ap (lookup o) as_entries ∙ lookup_none o (entries s) f

    pub new_none : true ≡ new_in (stored s).pending o
    new_none = rw none_at

    pub displaces_none : (t : ℕ) → false ≡ displaces_in (live_in (stored s)) t (stored s).pending o
    displaces_none t = rw none_at
