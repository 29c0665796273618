-- The entries kept so far, with the others ahead, are the others; the disk, with the page's entries ahead, is the disk after.
use Prim.Native.Nat.{ℕ, ◌≤◌}
use mathlib.Core.Bool.{Bool, not}
use mathlib.Core.List.{◌++◌}
use mathlib.Core.Path.{◌≡◌}
use lib.ListN.{length, take, drop}
use Rattle.model.specs.Changes.{of_page, stored}
use Rattle.model.specs.Lists.{kept}
use Rattle.model.specs.declared.Pending.{Pending}
use Rattle.tables.specs.Rows.{pendings}
use Rattle.flushes.proofs.settle.settle.Given as goal

-- an entry that stays pending
abbrev pub off : ℕ → Pending → Bool
off page e = not (of_page page e)

abbrev pub invariant-loop-i : goal.invariant-loop-i
invariant-loop-i l =
    let es = take l.n (pendings l.initial.w.pending) in
    let ahead = drop l.i (take l.n (pendings l.w.pending)) in
    (l.k ≤ l.i) × (length (pendings l.w.pending) ≡ 128) × (l.w.past ≡ l.initial.w.past)
    × (take l.k (pendings l.w.pending) ++ kept (off l.page) ahead ≡ kept (off l.page) es)
    × (stored l.page (λ e. e.value) ahead l.w.disk ≡ stored l.page (λ e. e.value) es l.initial.w.disk)
    × (stored l.page (λ e. e.latest) ahead l.w.dated ≡ stored l.page (λ e. e.latest) es l.initial.w.dated)
