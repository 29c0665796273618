-- Beyond the horizon, or wanted by the last snapshot before the row's end, and not archived at it.
use mathlib.Core.Path.{◌≡◌, ◌∙◌, sym}
use mathlib.Core.Bool.{true}
use lib.ListN.{take}
use Rattle.tables.specs.Rows.{copy_heads, copies_of}
use Rattle.tables.specs.Lookups.{wants_b}
use Rattle.tables.proofs.Living.{live_unwanted, live_archived}
use Rattle.tables.proofs.lookups.live.Goals as goal
use Rattle.tables.proofs.lookups.live.Goals.{Else-not-wants}

pub returns-then-not-wants : goal.returns-then-not-wants
returns-then-not-wants c = let a = c.args in
    let e = sym c.beyond.ensures ∙ c.if-beyond.false in
    let w = sym c.wants.ensures ∙ c.if-not-wants.true in
    λ words. live_unwanted a.horizon (take a.known a.snapshots.now) a.q (take a.n (copies_of (copy_heads a.copies.now) words)) _ c.last_before-s.ensures e w

-- the snapshot is wanted
wanted : (c : Else-not-wants) → wants_b c.last_before-s.result 0 c.args.q ≡ true
wanted c = sym c.wants.ensures ∙ c.if-not-wants.false

pub returns : goal.returns
returns c = let a = c.args in
    let e = sym c.beyond.ensures ∙ c.if-beyond.false in
    λ words. live_archived a.horizon (take a.known a.snapshots.now) a.q (take a.n (copies_of (copy_heads a.copies.now) words)) _ c.last_before-s.ensures e (wanted (goal.at.returns c).Else-not-wants) (c.archived.ensures words)
