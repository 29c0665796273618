-- None is due up to the mark; then those between; none from the newest stamp on; and the last one by the current ages.
use Prim.Native.Nat.{ℕ, ◌≤◌, ◌+◌, ◌-◌}
use mathlib.Core.List.{List, [], ◌++◌}
use mathlib.Core.Path.{◌≡◌, sym, ◌∙◌}
use native.Mathlib.Omega.{arith}
use lib.ListN.{length, take, drop, get_or}
use Rattle.model.specs.Store.{Store}
use Rattle.shares.proofs.Orders.{rising_at, part_ordered, first_inside, first_behind}
use Rattle.flushes.specs.Parts.{seen_in, due_seen, dues_seen}
use Rattle.flushes.proofs.Listing.{none_due, dues_to_last, due_seen_lem, next_none, list_yes, list_no, list_end}
use Rattle.flushes.proofs.Holdings.{looks, sized}
use Rattle.flushes.proofs.dues.list_dues.Goals as goal
use Rattle.flushes.proofs.dues.list_dues.Goals.{After-some_beyond}

abbrev seen : After-some_beyond → Store
seen c = let s = c.args.store.now in seen_in s.written s.heads

-- those listed before the last snapshot
abbrev found : After-some_beyond → List ℕ
found c = c.list_between.new.due.items

some : (c : After-some_beyond) → let n = c.args.store.now.heads.snapshots in n - 1 + 1 ≡ n
some c = omega (arith, c.if-h-eq0.false)

inside : (c : After-some_beyond) → c.args.store.now.heads.snapshots ≤ length c.args.store.now.snapshots
inside c = omega (arith, c.whole.ensures.snapshot_words, c.requires.ready.counted.snapshot_count)

-- those listed, with the last snapshot if it is due, are all
listed : (c : After-some_beyond)
    → let l = c.args.store.now.snapshots in
    let n = c.args.store.now.heads.snapshots in
    found c ++ dues_seen (seen c) c.args.page c.args.marked (drop (n - 1) (take n l)) ≡ dues_seen (seen c) c.args.page c.args.marked (take n l)
listed c =
    let a = c.args in
    let s = a.store.now in
    let l = s.snapshots in
    let n = s.heads.snapshots in
    let w = c.newest_up_to-newest.ensures in
    let f = c.first_from-low.ensures in
    dues_to_last s.written s.heads a.page (sized s a.page c.requires.ready c.whole.ensures) (looks s a.page c.requires.ready) l n (n - 1) (some c) (inside c) c.requires.ready.rising a.marked w.still w.by_index f c.first_from-high.ensures (found c)
    (c.list_between.ensures.by_index a.marked (λ j q r. omega (arith, first_behind (n - 1) l (omega (arith, inside c)) f j q (omega (arith, first_inside (n - 1) l (omega (arith, inside c)) c.first_from-high.ensures)))))

-- the current ages tell whether the last one is due
told : (c : After-some_beyond)
    → let l = c.args.store.now.snapshots in
    let n = c.args.store.now.heads.snapshots in
    c.some_beyond.result ≡ due_seen (seen c) c.args.page c.args.marked (get_or l (n - 1) 0) (drop (n - 1 + 1) (take n l))
told c =
    let a = c.args in
    let l = a.store.now.snapshots in
    let n = a.store.now.heads.snapshots in
    c.some_beyond.ensures
    ∙ due_seen_lem (seen c) a.page a.marked (get_or l (n - 1) 0) (drop (n - 1 + 1) (take n l)) c.if-last-marked.false (next_none a.page l n (n - 1 + 1) (omega arith)) (c.look_at.ensures [] [] [])

pub returns-then-last-marked : goal.returns-then-last-marked
returns-then-last-marked c = let a = c.args in
    let s = a.store.now in
    let l = s.snapshots in
    let n = s.heads.snapshots in
    let b : n ≤ length l = omega (arith, c.whole.ensures.snapshot_words, c.requires.ready.counted.snapshot_count) in
    c.clear.ensures
    ∙ none_due (seen_in s.written s.heads) a.page a.marked l n b (λ i h. omega (arith, c.if-last-marked.true, rising_at n l c.requires.ready.rising b i (n - 1) (omega arith) (omega arith)))

pub first_from-low-requires : goal.first_from-low-requires
first_from-low-requires c = let s = c.args.store.now in
    part_ordered s.heads.snapshots s.snapshots c.requires.ready.rising (omega (arith, c.whole.ensures.snapshot_words, c.requires.ready.counted.snapshot_count)) 0 (s.heads.snapshots - 1) (omega arith)

pub first_from-high-requires : goal.first_from-high-requires
first_from-high-requires c = let s = c.args.store.now in
    part_ordered s.heads.snapshots s.snapshots c.requires.ready.rising (omega (arith, c.whole.ensures.snapshot_words, c.requires.ready.counted.snapshot_count)) 0 (s.heads.snapshots - 1) (omega arith)

pub returns-then-some_beyond : goal.returns-then-some_beyond
returns-then-some_beyond c =
    let b = (goal.at.returns-then-some_beyond c).After-some_beyond in
    let a = c.args in
    let l = a.store.now.snapshots in
    let n = a.store.now.heads.snapshots in
    c.push.ensures
    ∙ list_end (seen b) a.page a.marked l n (n - 1 + 1) _
    (list_yes (seen b) a.page a.marked l n (n - 1) (found b) (listed b) (omega (arith, some b)) (inside b) (sym (told b) ∙ c.if-some_beyond.true)) (omega arith)

pub returns-else-some_beyond : goal.returns-else-some_beyond
returns-else-some_beyond c =
    let b = (goal.at.returns-else-some_beyond c).After-some_beyond in
    let a = c.args in
    let l = a.store.now.snapshots in
    let n = a.store.now.heads.snapshots in
    list_end (seen b) a.page a.marked l n (n - 1 + 1) (found b)
    (list_no (seen b) a.page a.marked l n (n - 1) (found b) (listed b) (omega (arith, some b)) (inside b) (sym (told b) ∙ c.if-some_beyond.false)) (omega arith)
