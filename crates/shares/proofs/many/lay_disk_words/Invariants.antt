-- Each turn writes one page more.
use Prim.Native.Nat.{ℕ, ◌+◌, ◌*◌, ◌<◌}
use mathlib.Core.Path.{◌≡◌}
use lib.ListN.{length, take, drop, get_or}
use Rattle.model.specs.Store.{page16, object_at}
use Rattle.views.specs.Views.{part_of}
use Rattle.shares.proofs.many.lay_disk_words.Given as goal

abbrev pub invariant-loop-j : goal.invariant-loop-j
invariant-loop-j l = (length l.words ≡ length l.initial.words) × (take l.at l.words ≡ take l.at l.initial.words)
    × ((i : ℕ) → i < l.j → take 16 (drop (l.at + 16 * i) l.words) ≡ page16 (λ k. part_of l.word (record { value = get_or l.w.disk (object_at l.page k) 0; stamp = get_or l.w.dated (object_at l.page k) 0 })))
