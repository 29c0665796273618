-- The words on disk, below the past rows, below the entries.
use mathlib.Core.Path.{refl}
use borrow.Author.Rules.{rules}
use Rattle.shares.proofs.Stamps.{pages_same, page_listed}
use Rattle.shares.proofs.many.look_at_all.Goals as goal

pub returns : goal.returns
returns c = let a = c.args in
    pages_same (page_listed a.w.now a.h a.page a.word (record { pending_rows = search rules; past_rows = search rules }) c.requires.lookable a.share.now c.requires.shared)
    (rw (← c.listed-2.ensures, ← c.listed.ensures)
    (c.lay_numbered-2.ensures _ a.words.now (c.lay_numbered.ensures _ a.words.now (c.lay_disk_words.ensures a.stamps.now refl))))
