-- Standing: none but zeros where the store is damaged, else the counts, which are the lengths of their contents, and the lag.
use mathlib.Core.Path.{◌≡◌, refl}
use mathlib.Core.Bool.{true, false}
use mathlib.Core.List.{[]}
use lib.IntN.{ℤ, pos}
use Rattle.model.specs.declared.Answer.TheVariants.{Done, Damaged}
use Rattle.model.specs.declared.Figures.{Figures}
use Rattle.model.specs.Store.{Store}
use Rattle.model.specs.Damage.{damaged}
use Rattle.model.specs.Reads.{lag_of, standing}
use Rattle.tables.specs.declared.Heads.{Heads}
use Rattle.tables.specs.Rows.{pending_of, past_of, pendings, pasts, copy_heads, copies_of}
use Rattle.tables.specs.declared.Store as held
use Rattle.tables.specs.Contents.{stored}
use Rattle.tables.proofs.Copies.{no_copy}
use Rattle.tables.proofs.Counts.{up_to_length}

abbrev pub figured : Heads → ℤ → Figures
figured h z = record { pending = h.pending; past = h.past; snapshots = h.snapshots; copies = h.copies; lag = z }

abbrev pub zeros : Figures
zeros = record { pending = 0; past = 0; snapshots = 0; copies = 0; lag = pos 0 }

pub figures_none : (st : Store) → damaged st ≡ true → standing st ≡ record { answer = Damaged; figures = zeros }
unfolding standing
figures_none st d = rw d refl

pub figures_told : (s : held.Store) → damaged (stored s) ≡ false → {z : ℤ} → z ≡ lag_of (stored s) → standing (stored s) ≡ record { answer = Done 0; figures = figured s.heads z }
unfolding standing
figures_told s d e =
    rw (
      d,
      up_to_length (pending_of []) s.heads.pending (pendings s.written.pending),
      up_to_length (past_of []) s.heads.past (pasts s.written.past),
      up_to_length 0 s.heads.snapshots s.snapshots,
      up_to_length no_copy s.heads.copies (copies_of (copy_heads s.copies) s.copied),
      ← e,
    )
    refl
