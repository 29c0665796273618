-- Which byte stands for which kind of record.
use Rattle.std.specs.Prelude.{◌≡◌, ℕ, ◌<◌, ◌⊎◌, Result, MatchResult}
use Rattle.journal.specs.declared.kind.Kind.{Kind}
use Rattle.journal.specs.declared.kind.Kind.TheVariants as kinds
use Rattle.journal.specs.declared.kind.UnknownKind.{UnknownKind}

abbrev pub byte_of : Kind → ℕ
byte_of kinds.Commit = 1
byte_of kinds.Gossip = 2
byte_of kinds.Flush = 3

-- a byte's kind, or that it is none
abbrev pub Decodes : ℕ → Result Kind UnknownKind → Type 0
Decodes byte r = MatchResult r (λ kind. byte_of kind ≡ byte) (λ e. (e.0 ≡ byte) × ((byte < 1) ⊎ (3 < byte)))
