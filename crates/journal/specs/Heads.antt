-- What the code tells of a record: its head. The rows of its list stay in the journal.
use Rattle.std.specs.Prelude.{length, Some, None}
use Rattle.std.specs.declared.option.Option.{Option}
use Rattle.model.specs.Changes.{Change, commit, gossip, flush}
use Rattle.model.specs.Records as records
use Rattle.model.specs.Records.{Decoded, bad, good, end, short, malformed, whole}
use Rattle.journal.specs.declared.walk.Record.{Record}
use Rattle.journal.specs.declared.walk.Record.TheVariants.{Commit, Gossip, Flush}
use Rattle.journal.specs.declared.walk.Step.{Step}
use Rattle.journal.specs.declared.walk.Step.TheVariants.{End, Short, Malformed, Whole}

abbrev pub head_of : Change → Record
head_of (commit t ws) = Commit (record { stamp = t; count = length ws })
head_of (gossip prev curr stamps) = Gossip (record { prev = prev; curr = curr; count = length stamps })
head_of (flush p) = Flush (record { page = p })

abbrev pub head_decoded : Decoded → Option Record
head_decoded bad = None
head_decoded (good c) = Some (head_of c)

abbrev pub head_step : records.Step → Step
head_step end = End
head_step short = Short
head_step (malformed at) = Malformed at
head_step (whole c next) = Whole (head_of c) (record { at = next })
