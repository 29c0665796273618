-- Document 01, "A worked night": what the model gives is what 01 tells, in every row of the table.
use mathlib.Core.Path.{refl}
use Rattle.model.specs.Store.{fresh, page16, some_slot, page_as_of}
use Rattle.model.specs.Damage.{overfull, misnumbered, doubled, misordered, damaged}
use Rattle.model.specs.Changes.{write_one, last_at, gossip_store, copies_after, flush_store}
use Rattle.model.specs.Judgement.{objects_shaped, stamps_shaped, judge_commit, against, judge_gossip, judge_flush}
use Rattle.model.specs.Reads.{snapshot_answer, read_at, standing}
use Rattle.model.specs.Records.{encode, step_on}
use Rattle.model.specs.Calls.{written, reached, answer_to, change}
use Rattle.model.specs.Restart.{walk, fresh_start, restart}
use Rattle.model.specs.Night.{Holds, table}

pub night : Holds table
unfolding table change answer_to damaged overfull fresh misnumbered doubled misordered objects_shaped stamps_shaped judge_commit judge_flush flush_store copies_after page16 page_as_of some_slot against judge_gossip gossip_store write_one last_at reached encode written standing read_at snapshot_answer restart walk step_on fresh_start
night = (refl, (refl, (refl, (refl, (refl, (refl, (refl, (refl, (refl, (refl, (refl, (refl, (refl, (refl, (refl, (refl, (refl, (refl, (refl, (refl, (refl, (refl, (refl, (refl, (refl, (refl, tt))))))))))))))))))))))))))
