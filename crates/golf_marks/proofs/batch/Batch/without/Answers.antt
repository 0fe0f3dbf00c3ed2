use Rattle.golf_marks.proofs.Batches.{batched_is}
use Rattle.golf_marks.proofs.batch.Batch.without.Goals as goal

pub returns-clause-places : goal.returns-clause-places
returns-clause-places c = batched_is _
