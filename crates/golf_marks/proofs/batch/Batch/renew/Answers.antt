use Rattle.std.proofs.Common.{refl, ◌∙◌, ◌/◌}
use Rattle.golf_marks.proofs.Batches.{batched_is, no_place}
use Rattle.golf_marks.proofs.batch.Batch.renew.Goals as goal

pub returns-clause-none : goal.returns-clause-none
returns-clause-none c = batched_is _ ∙ no_place (c.args.place / 64) 0 refl
