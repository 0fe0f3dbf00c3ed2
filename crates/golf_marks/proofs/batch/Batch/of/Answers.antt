use Rattle.std.proofs.Common.{ap, ◌/◌, ◌∙◌}
use Rattle.golf_marks.specs.Bits.{marked_in}
use Rattle.golf_marks.proofs.Batches.{batched_is, only_place}
use Rattle.golf_marks.proofs.batch.Batch.of.Goals as goal

pub returns-clause-place : goal.returns-clause-place
returns-clause-place c = batched_is _ ∙ ap (marked_in (c.args.place / 64)) c.mask.ensures ∙ only_place c.args.place
