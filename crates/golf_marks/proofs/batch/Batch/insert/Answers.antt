use Rattle.std.proofs.Common.{refl, ap}
use Rattle.std.specs.Prelude.{bit_or}
use Rattle.golf_marks.proofs.Batches.{adds}
use Rattle.golf_marks.proofs.batch.Batch.insert.Goals as goal

pub returns-clause-added : goal.returns-clause-added
returns-clause-added c x =
    let b = c.args.self.now in
    adds b _ c.args.place x refl (ap (bit_or b.bits) c.mask.ensures) c.requires
