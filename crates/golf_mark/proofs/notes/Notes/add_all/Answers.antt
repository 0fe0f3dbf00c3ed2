use Rattle.std.proofs.Common.{◌<◌, length, arith}
use Rattle.golf_marks.specs.Flags.{IsSet}
use Rattle.golf_mark.proofs.Gaining.{In-all}
use Rattle.golf_mark.proofs.notes.Notes.add_all.Goals as goal

pub returns-clause-noted : goal.returns-clause-noted
returns-clause-noted c = λ p low h.
    In-all (λ q. q < length c.args.self.now → IsSet c.loop-place.self q) c.args.places.now c.loop-place.place-index
    (omega arith) c.loop-place.invariant.noted p h low
