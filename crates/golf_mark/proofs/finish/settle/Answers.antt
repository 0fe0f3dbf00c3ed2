use Rattle.std.proofs.Common.{◌∙◌, refl}
use Rattle.golf_marks.specs.Places.{place_count}
use Rattle.golf_marks.specs.Seats.{graph_in}
use Rattle.golf_mark.proofs.Settling.{none_pending}
use Rattle.golf_mark.proofs.finish.settle.Goals as goal

pub returns-then-is_empty-clause-covered : goal.returns-then-is_empty-clause-covered
returns-then-is_empty-clause-covered c =
    none_pending c.args.marks.now c.args.todo.now 0 (place_count (graph_in c.args.marks.now)) c.args.scanner.now
    (c.if-is_empty.ensures refl) c.requires.covered

pub loop-place-preserved : goal.loop-place-preserved
loop-place-preserved c = record {
  idle = c.settle_at.ensures.idle;
  keeps = record {
    known = λ p h. c.settle_at.ensures.keeps.known p (c.loop-place.invariant.keeps.known p h);
    parts = c.settle_at.ensures.keeps.parts ∙ c.loop-place.invariant.keeps.parts;
  };
  covered = c.settle_at.ensures.covered;
}
