use Rattle.golf_mark.specs.MarkerTurns.{TakesTurns}
use Rattle.golf_mark.proofs.marker.run.Given as goal

abbrev pub invariant-loop-turn : goal.invariant-loop-turn
invariant-loop-turn g l = TakesTurns l.shared.marks.now l.shared.pool.now l.initial.marker l.marker
