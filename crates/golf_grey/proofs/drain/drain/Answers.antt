use Rattle.std.proofs.Common.{ap, arith}
use Rattle.std.specs.Prelude.{sum_by}
use Rattle.crossbeam_deque.specs.Handles.{worker_view}
use Rattle.golf_grey.proofs.Steps.{takes, finds, even}
use Rattle.golf_grey.proofs.drain.drain.Goals as goal

pub pop_as-requires-clause-fifo : goal.pop_as-requires-clause-fifo
pop_as-requires-clause-fifo c = λ _. takes _ _ (omega (arith, c.loop-place.invariant.1))

pub pop_as-requires-clause-empty : goal.pop_as-requires-clause-empty
pop_as-requires-clause-empty c = finds _ _

pub returns-clause-left : goal.returns-clause-left
returns-clause-left c =
    let i = c.loop-place.invariant in (
      i.3.0,
      i.3.1,
      λ f. omega (
        arith,
        i.3.2 f,
        even (worker_view c.loop-place.owner) c.in_default.ensures.rule.1 i.1 f,
        ap (sum_by f) i.2,
      ),
    )
