use Rattle.golf_model.specs.Reports.{numbers}
use Rattle.golf_reclaim.proofs.Translating.{left-flags, left-count}
use Rattle.golf_reclaim.proofs.markings.find_retained.Goals as goal

pub returns-clause-marked : goal.returns-clause-marked
returns-clause-marked g c = rw c.in_ok-graph.ensures.graph at c.in_ok-marked.ensures

pub returns-clause-keep : goal.returns-clause-keep
returns-clause-keep g c =
    rw (c.in_ok-keep.ensures.flags, c.as_slice.ensures, c.in_ok-graph.ensures.graph)
    (left-flags c.args.state.now c.in_ok-graph.ensures.numbered c.requires.whole (numbers c.args.gone.now) _
    (returns-clause-marked g c))

pub returns-clause-objects : goal.returns-clause-objects
returns-clause-objects g c = rw (c.count_set-objects.ensures, c.as_slice-2.ensures)
    (left-count c.args.state.now c.in_ok-graph.ensures.numbered c.requires.whole (numbers c.args.gone.now) _
    (returns-clause-keep g c))
