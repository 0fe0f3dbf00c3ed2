use Rattle.golf_mark.specs.MarkingResult.{MarksLeast}
use Rattle.golf_snapshot.specs.Parts.{live_parts}
use Rattle.golf_reclaim.proofs.Translating.{live-count, dead-flags}
use Rattle.golf_reclaim.proofs.Gone.{removed-are}
use Rattle.golf_reclaim.proofs.Reports.{fewer-gone}
use Rattle.golf_reclaim.proofs.Rising.{gone-rise}
use Rattle.golf_reclaim.proofs.markings.find_dead.Given.{Over}
use Rattle.golf_reclaim.proofs.markings.find_dead.Goals.{In_ok-gone}
use Rattle.golf_reclaim.proofs.markings.find_dead.Goals as goal

marks : (g : Over) (c : In_ok-gone g) → MarksLeast (live_parts c.args.state.now) c.in_ok-marked.marked
marks g c = rw c.in_ok-live.ensures.graph at c.in_ok-marked.ensures

pub returns-clause-objects : goal.returns-clause-objects
returns-clause-objects g c = rw (c.count_set-objects.ensures, c.as_slice.ensures)
    (live-count c.args.state.now c.in_ok-live.ensures.numbered c.requires.whole _
    (marks g (goal.at.returns-clause-objects g c).In_ok-gone))

pub returns-clause-dead : goal.returns-clause-dead
returns-clause-dead g c =
    rw (c.in_ok-dead.ensures.goroutines, c.as_slice-2.ensures, c.in_ok-live.ensures.graph)
    (dead-flags c.args.state.now c.in_ok-live.ensures.numbered c.requires.whole _
    (marks g (goal.at.returns-clause-dead g c).In_ok-gone))

pub returns-clause-gone : goal.returns-clause-gone
returns-clause-gone g c =
    removed-are c.args.state.now c.in_ok-live.ensures.numbered c.requires.whole c.args.options.sets_finalisers _
    (marks g (goal.at.returns-clause-gone g c).In_ok-gone) c.args.options.recover _
    (rw c.in_ok-live.ensures.graph at c.in_ok-gone.ensures)

pub returns-clause-rises : goal.returns-clause-rises
returns-clause-rises g c = gone-rise c.args.state.now c.in_ok-live.ensures.numbered.goroutines_rise _ _
    (returns-clause-dead g c) c.args.options.recover c.args.options.sets_finalisers (returns-clause-gone g c)

pub returns-clause-fewer : goal.returns-clause-fewer
returns-clause-fewer g c = fewer-gone c.args.state.now c.args.options.recover c.args.options.sets_finalisers _ _
    (returns-clause-dead g c) (returns-clause-gone g c)
