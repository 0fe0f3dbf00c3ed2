use Rattle.golf_explore.specs.Results.{IsExploring}
use Rattle.golf_explore_command.specs.Progress.{HasToldLines}
use Rattle.golf_explore_command.proofs.full_answers.explore.Given as goal

-- the search is under way, and some lines were told
abbrev pub invariant-loop : goal.invariant-loop
invariant-loop g l = IsExploring l.code l.search
    × HasToldLines l.fn.shows l.told (g.E.Sink.written l.fn.err) (g.E.Sink.written l.err) (g.E.Sink.faults l.fn.err)
    (g.E.Sink.faults l.err)
