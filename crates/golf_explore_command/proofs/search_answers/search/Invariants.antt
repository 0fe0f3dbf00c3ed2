use Rattle.std.proofs.Common.{◌≡◌}
use Rattle.golf_explore.specs.Sought.{sought_of}
use Rattle.golf_explore_command.specs.Answers.{sought_by}
use Rattle.golf_explore_command.specs.Progress.{HasToldLines}
use Rattle.golf_explore_command.proofs.search_answers.search.Given as goal

-- the search looks for what the options ask for, and some lines were told
abbrev pub invariant-loop : goal.invariant-loop
invariant-loop g l = (sought_of l.under_way ≡ sought_by l.fn.options.aim)
    × HasToldLines l.fn.shows l.told (g.E.Sink.written l.fn.err) (g.E.Sink.written l.err) (g.E.Sink.faults l.fn.err)
    (g.E.Sink.faults l.err)
