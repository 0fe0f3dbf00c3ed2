use Rattle.golf_explore_command.proofs.search_answers.search.Goals as goal

pub returns-in-Some-seconds_over : goal.returns-in-Some-seconds_over
returns-in-Some-seconds_over g c =
    (c.in-Some-seconds_over.ensures, (c.in_ok-told.told, c.in_ok-told.ensures _ _ c.loop.invariant.1))
