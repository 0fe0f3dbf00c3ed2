use Rattle.golf_explore.proofs.preemption_search.numbers_to.Given as goal

-- nothing is known of the numbers so far
abbrev pub invariant-loop-came : goal.invariant-loop-came
invariant-loop-came l = Unit {0}

-- each visit came from an earlier one
abbrev pub decreases-loop-came : goal.decreases-loop-came
decreases-loop-came l = l.here
