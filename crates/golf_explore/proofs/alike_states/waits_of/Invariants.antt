use Rattle.golf_model.specs.Reports.{numbers}
use Rattle.golf_explore.specs.AlikeStates.{HasWaits}
use Rattle.golf_explore.proofs.alike_states.waits_of.Given as goal

-- the waits of the goroutines so far are listed
abbrev pub invariant-loop-at : goal.invariant-loop-at
invariant-loop-at l = HasWaits l.state (numbers l.goroutines) l.other (numbers l.others) l.to l.at l.waits.items
