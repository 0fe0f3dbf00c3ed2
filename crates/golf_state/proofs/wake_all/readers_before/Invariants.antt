use Rattle.std.proofs.Common.{◌≡◌, ◌+◌, Some}
use Rattle.golf_model.specs.ReadersWriters.{readers_next}
use Rattle.golf_state.proofs.wake_all.readers_before.Given as goal

-- those so far, and those with a ticket below the last one's
abbrev pub invariant-loop-holder : goal.invariant-loop-holder
invariant-loop-holder l = readers_next (Some l.ticket) l.object.0 l.state.goroutines ≡ l.count + readers_next
    (Some l.before) l.object.0 l.state.goroutines

abbrev pub decreases-loop-holder : goal.decreases-loop-holder
decreases-loop-holder l = l.before
