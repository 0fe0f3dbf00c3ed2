use Rattle.std.proofs.Common.{◌≡◌, drop}
use Rattle.golf_state_queues.specs.WaitQueues.{held}
use Rattle.golf_state_goroutines.specs.Places.{plain_entries}
use Rattle.golf_state.specs.Seen.{first_held}
use Rattle.golf_state.proofs.waiters.first_in_queue.Given as goal

-- none of those so far waits there
abbrev pub invariant-loop-holder : goal.invariant-loop-holder
invariant-loop-holder l = first_held l.object.0 l.side (plain_entries l.roster.places) (held l.queue)
    ≡ first_held l.object.0 l.side (plain_entries l.roster.places) (held (drop l.holder-index l.queue))
