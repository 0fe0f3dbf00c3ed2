use Rattle.golf_state.specs.WokenAll.{AreWokenBelow, HasWoken}
use Rattle.golf_state.proofs.wake_all.wake_side.Given as goal

-- some have gone on, and whoever is still to be woken there has an earlier ticket
abbrev pub invariant-loop-holder : goal.invariant-loop-holder
invariant-loop-holder l = record {
  woken : HasWoken l.object.0 l.how l.initial.state l.state;
  below : AreWokenBelow l.before l.object.0 l.side l.how l.state.goroutines;
}

abbrev pub decreases-loop-holder : goal.decreases-loop-holder
decreases-loop-holder l = l.before
