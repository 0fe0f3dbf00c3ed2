use Rattle.golf_explore.specs.FrameLocalTurns.{HasSettled}
use Rattle.golf_explore.proofs.frame_local_turns.settle.Given as goal

-- the state has settled so far
abbrev pub invariant-loop-place : goal.invariant-loop-place
invariant-loop-place l = HasSettled l.code l.fn.state l.state l.fn.numbers l.numbers
