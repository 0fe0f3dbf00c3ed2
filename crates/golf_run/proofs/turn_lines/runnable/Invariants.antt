use Rattle.std.proofs.Common.{◌≡◌, take}
use Rattle.golf_model.specs.State.{runnable}
use Rattle.golf_run.proofs.TurnLines.{numbers}
use Rattle.golf_run.proofs.turn_lines.runnable.Given as goal

-- those at the first places
abbrev pub invariant-loop-place : goal.invariant-loop-place
invariant-loop-place l = numbers l.list ≡ take l.place (runnable l.state)
