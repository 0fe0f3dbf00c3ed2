use Rattle.std.proofs.Common.{◌≡◌, take, filter}
use Rattle.golf_model.specs.State.{runnable}
use Rattle.golf_run.specs.TurnLines.{is_woken}
use Rattle.golf_run.proofs.TurnLines.{numbers}
use Rattle.golf_run.proofs.turn_lines.woken.Given as goal

-- the woken ones of those at the first places
abbrev pub invariant-loop-place : goal.invariant-loop-place
invariant-loop-place l = numbers l.woken ≡ filter (is_woken (numbers l.before) l.next) (take l.place (runnable l.state))
