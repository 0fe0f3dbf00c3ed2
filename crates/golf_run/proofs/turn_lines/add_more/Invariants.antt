use Rattle.std.proofs.Common.{◌≡◌, ◌++◌, take}
use Rattle.golf_run.specs.TurnLines.{more_goroutines}
use Rattle.golf_run.proofs.TurnLines.{numbers}
use Rattle.golf_run.proofs.turn_lines.add_more.Given as goal

-- the goroutines so far
abbrev pub invariant-loop-goroutine : goal.invariant-loop-goroutine
invariant-loop-goroutine l = l.line ≡ l.fn.line ++ more_goroutines (numbers (take l.goroutine-index l.goroutines))
