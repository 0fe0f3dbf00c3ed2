use Rattle.std.proofs.Common.{◌≡◌, drop, length}
use Rattle.golf_code_targets.specs.Walks.{line_steps, no_lines}
use Rattle.golf_code_targets.proofs.bodies.lines_of.Given as goal

-- the parts from this place on are still there
abbrev pub invariant-loop-at : goal.invariant-loop-at
invariant-loop-at l =
    (line_steps l.found (drop l.at l.emitted) l.body ≡ line_steps l.found l.fn.emitted no_lines)
    × (length l.emitted ≡ length l.fn.emitted)
