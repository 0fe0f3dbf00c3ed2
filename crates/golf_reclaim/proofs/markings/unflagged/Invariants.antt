use Rattle.std.proofs.Common.{◌≡◌, map, take}
use Rattle.golf_theory.specs.Flags.{left_out}
use Rattle.golf_reclaim.proofs.markings.unflagged.Given as goal

-- those so far
abbrev pub invariant-loop-sleeper : goal.invariant-loop-sleeper
invariant-loop-sleeper l = l.goroutines ≡ left_out (take l.sleeper l.flags)
    (take l.sleeper (map (λ x. x.goroutine) l.graph.sleepers))
