use Rattle.std.proofs.Common.{◌≡◌, take}
use Rattle.golf_reclaim.specs.Flags.{either}
use Rattle.golf_reclaim.proofs.markings.either.Given as goal

-- those so far
abbrev pub invariant-loop-at : goal.invariant-loop-at
invariant-loop-at l = l.both ≡ either (take l.at l.flags) (take l.at l.others)
