-- How the branches of `else if` end together.
-- For: `otherwise_at`, src/statements/endings.rt
-- By: laws of std
use Rattle.std.proofs.Math.Bool.{and_assoc, or_assoc}

pub ruleset branch_steps = (and_assoc, or_assoc)
