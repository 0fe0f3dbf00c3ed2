use Rattle.std.proofs.Common.{◌≡◌, ◌+◌, drop}
use Rattle.golf_data.specs.Effects.{cases_taken}
use Rattle.golf_code_targets.proofs.heights.cases_taken.Given as goal

-- the sum so far, and then that of the cases left
abbrev pub invariant-loop-case : goal.invariant-loop-case
invariant-loop-case l = l.sum + cases_taken (drop l.case-index l.cases) ≡ cases_taken l.cases
