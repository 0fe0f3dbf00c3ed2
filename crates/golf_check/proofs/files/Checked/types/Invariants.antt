use Rattle.std.proofs.Common.{◌≡◌, ◌++◌, drop}
use Rattle.golf_check_types.specs.Facts.{types_told}
use Rattle.golf_check.proofs.files.Checked.types.Given as goal

abbrev pub invariant-loop-fact : goal.invariant-loop-fact
invariant-loop-fact l = l.types ++ types_told (drop l.fact-index l.fact-items) ≡ types_told l.fact-items
