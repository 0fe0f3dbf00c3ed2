use Rattle.std.proofs.Common.{◌≡◌, drop}
use Rattle.golf_code_targets.specs.Heights.{cases_chosen}
use Rattle.golf_code_targets.proofs.heights.choose_cases.Given as goal

abbrev pub invariant-loop-case : goal.invariant-loop-case
invariant-loop-case l = cases_chosen l.below (drop l.case-index l.cases) l.heights
    ≡ cases_chosen l.below l.cases l.fn.heights
