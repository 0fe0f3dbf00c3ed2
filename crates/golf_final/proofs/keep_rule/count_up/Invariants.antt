use Rattle.std.proofs.Common.{◌≡◌}
use Rattle.golf_final.proofs.Parts.{counted}
use Rattle.golf_final.proofs.keep_rule.count_up.Given as goal

abbrev pub invariant-loop-number : goal.invariant-loop-number
invariant-loop-number l = l.numbers ≡ counted 0 l.number
