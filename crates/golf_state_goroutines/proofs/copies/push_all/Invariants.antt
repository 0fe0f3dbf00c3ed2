use Rattle.std.proofs.Common.{◌≡◌, ◌++◌, take}
use Rattle.golf_state_goroutines.proofs.copies.push_all.Given as goal

-- those so far
abbrev pub invariant-loop-operand : goal.invariant-loop-operand
invariant-loop-operand l = record {
  slots : l.values.slots ≡ l.fn.values.slots;
  operands : l.values.operands ≡ l.fn.values.operands ++ take l.operand-index l.operands;
}
