use Rattle.std.proofs.Common.{◌≡◌, [], length, Some, slice_get, ℕ}
use Rattle.golf_world.specs.Steps.{Pass, IsNewPass}
use Rattle.golf_world.proofs.PassSeats.{keeper_from}
use Rattle.golf_world.proofs.passes.split_passes.Given as goal

abbrev pub invariant-loop-number : goal.invariant-loop-number
invariant-loop-number g l = record {
  table : l.first.table_id ≡ l.fn.first.table_id;
  view : l.first.me ≡ (keeper_from l.number l.passes, []);
  count : length l.list ≡ l.number;
  passes : (n : ℕ) (p : Pass) → slice_get l.list n ≡ Some p → IsNewPass n p;
}
