use Rattle.std.proofs.Common.{◌≡◌, ℕ, ◌<◌, ◌≤◌, true}
use Rattle.golf_data.specs.Masks.{has_bit}
use Rattle.golf_data.specs.Slots.{cleared_slots}
use Rattle.golf_data.specs.Zeros.{stays_yet}
use Rattle.golf_data.proofs.zeros.clear_bits.Given as goal

abbrev pub invariant-loop-left : goal.invariant-loop-left
invariant-loop-left l = record {
  values : l.slots ≡ cleared_slots (stays_yet l.dead l.left) l.initial.slots;
  within : l.left ≤ l.dead;
  among : (i : ℕ) → i < 64 → has_bit l.left i ≡ true → has_bit l.dead i ≡ true;
}

abbrev pub decreases-loop-left : goal.decreases-loop-left
decreases-loop-left l = l.left
