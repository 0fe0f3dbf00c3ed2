-- The slots and the operands of a frame in memory: one after the other.
use Rattle.std.specs.Prelude.{◌≡◌, ℕ, ◌-◌, ◌<◌, ◌≤◌, true, List, length, take, drop, vec_len, vec_capacity}
use Rattle.golf_data.specs.declared.value.Value.{Value}
use Rattle.golf_data.specs.Masks.{has_bit}
use Rattle.golf_data.specs.Zeros.{AreZeros, AreAllZero}
use Rattle.golf_data.specs.declared.frame_values.FrameValues.TheInside.{Inside}

-- the slots, the operands, the last one on top, and how many more operands there is room for
pub record SlotsAndOperands : Type 0 where
  pub slots : List Value
  pub operands : List Value
  pub spare : ℕ

abbrev pub values_of : Inside → SlotsAndOperands
values_of v = record {
  slots = take v.slots v.values.items;
  operands = drop v.slots v.values.items;
  spare = vec_capacity v.values - vec_len v.values;
}

-- the slots are there, those of which it is known hold 0, and the bits beyond the slots are set
pub record AreFrameValues (v : Inside) : Type 0 where
  pub within : v.slots ≤ length v.values.items
  pub zeros : AreZeros v.zeros (take v.slots v.values.items)
  pub cleared : AreAllZero v.is_cleared (take v.slots v.values.items)
  pub beyond : (i : ℕ) → i < 64 → v.slots ≤ i → has_bit v.zeros i ≡ true
