use Rattle.std.proofs.Common.{◌≡◌, false, length}
use Rattle.golf_data.specs.Slots.{cleared_slots}
use Rattle.golf_data.specs.Zeros.{stays_until}
use Rattle.golf_data.proofs.zeros.clear_first.Given as goal

abbrev pub invariant-loop-at : goal.invariant-loop-at
invariant-loop-at l = record {
  slots : l.slots ≡ cleared_slots (stays_until l.at (λ i. false)) l.initial.slots;
  same : length l.slots ≡ length l.initial.slots;
}
