use Rattle.std.proofs.Common.{◌≡◌, ◌≤◌, ◌+◌, length, drop}
use Rattle.slab.specs.Slab.{slab_len}
use Rattle.golf_theory.specs.Flags.{kept}
use Rattle.golf_heap.proofs.Freeing.{Spared}
use Rattle.golf_heap.proofs.places.free.Given as goal

-- the slots of the places below `at`, and of those that are flagged, are as they were
abbrev pub invariant-loop-at : goal.invariant-loop-at
invariant-loop-at l = record {
  within : l.at ≤ length l.places;
  spared : Spared l.initial.slots l.slots l.places l.keep l.at;
  only : slab_len l.slots ≡ l.at + length (kept (drop l.at l.keep) (drop l.at l.places));
}

abbrev pub decreases-loop-at : goal.decreases-loop-at
decreases-loop-at l = l.at
