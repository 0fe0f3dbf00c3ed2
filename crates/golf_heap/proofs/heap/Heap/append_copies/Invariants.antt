use Rattle.std.proofs.Common.{◌≡◌, ◌+◌, ◌++◌, drop, take}
use Rattle.golf_theory.specs.Maps.{Rises}
use Rattle.golf_heap.specs.Kept.{gathered, keyed}
use Rattle.golf_heap.proofs.heap.Heap.append_copies.Given as goal

-- those so far, and the numbers of the others are above the last one
abbrev pub invariant-loop-place : goal.invariant-loop-place
invariant-loop-place l = record {
  objects : l.self.objects ≡ l.initial.self.objects ++ gathered l.slots (take l.place-index l.places);
  above : Rises (l.self.last + 1) (keyed (drop l.place-index l.places));
}
