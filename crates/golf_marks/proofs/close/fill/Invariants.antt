use Rattle.std.proofs.Common.{◌≡◌, ◌==◌, ℕ, ◌+◌, ◌<◌, length, false}
use Rattle.std.specs.Prelude.{slice_index_or}
use Rattle.std.specs.Mem.Slots.{slots_items}
use Rattle.golf_marks.specs.Bits.{bit_at}
use Rattle.golf_marks.proofs.close.fill.Given as goal

abbrev pub invariant-loop-i : goal.invariant-loop-i
invariant-loop-i l = record {
  size : length l.flags ≡ length l.initial.flags;
  filled : (k : ℕ) → k < l.i → slice_index_or l.flags k false ≡
      (bit_at (slots_items l.closed.words) (l.first + k) == 1);
}
