use Rattle.std.proofs.Common.{◌≡◌, ℕ, ◌<◌, length}
use Rattle.golf_marks.specs.Flags.{IsSet}
use Rattle.golf_mark.proofs.notes.set_all.Given as goal

abbrev pub invariant-loop-place : goal.invariant-loop-place
invariant-loop-place l = record {
  size : length l.flags.items ≡ length l.initial.flags.items;
  kept : (p : ℕ) → IsSet l.initial.flags.items p → IsSet l.flags.items p;
  set : (p : ℕ) → p < l.place → IsSet l.others.items p → IsSet l.flags.items p;
}
