use Rattle.std.proofs.Common.{◌≡◌, ℕ, ◌<◌, length, get_or}
use Rattle.golf_marks.specs.Flags.{IsSet}
use Rattle.golf_mark.proofs.notes.Notes.add_all.Given as goal

abbrev pub invariant-loop-place : goal.invariant-loop-place
invariant-loop-place l = record {
  size : length l.self ≡ length l.initial.self;
  kept : (p : ℕ) → IsSet l.initial.self p → IsSet l.self p;
  noted : (k : ℕ) → k < l.place-index → get_or l.places k 0 < length l.initial.self
      → IsSet l.self (get_or l.places k 0);
}
