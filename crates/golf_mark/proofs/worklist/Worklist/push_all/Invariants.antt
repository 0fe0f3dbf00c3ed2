use Rattle.std.proofs.Common.{◌≡◌, ◌+◌, ◌++◌, ◌≤◌, length}
use Rattle.golf_marks.specs.Batches.{batched}
use Rattle.golf_mark.proofs.worklist.Worklist.push_all.Given as goal

abbrev pub invariant-loop-place : goal.invariant-loop-place
invariant-loop-place l = record {
  items : l.self.items ++ batched l.batch ≡ l.initial.self.items ++ batched l.initial.batch;
  room : length (batched l.batch) ≤ l.self.spare;
  spare : l.self.spare + length (batched l.initial.batch) ≡ l.initial.self.spare + length (batched l.batch);
}

abbrev pub decreases-loop-place : goal.decreases-loop-place
decreases-loop-place l = length (batched l.batch)
