use Rattle.std.proofs.Common.{◌≡◌, ◌+◌, ◌-◌, ◌≤◌, ℕ, List, ◌++◌, length}
use Rattle.std.specs.Prelude.{sum_by}
use Rattle.crossbeam_deque.specs.Handles.{worker_flavor, worker_view}
use Rattle.golf_grey.specs.Rule.{all_parts}
use Rattle.golf_grey.proofs.drain.drain.Given as goal

abbrev pub invariant-loop-place : goal.invariant-loop-place
invariant-loop-place l =
    (worker_flavor l.owner ≡ 0) × ((worker_view l.owner).parts ≡ all_parts)
    × ((worker_view l.owner).pushed ≡ (worker_view l.initial.owner).pushed)
    × ((more : List ℕ) × (l.left.items ≡ l.initial.left.items ++ more)
    × ((f : ℕ → ℕ) → sum_by f more + sum_by f (worker_view l.initial.owner).taken ≡ sum_by f
    (worker_view l.owner).taken))
    × (l.left.spare + length (worker_view l.owner).taken ≡ l.initial.left.spare + length
    (worker_view l.initial.owner).taken)
    × (l.initial.left.spare ≤ l.left.spare + length (worker_view l.owner).pushed)

abbrev pub decreases-loop-place : goal.decreases-loop-place
decreases-loop-place l = length (worker_view l.owner).pushed - length (worker_view l.owner).taken
