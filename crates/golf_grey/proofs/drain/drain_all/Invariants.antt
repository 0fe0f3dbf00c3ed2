use Rattle.std.proofs.Common.{◌≡◌, ◌+◌, ◌≤◌, ℕ, List, length, vec_len}
use mathlib.Core.Option.{some}
use lib.ListN.{get_elem?}
use Rattle.crossbeam_deque.specs.Handles.{worker_flavor, worker_view}
use Rattle.golf_grey.specs.Rule.{all_parts}
use Rattle.golf_grey.specs.Hands.{Owner, left_in, pushed_in, taken_in}
use Rattle.golf_grey.proofs.drain.drain_all.Given as goal

abbrev pub invariant-loop-owner : goal.invariant-loop-owner
invariant-loop-owner l =
    ((j : ℕ) (w : Owner) → get_elem? l.rest.items j ≡ some w → (worker_flavor w ≡ 0)
    × ((worker_view w).parts ≡ all_parts))
    × (pushed_in (λ _ _. 1) l.rest.items ≤ l.left.spare)
    × ((sources : List ℕ) × (length sources ≡ length l.left.items)
    × ((g : ℕ → ℕ → ℕ) → left_in g sources l.left.items + taken_in g l.initial.rest.items + pushed_in g l.rest.items
    ≡ pushed_in g l.initial.rest.items + taken_in g l.rest.items))

abbrev pub decreases-loop-owner : goal.decreases-loop-owner
decreases-loop-owner l = vec_len l.rest
