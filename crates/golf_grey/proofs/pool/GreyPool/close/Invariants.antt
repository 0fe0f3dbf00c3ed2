use Rattle.std.proofs.Common.{◌≡◌, ◌+◌, ◌-◌, ◌≤◌, ℕ, vec_len, length}
use Rattle.golf_grey.specs.Rule.{all_parts}
use Rattle.golf_grey.specs.Hands.{IsStage, AllRows, rows_weight, pushed_in, taken_in}
use Rattle.golf_grey.proofs.pool.GreyPool.close.Given as goal

abbrev pub invariant-loop-row : goal.invariant-loop-row
invariant-loop-row l =
    IsStage l.thieves.items (all_parts - length l.rows.items) (length l.thieves.items) l.owners.items
    × AllRows l.thieves.items l.rows.items
    × (length l.rows.items ≤ length l.thieves.items)
    × ((g : ℕ → ℕ → ℕ) → pushed_in g l.owners.items ≡ pushed_in g l.initial.owners.items)
    × ((g : ℕ → ℕ → ℕ) → taken_in g l.owners.items + rows_weight g l.rows.items ≡ taken_in g l.initial.owners.items
    + rows_weight g l.initial.rows.items)

abbrev pub decreases-loop-row : goal.decreases-loop-row
decreases-loop-row l = vec_len l.rows
