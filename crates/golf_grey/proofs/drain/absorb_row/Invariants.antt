use Rattle.std.proofs.Common.{◌≡◌, ◌+◌, ◌-◌, ◌≤◌, ℕ, vec_len, length}
use Rattle.golf_grey.specs.Rule.{all_parts}
use Rattle.golf_grey.specs.Hands.{IsStage, RowFits, row_weight, pushed_in, taken_in}
use Rattle.golf_grey.proofs.drain.absorb_row.Given as goal

abbrev pub invariant-loop-pass : goal.invariant-loop-pass
invariant-loop-pass l =
    IsStage l.thieves.items (all_parts - 1 - l.more) (length l.rest.items) l.owners.items
    × RowFits l.thieves.items l.rest.items
    × (length l.rest.items ≤ length l.thieves.items)
    × ((g : ℕ → ℕ → ℕ) → pushed_in g l.owners.items ≡ pushed_in g l.initial.owners.items)
    × ((g : ℕ → ℕ → ℕ) → taken_in g l.owners.items + row_weight g l.rest.items ≡ taken_in g l.initial.owners.items
    + row_weight g l.initial.rest.items)

abbrev pub decreases-loop-pass : goal.decreases-loop-pass
decreases-loop-pass l = vec_len l.rest
