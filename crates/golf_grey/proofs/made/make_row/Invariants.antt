use Rattle.std.proofs.Common.{◌≡◌, ◌-◌, ℕ, length}
use Rattle.golf_grey.specs.Rule.{all_parts}
use Rattle.golf_grey.specs.Hands.{IsStage, AllFresh, RowFits, RowIsNew, row_weight}
use Rattle.golf_grey.proofs.made.make_row.Given as goal

abbrev pub invariant-loop-j : goal.invariant-loop-j
invariant-loop-j l = IsStage l.thieves.items (all_parts - 1 - l.made) l.j l.owners.items
    × AllFresh l.capacity l.places l.owners.items × RowFits l.thieves.items l.row.items × (length l.row.items ≡ l.j)
    × ((g : ℕ → ℕ → ℕ) → row_weight g l.row.items ≡ 0) × (length l.owners.items ≡ length l.initial.owners.items)
    × RowIsNew l.capacity l.places l.row.items
