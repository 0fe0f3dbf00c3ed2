use Rattle.std.proofs.Common.{◌≡◌, ◌-◌, vec_len}
use Rattle.golf_grey.specs.Rule.{all_parts}
use Rattle.golf_grey.specs.Hands.{IsStage, AllFresh, AreNewRows}
use Rattle.golf_grey.proofs.made.make_rows.Given as goal

abbrev pub invariant-loop-made : goal.invariant-loop-made
invariant-loop-made l = IsStage l.thieves.items (all_parts - l.made) l.hands l.owners.items
    × AllFresh l.capacity l.places l.owners.items × (vec_len l.rows ≡ l.made)
    × AreNewRows l.thieves.items l.capacity l.places l.rows.items × (vec_len l.owners ≡ vec_len l.initial.owners)
