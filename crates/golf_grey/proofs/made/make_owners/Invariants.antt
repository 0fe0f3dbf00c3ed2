use Rattle.std.proofs.Common.{◌≡◌, vec_len}
use Rattle.golf_grey.specs.Rule.{all_parts}
use Rattle.golf_grey.specs.Hands.{IsStage, AllFresh}
use Rattle.golf_grey.proofs.made.make_owners.Given as goal

abbrev pub invariant-loop-i : goal.invariant-loop-i
invariant-loop-i l = (vec_len l.owners ≡ l._i) × (vec_len l.thieves ≡ l._i)
    × IsStage l.thieves.items all_parts l._i l.owners.items × AllFresh l.capacity l.places l.owners.items
