use Rattle.std.proofs.Common.{◌≡◌, ◌+◌, ℕ, length}
use mathlib.Core.Option.{some}
use lib.ListN.{get_elem?}
use Rattle.golf_grey.specs.Hands.{Owner, OwnerFits, AreNewRows, IsNewHand, IsHandIn}
use Rattle.golf_grey.specs.declared.hand.GreyHand.{GreyHand}
use Rattle.golf_grey.proofs.pool.GreyPool.new.Given as goal

abbrev pub invariant-loop-own : goal.invariant-loop-own
invariant-loop-own l =
    (length l.rows.items ≡ length l.owners.items)
    × (length l.list.items + length l.owners.items ≡ length l.thieves.items)
    × (length l.thieves.items ≡ l.hands)
    × ((j : ℕ) (w : Owner) → get_elem? l.owners.items j ≡ some w → OwnerFits l.thieves.items l.capacity l.places j w)
    × AreNewRows l.thieves.items l.capacity l.places l.rows.items
    × ((k : ℕ) (h : GreyHand) → get_elem? l.list.items k ≡ some h → IsHandIn l.thieves.items l.capacity l.places h
    × (h.number + k + 1 ≡ length l.thieves.items) × IsNewHand h)

abbrev pub decreases-loop-own : goal.decreases-loop-own
decreases-loop-own l = length l.owners.items
