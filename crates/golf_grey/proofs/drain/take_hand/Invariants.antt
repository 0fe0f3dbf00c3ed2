use Rattle.std.proofs.Common.{◌≡◌, ◌≢◌, ◌<◌, ℕ}
use mathlib.Core.Option.{some}
use lib.ListN.{get_elem?}
use Rattle.golf_grey.specs.declared.hand.GreyHand.{GreyHand}
use Rattle.golf_grey.proofs.drain.take_hand.Given as goal

abbrev pub invariant-loop-at : goal.invariant-loop-at
invariant-loop-at l = (l.rest ≡ l.initial.rest)
    × ((k : ℕ) (h : GreyHand) → k < l.at → get_elem? l.rest k ≡ some h → h.number ≢ l.number)
