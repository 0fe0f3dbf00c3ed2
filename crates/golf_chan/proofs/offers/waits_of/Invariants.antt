use Rattle.std.proofs.Common.{◌≡◌, ◌++◌, drop}
use Rattle.golf_model.specs.Selects.{offered_waits}
use Rattle.golf_chan.specs.Offers.{plain_offers}
use Rattle.golf_chan.proofs.offers.waits_of.Given as goal

-- those so far, and those that are left
abbrev pub invariant-loop-offer : goal.invariant-loop-offer
invariant-loop-offer l = l.waits ++ offered_waits (plain_offers (drop l.offer-index l.offers)) ≡ offered_waits
    (plain_offers l.offers)
