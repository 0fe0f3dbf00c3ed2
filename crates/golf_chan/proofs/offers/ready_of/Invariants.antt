use Rattle.std.proofs.Common.{◌≡◌, ◌++◌, drop}
use Rattle.golf_model.specs.Selects.{ready}
use Rattle.golf_chan.specs.Offers.{plain_offers}
use Rattle.golf_chan.proofs.offers.ready_of.Given as goal

-- those so far, and those that are left
abbrev pub invariant-loop-offer : goal.invariant-loop-offer
invariant-loop-offer l = plain_offers l.list
    ++ ready l.state (plain_offers (drop l.offer-index l.offers)) ≡ ready l.state (plain_offers l.offers)
