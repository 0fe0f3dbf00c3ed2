use Rattle.std.proofs.Common.{◌≡◌, drop}
use Rattle.golf_model.specs.Selects.{all_on_channels}
use Rattle.golf_chan.specs.Offers.{plain_offers}
use Rattle.golf_chan.proofs.offers.all_on_channels.Given as goal

-- those so far are
abbrev pub invariant-loop-offer : goal.invariant-loop-offer
invariant-loop-offer l = all_on_channels l.state (plain_offers l.offers) ≡ all_on_channels l.state
    (plain_offers (drop l.offer-index l.offers))
