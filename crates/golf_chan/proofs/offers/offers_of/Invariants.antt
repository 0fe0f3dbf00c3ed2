use Rattle.std.proofs.Common.{◌≡◌, ◌≤◌, length, take, drop, Some}
use Rattle.std.specs.Prelude.{reverse}
use Rattle.golf_model.specs.Selects.{offers_of}
use Rattle.golf_chan.specs.Offers.{plain_offers}
use Rattle.golf_chan.proofs.offers.offers_of.Given as goal

-- the later cases have taken their operands
abbrev pub invariant-loop-at : goal.invariant-loop-at
invariant-loop-at l = record {
  cases : l.at ≤ length l.cases;
  operands : l.end ≤ length l.operands;
  taken : offers_of (drop l.at l.cases) (reverse l.operands) ≡ Some
      (plain_offers (reverse l.offers), reverse (take l.end l.operands));
}

abbrev pub decreases-loop-at : goal.decreases-loop-at
decreases-loop-at l = l.at
