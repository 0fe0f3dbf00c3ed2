use Rattle.std.proofs.Common.{refl}
use Rattle.golf_mark.proofs.Attending.{IsMarkerOf-wins}
use Rattle.golf_mark.proofs.deal.seed.Goals as goal

pub returns : goal.returns
returns c = record {
  fits = IsMarkerOf-wins c.args.marks.now c.args._pool.now c.args.marker.now c.claim.new.scanner c.requires.fits
      c.claim.ensures.wins;
  keeps = record { known = c.claim.ensures.wins.known; parts = c.claim.ensures.wins.parts; number = refl };
  took = λ f. refl;
  there = c.claim.ensures.there;
}
