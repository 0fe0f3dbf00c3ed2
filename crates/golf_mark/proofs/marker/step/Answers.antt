use Rattle.std.proofs.Common.{refl, arith}
use Rattle.golf_mark.proofs.Running.{IsMarkerOf-hand, TakesTurns-trans, TakesTurns-idle, TakesTurns-turn}
use Rattle.golf_mark.proofs.marker.step.Goals as goal

pub returns-then-scan_own : goal.returns-then-scan_own
returns-then-scan_own c = TakesTurns-trans c.args.shared.now.marks.now c.args.shared.now.pool.now c.args.marker.now
    c.scan_own.new.marker c.share.new.marker c.scan_own.ensures c.share.ensures

pub returns-in_default : goal.returns-in_default
returns-in_default c =
    let marks = c.args.shared.now.marks.now in
    let pool = c.args.shared.now.pool.now in
    let b = c.scan_own.new.marker in
    TakesTurns-trans marks pool c.args.marker.now b (record b { hand = c.seek.new.hand }) c.scan_own.ensures
    (TakesTurns-idle marks pool b b.scanner.won c.seek.new.hand c.scan_own.ensures.fits refl refl
    (record {
      fits = c.in_default.ensures.hand;
      pushed = c.in_default.ensures.pushed;
      took = λ f. omega (arith, c.in_default.ensures.took f);
      number = c.in_default.ensures.number;
    }))

pub scan_or_defer-requires-clause-fits : goal.scan_or_defer-requires-clause-fits
scan_or_defer-requires-clause-fits c =
    IsMarkerOf-hand c.args.shared.now.marks.now c.args.shared.now.pool.now c.scan_own.new.marker c.seek.new.hand
    c.scan_own.ensures.fits c.in-Some.ensures.hand c.in-Some.ensures.pushed

pub returns : goal.returns
returns c =
    let marks = c.args.shared.now.marks.now in
    let pool = c.args.shared.now.pool.now in
    let b = c.scan_own.new.marker in
    let d = c.scan_or_defer.new.marker in
    let taken = TakesTurns-turn marks pool c.in-Some.place b
    (record b { hand = c.seek.new.hand }) d refl refl c.in-Some.ensures.number c.in-Some.ensures.took
    c.scan_or_defer.ensures in
    TakesTurns-trans marks pool c.args.marker.now b c.share-2.new.marker c.scan_own.ensures
    (TakesTurns-trans marks pool b d c.share-2.new.marker taken c.share-2.ensures)

pub scan_or_defer-requires-clause-place : goal.scan_or_defer-requires-clause-place
scan_or_defer-requires-clause-place c = omega (arith, c.in-Some.ensures.place, c.scan_own.ensures.fits.places)
