use Rattle.std.proofs.Common.{◌<◌, ℕ, refl, sym, ap, subst}
use Rattle.golf_base.specs.Roomy.{Roomy}
use Rattle.golf_model.specs.declared.graph.GraphParts.{GraphParts}
use Rattle.golf_marks.specs.Places.{place_count}
use Rattle.golf_marks.specs.Seats.{known}
use Rattle.golf_mark.specs.UnderWay.{IsScanned}
use Rattle.golf_mark.proofs.Running.{TakesTurns-idle, TakesTurns-own}
use Rattle.golf_mark.proofs.marker.scan_own.Goals as goal

pub scan-requires-clause-place : goal.scan-requires-clause-place
scan-requires-clause-place c =
    subst (λ (d : GraphParts). c.in-Some.place < place_count d) c.requires.graph
    (c.requires.fits.own c.in-Some.place c.in-Some.ensures.items.there).0

pub scan-requires-clause-known : goal.scan-requires-clause-known
scan-requires-clause-known c = (c.requires.fits.own c.in-Some.place c.in-Some.ensures.items.there).1

pub returns-in_default : goal.returns-in_default
returns-in_default c =
    let a = c.args.marker.now in
    TakesTurns-idle c.args.shared.now.marks.now c.args.shared.now.pool.now a c.take.new.self a.hand c.requires.fits
    (ap (λ (r : Roomy ℕ). r.items) c.in_default.ensures.items.1)
    (ap (λ (r : Roomy ℕ). r.spare) c.in_default.ensures.items.1)
    (record { fits = c.requires.fits.hand; pushed = refl; took = λ f. refl; number = refl })

pub returns : goal.returns
returns c =
    TakesTurns-own c.args.shared.now.marks.now c.args.shared.now.pool.now c.in-Some.place c.args.marker.now
    c.take.new.self
    c.scan.new.scanner c.requires.fits c.in-Some.ensures.items c.scan.ensures.wins
    (subst (λ (d : GraphParts). IsScanned d (known c.scan.new.scanner.seat) c.in-Some.place)
    (sym c.requires.graph) c.scan.ensures.scanned)
