use Rattle.std.proofs.Common.{ℕ, List, sym, subst}
use Rattle.golf_theory.specs.Membership.{In}
use Rattle.golf_theory.proofs.Lists.{In-push}
use Rattle.golf_model.specs.declared.graph.GraphParts.{GraphParts}
use Rattle.golf_marks.specs.Seats.{known}
use Rattle.golf_mark.specs.UnderWay.{IsScanned}
use Rattle.golf_mark.proofs.Attending.{Attends-scanned, Attends-deferred}
use Rattle.golf_mark.proofs.Winning.{keeps_known, Wins-looked}
use Rattle.golf_mark.proofs.marker.scan_or_defer.Goals as goal

pub scan-requires-clause-fits : goal.scan-requires-clause-fits
scan-requires-clause-fits c =
    let a = c.args.marker.now.scanner in
    (Wins-looked c.args.shared.now.marks.now a c.is_marked.new.seat c.requires.fits.scanner c.is_marked.ensures.same
    (record {
      claimed = c.is_marked.ensures.claimed;
      known = keeps_known a.seat c.is_marked.new.seat c.args.place c.if-is_marked.ensures.known;
    })).fits

pub scan-requires-clause-known : goal.scan-requires-clause-known
scan-requires-clause-known c = subst (λ (l : List ℕ). In c.args.place l) (sym c.if-is_marked.ensures.known)
    (In-push c.args.place (known c.args.marker.now.scanner.seat))

pub returns-then-is_marked : goal.returns-then-is_marked
returns-then-is_marked c =
    Attends-scanned c.args.shared.now.marks.now c.args.shared.now.pool.now c.args.place c.args.marker.now
    c.is_marked.new.seat c.scan.new.scanner
    c.requires.fits c.is_marked.ensures.same
    (record {
      claimed = c.is_marked.ensures.claimed;
      known = keeps_known c.args.marker.now.scanner.seat c.is_marked.new.seat c.args.place
          c.if-is_marked.ensures.known;
    }) c.scan.ensures.wins
    (subst (λ (d : GraphParts). IsScanned d (known c.scan.new.scanner.seat) c.args.place)
    (sym c.requires.graph) c.scan.ensures.scanned)

pub returns : goal.returns
returns c =
    Attends-deferred c.args.shared.now.marks.now c.args.shared.now.pool.now c.args.place c.args.marker.now
    c.is_marked.new.seat c.add.new.self
    c.requires.fits c.is_marked.ensures.same
    (record {
      claimed = c.is_marked.ensures.claimed;
      known = λ p h. subst (λ (l : List ℕ). In p l) (sym c.if-is_marked.ensures.known) h;
    })
    (record { length = c.add.ensures.length; kept = c.add.ensures.kept; noted = c.add.ensures.noted })
