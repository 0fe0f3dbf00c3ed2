use Rattle.std.proofs.Common.{◌<◌, ◌⊎◌, ℕ, List, sym, subst}
use Rattle.golf_theory.specs.Membership.{In}
use Rattle.golf_theory.proofs.Lists.{In-push}
use Rattle.golf_base.specs.Roomy.{Roomy}
use Rattle.golf_model.specs.declared.graph.GraphParts.{GraphParts}
use Rattle.golf_marks.specs.Places.{place_count}
use Rattle.golf_marks.specs.Seats.{graph_in, known}
use Rattle.golf_mark.specs.FinishingScan.{IsPending}
use Rattle.golf_mark.specs.UnderWay.{IsScanned}
use Rattle.golf_mark.proofs.Settling.{settles, settles_less}
use Rattle.golf_mark.proofs.finish.settle_won.Goals as goal

pub scan-requires-clause-place : goal.scan-requires-clause-place
scan-requires-clause-place c =
    let i = subst (λ (l : List ℕ). In c.in-Some.place l) (sym c.in-Some.ensures.items)
    (In-push c.in-Some.place c.pop.new.self.items) in
    subst (λ (d : GraphParts). c.in-Some.place < place_count d) c.requires.graph
    (c.loop-place.invariant.won c.in-Some.place i).0

pub scan-requires-clause-known : goal.scan-requires-clause-known
scan-requires-clause-known c =
    let i = subst (λ (l : List ℕ). In c.in-Some.place l) (sym c.in-Some.ensures.items)
    (In-push c.in-Some.place c.pop.new.self.items) in
    (c.loop-place.invariant.won c.in-Some.place i).1

pub loop-place-smaller : goal.loop-place-smaller
loop-place-smaller c = settles_less c.args.marks.now c.in-Some.place c.loop-place.scanner c.scan.new.scanner
    c.pop.new.self c.in-Some.ensures.items c.scan.ensures.wins

pub loop-place-preserved : goal.loop-place-preserved
loop-place-preserved c =
    settles c.args.marks.now c.in-Some.place c.args.scanner.now c.loop-place.scanner c.scan.new.scanner c.pop.new.self
    c.in-Some.ensures.items c.scan.ensures.wins
    (subst (λ (d : GraphParts). IsScanned d (known c.scan.new.scanner.seat) c.in-Some.place)
    (sym c.requires.graph) c.scan.ensures.scanned) c.loop-place.invariant

pub returns-clause-covered : goal.returns-clause-covered
returns-clause-covered c = λ todo from before p low h.
    subst (λ (r : Roomy ℕ). IsScanned (graph_in c.args.marks.now) (known c.loop-place.scanner.seat) p
    ⊎ (In p r.items ⊎ IsPending todo from p))
    (sym c.in_default.ensures.items.1)
    (c.loop-place.invariant.covered todo from before p low h)
