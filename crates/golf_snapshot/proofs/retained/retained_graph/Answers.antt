use Rattle.std.proofs.Common.{ℕ, List, [], map, sym, ap, subst, ◌∙◌}
use Rattle.golf_model.specs.declared.graph.GraphParts.{GraphParts}
use Rattle.golf_model.specs.Graph.{AreNodes}
use Rattle.golf_snapshot.specs.Parts.{live_parts}
use Rattle.golf_snapshot.specs.Stands.{ReachesAlike}
use Rattle.golf_snapshot.proofs.InRange.{sources-in_range}
use Rattle.golf_snapshot.proofs.RetainedLaw.{retained-graph}
use Rattle.golf_snapshot.proofs.retained.retained_graph.Goals as goal

pub without_sleepers-requires : goal.without_sleepers-requires
without_sleepers-requires c =
    let s = c.args.state.now in
    let gone : List ℕ = map (λ g. g.0) c.args.gone.now in
    subst (λ (p : GraphParts). AreNodes p c.in_ok-roots.roots) (sym c.requires.live)
    (subst (λ (l : List ℕ). AreNodes (live_parts s) l) (sym c.in_ok-roots.ensures.roots)
    (sources-in_range s (c.in_ok-roots.ensures.numbered c.requires.whole) c.requires.whole gone))

pub returns-clause-graph : goal.returns-clause-graph
returns-clause-graph c =
    let s = c.args.state.now in
    c.without_sleepers.ensures
    ∙ ap (λ (p : GraphParts). let g : GraphParts = record p { roots = c.in_ok-roots.roots; sleepers = [] } in g)
    c.requires.live
    ∙ ap (λ (l : List ℕ). let g : GraphParts = record (live_parts s) { roots = l; sleepers = [] } in g)
    c.in_ok-roots.ensures.roots

pub returns-clause-reached : goal.returns-clause-reached
returns-clause-reached c =
    let s = c.args.state.now in
    let gone : List ℕ = map (λ g. g.0) c.args.gone.now in
    subst (λ (g : GraphParts). ReachesAlike g s gone) (sym (returns-clause-graph c))
    (retained-graph s gone (c.in_ok-roots.ensures.numbered c.requires.whole) c.requires.whole)

pub returns-clause-numbered : goal.returns-clause-numbered
returns-clause-numbered c = c.in_ok-roots.ensures.numbered c.requires.whole
