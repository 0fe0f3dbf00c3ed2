use Rattle.std.proofs.Common.{sym, subst, ◌∙◌}
use Rattle.golf_model.specs.Graph.{IsInRange}
use Rattle.golf_model.specs.declared.graph.GraphParts.{GraphParts}
use Rattle.golf_snapshot.specs.Parts.{live_roots}
use Rattle.golf_snapshot.specs.Stands.{LivesAlike}
use Rattle.golf_snapshot.proofs.LiveComplete.{live-graph}
use Rattle.golf_snapshot.proofs.InRange.{parts-are, live-in_range}
use Rattle.golf_snapshot.proofs.graph.live_graph.Goals as goal

pub new-requires : goal.new-requires
new-requires c =
    let s = c.args.state.now in
    subst IsInRange (sym (parts-are s (live_roots s) c.in_ok-parts.parts c.in_ok-roots.roots c.in_ok-roots.sleepers _
    c.in_ok-parts.ensures.parts c.in_ok-roots.ensures.roots c.in_ok-roots.ensures.sleepers))
    (live-in_range s (c.in_ok-parts.ensures.numbered c.requires) c.requires c.in_ok-roots.sleepers
    c.in_ok-parts.ensures.few c.in_ok-roots.ensures.sleepers)

pub returns-clause-graph : goal.returns-clause-graph
returns-clause-graph c =
    let s = c.args.state.now in
    c.new.ensures ∙ parts-are s (live_roots s) c.in_ok-parts.parts c.in_ok-roots.roots c.in_ok-roots.sleepers _
    c.in_ok-parts.ensures.parts c.in_ok-roots.ensures.roots c.in_ok-roots.ensures.sleepers

pub returns-clause-lives : goal.returns-clause-lives
returns-clause-lives c =
    let s = c.args.state.now in
    subst (λ (g : GraphParts). LivesAlike g s) (sym (returns-clause-graph c))
    (live-graph s (c.in_ok-parts.ensures.numbered c.requires) c.requires)

pub returns-clause-numbered : goal.returns-clause-numbered
returns-clause-numbered c = c.in_ok-parts.ensures.numbered c.requires
