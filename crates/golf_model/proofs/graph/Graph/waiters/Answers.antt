use Rattle.std.proofs.Common.{map, ap, ◌∙◌}
use Rattle.golf_model.specs.Sleepers.{Sleeper}
use Rattle.golf_model.specs.declared.graph.GraphParts.{GraphParts}
use Rattle.golf_model.proofs.GraphRows.{waiters-inverse, waits-below}
use Rattle.golf_model.proofs.graph.Graph.waiters.Goals as goal

pub inverse-requires-clause-below : goal.inverse-requires-clause-below
inverse-requires-clause-below c =
    waits-below c.args.self.now c.nodes.result c.all_waits.result.now c.nodes.ensures.in_range
    (c.all_waits.ensures ∙ ap (λ (g : GraphParts). map (λ (x : Sleeper). x.waits) g.sleepers) c.self.view_is)
    c.nodes.ensures.count

pub returns : goal.returns
returns c =
    waiters-inverse c.args.self.now c.nodes.result c.all_waits.result.now c.in_ok-rows.rows
    (c.all_waits.ensures ∙ ap (λ (g : GraphParts). map (λ (x : Sleeper). x.waits) g.sleepers) c.self.view_is)
    c.nodes.ensures.count c.in_ok-rows.ensures
