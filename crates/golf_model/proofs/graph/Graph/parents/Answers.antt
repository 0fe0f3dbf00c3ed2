use Rattle.std.proofs.Common.{subst}
use Rattle.golf_rows.specs.Rows.{row_of, IsInverseBelow}
use Rattle.golf_model.specs.declared.graph.GraphParts.{GraphParts}
use Rattle.golf_model.specs.Graph.{node_count}
use Rattle.golf_model.proofs.GraphRows.{parents-inverse}
use Rattle.golf_model.proofs.graph.Graph.parents.Goals as goal

pub returns : goal.returns
returns c =
    parents-inverse c.args.self.now c.nodes.result c.in_ok-rows.rows c.nodes.ensures.count
    (subst (λ (g : GraphParts). IsInverseBelow (node_count g) c.nodes.result (row_of g.children) c.in_ok-rows.rows)
    c.self.view_is c.in_ok-rows.ensures)
