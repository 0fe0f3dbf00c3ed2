use Rattle.std.proofs.Common.{List, [], ap, subst, sym, ◌∙◌}
use Rattle.golf_model.specs.Graph.{AreNodes, IsInRange}
use Rattle.golf_model.specs.declared.graph.GraphParts.{GraphParts}
use Rattle.golf_model.specs.Sleepers.{Sleeper}
use Rattle.golf_model.proofs.GraphRanges.{without-in_range}
use Rattle.golf_model.proofs.graph.Graph.without_sleepers.Goals as goal

pub invariant_of-self : goal.invariant_of-self
invariant_of-self c =
    let g = c.self.inside.parts in
    let nodes : AreNodes g c.args.roots = subst (λ (p : GraphParts). AreNodes p c.args.roots)
    (sym c.self.view_is) c.requires in
    subst (λ (xs : List Sleeper). IsInRange (record g { roots = c.args.roots; sleepers = xs })) (sym c.new-none.ensures)
    (without-in_range g c.args.roots c.self.invariant nodes)

pub returns : goal.returns
returns c =
    let g = c.self.inside.parts in
    ap (λ (xs : List Sleeper). let h : GraphParts = record g { roots = c.args.roots; sleepers = xs } in h)
    c.new-none.ensures
    ∙ ap (λ (p : GraphParts). let h : GraphParts = record p { roots = c.args.roots; sleepers = [] } in h) c.self.view_is
