use Rattle.std.proofs.Common.{ℕ, List, sym, subst}
use Rattle.golf_tests_support.specs.UnfinishedGraphs.{NodesBelow}
use Rattle.golf_tests_support.proofs.Made.{IsInMaking-node}
use Rattle.golf_tests_support.proofs.graph_maker.GraphMaker.node.Goals as goal

pub invariant_of-result : goal.invariant_of-result
invariant_of-result c =
    let below = subst (λ (row : List ℕ). NodesBelow c.self.inside.count row)
    (sym c.as_slice.ensures) c.in_ok-children.ensures.below in
    rw (c.in_ok-push.ensures.ok, c.in_ok-push-2.ensures.ok, c.in_ok-push-3.ensures.ok)
    (IsInMaking-node c.self.inside.count c.self.inside.parts _ c.as_slice.result.now _ c.self.invariant c.len-2.ensures
    below)
