use Rattle.std.proofs.Common.{ℕ, List, sym, subst}
use Rattle.golf_tests_support.specs.UnfinishedGraphs.{NodesBelow}
use Rattle.golf_tests_support.proofs.Made.{IsInMaking-sleeper}
use Rattle.golf_tests_support.proofs.graph_maker.GraphMaker.sleeper.Goals as goal

pub invariant_of-result : goal.invariant_of-result
invariant_of-result c =
    let below = λ (xs : List ℕ). NodesBelow c.self.inside.count xs in
    rw c.in_ok-push.ensures.ok
    (IsInMaking-sleeper c.self.inside.count c.self.inside.parts
    (record { goroutine = record { 0 = 0 }; waits = c.as_slice.result.now; references = c.as_slice-2.result.now })
    c.self.invariant
    (subst below (sym c.as_slice.ensures) c.in_ok-waits.ensures.below)
    (subst below (sym c.as_slice-2.ensures) c.in_ok-references.ensures.below))
