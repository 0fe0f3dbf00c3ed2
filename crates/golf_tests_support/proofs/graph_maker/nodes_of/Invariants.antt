use Rattle.std.proofs.Common.{◌≡◌, ◌<◌, take}
use Rattle.golf_theory.specs.Membership.{Every}
use Rattle.golf_tests_support.proofs.graph_maker.nodes_of.Given as goal

-- those so far
abbrev pub invariant-loop-node : goal.invariant-loop-node
invariant-loop-node l = (l.list ≡ take l.node-index l.nodes) × Every (λ p. p < l.count) l.list
