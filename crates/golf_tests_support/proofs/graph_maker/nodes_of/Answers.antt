use Rattle.std.proofs.Common.{◌<◌, ◌∙◌, ◌++◌, ◌∷◌, ℕ, List, [], get_or, subst, sym, ap, arith}
use Rattle.std.proofs.lemmas.List.{take_more}
use Rattle.golf_theory.specs.Membership.{Every}
use Rattle.golf_theory.proofs.Lists.{Every-push}
use Rattle.golf_tests_support.proofs.graph_maker.nodes_of.Goals as goal

pub loop-node-preserved : goal.loop-node-preserved
loop-node-preserved c =
    let P : ℕ → Type 0 = λ p. p < c.args.count in
    let nodes = c.args.nodes.now in
    let x : ℕ = get_or nodes c.loop-node.node-index 0 in (
      c.in_ok-push.ensures.ok ∙ ap (λ (l : List ℕ). l ++ x ∷ []) c.loop-node.invariant.0
          ∙ sym (take_more nodes c.loop-node.node-index 0 (omega arith)),
      subst (Every P) (sym c.in_ok-push.ensures.ok)
          (Every-push P c.loop-node.list x c.loop-node.invariant.1 (omega arith)),
    )
