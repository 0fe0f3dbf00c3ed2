use Rattle.std.proofs.Common.{ℕ, ◌+◌, ◌<◌, ◌≡◌, ◌∙◌, List, arith, sym, subst}
use Rattle.std.specs.Prelude.{◌↔◌}
use Rattle.golf_theory.specs.Membership.{In}
use Rattle.golf_model.specs.Graph.{node_count}
use Rattle.golf_final.specs.KeepRule.{Prevents}
use Rattle.golf_final.proofs.Parts.{more-members, same-members}
use Rattle.golf_final.proofs.keep_rule.preventing.Goals as goal
use Rattle.golf_final.proofs.keep_rule.preventing.Goals.{then-prevents+in_ok-push, else-prevents}

pub loop-node-preserved : goal.loop-node-preserved
loop-node-preserved c =
    let P : ℕ → Type 0 = Prevents c.args.graph.now c.args.flags.now c.args.sets_finalisers in
    elim c.if-prevents.branch [
      | then-prevents+in_ok-push w ↦
          subst (λ (xs : List ℕ). (p : ℕ) → In p xs ↔ ((p < c.loop-node.node + 1) × P p))
          (sym (w.nodes-is ∙ w.in_ok-push.ensures.ok))
          (more-members P c.loop-node.nodes c.loop-node.node
          (c.prevents.ensures.0 w.if-prevents.true) c.loop-node.invariant)
      | else-prevents w ↦
          subst (λ (xs : List ℕ). (p : ℕ) → In p xs ↔ ((p < c.loop-node.node + 1) × P p)) (sym w.nodes-is)
          (same-members P c.loop-node.nodes c.loop-node.node
          (λ h. let yes = c.prevents.ensures.1 h in let no = w.if-prevents.false in cc) c.loop-node.invariant)
    ]

pub returns : goal.returns
returns c =
    let all : c.loop-node.node ≡ node_count c.args.graph.now = omega (arith, c.nodes-node-end.ensures.count) in
    subst (λ (n : ℕ). (p : ℕ) → In p c.loop-node.nodes
    ↔ ((p < n) × Prevents c.args.graph.now c.args.flags.now c.args.sets_finalisers p)) all c.loop-node.invariant
