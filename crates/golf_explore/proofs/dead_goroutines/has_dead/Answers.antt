use Rattle.std.proofs.Common.{◌≡◌, true, false, subst, sym, ◌∙◌}
use Rattle.golf_theory.specs.Membership.{In}
use Rattle.golf_model.specs.declared.graph.GraphParts.{GraphParts}
use Rattle.golf_mark.specs.MarkingResult.{MarksLeast}
use Rattle.golf_explore.proofs.DeadFlags.{all-live, one-dead}
use Rattle.golf_explore.proofs.dead_goroutines.has_dead.Goals as goal

pub returns-clause-dies : goal.returns-clause-dies
returns-clause-dies c =
    let m = c.in_ok-marked.marked in
    λ yes. one-dead c.args.state.now c.in_ok-graph.ensures.numbered c.requires m
    (subst (λ (p : GraphParts). MarksLeast p m) c.in_ok-graph.ensures.graph c.in_ok-marked.ensures)
    (subst (In false) c.as_slice.ensures (c.has_unset.ensures.0 yes))

pub returns-clause-lives : goal.returns-clause-lives
returns-clause-lives c =
    let m = c.in_ok-marked.marked in
    λ no. all-live c.args.state.now c.in_ok-graph.ensures.numbered c.requires m
    (subst (λ (p : GraphParts). MarksLeast p m) c.in_ok-graph.ensures.graph c.in_ok-marked.ensures)
    (λ i. let yes : c.has_unset.result ≡ true = c.has_unset.ensures.1
    (subst (In false) (sym c.as_slice.ensures) i) in let f = sym yes ∙ no in cc)
