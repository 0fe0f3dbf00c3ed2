use Rattle.std.proofs.Common.{ℕ, ◌+◌, ◌<◌, Bool, List, length, ap, sym, subst, rules, arith}
use Rattle.std.specs.Prelude.{◌↔◌, IsTrue}
use Rattle.std.proofs.lemmas.List.{length_push}
use Rattle.golf_marks.specs.Flags.{IsSet}
use Rattle.golf_model.specs.declared.graph.GraphParts.{GraphParts}
use Rattle.golf_mark.specs.MarkingResult.{MarksLeast}
use Rattle.golf_final.specs.KeepRule.{IsKept, HasKept}
use Rattle.golf_final.proofs.KeepLaw.{keeps-alike}
use Rattle.golf_final.specs.Backward.{IsBackward}
use Rattle.golf_final.proofs.Parts.{more-flags}
use Rattle.golf_final.proofs.Leading.{kept-alike}
use Rattle.golf_final.proofs.keep_rule.keeps.Goals as goal

pub loop-sleeper-preserved : goal.loop-sleeper-preserved
loop-sleeper-preserved c =
    let g = c.args.graph.now in
    let m = c.args.marked.now in
    let leading = c.in_ok-leading.leading in
    let s : ℕ = c.loop-sleeper.sleeper in
    let back : IsBackward g m.flags c.args.sets_finalisers c.in_ok-backward.backward =
    subst (λ (bs : List Bool). IsBackward g bs c.args.sets_finalisers c.in_ok-backward.backward) c.as_slice.ensures
    c.in_ok-backward.ensures.backward in
    let alike = kept-alike g m c.args.sets_finalisers c.in_ok-backward.backward leading
    c.in_ok-backward.ensures.in_range c.requires.nodes back c.in_ok-leading.ensures s in
    let asked = rw c.as_slice-flags.ensures at rw c.as_slice-in-loop-sleeper.ensures at rw
    c.references-references.ensures at c.is_kept.ensures in
    let last : IsTrue c.is_kept.result ↔ IsKept g m c.args.sets_finalisers s =
    (λ yes. alike.0 (asked.0 yes), λ kept. asked.1 (alike.1 kept)) in
    record {
      count = omega (
        arith,
        ap length c.in_ok-push.ensures.ok,
        length_push c.loop-sleeper.kept c.is_kept.result,
        c.loop-sleeper.invariant.count,
      );
      flags = subst (λ (bs : List Bool). (t : ℕ) → t < s + 1 → IsSet bs t ↔ IsKept g m c.args.sets_finalisers t)
          (sym c.in_ok-push.ensures.ok)
          (more-flags (IsKept g m c.args.sets_finalisers) c.loop-sleeper.kept s c.is_kept.result
          c.loop-sleeper.invariant.count last c.loop-sleeper.invariant.flags);
    }

pub returns-clause-kept : goal.returns-clause-kept
returns-clause-kept c = search rules

pub returns-clause-rule : goal.returns-clause-rule
returns-clause-rule c = λ s n w is marks.
    let g = c.args.graph.now in
    let m = c.args.marked.now in
    let sets = c.args.sets_finalisers in
    keeps-alike s m sets c.loop-sleeper.kept n w (subst (λ (p : GraphParts). MarksLeast p m) is marks)
    (subst (λ (p : GraphParts). HasKept p m sets c.loop-sleeper.kept) is (returns-clause-kept c))
