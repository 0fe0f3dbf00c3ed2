use Rattle.std.proofs.Common.{arith, refl, ap, subst, ◌≡◌, ◌≤◌, ◌∙◌, ◌++◌, List, ℕ, length, Some, slice_get}
use Rattle.std.proofs.lemmas.List.{take_all}
use Rattle.golf_theory.specs.Maps.{keys, Rises}
use Rattle.golf_theory.proofs.MapOrder.{Rises-less}
use Rattle.golf_data.specs.declared.value.Object.{Object}
use Rattle.golf_model.specs.Refs.{has_finaliser}
use Rattle.golf_snapshot.proofs.Stepping.{gather-next}
use Rattle.golf_snapshot.proofs.Gathering.{TestedObjects, tested_objects-append}
use Rattle.golf_heap.specs.Objects.{NumberedObjects}
use Rattle.golf_snapshot.proofs.nodes.add_finalised.Goals as goal

pub loop-rank-preserved : goal.loop-rank-preserved
loop-rank-preserved c =
    let s = c.args.state.now in
    gather-next (TestedObjects s.objects (has_finaliser s)) refl
    (tested_objects-append s.objects (has_finaliser s)) c.args.nodes.now c.loop-rank.nodes
    c.add_if_finalised.new.nodes s.objects c.loop-rank.rank c.at.result.0
    (Rises-less 0 1 s.objects (omega arith)
    (subst (λ (h : NumberedObjects). Rises 1 h.objects) c.heap-heap.ensures.objects
    c.count-rank-end.ensures.numbers.rises))
    (subst (λ (h : NumberedObjects). slice_get (keys h.objects) c.loop-rank.rank ≡ Some c.at.result.0)
    c.heap-heap.ensures.objects c.at.ensures) c.loop-rank.invariant c.in_ok-add_if_finalised.ensures

pub returns : goal.returns
returns c =
    let s = c.args.state.now in
    let n : length s.objects ≤ c.loop-rank.rank =
    omega (arith, ap (λ (h : NumberedObjects). length h.objects) c.heap-heap.ensures.objects) in
    c.loop-rank.invariant ∙ ap (λ (es : List (ℕ × Object)). c.args.nodes.now
    ++ TestedObjects s.objects (has_finaliser s) es) (take_all c.loop-rank.rank s.objects n)
