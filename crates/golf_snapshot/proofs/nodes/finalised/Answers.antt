use Rattle.std.proofs.Common.{arith, ap, ◌∙◌, ◌++◌, ◌∷◌, [], ℕ, map, Bool}
use Rattle.golf_data.specs.declared.value.Object.{Object}
use Rattle.golf_model.specs.Refs.{has_finaliser}
use Rattle.golf_snapshot.proofs.Stepping.{entry-of-key, map-next, map-done}
use Rattle.golf_heap.specs.Objects.{NumberedObjects}
use Rattle.golf_snapshot.proofs.nodes.finalised.Goals as goal

pub loop-rank-preserved : goal.loop-rank-preserved
loop-rank-preserved c =
    let objects = c.heap-heap.result.now.objects in
    let e = entry-of-key objects c.loop-rank.rank c.at.result.0 c.at.ensures in
    map-next (λ (d : ℕ × Object). has_finaliser c.args.state.now d.0) objects c.loop-rank.rank
    (c.at.result.0, e.0) c.loop-rank.flags c.push.new.self e.1 c.loop-rank.invariant
    (c.in_ok-push.ensures.ok ∙ ap (λ (b : Bool). c.loop-rank.flags ++ b ∷ []) c.has_finaliser.ensures)

pub returns : goal.returns
returns c =
    let s = c.args.state.now in
    map-done (λ (d : ℕ × Object). has_finaliser s d.0) c.heap-heap.result.now.objects c.loop-rank.rank c.loop-rank.flags
    (omega arith) c.loop-rank.invariant
    ∙ ap (λ (h : NumberedObjects). map (λ (d : ℕ × Object). has_finaliser s d.0) h.objects) c.heap-heap.ensures.objects
