use Rattle.std.proofs.Common.{◌≡◌, ℕ, suc, ◌+◌, ◌<◌, ◌++◌, List, ◌∷◌, [], length, drop, take, Some, refl, sym, ap, ◌∙◌}
use Rattle.std.proofs.Common.{subst, arith, slice_get, get_or}
use Rattle.std.proofs.lemmas.Option.{slice_get-get_or}
use Rattle.golf_data.specs.declared.value.Object.{Object}
use Rattle.golf_theory.specs.Maps.{Rises, add}
use Rattle.golf_heap.specs.Kept.{gathered, keyed}
use Rattle.golf_heap.specs.Objects.{NumberedObjects}
use Rattle.golf_heap.proofs.Copying.{objects-more, next-above}
use Rattle.golf_heap.proofs.heap.Heap.append_copies.Goals as goal

pub loop-place-preserved : goal.loop-place-preserved
loop-place-preserved c =
    let ps = c.args.places.now in
    let i = c.loop-place.place-index in
    let p = get_or ps i _ in
    let r = slice_get-get_or ps i _ c.loop-place-test.true in
    let n = next-above (c.loop-place.self.last + 1) ps i p r c.loop-place.invariant.above in
    record {
      objects = ap (λ (h : NumberedObjects). h.objects) c.in_ok-append.ensures.ok
          ∙ objects-more c.args.slots.now ps i p c.loop-place.self.objects c.args.self.now.objects c.in_ok-object.object r
          c.in_ok-object.ensures c.loop-place.invariant.objects;
      above = subst (λ (m : ℕ). Rises (m + 1) (keyed (drop (i + 1) ps)))
          (sym (ap (λ (h : NumberedObjects). h.last) c.in_ok-append.ensures.ok)) n.1;
    }
