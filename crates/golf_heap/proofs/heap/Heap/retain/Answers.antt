use Rattle.std.proofs.Common.{◌≡◌, ℕ, List, length, sym, ap, ◌∙◌, subst}
use Rattle.golf_data.specs.declared.value.Object.{Object}
use Rattle.golf_heap.specs.Objects.{NumberedObjects, IsNumbered}
use Rattle.golf_theory.specs.Flags.{kept}
use Rattle.golf_heap.specs.Kept.{gathered}
use Rattle.golf_heap.proofs.Numbers.{IsNumbered-kept}
use Rattle.golf_heap.proofs.Gathering.{Rises-keyed, length-gathered}
use Rattle.golf_heap.proofs.heap.Heap.retain.Goals as goal

pub free-requires-clause-flags : goal.free-requires-clause-flags
free-requires-clause-flags c =
    rw c.as_slice.ensures.value (c.requires ∙ ap (λ (h : NumberedObjects). length h.objects) (sym c.self.view_is)
    ∙ length-gathered c.self.inside.slots c.self.inside.places.items)

pub free-requires-clause-rises : goal.free-requires-clause-rises
free-requires-clause-rises c = rw c.as_slice.ensures.value
    (Rises-keyed c.self.inside.slots 1 c.self.inside.places.items c.self.invariant.numbers.rises)

pub close_up-requires : goal.close_up-requires
close_up-requires c = c.requires ∙ ap (λ (h : NumberedObjects). length h.objects) (sym c.self.view_is)
    ∙ length-gathered c.self.inside.slots c.self.inside.places.items

pub invariant_of-self : goal.invariant_of-self
invariant_of-self c =
    let h : NumberedObjects = record {
      objects = gathered c.self.inside.slots c.self.inside.places.items;
      last = c.self.inside.last;
    } in
    let same : gathered c.free.new.slots (kept c.args.keep.now c.self.inside.places.items)
    ≡ kept c.args.keep.now h.objects = rw c.as_slice.ensures.value at c.free.ensures.same in
    rw c.close_up.ensures
    (record {
      numbers = subst (λ (es : List (ℕ × Object)). IsNumbered (record { objects = es; last = h.last })) (sym same)
          (IsNumbered-kept h c.args.keep.now c.self.invariant.numbers);
      held = rw c.as_slice.ensures.value at c.free.ensures.held;
      only = rw c.as_slice.ensures.value at c.free.ensures.only;
    })
