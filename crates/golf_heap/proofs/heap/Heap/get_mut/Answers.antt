use Rattle.std.proofs.Common.{◌≡◌, ℕ, List, Some, refl, sym, ap, ◌∙◌, arith}
use Rattle.std.specs.Prelude.{IsSome, is_some}
use Rattle.std.proofs.lemmas.Option.{slice_get_within}
use Rattle.golf_data.specs.declared.value.Object.{Object}
use Rattle.golf_theory.specs.Maps.{find, put, rank}
use Rattle.golf_heap.specs.Objects.{NumberedObjects}
use Rattle.golf_heap.specs.Kept.{gathered, keyed}
use Rattle.golf_heap.proofs.Gathering.{Rises-keyed}
use Rattle.golf_heap.proofs.Finding.{present, placed, slot-of, there, found-at}
use Rattle.golf_heap.proofs.Writing.{IsStored-written, view-written}
use Rattle.golf_heap.proofs.heap.Heap.get_mut.Goals as goal

pub rank_of-at-requires : goal.rank_of-at-requires
rank_of-at-requires c = rw c.as_slice.ensures.value
    (Rises-keyed c.self.inside.slots 1 c.self.inside.places.items c.self.invariant.numbers.rises)

pub index-requires : goal.index-requires
index-requires c =
    let h = c.self.inside in
    let some : IsSome (find c.args.id.0 (gathered h.slots h.places.items)) =
    ap (λ (s : NumberedObjects). is_some (find c.args.id.0 s.objects)) c.self.view_is ∙ c.requires in
    let p = present h.slots h.places.items c.args.id.0 c.rank_of-at.result
    (Rises-keyed h.slots 1 h.places.items c.self.invariant.numbers.rises)
    (rw c.as_slice.ensures.value at c.rank_of-at.ensures) some in
    let l = slice_get_within h.places.items c.rank_of-at.result p.0 p.1 in
    omega (arith, l, h.places.ok.0)

pub index_mut-slot-requires : goal.index_mut-slot-requires
index_mut-slot-requires c =
    let h = c.self.inside in
    let some : IsSome (find c.args.id.0 (gathered h.slots h.places.items)) =
    ap (λ (s : NumberedObjects). is_some (find c.args.id.0 s.objects)) c.self.view_is ∙ c.requires in
    let e : c.rank_of-at.result ≡ rank c.args.id.0 (keyed h.places.items) =
    rw c.as_slice.ensures.value at c.rank_of-at.ensures in
    let at = placed h.slots h.places.items c.args.id.0 c.rank_of-at.result c.index.result.now
    c.self.invariant.numbers.rises e some c.index.ensures in
    let x = slot-of h.slots h.places.items c.rank_of-at.result c.index.result.now c.self.invariant.held at.0 in
    ap is_some x.1

pub invariant_of-self-lent : goal.invariant_of-self-lent
invariant_of-self-lent c =
    let h = c.self.inside in
    let some : IsSome (find c.args.id.0 (gathered h.slots h.places.items)) =
    ap (λ (s : NumberedObjects). is_some (find c.args.id.0 s.objects)) c.self.view_is ∙ c.requires in
    let e : c.rank_of-at.result ≡ rank c.args.id.0 (keyed h.places.items) =
    rw c.as_slice.ensures.value at c.rank_of-at.ensures in
    let at = placed h.slots h.places.items c.args.id.0 c.rank_of-at.result c.index.result.now
    c.self.invariant.numbers.rises e some c.index.ensures in
    λ w. IsStored-written h.slots h.places.items h.last c.rank_of-at.result c.index.result.now
    c.index_mut-slot.result.now w c.self.invariant at.0 c.index_mut-slot.ensures.value

pub returns : goal.returns
returns c =
    let h = c.self.inside in
    let some : IsSome (find c.args.id.0 (gathered h.slots h.places.items)) =
    ap (λ (s : NumberedObjects). is_some (find c.args.id.0 s.objects)) c.self.view_is ∙ c.requires in
    let e : c.rank_of-at.result ≡ rank c.args.id.0 (keyed h.places.items) =
    rw c.as_slice.ensures.value at c.rank_of-at.ensures in
    let at = placed h.slots h.places.items c.args.id.0 c.rank_of-at.result c.index.result.now
    c.self.invariant.numbers.rises e some c.index.ensures in
    let key : Some c.index.result.now.key ≡ find c.args.id.0 (keyed h.places.items) =
    there c.args.id.0 c.rank_of-at.result h.places.items c.index.result.now
    (Rises-keyed h.slots 1 h.places.items c.self.invariant.numbers.rises) e at.0 at.1 in (
      (
        refl,
        λ w.
            rw (← c.self.view_is)
            (ap (λ (es : List (ℕ × Object)). record { objects = es; last = h.last })
            (view-written h.slots h.places.items h.last c.rank_of-at.result c.index.result.now
            c.index_mut-slot.result.now w c.self.invariant at.0 c.index_mut-slot.ensures.value)
            ∙ ap (λ (k : ℕ). record { objects = put k w (gathered h.slots h.places.items); last = h.last }) at.1),
      ),
      record {
        writes_back = tt;
        value = rw (← c.self.view_is) (sym (found-at h.slots h.places.items c.args.id.0 c.index.result.now.key
            c.index_mut-slot.result.now key (sym c.index_mut-slot.ensures.value)));
        numbers = rw (← c.self.view_is) c.self.invariant.numbers;
      },
    )
