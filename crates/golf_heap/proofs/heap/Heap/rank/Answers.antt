use Rattle.std.proofs.Common.{◌≡◌, ◌+◌, arith, ◌∙◌}
use Rattle.golf_theory.specs.Maps.{rank}
use Rattle.golf_heap.specs.Kept.{gathered}
use Rattle.golf_theory.proofs.Ranks.{few, rank-within}
use Rattle.golf_heap.proofs.Gathering.{Rises-keyed, rank-gathered}
use Rattle.golf_heap.proofs.heap.Heap.rank.Goals as goal

pub rank_of-requires : goal.rank_of-requires
rank_of-requires c = rw c.as_slice.ensures.value
    (Rises-keyed c.self.inside.slots 1 c.self.inside.places.items c.self.invariant.numbers.rises)

pub overflow_cast-result : goal.overflow_cast-result
overflow_cast-result c =
    let h = c.self.inside in
    let es = gathered h.slots h.places.items in
    let l = few 1 (h.last + 1) es (omega arith) c.self.invariant.numbers.rises c.self.invariant.numbers.within in
    let m = rank-within c.args.id.0 es in
    let at : c.rank_of.result ≡ rank c.args.id.0 es = rw c.as_slice.ensures.value at c.rank_of.ensures
    ∙ rank-gathered h.slots c.args.id.0 h.places.items in
    omega (arith, l, m, at)

pub returns : goal.returns
returns c = rw (← c.self.view_is) (rw c.as_slice.ensures.value at c.rank_of.ensures
    ∙ rank-gathered c.self.inside.slots c.args.id.0 c.self.inside.places.items)
