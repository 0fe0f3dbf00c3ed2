use Rattle.golf_heap.proofs.Finding.{there, elsewhere, nowhere}
use Rattle.golf_theory.proofs.Readings.{item-at, no_item-at}
use Rattle.golf_heap.proofs.places.key_of.Goals as goal

pub returns-in_err-place : goal.returns-in_err-place
returns-in_err-place c = rw c.from_residual.ensures
    (nowhere c.args.number c.rank_of.result c.args.places.now c.requires c.rank_of.ensures
    (no_item-at c.args.places.now c.rank_of.result c.in_err-place.ensures.lookup))

pub returns-then-place-number : goal.returns-then-place-number
returns-then-place-number c = there c.args.number c.rank_of.result c.args.places.now c.in_ok-place.place.now c.requires
    c.rank_of.ensures (item-at c.args.places.now c.rank_of.result c.in_ok-place.place c.in_ok-place.ensures.lookup)
    c.if-place-number.true

pub returns-else-place-number : goal.returns-else-place-number
returns-else-place-number c = elsewhere c.args.number c.rank_of.result c.args.places.now c.in_ok-place.place.now
    c.requires c.rank_of.ensures (item-at c.args.places.now c.rank_of.result c.in_ok-place.place
    c.in_ok-place.ensures.lookup) c.if-place-number.false
