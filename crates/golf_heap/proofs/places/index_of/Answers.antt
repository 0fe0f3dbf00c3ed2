use Rattle.std.proofs.Common.{sym, ap, ◌∙◌, arith}
use Rattle.std.specs.Prelude.{option_map}
use Rattle.std.proofs.lemmas.Option.{slice_get-map}
use Rattle.golf_heap.specs.declared.places.ObjectKey.{ObjectKey}
use Rattle.golf_heap.specs.Kept.{keyed}
use Rattle.golf_theory.proofs.Readings.{item-at}
use Rattle.golf_theory.proofs.Guesses.{rank-there}
use Rattle.golf_heap.proofs.places.index_of.Goals as goal

pub returns-then-place-number : goal.returns-then-place-number
returns-then-place-number c =
    let ps = c.args.places.now in
    let p = c.in_ok-place.place.now in
    let i = c.in_ok-index.index in
    let here = slice_get-map (λ (q : ObjectKey). (q.number, q.key)) ps i
    ∙ ap (option_map (λ (q : ObjectKey). (q.number, q.key)))
    (item-at ps i c.in_ok-place.place c.in_ok-place.ensures.lookup) in
    sym (rank-there c.args.number i (keyed ps) (p.number, p.key) c.requires here c.if-place-number.true
    (let e = c.in_ok-index.ensures in omega (arith, e.0, e.1)))
