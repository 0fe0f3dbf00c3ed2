use Rattle.std.proofs.Common.{◌≡◌, ◌++◌, ◌∷◌, [], List, length, length-append, ap, ◌∙◌, sym, arith}
use Rattle.std.specs.Global.{Vec}
use Rattle.std.specs.Prelude.{sum_by}
use Rattle.golf_grey.specs.declared.hand.GreyHand.{GreyHand}
use Rattle.golf_grey.specs.Hands.{GreyPass, Owner, pushed, took_weight}
use Rattle.golf_grey.proofs.Taking.{taking, taking_none, taken_all, nothing}
use Rattle.golf_grey.proofs.drain.take_apart.Goals as goal

pub take_hand-first-requires : goal.take_hand-first-requires
take_hand-first-requires c = c.requires.hands.2 0 (omega arith) c.requires.some

pub push_reserved-requires : goal.push_reserved-requires
push_reserved-requires c =
    let from = c.take_hand-first.ensures.from in
    let fits = c.requires.hands.1 from.0 c.take_hand-first.result from.1 in
    omega (arith, c.take_hand-first.result.owners.ok.0, ap length fits.no_owner, fits.owner_room, c.requires.some)

pub push_reserved-requires-2 : goal.push_reserved-requires-2
push_reserved-requires-2 c =
    let from = c.take_hand-first.ensures.from in
    let fits = c.requires.hands.1 from.0 c.take_hand-first.result from.1 in
    omega (arith, c.take_hand-first.result.rows.ok.0, ap length fits.no_row, fits.row_room, c.requires.some)

pub loop-number-init : goal.loop-number-init
loop-number-init c =
    let thieves = c.args.thieves.now.items in
    let hands = c.args.hands in
    let first = c.take_hand-first.result in
    let from = c.take_hand-first.ensures.from in
    let fits = c.requires.hands.1 from.0 first from.1 in
    let owners : c.push_reserved.new.self.items ≡ [] ++ first.own ∷ [] = c.push_reserved.ensures.items
    ∙ ap (λ (l : List Owner). l ++ first.own ∷ []) fits.no_owner in
    let rows : c.push_reserved-2.new.self.items ≡ [] ++ first.passes ∷ [] = c.push_reserved-2.ensures.items
    ∙ ap (λ (l : List (Vec GreyPass)). l ++ first.passes ∷ []) fits.no_row in
    record {
      taking = rw (owners, rows, from.2) (taking thieves c.args.capacity c.args.places hands hands [] [] first from.0
          from.1 c.take_hand-first.ensures.number
          (taking_none thieves c.args.capacity c.args.places hands c.requires.hands));
      number = ap length owners;
      owner_room = omega (arith, c.push_reserved.ensures.capacity, fits.owner_room);
      row_room = omega (arith, c.push_reserved-2.ensures.capacity, fits.row_room);
    }

pub take_hand-hand-requires : goal.take_hand-hand-requires
take_hand-hand-requires c = c.loop-number.invariant.taking.numbers c.loop-number.number
    (omega (arith, c.loop-number.invariant.number))
    (omega (arith, c.loop-number-test.true, c.len-number-end.ensures, c.args.thieves.now.ok.0))

pub push_reserved-requires-in-loop-number : goal.push_reserved-requires-in-loop-number
push_reserved-requires-in-loop-number c =
    omega (
      arith,
      c.loop-number.invariant.number,
      c.loop-number.invariant.owner_room,
      c.loop-number-test.true,
      c.len-number-end.ensures,
      c.args.thieves.now.ok.0,
      c.loop-number.owners.ok.0,
    )

pub push_reserved-requires-in-loop-number-2 : goal.push_reserved-requires-in-loop-number-2
push_reserved-requires-in-loop-number-2 c =
    omega (
      arith,
      c.loop-number.invariant.number,
      c.loop-number.invariant.taking.rows_count,
      c.loop-number.invariant.row_room,
      c.loop-number-test.true,
      c.len-number-end.ensures,
      c.args.thieves.now.ok.0,
      c.loop-number.rows.ok.0,
    )

pub loop-number-preserved : goal.loop-number-preserved
loop-number-preserved c =
    let from = c.take_hand-hand.ensures.from in
    let hand = c.take_hand-hand.result in
    record {
      taking = rw (c.push_reserved-in-loop-number.ensures.items, c.push_reserved-in-loop-number-2.ensures.items, from.2)
          (taking c.args.thieves.now.items c.args.capacity c.args.places c.args.hands c.loop-number.rest
          c.loop-number.owners.items c.loop-number.rows.items hand from.0 from.1
          (c.take_hand-hand.ensures.number ∙ sym c.loop-number.invariant.number) c.loop-number.invariant.taking);
      number = omega (
        arith,
        ap length c.push_reserved-in-loop-number.ensures.items,
        length-append c.loop-number.owners.items (hand.own ∷ []),
        c.loop-number.invariant.number,
      );
      owner_room = omega (arith, c.push_reserved-in-loop-number.ensures.capacity, c.loop-number.invariant.owner_room);
      row_room = omega (arith, c.push_reserved-in-loop-number-2.ensures.capacity, c.loop-number.invariant.row_room);
    }

pub returns-clause-stage : goal.returns-clause-stage
returns-clause-stage c = taken_all c.args.thieves.now.items c.args.capacity c.args.places c.args.hands
    c.loop-number.rest c.loop-number.owners.items c.loop-number.rows.items
    (omega (
      arith,
      c.loop-number.invariant.taking.count,
      c.loop-number.invariant.number,
      c.loop-number-test.false,
      c.len-number-end.ensures,
      c.args.thieves.now.ok.0,
    )) c.loop-number.invariant.taking

pub returns-clause-rows : goal.returns-clause-rows
returns-clause-rows c = (
  c.loop-number.invariant.taking.rowed,
  omega (
    arith,
    c.loop-number.invariant.taking.rows_count,
    c.loop-number.invariant.taking.count,
    c.loop-number.invariant.number,
    c.loop-number-test.false,
    c.len-number-end.ensures,
    c.args.thieves.now.ok.0,
  ),
)

pub returns-clause-pushed : goal.returns-clause-pushed
returns-clause-pushed c = λ g.
    let t = c.loop-number.invariant.taking in
    let none : length c.loop-number.rest ≡ 0 =
    omega (
      arith,
      t.count,
      c.loop-number.invariant.number,
      c.loop-number-test.false,
      c.len-number-end.ensures,
      c.args.thieves.now.ok.0,
    ) in
    omega (arith, t.sums_pushed g, nothing (λ (h : GreyHand). sum_by (g h.number) (pushed h)) c.loop-number.rest none)

pub returns-clause-taken : goal.returns-clause-taken
returns-clause-taken c = λ g.
    let t = c.loop-number.invariant.taking in
    let none : length c.loop-number.rest ≡ 0 =
    omega (
      arith,
      t.count,
      c.loop-number.invariant.number,
      c.loop-number-test.false,
      c.len-number-end.ensures,
      c.args.thieves.now.ok.0,
    ) in
    omega (arith, t.sums_taken g, nothing (λ (h : GreyHand). took_weight g h) c.loop-number.rest none)
