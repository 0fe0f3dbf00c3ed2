use Rattle.std.proofs.Common.{◌≡◌, ◌+◌, ◌<◌, List, length, refl, sym, ap, ◌∙◌, subst, arith, ⊎_elim}
use Rattle.std.specs.Prelude.{vec_capacity}
use mathlib.Core.Option.{some, some-ne-none}
use lib.ListN.{get_elem?}
use Rattle.golf_grey.specs.declared.hand.GreyHand.{GreyHand}
use Rattle.golf_theory.specs.Membership.{Every}
use Rattle.golf_grey.specs.Hands.{AllHandsIn, IsHandIn, IsNewHand}
use Rattle.golf_grey.proofs.Stages.{push_cases, at_end, longer, every_at}
use Rattle.golf_grey.proofs.Making.{owner_fits, hand_fits}
use Rattle.golf_grey.proofs.Taking.{all_of}
use Rattle.golf_grey.proofs.pool.GreyPool.new.Goals as goal

pub loop-own-init : goal.loop-own-init
loop-own-init c =
    let m = c.in_ok-owners.ensures in
    let r = c.in_ok-rows.ensures in
    let owners : length c.make_rows.new.owners.items ≡ c.args.hands =
    omega (arith, r.len, m.count.0, c.make_rows.new.owners.ok.0) in
    let thieves : length c.in_ok-owners.thieves.items ≡ c.args.hands =
    omega (arith, m.count.1, c.in_ok-owners.thieves.ok.0) in (
      omega (arith, r.rows.0, c.in_ok-rows.rows.ok.0, owners),
      omega (arith, ap (λ (l : List GreyHand). length l) c.in_ok-list.ensures.items, owners, thieves),
      thieves,
      (λ j w d. owner_fits c.in_ok-owners.thieves.items c.make_rows.new.owners.items c.args.capacity c.args.places
          c.args.hands j w (sym thieves) (omega arith) r.stage r.fresh d),
      r.rows.1,
      λ k h d. absurd (some-ne-none h (sym d ∙ ap (λ (l : List GreyHand). get_elem? l k) c.in_ok-list.ensures.items)),
    )

pub make_hand-requires : goal.make_hand-requires
make_hand-requires c =
    let f = c.loop-own.invariant.3 (length c.pop.new.self.items) c.in-Some.own
    (at_end c.loop-own.owners.items c.pop.new.self.items c.in-Some.own _ c.in-Some.ensures.items refl) in
    (f.flavor, omega (arith, f.parts, c.loop-own.invariant.2))

pub loop-own-preserved : goal.loop-own-preserved
loop-own-preserved c =
    let i = c.loop-own.invariant in
    let thieves = c.in_ok-owners.thieves.items in
    let f = i.3 (length c.pop.new.self.items) c.in-Some.own
    (at_end c.loop-own.owners.items c.pop.new.self.items c.in-Some.own _ c.in-Some.ensures.items refl) in
    let r = i.4 (length c.pop-in-Some.new.self.items) c.in-Some-pop.passes
    (at_end c.loop-own.rows.items c.pop-in-Some.new.self.items c.in-Some-pop.passes _ c.in-Some-pop.ensures.items
    refl) in
    let olen : length c.loop-own.owners.items ≡ length c.pop.new.self.items + 1 =
    omega (arith, c.in-Some.ensures.len, c.loop-own.owners.ok.0, c.pop.new.self.ok.0) in
    let rlen : length c.loop-own.rows.items ≡ length c.pop-in-Some.new.self.items + 1 =
    omega (arith, c.in-Some-pop.ensures.len, c.loop-own.rows.ok.0, c.pop-in-Some.new.self.ok.0) in
    let plen : length c.push.new.self.items ≡ length c.loop-own.list.items + 1 =
    omega (arith, c.in_ok-push.ensures.len, c.push.new.self.ok.0, c.loop-own.list.ok.0) in
    let e = c.make_hand.ensures in
    let number : c.len-number.result ≡ length c.pop.new.self.items =
    omega (arith, c.len-number.ensures, c.pop.new.self.ok.0) in
    let h = hand_fits thieves c.args.capacity c.args.places
    (length c.pop.new.self.items) c.make_hand.result c.in-Some.own c.in-Some-pop.passes (record {
      own = e.0;
      passes = e.1;
      number = e.2 ∙ number;
      no_owner = ap (λ v. v.items) e.3 ∙ c.in_ok-spare_owners.ensures.items;
      owner_room = omega (arith, i.2, ap vec_capacity e.3, c.in_ok-spare_owners.ensures.exact);
      no_row = ap (λ v. v.items) e.4 ∙ c.in_ok-spare_rows.ensures.items;
      row_room = omega (arith, i.2, ap vec_capacity e.4, c.in_ok-spare_rows.ensures.exact);
    }) (omega (arith, olen, i.1)) f r.0 r.1 r.2 in (
      omega (arith, i.0, olen, rlen),
      omega (arith, i.1, olen, plen),
      i.2,
      (λ j w d. i.3 j w (longer c.loop-own.owners.items c.pop.new.self.items c.in-Some.own c.in-Some.ensures.items j w
          d)),
      (λ k x d. i.4 k x (longer c.loop-own.rows.items c.pop-in-Some.new.self.items c.in-Some-pop.passes
          c.in-Some-pop.ensures.items k x d)),
      λ k x d. ⊎_elim
          (λ (a : (k < length c.loop-own.list.items) × (get_elem? c.loop-own.list.items k ≡ some x)). i.5 k x a.1)
          (λ (a : (k ≡ length c.loop-own.list.items) × (c.make_hand.result ≡ x)).
          subst (λ (y : GreyHand). IsHandIn thieves c.args.capacity c.args.places y
          × (y.number + k + 1 ≡ length thieves) × IsNewHand y) a.1
          (h.0, omega (arith, e.2, number, a.0, i.1, olen), h.1))
          (push_cases c.loop-own.list.items c.make_hand.result x k
          (subst (λ (l : List GreyHand). get_elem? l k ≡ some x) c.in_ok-push.ensures.items d)),
    )

pub returns-clause-new : goal.returns-clause-new
returns-clause-new c = subst (λ (l : List GreyHand). Every IsNewHand l) (sym c.from_vec.ensures)
    (every_at IsNewHand c.loop-own.list.items (λ k h at. (c.loop-own.invariant.5 k h at).2))

pub returns-clause-all : goal.returns-clause-all
returns-clause-all c =
    let i = c.loop-own.invariant in
    let thieves = c.in_ok-owners.thieves.items in
    subst (λ (l : List GreyHand). AllHandsIn thieves c.args.capacity c.args.places l) (sym c.from_vec.ensures)
    (all_of thieves c.args.capacity c.args.places c.loop-own.list.items
    (omega (arith, i.1, c.in_default.ensures.cases.0, c.loop-own.owners.ok.0)) (λ k h at. (i.5 k h at).0)
    (λ k h at. (i.5 k h at).1))
