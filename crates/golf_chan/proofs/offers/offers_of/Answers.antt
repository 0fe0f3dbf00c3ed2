use Rattle.std.proofs.Common.{◌≡◌, ℕ, ◌+◌, ◌-◌, List, ◌∷◌, ◌++◌, length, take, drop, get_or, Some, sym, ap, ◌∙◌, arith}
use Rattle.std.specs.Prelude.{reverse}
use Rattle.std.proofs.lemmas.List.{length-reverse}
use Rattle.golf_data.specs.declared.value.Value.{Value}
use Rattle.golf_data.specs.declared.code.SelectCase.{SelectCase}
use Rattle.golf_data.specs.declared.code.CaseKind.{CaseKind}
use Rattle.golf_model.specs.Selects.{Taken, take_case, offers_of}
use Rattle.golf_model.proofs.ViewForms.{reverse-push}
use Rattle.golf_chan.specs.Offers.{plain_offer, plain_offers, width_of}
use Rattle.golf_chan.specs.declared.offers.Offer.{Offer}
use Rattle.golf_chan.proofs.Offering.{offers-more, offers-none, reverse-less, reverse-rest, written}
use Rattle.golf_chan.proofs.offers.offers_of.Goals as goal

pub returns-in_default : goal.returns-in_default
returns-in_default c =
    let i : ℕ = c.loop-at.at - 1 in
    let next : c.loop-at.at ≡ i + 1 = omega arith in
    let vs = reverse c.args.operands.now in
    let os = plain_offers (reverse c.loop-at.offers) in
    let d : SelectCase = record { kind = CaseKind.Send; target = 0 } in
    let k : SelectCase = get_or c.args.cases.now i d in
    let later : offers_of (drop (i + 1) c.args.cases.now) vs ≡ Some
    (os, reverse (take c.loop-at.end c.args.operands.now)) =
    ap (λ n. offers_of (drop n c.args.cases.now) vs) (sym next) ∙ c.loop-at.invariant.taken in
    offers-none i c.args.cases.now vs
    (offers-more c.args.cases.now i d vs (os, reverse (take c.loop-at.end c.args.operands.now))
    (omega (arith, c.loop-at.invariant.cases)) later
    ∙ ap (λ (ws : List Value). take_case k k.kind (os, reverse ws)) (sym c.split_at.ensures.front)
    ∙ c.in_default.ensures os)

pub loop-at-preserved : goal.loop-at-preserved
loop-at-preserved c =
    let i : ℕ = c.loop-at.at - 1 in
    let next : c.loop-at.at ≡ i + 1 = omega arith in
    let vs = reverse c.args.operands.now in
    let end = c.loop-at.end in
    let x = c.in-Some.offer in
    let os = plain_offers (reverse c.loop-at.offers) in
    let d : SelectCase = record { kind = CaseKind.Send; target = 0 } in
    let k : SelectCase = get_or c.args.cases.now i d in
    let later : offers_of (drop (i + 1) c.args.cases.now) vs ≡ Some (os, reverse (take end c.args.operands.now)) =
    ap (λ n. offers_of (drop n c.args.cases.now) vs) (sym next) ∙ c.loop-at.invariant.taken in
    record {
      cases = omega (arith, c.loop-at.invariant.cases);
      operands = omega (arith, c.loop-at.invariant.operands, c.saturating_sub-end.ensures);
      taken =
          offers-more c.args.cases.now i d vs (os, reverse (take c.loop-at.end c.args.operands.now))
          (omega (arith, c.loop-at.invariant.cases)) later
          ∙ ap (λ (ws : List Value). take_case k k.kind (os, reverse ws)) (sym c.split_at.ensures.front)
          ∙ c.in-Some.ensures os
          ∙ ap (λ (ws : List Value). let t : Taken = (plain_offer x ∷ os, drop (width_of k.kind) (reverse ws)) in Some
          t) c.split_at.ensures.front
          ∙ ap (λ (ws : List Value). let t : Taken = (plain_offer x ∷ os, ws) in Some t)
          (reverse-less end (width_of k.kind) c.args.operands.now c.loop-at.invariant.operands)
          ∙ ap (λ n. let t : Taken = (plain_offer x ∷ os, reverse (take (end - n) c.args.operands.now)) in Some t)
          (sym c.width_of.ensures)
          ∙ ap (λ n. let t : Taken = (plain_offer x ∷ os, reverse (take n c.args.operands.now)) in Some t)
          (sym c.saturating_sub-end.ensures)
          ∙ ap (λ (ys : List Offer). let t : Taken =
          (plain_offers ys, reverse (take c.saturating_sub-end.result c.args.operands.now)) in Some t)
          (sym (ap reverse c.in_ok-push.ensures.ok ∙ reverse-push c.loop-at.offers x));
    }

pub returns : goal.returns
returns c =
    let xs = c.loop-at.offers in
    let ops = c.args.operands.now in
    let zero : 0 ≡ c.loop-at.at = omega (arith, c.loop-at-test.false) in
    let turned : c.reverse.new.self ≡ reverse xs = c.reverse.ensures.after ∙ ap reverse c.as_mut_slice.ensures.value in
    let count : length c.reverse.new.self ≡ length xs = ap length turned ∙ length-reverse xs in
    ap (λ n. offers_of (drop n c.args.cases.now) (reverse ops)) zero
    ∙ c.loop-at.invariant.taken
    ∙ ap (λ (ys : List Offer). let t : Taken = (plain_offers ys, reverse (take c.loop-at.end ops)) in Some t)
    (sym turned ∙ written xs c.reverse.new.self count)
    ∙ ap (λ (ws : List Value). let t : Taken =
    (plain_offers (take (length xs) (c.reverse.new.self ++ drop (length c.reverse.new.self) xs)), ws) in Some t)
    (reverse-rest c.loop-at.end c.saturating_sub-taken.result ops c.loop-at.invariant.operands
    c.saturating_sub-taken.ensures)
