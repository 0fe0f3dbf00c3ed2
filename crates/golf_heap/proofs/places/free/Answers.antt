use Rattle.std.proofs.Common.{◌≡◌, ℕ, suc, ◌-◌, ◌<◌, true, false, length, drop, get_or, Option, arith, sym, ap, subst}
use Rattle.std.proofs.Common.{inl, inr}
use Rattle.std.specs.Prelude.{IsSome}
use Rattle.slab.specs.Slab.{get}
use Rattle.golf_data.specs.declared.value.Object.{Object}
use Rattle.golf_heap.specs.declared.places.ObjectKey.{ObjectKey}
use Rattle.golf_theory.specs.Flags.{kept}
use Rattle.golf_heap.proofs.Order.{held-index}
use Rattle.golf_blocks.proofs.ClosingUp.{kept_more}
use Rattle.golf_heap.proofs.Freeing.{Spared, spared-less, spared-freed, gathered-kept, HoldsPlaces-kept, is-filled}
use Rattle.golf_heap.proofs.places.free.Goals as goal

pub empty-requires : goal.empty-requires
empty-requires c =
    let d : ObjectKey = record { number = 0; key = 0 } in
    let at : ℕ = c.loop-at.at - 1 in
    let within : at < length c.args.places.now = omega (arith, c.loop-at.invariant.within) in
    let filled : IsSome (get c.args.slots.now (get_or c.args.places.now at d).key) =
    is-filled (get_or c.args.places.now at d).number _
    (held-index c.args.slots.now c.args.places.now at d c.requires.held within) in
    subst (λ (o : Option (ℕ × Object)). IsSome o)
    (sym (c.loop-at.invariant.spared at d within (inl (omega arith)))) filled

pub loop-at-preserved-then-not-keep-at : goal.loop-at-preserved-then-not-keep-at
loop-at-preserved-then-not-keep-at c =
    let d : ObjectKey = record { number = 0; key = 0 } in
    let at : ℕ = c.loop-at.at - 1 in
    let next : c.loop-at.at ≡ suc at = omega arith in
    let keep = c.args.keep.now in
    let ps = c.args.places.now in
    let within : at < length ps = omega (arith, c.loop-at.invariant.within) in
    let more = kept_more keep ps at false d (omega (arith, c.requires.flags)) c.requires.flags c.if-not-keep-at.true in
    let spared : Spared c.args.slots.now c.loop-at.slots ps keep (suc at) =
    subst (Spared c.args.slots.now c.loop-at.slots ps keep) next c.loop-at.invariant.spared in
    record {
      within = omega (arith, c.loop-at.invariant.within);
      spared = spared-freed c.args.slots.now c.loop-at.slots c.empty.new.slots ps keep 1 at d (record {
        rises = c.requires.rises;
        held = c.requires.held;
        within = within;
        flag = c.if-not-keep-at.true;
        updates = c.empty.ensures.updates;
      }) spared;
      only = omega (
        arith,
        c.empty.ensures.len,
        c.loop-at.invariant.only,
        ap (λ (n : ℕ). length (kept (drop n keep) (drop n ps))) next,
        ap length more,
      );
    }

pub loop-at-preserved : goal.loop-at-preserved
loop-at-preserved c =
    let d : ObjectKey = record { number = 0; key = 0 } in
    let at : ℕ = c.loop-at.at - 1 in
    let next : c.loop-at.at ≡ suc at = omega arith in
    let keep = c.args.keep.now in
    let ps = c.args.places.now in
    let within : at < length ps = omega (arith, c.loop-at.invariant.within) in
    let more = kept_more keep ps at true d (omega (arith, c.requires.flags)) c.requires.flags c.if-not-keep-at.false in
    record {
      within = omega (arith, c.loop-at.invariant.within);
      spared = spared-less c.args.slots.now c.loop-at.slots ps keep at
          (subst (Spared c.args.slots.now c.loop-at.slots ps keep) next c.loop-at.invariant.spared);
      only = omega (
        arith,
        c.loop-at.invariant.only,
        ap (λ (n : ℕ). length (kept (drop n keep) (drop n ps))) next,
        ap length more,
      );
    }

pub returns-clause-same : goal.returns-clause-same
returns-clause-same c = gathered-kept c.args.slots.now c.loop-at.slots c.args.keep.now c.args.places.now
    (λ i d l f. c.loop-at.invariant.spared i d l (inr f))

pub returns-clause-held : goal.returns-clause-held
returns-clause-held c = HoldsPlaces-kept c.args.slots.now c.loop-at.slots c.args.keep.now c.args.places.now
    (λ i d l f. c.loop-at.invariant.spared i d l (inr f)) c.requires.held
