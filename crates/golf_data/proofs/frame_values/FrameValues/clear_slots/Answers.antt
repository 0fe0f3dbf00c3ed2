use Rattle.std.proofs.Common.{◌≡◌, List, false, length, take, Some, slice_get, sym, ap, ◌∙◌, subst, arith}
use Rattle.std.specs.Vec.{with_items}
use Rattle.std.proofs.lemmas.List.{with_items_is, length-take-le}
use Rattle.golf_data.specs.declared.value.Value.{Value}
use Rattle.golf_data.specs.Slots.{cleared_slots}
use Rattle.golf_data.specs.Zeros.{stays_until}
use Rattle.golf_data.specs.FrameValues.{values_of}
use Rattle.golf_data.proofs.Clears.{gone, zero_stays, until_end}
use Rattle.golf_data.proofs.Prefixes.{cleared-size, cleared-front, all-slots}
use Rattle.golf_data.proofs.frame_values.FrameValues.clear_slots.Goals as goal

pub returns-then-self : goal.returns-then-self
returns-then-self c =
    let same = zero_stays c.self.inside.is_cleared (take c.self.inside.slots c.self.inside.values.items)
    c.self.invariant.cleared c.if-self.true in
    rw (← c.self.view_is) (λ i. record (values_of c.self.inside) { slots = same i })

-- the values once the slots are cleared
written : (c : goal.After-self-3-1) → (with_items c.self.inside.values c.clear_first.new.slots).items
    ≡ cleared_slots (stays_until c.self.inside.slots (λ i. false)) c.self.inside.values.items
written c =
    let t = stays_until c.self.inside.slots (λ i. false) in
    let is = c.clear_first.ensures ∙ ap (λ (vs : List Value). cleared_slots t vs) c.as_mut_slice.ensures.value in
    with_items_is c.self.inside.values c.clear_first.new.slots
    (ap length is ∙ cleared-size t 0 c.self.inside.values.items ∙ sym c.self.inside.values.ok.0) ∙ is

-- and the slots among them
front : (c : goal.After-self-3-1) → take c.self.inside.slots (with_items c.self.inside.values c.clear_first.new.slots).items
    ≡ cleared_slots (λ i. false) (take c.self.inside.slots c.self.inside.values.items)
front c =
    let n = c.self.inside.slots in
    let xs = c.self.inside.values.items in
    let size = length-take-le n xs c.self.invariant.within in
    ap (λ (vs : List Value). take n vs) (written c) ∙ cleared-front (stays_until n (λ i. false)) n xs
    ∙ until_end n (take n xs) (omega (arith, size))

pub invariant_of-self : goal.invariant_of-self
invariant_of-self c =
    let n = c.self.inside.slots in
    let xs = c.self.inside.values.items in
    record {
      within = omega (
        arith,
        ap length (written c),
        cleared-size (stays_until n (λ i. false)) 0 xs,
        c.self.invariant.within,
      );
      zeros = λ i v l t e. gone (take n xs) i v (subst (λ (vs : List Value). slice_get vs i ≡ Some v) (front c) e);
      cleared = λ k i v e. gone (take n xs) i v (subst (λ (vs : List Value). slice_get vs i ≡ Some v) (front c) e);
      beyond = λ i l m. c.ones_from-self-inside.ensures.all i l (omega arith);
    }

pub returns : goal.returns
returns c =
    rw (← c.self.view_is, written c) (all-slots c.self.inside.slots _ c.self.inside.values.items c.self.invariant.within)
