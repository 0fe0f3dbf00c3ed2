use Rattle.std.proofs.Common.{◌≡◌, List, length, take, sym, ap, ◌∙◌, subst, rules, arith}
use Rattle.std.specs.Prelude.{bit_or}
use Rattle.std.specs.Int.{w64, bit_not}
use Rattle.std.specs.Vec.{with_items}
use Rattle.std.proofs.lemmas.List.{with_items_is}
use Rattle.golf_data.specs.declared.value.Value.{Value}
use Rattle.golf_data.specs.Slots.{cleared_slots}
use Rattle.golf_data.specs.Zeros.{AreZeros, AreAllZero, stays_but}
use Rattle.golf_data.specs.FrameValues.{values_of}
use Rattle.golf_data.proofs.Clears.{more_zeros, still_zero, none_dead}
use Rattle.golf_data.proofs.Prefixes.{cleared-size, under-mask, cleared-front, more-bits}
use Rattle.golf_data.proofs.frame_values.FrameValues.clear_under.Goals as goal

-- the values once those that died are cleared
written : (c : goal.After-self-then-dead-ne0-1) → (with_items c.self.inside.values c.clear_bits.new.slots).items
    ≡ cleared_slots (stays_but (bit_not w64 (bit_or c.args.mask c.self.inside.zeros))) c.self.inside.values.items
written c =
    let t = stays_but (bit_not w64 (bit_or c.args.mask c.self.inside.zeros)) in
    let is = c.clear_bits.ensures ∙ ap (λ (vs : List Value). cleared_slots t vs) c.as_mut_slice.ensures.value in
    with_items_is c.self.inside.values c.clear_bits.new.slots
    (ap length is ∙ cleared-size t 0 c.self.inside.values.items ∙ sym c.self.inside.values.ok.0) ∙ is

pub invariant_of-self : goal.invariant_of-self
invariant_of-self c =
    let dead = bit_not w64 (bit_or c.args.mask c.self.inside.zeros) in
    let t = stays_but dead in
    let n = c.self.inside.slots in
    let xs = c.self.inside.values.items in
    let front = ap (λ (vs : List Value). take n vs) (written c) ∙ cleared-front t n xs in
    record {
      within = omega (arith, ap length (written c), cleared-size t 0 xs, c.self.invariant.within);
      zeros = subst (λ (vs : List Value). AreZeros (bit_or c.self.inside.zeros dead) vs) (sym front)
          (more_zeros c.self.inside.zeros dead (take n xs) c.self.invariant.zeros);
      cleared = subst (λ (vs : List Value). AreAllZero c.self.inside.is_cleared vs) (sym front)
          (still_zero t c.self.inside.is_cleared (take n xs) c.self.invariant.cleared);
      beyond = λ i l m. more-bits c.self.inside.zeros dead i (c.self.invariant.beyond i l m);
    }

pub returns-then-dead-ne0 : goal.returns-then-dead-ne0
returns-then-dead-ne0 c =
    rw (← c.self.view_is, written c)
    (under-mask c.args.mask c.self.inside.zeros c.self.inside.slots _ c.self.inside.values.items c.ranges.mask.fits
    (search rules) c.self.invariant.beyond c.self.invariant.zeros)

pub returns-else-dead-ne0 : goal.returns-else-dead-ne0
returns-else-dead-ne0 c =
    let same = none_dead c.args.mask c.self.inside.zeros (take c.self.inside.slots c.self.inside.values.items)
    c.ranges.mask.fits (search rules) c.self.invariant.zeros c.if-dead-ne0.false in
    rw (← c.self.view_is) (λ i. record (values_of c.self.inside) { slots = same i })
