-- Slots that are the first values of a list.
-- For: `clear_under`, `clear_slots` and `set`, src/frame_values.rt
-- By: induction over the list of values
use Rattle.std.proofs.Common.{◌≡◌, ℕ, zero, suc, ◌+◌, ◌^◌, ◌<◌, ◌≤◌, Bool, true, false, cond, ◌||◌, List, [], ◌∷◌}
use Rattle.std.proofs.Common.{length, take, drop, Some, refl, ap, ◌∙◌, arith, slice_set}
use Rattle.std.specs.Prelude.{bit_or}
use Rattle.std.specs.Int.{w64, bit_not}
use Rattle.std.proofs.lemmas.Nat.{or_lt}
use Rattle.std.proofs.lemmas.Nat.Bits.{bit_at-lt, bit_at_not}
use Rattle.std.proofs.lemmas.Bool.{le-leb}
use Rattle.std.proofs.lemmas.Bool.Decides.{nat_tests}
use Rattle.std.proofs.lemmas.List.{drop-set-lt, length-take-le}
use Rattle.std.proofs.Math.Seq.{take-set-lt}
use Rattle.golf_data.specs.declared.value.Value.{Value}
use Rattle.golf_data.specs.Masks.{has_bit, stays_under}
use Rattle.golf_data.specs.Slots.{cleared_from, cleared_slots}
use Rattle.golf_data.specs.Zeros.{AreZeros, stays_but, stays_until}
use Rattle.golf_data.specs.FrameValues.{SlotsAndOperands}
use Rattle.golf_data.proofs.Masks.{has_bit-or}
use Rattle.golf_data.proofs.Clears.{none, all-stay, under_is, until_end}

later : (k i : ℕ) → k + 1 + i ≡ k + suc i
later k i = omega arith

whole : (i : ℕ) → 0 + i ≡ i
whole i = omega arith

pub cleared-size : (t : ℕ → Bool) (k : ℕ) (vs : List Value) → length (cleared_from t k vs) ≡ length vs
cleared-size t k [] = refl
cleared-size t k (v ∷ vs) = ap suc (cleared-size t (k + 1) vs)

take-cleared : (t : ℕ → Bool) (k n : ℕ) (vs : List Value) → take n (cleared_from t k vs) ≡ cleared_from t k (take n vs)
take-cleared t k zero [] = refl
take-cleared t k zero (v ∷ vs) = refl
take-cleared t k (suc n) [] = refl
take-cleared t k (suc n) (v ∷ vs) = ap (λ (ws : List Value). cond (t k) v none ∷ ws) (take-cleared t (k + 1) n vs)

pub cleared-front : (t : ℕ → Bool) (n : ℕ) (vs : List Value) → take n (cleared_slots t vs) ≡ cleared_slots t (take n vs)
cleared-front t n vs = take-cleared t 0 n vs

drop-cleared : (t : ℕ → Bool) (k n : ℕ) (vs : List Value) → ((i : ℕ) → n ≤ i → t (k + i) ≡ true)
    → drop n (cleared_from t k vs) ≡ drop n vs
drop-cleared t k zero vs h = all-stay t k vs (λ i l. h i (omega arith))
drop-cleared t k (suc n) [] h = refl
drop-cleared t k (suc n) (v ∷ vs) h = drop-cleared t (k + 1) n vs (λ i l. rw later (h (suc i) (omega (arith, l))))

-- the bits beyond the slots are set, so nothing beyond them is cleared
beyond-stays : (mask zeros n i : ℕ) → mask < 2 ^ 64 → zeros < 2 ^ 64
    → ((j : ℕ) → j < 64 → n ≤ j → has_bit zeros j ≡ true) → n ≤ i
    → stays_but (bit_not w64 (bit_or mask zeros)) i ≡ true
beyond-stays mask zeros n i m z h l =
    let word = bit_or mask zeros in
    let turned = bit_at_not w64 word i (or_lt 64 mask zeros m z) in
    grind (arith, nat_tests, turned, bit_at-lt word i, has_bit-or mask zeros i, h i)

-- a bit that is set stays so
pub more-bits : (zeros dead i : ℕ) → has_bit zeros i ≡ true → has_bit (bit_or zeros dead) i ≡ true
more-bits zeros dead i h = has_bit-or zeros dead i ∙ ap (λ b. b || has_bit dead i) h

-- the slots and operands after the slots under a mask were cleared
pub under-mask : (mask zeros n spare : ℕ) (vs : List Value) → mask < 2 ^ 64 → zeros < 2 ^ 64
    → ((j : ℕ) → j < 64 → n ≤ j → has_bit zeros j ≡ true) → AreZeros zeros (take n vs)
    → ◌≡◌ {A = SlotsAndOperands} (record {
      slots = take n (cleared_slots (stays_but (bit_not w64 (bit_or mask zeros))) vs);
      operands = drop n (cleared_slots (stays_but (bit_not w64 (bit_or mask zeros))) vs);
      spare = spare;
    }) (record {
      slots = cleared_slots (stays_under (Some mask)) (take n vs);
      operands = drop n vs;
      spare = spare;
    })
under-mask mask zeros n spare vs m z beyond zero_ones =
    let t = stays_but (bit_not w64 (bit_or mask zeros)) in
    let front = take-cleared t 0 n vs ∙ under_is mask zeros (take n vs) m z zero_ones in
    let back = drop-cleared t 0 n vs (λ i l. rw whole (beyond-stays mask zeros n i m z beyond l)) in
    λ i. record { slots = front i; operands = back i; spare = spare }

-- and after all slots were
pub all-slots : (n spare : ℕ) (vs : List Value) → n ≤ length vs → ◌≡◌ {A = SlotsAndOperands} (record {
  slots = take n (cleared_slots (stays_until n (λ i. false)) vs);
  operands = drop n (cleared_slots (stays_until n (λ i. false)) vs);
  spare = spare;
}) (record { slots = cleared_slots (λ i. false) (take n vs); operands = drop n vs; spare = spare })
all-slots n spare vs l =
    let t = stays_until n (λ i. false) in
    let size = length-take-le n vs l in
    let front = take-cleared t 0 n vs ∙ until_end n (take n vs) (omega (arith, size)) in
    let back = drop-cleared t 0 n vs (λ i m. rw (le-leb n (0 + i) (omega (arith, m)))) in
    λ i. record { slots = front i; operands = back i; spare = spare }

-- and after one slot was stored
pub one-slot : (n at spare : ℕ) (vs : List Value) (v : Value) → at < n → ◌≡◌ {A = SlotsAndOperands} (record {
  slots = take n (slice_set vs at v);
  operands = drop n (slice_set vs at v);
  spare = spare;
}) (record { slots = slice_set (take n vs) at v; operands = drop n vs; spare = spare })
one-slot n at spare vs v l =
    λ i. record { slots = take-set-lt n vs at v l i; operands = drop-set-lt n vs at v l i; spare = spare }
