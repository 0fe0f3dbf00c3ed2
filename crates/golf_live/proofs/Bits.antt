-- Bits of masks.
-- For: `slot_bit`, src/masks.rt; `bits_of`, specs/Live.antt
-- By: arithmetic; induction over n, the bits of the mask
use Rattle.std.proofs.Common.{◌≡◌, ℕ, zero, suc, ◌+◌, ◌-◌, ◌*◌, ◌^◌, ◌<◌, ◌==◌, nat_lt, Bool, true, false, not, cond}
use Rattle.std.proofs.Common.{◌&&◌, inl, inr, refl, sym, ap, ◌∙◌, subst, arith}
use Rattle.std.specs.Prelude.{bit_and, min}
use Rattle.std.specs.Int.{w64, bit_at, bit_not}
use Rattle.std.proofs.lemmas.Bool.{eqb-true, eq-eqb, cases_lt, cases_eq, ltb-true, ltb-false, false_from_ne_true}
use Rattle.std.proofs.lemmas.Nat.{pow_pos, pow_below}
use Rattle.std.proofs.lemmas.Nat.Bits.{bit_at-lt, bit_at-zero, bit_at_and, bit_at_not, bit_at-pow_same}
use Rattle.std.proofs.lemmas.Nat.Bits.{bit_at-pow_other, bit_at_cat_low, bit_at_cat_high, same_from_bits_below}
use Rattle.std.proofs.Math.Nat.{pow-suc}
use Rattle.golf_data.specs.Masks.{has_bit}
use Rattle.golf_live.specs.Live.{bits_of}
use Rattle.golf_live.specs.Rounds.{slot_bit}

one_but : (x y : ℕ) → x < 2 → y < 2 → (min x (1 - y) == 1) ≡ (not (y == 1) && (x == 1))
one_but zero zero p q = refl
one_but zero (suc zero) p q = refl
one_but (suc zero) zero p q = refl
one_but (suc zero) (suc zero) p q = refl
one_but (suc (suc x)) y p q = absurd (omega (arith, p))
one_but zero (suc (suc y)) p q = absurd (omega (arith, q))
one_but (suc zero) (suc (suc y)) p q = absurd (omega (arith, q))

one_same : (x y : ℕ) → x < 2 → y < 2 → (x == 1) ≡ (y == 1) → x ≡ y
one_same zero zero p q e = refl
one_same zero (suc zero) p q e = cc
one_same (suc zero) zero p q e = cc
one_same (suc zero) (suc zero) p q e = refl
one_same (suc (suc x)) y p q e = absurd (omega (arith, p))
one_same zero (suc (suc y)) p q e = absurd (omega (arith, q))
one_same (suc zero) (suc (suc y)) p q e = absurd (omega (arith, q))

pub has_bit-zero : (i : ℕ) → has_bit 0 i ≡ false
has_bit-zero i = ap (λ x. x == 1) (bit_at-zero i)

pub slot_bit-below : (slot : ℕ) → slot_bit slot < 2 ^ 64
slot_bit-below slot = elim (nat_lt slot 64) as (λ b. nat_lt slot 64 ≡ b → cond b (2 ^ slot) 0 < 2 ^ 64) [
  | true ↦ λ e. pow_below slot 64 (ltb-true slot 64 e)
  | false ↦ λ e. pow_pos 64
] refl

power-bit : (slot i : ℕ) → has_bit (2 ^ slot) i ≡ (i == slot)
power-bit slot i = elim (cases_eq i slot) [
  | inl e ↦ ap (λ k. has_bit (2 ^ slot) k) e ∙ ap (λ x. x == 1) (bit_at-pow_same slot) ∙ sym (eq-eqb i slot e)
  | inr n ↦ ap (λ x. x == 1) (bit_at-pow_other slot i n)
      ∙ sym (false_from_ne_true (i == slot) (λ t. n (eqb-true i slot t)))
]

pub slot_bit-is : (slot i : ℕ) → i < 64 → has_bit (slot_bit slot) i ≡ (i == slot)
slot_bit-is slot i l = elim (nat_lt slot 64) as (λ b. nat_lt slot 64 ≡ b
    → has_bit (cond b (2 ^ slot) 0) i ≡ (i == slot)) [
      | true ↦ λ e. power-bit slot i
      | false ↦ λ e. has_bit-zero i ∙ sym (false_from_ne_true (i == slot)
          (λ t. let s = eqb-true i slot t in let m = ltb-false slot 64 e in absurd (omega (arith, l, s, m))))
    ] refl

pub has_bit-without : (m slot i : ℕ) → i < 64
    → has_bit (bit_and m (bit_not w64 (slot_bit slot))) i ≡ (not (i == slot) && has_bit m i)
has_bit-without m slot i l =
    let b = slot_bit slot in
    ap (λ x. x == 1) (bit_at_and m (bit_not w64 b) i)
    ∙ ap (λ x. min (bit_at m i) x == 1) (bit_at_not w64 b i (slot_bit-below slot) l)
    ∙ one_but (bit_at m i) (bit_at b i) (bit_at-lt m i) (bit_at-lt b i)
    ∙ ap (λ x. not x && has_bit m i) (slot_bit-is slot i l)

-- a number of 64 bits by its bits
pub same-bits : (a b : ℕ) → a < 2 ^ 64 → b < 2 ^ 64 → ((i : ℕ) → i < 64 → has_bit a i ≡ has_bit b i) → a ≡ b
same-bits a b p q h = same_from_bits_below 64 a b p q
    (λ i l. one_same (bit_at a i) (bit_at b i) (bit_at-lt a i) (bit_at-lt b i) (h i l))

-- the number that has the bits of a test
twice : (b : Bool) (p r : ℕ) → r < p → cond b 1 0 * p + r < p * 2
twice true p r l = omega (arith, l)
twice false p r l = omega (arith, l)

pub bits_of-below : (test : ℕ → Bool) (n : ℕ) → bits_of test n < 2 ^ n
bits_of-below test zero = pow_pos 0
bits_of-below test (suc n) = subst (λ p. bits_of test (suc n) < p) (sym (pow-suc 2 n))
    (twice (test n) (2 ^ n) (bits_of test n) (bits_of-below test n))

lowest : (b : Bool) → (bit_at (cond b 1 0) 0 == 1) ≡ b
lowest true = refl
lowest false = refl

pub bits_of-is : (test : ℕ → Bool) (n i : ℕ) → i < n → has_bit (bits_of test n) i ≡ test i
bits_of-is test zero i l = absurd (omega (arith, l))
bits_of-is test (suc n) i l = elim (cases_lt i n) [
  | inl less ↦ ap (λ x. x == 1) (bit_at_cat_low (cond (test n) 1 0) n (bits_of test n) i less)
      ∙ bits_of-is test n i less
  | inr more ↦ (let e : n ≡ i = omega (arith, l, more) in
      ap (λ x. x == 1) (bit_at_cat_high (cond (test n) 1 0) n (bits_of test n) i (bits_of-below test n) more)
      ∙ ap (λ k. bit_at (cond (test n) 1 0) k == 1) (let z : i - n ≡ 0 = omega (arith, e) in z)
      ∙ lowest (test n)
      ∙ ap test e)
]
