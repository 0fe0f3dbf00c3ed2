-- Bits of masks.
-- For: `ones_from`, `without`, `clear_bits`, src/zeros.rt; `has_bit`, specs/Masks.antt
-- By: arithmetic
use Rattle.std.proofs.Common.{◌≡◌, ℕ, ◌-◌, ◌*◌, ◌%◌, ◌^◌, ◌<◌, ◌≤◌, true, false, ◌||◌, inl, inr}
use Rattle.std.proofs.Common.{arith}
use Rattle.std.specs.Prelude.{bit_and, bit_or}
use Rattle.std.specs.Int.{w64, bit_not, trailing_zeros}
use Rattle.std.proofs.lemmas.Bool.{cases_lt}
use Rattle.std.proofs.lemmas.Bool.Decides.{nat_tests}
use Rattle.std.proofs.lemmas.Nat.Bits.{bit_at-lt, bit_at_or, ones_shl, bit_at_mask_below, bit_at_mask_inside, bit_at_clear_same}
use Rattle.std.proofs.lemmas.Nat.Bits.{bit_at_clear_other, bit_at-trailing_zeros}
use Rattle.golf_data.specs.Masks.{has_bit}

pub has_bit-or : (a b i : ℕ) → has_bit (bit_or a b) i ≡ (has_bit a i || has_bit b i)
has_bit-or a b i = rw (bit_at_or a b i) (grind (arith, nat_tests, bit_at-lt a i, bit_at-lt b i))

-- words that are made of one place
pub from_place : (n i : ℕ) → n < 64 → has_bit ((2 ^ 64 - 1) * 2 ^ n % 2 ^ 64) i ≡ true → n ≤ i
from_place n i l t = elim (cases_lt i n) [
  | inl less ↦ (let z = rw (ones_shl 64 n (omega (arith, l)), bit_at_mask_below n 64 i less) at t in cc)
  | inr more ↦ more
]

pub at_place : (n i : ℕ) → n < 64 → n ≤ i → i < 64 → has_bit ((2 ^ 64 - 1) * 2 ^ n % 2 ^ 64) i ≡ true
at_place n i l a b = rw (ones_shl 64 n (omega (arith, l)), bit_at_mask_inside n 64 i a b)

pub without_others : (n k i : ℕ) → k < 64 → i < 64 → (i ≡ k → ⊥)
    → has_bit (bit_and n (bit_not w64 (1 * 2 ^ k % 2 ^ 64))) i ≡ has_bit n i
without_others n k i l m d = rw (bit_at_clear_other w64 n k l i m d)

pub without_own : (n k : ℕ) → k < 64 → has_bit (bit_and n (bit_not w64 (1 * 2 ^ k % 2 ^ 64))) k ≡ false
without_own n k l = rw (bit_at_clear_same w64 n k l)

pub lowest_bit : (n : ℕ) → 0 < n → n < 2 ^ 64
    → (trailing_zeros w64 n < 64) × (has_bit n (trailing_zeros w64 n) ≡ true)
lowest_bit n p l = let h = bit_at-trailing_zeros w64 n p l in (h.0, rw h.1)
