-- Slots that are known to hold 0.
use Rattle.std.specs.Prelude.{◌≡◌, ℕ, ◌<◌, nat_le, Bool, true, not, ◌||◌, pos, List, Some, slice_get}
use Rattle.golf_data.specs.declared.value.Value.{Value}
use Rattle.golf_data.specs.Masks.{has_bit}

-- each slot whose bit is 1 holds 0
abbrev pub AreZeros : ℕ → List Value → Type 0
AreZeros zeros vs = (i : ℕ) (v : Value) → i < 64 → has_bit zeros i ≡ true → slice_get vs i ≡ Some v
    → v ≡ Value.Int (pos 0)

-- each slot holds 0, if this is known
abbrev pub AreAllZero : Bool → List Value → Type 0
AreAllZero known vs = known ≡ true → (i : ℕ) (v : Value) → slice_get vs i ≡ Some v → v ≡ Value.Int (pos 0)

-- a slot stays if its bit in `dead` is 0 or if it has no bit
abbrev pub stays_but : ℕ → ℕ → Bool
stays_but dead i = nat_le 64 i || not (has_bit dead i)

-- a slot stays, or it is still to be cleared; `left` has the bits that are still to be cleared
abbrev pub stays_yet : ℕ → ℕ → ℕ → Bool
stays_yet dead left i = stays_but dead i || has_bit left i

-- the test for the slots below n; every slot from n on passes
abbrev pub stays_until : ℕ → (ℕ → Bool) → ℕ → Bool
stays_until n test i = nat_le n i || test i
