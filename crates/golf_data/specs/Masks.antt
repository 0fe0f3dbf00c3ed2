-- Masks of slots: bit i of a mask is for slot i.
use Rattle.std.specs.Prelude.{ℕ, Bool, true, ◌||◌, ◌==◌, nat_le, Option, Some, None}
use Rattle.std.specs.Int.{bit_at}

-- bit i of the mask is 1
abbrev pub has_bit : ℕ → ℕ → Bool
has_bit mask i = bit_at mask i == 1

-- whether a slot stays under the mask of a position: its bit is 1, or it has no bit in the mask; without a mask each
-- slot stays
abbrev pub stays_under : Option ℕ → ℕ → Bool
stays_under None i = true
stays_under (Some mask) i = nat_le 64 i || has_bit mask i
