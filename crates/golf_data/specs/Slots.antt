-- Slots that stay, and slots that are cleared.
use Rattle.std.specs.Prelude.{ℕ, ◌+◌, Bool, cond, pos, List, [], ◌∷◌}
use Rattle.golf_data.specs.declared.value.Value.{Value}

-- these slots, the first of which has place i: each slot that does not satisfy the test now holds 0
abbrev pub cleared_from : (ℕ → Bool) → ℕ → List Value → List Value
cleared_from test i [] = []
cleared_from test i (v ∷ vs) = cond (test i) v (Value.Int (pos 0)) ∷ cleared_from test (i + 1) vs

abbrev pub cleared_slots : (ℕ → Bool) → List Value → List Value
cleared_slots test slots = cleared_from test 0 slots
