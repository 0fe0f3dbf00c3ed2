-- Code whose positions fit into 32 bits.
use Rattle.std.specs.Prelude.{ℕ, ◌^◌, ◌<◌, length, slice_get, Option, Some, None}
use Rattle.golf_data.specs.declared.code.Code.{Code}
use Rattle.golf_data.specs.declared.code.Function.{Function}

abbrev pub IsShort : Option Function → Type 0
IsShort None = Unit {0}
IsShort (Some function) = length function.body < 2 ^ 32

-- each body has fewer than 2^32 lines
abbrev pub HasPlaces : Code → Type 0
HasPlaces code = (k : ℕ) → IsShort (slice_get code.functions k)
