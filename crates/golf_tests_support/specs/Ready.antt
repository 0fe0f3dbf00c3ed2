-- Functions that the machine can step (profile).
use Rattle.std.specs.Prelude.{◌^◌, ◌<◌, length}
use Rattle.golf_data.specs.declared.code.Function.{Function}

-- each instruction of the function has a place below 2^32
abbrev pub HasSmallPlaces : Function → Type 0
HasSmallPlaces f = length f.body < 2 ^ 32
