-- The room that a blocked goroutine keeps, so that no wake takes memory.
use Rattle.std.specs.Prelude.{◌-◌, ◌≤◌, List, [], ◌∷◌, length, Option, Some, None, slice_get}
use Rattle.golf_data.specs.declared.goroutine.Frame.{Frame}
use Rattle.golf_data.specs.declared.goroutine.Mode.{Mode}

abbrev pub HasRoomIn : Option Frame → Type 0
HasRoomIn None = Unit {0}
HasRoomIn (Some f) = 2 ≤ f.values.spare

-- the innermost frame, if there is one, has room for two more operands
abbrev pub HasRoom : List Frame → Type 0
HasRoom fs = HasRoomIn (slice_get fs (length fs - 1))

-- if the goroutine is blocked, its innermost frame has room for two more operands
abbrev pub IsReadyIn : Mode → List Frame → Type 0
IsReadyIn Mode.Running fs = Unit {0}
IsReadyIn (Mode.Blocked kind line waits ticket) fs = HasRoom fs

-- each frame has room for two more operands
abbrev pub AllRoomy : List Frame → Type 0
AllRoomy [] = Unit {0}
AllRoomy (f ∷ fs) = (2 ≤ f.values.spare) × AllRoomy fs
