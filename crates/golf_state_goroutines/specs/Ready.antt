-- Places whose goroutines can be woken without memory.
use Rattle.std.specs.Prelude.{ℕ, List, [], ◌∷◌}
use Rattle.golf_data.specs.declared.goroutine.Goroutine.{Goroutine}
use Rattle.golf_state_goroutines.specs.Roominess.{IsReadyIn}

-- if the goroutine is blocked, its innermost frame has room
abbrev pub HasRoomToWake : ℕ × Goroutine → Type 0
HasRoomToWake p = IsReadyIn p.1.mode p.1.frames

abbrev pub AllReady : List (ℕ × Goroutine) → Type 0
AllReady [] = Unit {0}
AllReady (p ∷ ps) = HasRoomToWake p × AllReady ps
