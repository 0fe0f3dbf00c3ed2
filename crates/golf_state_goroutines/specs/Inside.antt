-- A roster in memory, and its invariant.
use Rattle.golf_state_goroutines.specs.Goroutines.{Goroutines}
use Rattle.golf_state_goroutines.specs.RunLists.{CanStart}
use Rattle.golf_state_goroutines.specs.declared.roster.Roster.TheInside.{Inside}

abbrev pub goroutines_of : Inside → Goroutines
goroutines_of r = record { places = r.places; running = r.runs.numbers }

-- there is room for each goroutine to run
abbrev pub IsRoster : Inside → Type 0
IsRoster r = CanStart r.runs.keys r.places
