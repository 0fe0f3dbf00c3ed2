-- The result of the turn of one goroutine.
use Rattle.std.specs.Prelude.{Bool, true, false, not, ◌||◌}
use Rattle.golf_machine.specs.declared.goroutine_turn.Acted.{Acted}

-- a rule fits
abbrev pub has_rule : Acted → Bool
has_rule Acted.Went = true
has_rule Acted.Collects = true
has_rule Acted.Stuck = false

-- it was a collection
abbrev pub has_collected : Acted → Bool
has_collected Acted.Went = false
has_collected Acted.Collects = true
has_collected Acted.Stuck = false

-- no slots are cleared after the turn: it was a collection, or no rule fits
abbrev pub keeps_slots : Acted → Bool
keeps_slots acted = has_collected acted || not (has_rule acted)
