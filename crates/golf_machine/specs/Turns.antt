-- The result of a turn.
use Rattle.std.specs.Prelude.{Bool, true, false, Option, Some, None}
use Rattle.golf_data.specs.declared.goroutine.Ending.{Ending}
use Rattle.golf_machine.specs.declared.turns.Turned.{Turned}

-- an ending comes first, and then the collection that the turn's instruction asks for
abbrev pub turned_of : Option Ending → Bool → Turned
turned_of (Some e) collects = Turned.Ended e
turned_of None true = Turned.WantsCollection
turned_of None false = Turned.Went
