-- The waits of a blocked goroutine in memory.
use Rattle.std.specs.Prelude.{List, [], ◌∷◌}
use Rattle.golf_data.specs.declared.goroutine.Wait.{Wait}
use Rattle.golf_data.specs.declared.waits.WaitList.{WaitList}

abbrev pub waits_in : WaitList → List Wait
waits_in WaitList.Nothing = []
waits_in (WaitList.One w) = w ∷ []
waits_in (WaitList.Many ws) = ws
