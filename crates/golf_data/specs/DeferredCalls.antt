-- The deferred calls of a frame in memory.
use Rattle.std.specs.Prelude.{List, [], Option, Some, None}
use Rattle.golf_data.specs.declared.goroutine.Deferred.{Deferred}

abbrev pub calls_in : Option (List Deferred) → List Deferred
calls_in None = []
calls_in (Some calls) = calls
