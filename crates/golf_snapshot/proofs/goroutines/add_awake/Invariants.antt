use Rattle.std.proofs.Common.{◌≡◌, ◌++◌, take}
use Rattle.golf_snapshot.specs.Parts.{ranks, awake_refs}
use Rattle.golf_snapshot.specs.MapEntries.{sleepers_of}
use Rattle.golf_snapshot.proofs.goroutines.add_awake.Given as goal

-- what the goroutines so far gave
abbrev pub invariant-loop-g : goal.invariant-loop-g
invariant-loop-g l =
    (l.nodes ≡ l.fn.nodes ++ ranks l.state.objects (awake_refs (take l.g-index l.state.goroutines)))
    × (l.sleepers ≡ sleepers_of l.state.objects (take l.g-index l.state.goroutines))
