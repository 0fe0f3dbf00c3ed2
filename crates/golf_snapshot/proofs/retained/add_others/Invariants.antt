use Rattle.std.proofs.Common.{◌≡◌, ◌++◌, length, take, map, not}
use Rattle.golf_theory.specs.Membership.{is_in}
use Rattle.golf_model.specs.Refs.{goroutine_refs_where}
use Rattle.golf_snapshot.specs.Parts.{ranks}
use Rattle.golf_snapshot.specs.MapEntries.{sleepers_of}
use Rattle.golf_snapshot.proofs.retained.add_others.Given as goal

-- what the goroutines so far gave, and how many of them are sleepers
abbrev pub invariant-loop-g : goal.invariant-loop-g
invariant-loop-g l =
    (l.nodes ≡ l.fn.nodes ++ ranks l.state.objects
    (goroutine_refs_where (λ g. not (is_in g (map (λ h. h.0) l.gone))) (take l.g-index l.state.goroutines)))
    × (l.sleeper ≡ length (sleepers_of l.state.objects (take l.g-index l.state.goroutines)))
