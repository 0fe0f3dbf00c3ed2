use Rattle.std.proofs.Common.{◌≡◌, ◌<◌, ℕ, List, Some, slice_get}
use Rattle.golf_explore.specs.declared.visits.Edge.{Edge}
use Rattle.golf_explore.specs.Ranks.{AreLower}
use Rattle.golf_explore.proofs.visit_ranks.fall.Given as goal

-- each edge of the visits so far falls
abbrev pub invariant-loop-at : goal.invariant-loop-at
invariant-loop-at l = (at : ℕ) (es : List Edge) → at < l.at → slice_get l.edges at ≡ Some es
    → (rank : ℕ) × (slice_get l.ranks at ≡ Some rank) × AreLower l.ranks rank es
