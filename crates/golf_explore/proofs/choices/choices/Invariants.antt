use Rattle.std.proofs.Common.{◌≡◌, ℕ, ◌<◌, Some, length, slice_get}
use Rattle.golf_model.specs.State.{runnable}
use Rattle.golf_explore_laws.specs.Closed.{turn_last_choice}
use Rattle.golf_explore.proofs.choices.choices.Given as goal

-- the choices at the places so far
abbrev pub invariant-loop-place : goal.invariant-loop-place
invariant-loop-place l = record {
  count : length l.choices ≡ l.place;
  each : (place n : ℕ) → slice_get l.choices place ≡ Some n
      → turn_last_choice l.code l.state (slice_get (runnable l.state) place) < n;
}
