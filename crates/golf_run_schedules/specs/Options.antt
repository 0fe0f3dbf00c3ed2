-- The limits of the options of a run (profile).
use Rattle.std.specs.Prelude.{ℕ, ◌<◌, ◌≤◌}
use Rattle.golf_run_schedules.specs.declared.options.RunOptions.{RunOptions}

-- the most turns of a run, and the most turns from one added collection to the next
abbrev pub most_turns : ℕ
most_turns = 10000000

-- the turns and the markers are within their limits
pub record IsWithinLimits (options : RunOptions) : Type 0 where
  pub turns : options.turns ≤ most_turns
  pub some : 0 < options.markers
  pub few : options.markers ≤ 16
