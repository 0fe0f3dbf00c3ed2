use Rattle.std.proofs.Common.{◌≡◌, ◌<◌, ℕ, length}
use Rattle.std.specs.Prelude.{◌↔◌}
use Rattle.golf_marks.specs.Flags.{IsSet}
use Rattle.golf_final.specs.KeepRule.{IsKept}
use Rattle.golf_final.proofs.keep_rule.keeps.Given as goal

abbrev pub invariant-loop-sleeper : goal.invariant-loop-sleeper
invariant-loop-sleeper l = record {
  count : length l.kept ≡ l.sleeper;
  flags : (s : ℕ) → s < l.sleeper → IsSet l.kept s ↔ IsKept l.graph l.marked l.sets_finalisers s;
}
