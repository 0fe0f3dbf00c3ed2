-- What the line of a turn takes from the state before it.
use Rattle.std.specs.Prelude.{◌≡◌, ℕ, Some, map}
use Rattle.std.specs.List.Sorted.{IsNonDecreasingBy}
use Rattle.golf_base.specs.declared.ids.GoroutineId.{GoroutineId}
use Rattle.golf_data.specs.declared.code.Code.{Code}
use Rattle.golf_model.specs.State.{State, runnable}
use Rattle.golf_model.specs.Turn.{whose_turn}
use Rattle.golf_run.specs.declared.turn_lines.Before.{Before}
use Rattle.golf_run.specs.TurnLines.{turn_line}

-- these are the facts of the turn of number c
pub record IsBefore (code : Code) (s : State) (c : ℕ) (b : Before) : Type 0 where
  pub runner : whose_turn s c ≡ Some b.runner.0
  pub line : b.line ≡ turn_line code s b.runner.0
  pub runnable_then : map (λ (g : GoroutineId). g.0) b.runnable ≡ runnable s
  pub rises : IsNonDecreasingBy (λ (g : GoroutineId). g.0) b.runnable
  pub next : b.next ≡ s.next_goroutine
