-- The changes of the goroutine whose turn it is, with the goroutine looked up by its number.
use Rattle.std.specs.Prelude.{◌≡◌, ℕ, ◌+◌, List, [], ◌∷◌, Option, Some, None}
use Rattle.golf_theory.specs.Maps.{find}
use Rattle.golf_data.specs.declared.goroutine.Mode.{Mode}
use Rattle.golf_model.specs.Views.{FrameView, GoroutineView}
use Rattle.golf_model.specs.State.{State}
use Rattle.golf_model.specs.Changes.{Change, apply_all}
use Rattle.golf_model.specs.Actors.{Actor}
use Rattle.golf_model.specs.Turn.{acting}

-- the changes of a goroutine with these frames, at an instruction of this line; no change without a frame
abbrev pub does_in : (Actor → List Change) → ℕ → ℕ → GoroutineView → List FrameView → List Change
does_in act g line r [] = []
does_in act g line r (f ∷ callers) = act (acting g r f callers line)

abbrev pub does_by : (Actor → List Change) → ℕ → ℕ → Option GoroutineView → List Change
does_by act g line None = []
does_by act g line (Some r) = does_in act g line r r.frames

-- the state after the changes of the goroutine of this number, at an instruction of this line
abbrev pub does : (Actor → List Change) → ℕ → ℕ → State → State
does act g line s = apply_all (does_by act g line (find g s.goroutines)) s

-- the goroutine runs, and its innermost frame is at the instruction before this place
pub record Stands (g after : ℕ) (s : State) : Type 0 where
  pub frame : FrameView
  pub callers : List FrameView
  pub started : ℕ
  pub found : find g s.goroutines ≡ Some (record { frames = frame ∷ callers; mode = Mode.Running; started = started })
  pub next : after ≡ frame.at + 1

-- the goroutine runs with these frames
pub record Runs (g : ℕ) (s : State) : Type 0 where
  pub frames : List FrameView
  pub started : ℕ
  pub found : find g s.goroutines ≡ Some (record { frames = frames; mode = Mode.Running; started = started })
