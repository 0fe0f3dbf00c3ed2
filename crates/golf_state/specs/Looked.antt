-- The changes of the definitions, with the goroutine looked up by its number.
use Rattle.std.specs.Prelude.{ℕ, Bool, false, not, List, [], ◌∷◌, Option, Some, None}
use Rattle.golf_theory.specs.Maps.{find}
use Rattle.golf_data.specs.declared.value.Value.{Value}
use Rattle.golf_data.specs.declared.goroutine.Mode.{Mode}
use Rattle.golf_model.specs.Views.{FrameView, GoroutineView}
use Rattle.golf_model.specs.State.{State, is_running}
use Rattle.golf_model.specs.Wakes.{on_top}
use Rattle.golf_model.specs.Changes.{become}
use Rattle.golf_state.specs.declared.frames.Given.{Given}
use Rattle.golf_state.specs.FrameChanges.{went}

-- the change, if the goroutine is there; else no change
abbrev pub on_goroutine : (GoroutineView → State → State) → Option GoroutineView → State → State
on_goroutine act None s = s
on_goroutine act (Some r) s = act r s

abbrev pub looked_up : ℕ → (GoroutineView → State → State) → State → State
looked_up g act s = on_goroutine act (find g s.goroutines) s

abbrev pub is_running_in : Option GoroutineView → Bool
is_running_in None = false
is_running_in (Some r) = is_running r.mode

-- whether the goroutine is there and runs
abbrev pub runs : ℕ → State → Bool
runs g s = is_running_in (find g s.goroutines)

abbrev pub is_blocked_in : Option GoroutineView → Bool
is_blocked_in None = false
is_blocked_in (Some r) = not (is_running r.mode)

-- whether the goroutine is there and blocked
abbrev pub is_blocked : ℕ → State → Bool
is_blocked g s = is_blocked_in (find g s.goroutines)

abbrev pub frames_in : Option GoroutineView → List FrameView
frames_in None = []
frames_in (Some r) = r.frames

-- the goroutine's frames, the innermost one first; empty if it is not there
abbrev pub frames_of : ℕ → State → List FrameView
frames_of g s = frames_in (find g s.goroutines)

-- the goroutine has these frames
abbrev pub reframed : ℕ → List FrameView → State → State
reframed g fs s = looked_up g (λ r. become g (record r { frames = fs })) s

-- the goroutine's innermost frame goes on at `after`, without its top `taken` operands
abbrev pub advanced : ℕ → ℕ → GoroutineView → GoroutineView
advanced after taken r = record r { frames = on_top (went after taken []) r.frames }

-- the values that a goroutine is given, the top one first
abbrev pub values_of : Given → List Value
values_of Given.Nothing = []
values_of (Given.One v) = v ∷ []
values_of (Given.Two v b) = Value.Bool b ∷ v ∷ []

-- the state at the start: these globals, no object, goroutine 1 with these frames, and goroutine 0 without a frame
abbrev pub opening : List Value → List FrameView → ℕ → State
opening globals frames line = record {
  globals = globals;
  objects = [];
  finalisers = [];
  goroutines = (0, record { frames = []; mode = Mode.Running; started = 0 })
      ∷ (1, record { frames = frames; mode = Mode.Running; started = line }) ∷ [];
  queue = [];
  output = [];
  last_object = 0;
  next_goroutine = 2;
  next_ticket = 0;
  recorded = None;
}
