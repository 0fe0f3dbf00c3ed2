-- Slots that no instruction can read any more are cleared after a turn, so that they do not keep their objects (this
-- runtime's rule).
use Rattle.std.specs.Prelude.{ℕ, Bool, true, false, List, [], ◌∷◌, Option, Some, None, option_and_then, slice_get}
use Rattle.golf_theory.specs.Maps.{find}
use Rattle.golf_data.specs.declared.code.Code.{Code}
use Rattle.golf_data.specs.declared.goroutine.Leaving.{Leaving}
use Rattle.golf_data.specs.declared.goroutine.Mode.{Mode}
use Rattle.golf_model.specs.Views.{FrameView, GoroutineView}
use Rattle.golf_data.specs.Masks.{stays_under}
use Rattle.golf_data.specs.Slots.{cleared_slots}
use Rattle.golf_model.specs.State.{State}
use Rattle.golf_model.specs.Changes.{Change}

-- the mask of a position of a function
abbrev pub mask_at : Code → ℕ → ℕ → Option ℕ
mask_at code f at = option_and_then (λ fn. slice_get fn.live at) (slice_get code.functions f)

-- whether a slot stays in a frame; in a frame that is leaving no slot stays
abbrev pub stays_in : Leaving → Option ℕ → ℕ → Bool
stays_in Leaving.No mask i = stays_under mask i
stays_in (Leaving.Returning v) mask i = false
stays_in (Leaving.Unwinding x) mask i = false

-- the frame with its unneeded slots cleared
abbrev pub cleared : Code → FrameView → FrameView
cleared code f = record f { slots = cleared_slots (stays_in f.leaving (mask_at code f.function f.at)) f.slots }

-- clears the innermost frame of a goroutine that runs
abbrev pub clears_in : Code → ℕ → GoroutineView → Mode → List FrameView → List Change
clears_in code g r Mode.Running [] = []
clears_in code g r Mode.Running (f ∷ fs) = Change.Become g (record r { frames = cleared code f ∷ fs }) ∷ []
clears_in code g r (Mode.Blocked kind line waits ticket) fs = []

abbrev pub clears : Code → ℕ → Option GoroutineView → List Change
clears code g None = []
clears code g (Some r) = clears_in code g r r.mode r.frames

-- what is cleared after the turn of a goroutine, in the state that the turn leaves; nothing if the flag is true
abbrev pub clearing : Code → Bool → Option ℕ → State → List Change
clearing code true m s = []
clearing code false None s = []
clearing code false (Some g) s = clears code g (find g s.goroutines)
