-- The line of a turn: who takes it, at which line of the source, and whom it starts, blocks, ends or wakes (this
-- runtime's rule).
use Rattle.std.specs.Prelude.{ℕ, ◌+◌, ◌==◌, ◌&&◌, Bool, not, cond, List, [], ◌∷◌, ◌++◌, Option, Some, None, filter, ltb}
use Rattle.std.specs.Prelude.{codes, decimal, slice_get}
use Rattle.golf_theory.specs.Maps.{find}
use Rattle.golf_theory.specs.Membership.{is_in}
use Rattle.golf_data.specs.declared.code.Code.{Code}
use Rattle.golf_data.specs.declared.goroutine.Leaving.{Leaving}
use Rattle.golf_data.specs.declared.goroutine.Mode.{Mode}
use Rattle.golf_data.specs.declared.goroutine.Queued.{Queued}
use Rattle.golf_model.specs.Views.{FrameView, GoroutineView}
use Rattle.golf_model.specs.State.{State, runnable}
use Rattle.golf_model.specs.Turn.{line_at, line_number, return_line, whose_turn, step}
use Rattle.golf_state.specs.Looked.{frames_of}

-- ---- the line of the source

-- the line of the first instruction of the call that goroutine 0 takes from its queue
abbrev pub call_line : Code → List Queued → ℕ
call_line code [] = 0
call_line code (q ∷ qs) = line_number (line_at code q.function 0)

-- the line at which a goroutine with this innermost frame takes a turn: that of its instruction, of its return, or of
-- its panic
abbrev pub frame_line : Code → FrameView → Leaving → ℕ
frame_line code f Leaving.No = line_number (line_at code f.function f.at)
frame_line code f (Leaving.Returning v) = return_line code f
frame_line code f (Leaving.Unwinding x) = x.line

abbrev pub place_line : Code → State → Option FrameView → ℕ
place_line code s None = call_line code s.queue
place_line code s (Some f) = frame_line code f f.leaving

-- the line at which this goroutine takes a turn
abbrev pub turn_line : Code → State → ℕ → ℕ
turn_line code s g = place_line code s (slice_get (frames_of g s) 0)

-- ---- what the turn did, by the states before and after it

-- the turn started the goroutine of the next number
abbrev pub starts_text : ℕ → ℕ → List ℕ
starts_text next later = cond (later == next) [] (codes ", starts goroutine " ++ decimal next)

abbrev pub mode_text : Mode → List ℕ
mode_text Mode.Running = []
mode_text (Mode.Blocked kind line waits ticket) = codes ", blocks"

-- after its turn the goroutine is gone, or it is blocked
abbrev pub rests_text : Option GoroutineView → List ℕ
rests_text None = codes ", ends"
rests_text (Some r) = mode_text r.mode

-- whether a goroutine that can run now could not run before, and was there: it is none of these, and has a lower
-- number than the next one had
abbrev pub is_woken : List ℕ → ℕ → ℕ → Bool
is_woken before next g = ltb g next && not (is_in g before)

-- the goroutines that the turn woke, in rising order of number
abbrev pub woken : List ℕ → ℕ → State → List ℕ
woken before next t = filter (is_woken before next) (runnable t)

-- the goroutines, each after a comma
abbrev pub more_goroutines : List ℕ → List ℕ
more_goroutines [] = []
more_goroutines (g ∷ gs) = codes ", goroutine " ++ (decimal g ++ more_goroutines gs)

abbrev pub wakes_text : List ℕ → List ℕ
wakes_text [] = []
wakes_text (g ∷ gs) = codes ", wakes goroutine " ++ (decimal g ++ more_goroutines gs)

-- ---- the line

abbrev pub runner_text : ℕ → ℕ → ℕ → List ℕ
runner_text n g line = codes "turn " ++ (decimal n ++ (codes ": goroutine " ++ (decimal g ++ (codes " at line "
    ++ decimal line))))

-- the line of the n-th turn, from the first state to the second, if a goroutine takes it
abbrev pub line_by : ℕ → Code → State → State → Option ℕ → List ℕ
line_by n code s t None = []
line_by n code s t (Some g) = (((runner_text n g (turn_line code s g)
    ++ starts_text s.next_goroutine t.next_goroutine) ++ rests_text (find g t.goroutines))
    ++ wakes_text (woken (runnable s) s.next_goroutine t)) ++ codes "\n"

-- the line of the n-th turn, which has number c
abbrev pub turn_text : ℕ → Code → State → ℕ → List ℕ
turn_text n code s c = line_by n code s (step code s c) (whose_turn s c)
