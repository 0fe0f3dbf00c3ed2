-- Lists of states that no turn leaves, if frame-local turns may follow it. Output is not compared.
use Rattle.std.specs.Prelude.{◌≡◌, ℕ, ◌+◌, ◌-◌, ◌*◌, ◌<◌, ◌≤◌, Bool, false, List, [], ◌∷◌, length, Option, Some, None}
use Rattle.std.specs.Prelude.{option_and_then, slice_get}
use Rattle.golf_theory.specs.Maps.{find}
use Rattle.golf_theory.specs.Membership.{In}
use Rattle.golf_data.specs.declared.code.Code.{Code}
use Rattle.golf_data.specs.declared.code.Instr.{Instr}
use Rattle.golf_data.specs.declared.code.CodeLine.{CodeLine}
use Rattle.golf_data.specs.declared.goroutine.Ending.{Ending}
use Rattle.golf_data.specs.declared.goroutine.Leaving.{Leaving}
use Rattle.golf_model.specs.Views.{FrameView, GoroutineView}
use Rattle.golf_model.specs.State.{State, runnable, ending, start}
use Rattle.golf_model.specs.Turn.{line_at}
use Rattle.golf_model.specs.LiveSet.{dead}
use Rattle.golf_explore_laws.specs.After.{after, after_all}
use Rattle.golf_explore_laws.specs.Local.{AreLocalTurns}

-- ---- the turns of a state

-- the last choice of an instruction; each higher choice repeats a choice up to it
abbrev pub last_choice : Instr → ℕ
last_choice (Instr.Select cases otherwise) = length cases - 1
last_choice _ = 0

abbrev pub line_last_choice : Option CodeLine → ℕ
line_last_choice None = 0
line_last_choice (Some l) = last_choice l.instr

abbrev pub frame_last_choice : Code → FrameView → Leaving → ℕ
frame_last_choice code f Leaving.No = line_last_choice (line_at code f.function f.at)
frame_last_choice code f (Leaving.Returning v) = 0
frame_last_choice code f (Leaving.Unwinding x) = 0

abbrev pub frames_last_choice : Code → List FrameView → ℕ
frames_last_choice code [] = 0
frames_last_choice code (f ∷ fs) = frame_last_choice code f f.leaving

abbrev pub goroutine_last_choice : Code → Option GoroutineView → ℕ
goroutine_last_choice code None = 0
goroutine_last_choice code (Some r) = frames_last_choice code r.frames

-- the last choice of the goroutine of this number, at its instruction
abbrev pub turn_last_choice : Code → State → Option ℕ → ℕ
turn_last_choice code s g = goroutine_last_choice code (option_and_then (λ h. find h s.goroutines) g)

-- the number of the turn that the goroutine at this place takes with this choice
abbrev pub number_at : State → ℕ → ℕ → ℕ
number_at s place choice = choice * length (runnable s) + place

-- a goroutine at this place can run, and the choice is one of its choices
abbrev pub IsTurn : Code → State → ℕ → ℕ → Type 0
IsTurn code s place choice = (place < length (runnable s))
    × (choice ≤ turn_last_choice code s (slice_get (runnable s) place))

-- the state after that turn, without its output
abbrev pub after_turn : Code → State → ℕ → ℕ → State
after_turn code s place choice = after code s (number_at s place choice)

-- ---- closed lists

-- no object has a finaliser while the program goes on: a collection then changes nothing
abbrev pub IsPlain : State → Type 0
IsPlain s = ending s ≡ None → s.finalisers ≡ []

-- some frame-local turns, or none, lead from the state to a listed one
abbrev pub SettlesIn : Code → List State → State → Type 0
SettlesIn code visited s = (ns : List ℕ) × AreLocalTurns code s ns × In (after_all code s ns) visited

-- the opening state settles in the list, each listed state is plain, and the state after each turn of a listed state
-- without an ending settles in the list
pub record IsClosed (code : Code) (visited : List State) : Type 0 where
  pub opening : SettlesIn code visited (start code)
  pub plain : (s : State) → In s visited → IsPlain s
  pub turns : (s : State) → In s visited → ending s ≡ None → (place choice : ℕ) → IsTurn code s place choice
      → SettlesIn code visited (after_turn code s place choice)

-- no listed state without an ending has a dead goroutine
abbrev pub NoneDead : List State → Type 0
NoneDead visited = (s : State) → In s visited → ending s ≡ None → dead s ≡ []

-- no listed state has one of these endings
abbrev pub NoneEnds : (Ending → Bool) → List State → Type 0
NoneEnds is_one visited = (s : State) (e : Ending) → In s visited → ending s ≡ Some e → is_one e ≡ false

-- ---- lists with ranks

-- some frame-local turns lead from the state to a listed one; their count and its rank are at most this bound
abbrev pub SettlesBelow : Code → List (State × ℕ) → State → ℕ → Type 0
SettlesBelow code ranked s most = (ns : List ℕ) × (rank : ℕ) × (length ns + rank ≤ most) × AreLocalTurns code s ns
    × In (after_all code s ns, rank) ranked

-- each state has a rank, which is above the frame-local turns that follow a turn and the rank that they lead to; the
-- opening state settles below this bound
pub record IsRanked (code : Code) (ranked : List (State × ℕ)) (most : ℕ) : Type 0 where
  pub opening : SettlesBelow code ranked (start code) most
  pub plain : (s : State) (rank : ℕ) → In (s, rank) ranked → IsPlain s
  pub falls : (s : State) (rank : ℕ) → In (s, rank) ranked → ending s ≡ None → (place choice : ℕ)
      → IsTurn code s place choice
      → (lower : ℕ) × (lower < rank) × SettlesBelow code ranked (after_turn code s place choice) lower
