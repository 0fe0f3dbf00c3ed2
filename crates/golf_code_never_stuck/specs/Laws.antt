-- The laws of the code of a typed file, as statements.
use Rattle.std.specs.Prelude.{◌≡◌, ℕ, Bool, List, None}
use Rattle.golf_theory.specs.Membership.{In}
use Rattle.golf_data.specs.declared.code.Code.{Code}
use Rattle.golf_syntax_trees.specs.declared.declarations.File.{File}
use Rattle.golf_model.specs.State.{State, start, ending}
use Rattle.golf_model.specs.Collections.{plain_collect, sets_finalisers, removed, real_collect}
use Rattle.golf_model.specs.LiveSet.{Dead}
use Rattle.golf_model.specs.Runs.{Event, run, stops}
use Rattle.golf_model.specs.Futures.{Still, futures}
use Rattle.golf_model_typing.specs.Types.{ValueType, Shape, Typing}
use Rattle.golf_model_typing.specs.Shapes.{HasShapes}
use Rattle.golf_model_typing.specs.WellTyped.{WellTyped}
use Rattle.golf_model.specs.Turn.{MovesOn}
use Rattle.golf_code_of.specs.Files.{CodeOf}
use Rattle.golf_code_shapes.specs.FileLaws.{types_of_file}
use Rattle.golf_code_never_stuck.specs.Reached.{IsProgram, ReachedState, LeadsOn}

-- the code of a well-formed file that breaks no rule has shapes, with the types of the file
abbrev pub FilesHaveShapes : Type 0
FilesHaveShapes = (file : File) → IsProgram file → (shapes : List (List Shape))
    × HasShapes (CodeOf file) (record { of = types_of_file file; shapes = shapes })

-- every state that the code of such a file reaches is well typed
abbrev pub ReachedTyped : Type 0
ReachedTyped = (code : Code) (s : State) → ReachedState code s → (types : Typing) × (known : List (ℕ × ValueType))
    × HasShapes code types × WellTyped types known s

-- such a state is not stuck before its ending: the turn of any number has changes
abbrev pub ReachedMovesOn : Type 0
ReachedMovesOn = (code : Code) (s : State) (c : ℕ) → ReachedState code s → ending s ≡ None → MovesOn code s c

-- no state that moves reach from s is stuck before its ending
abbrev pub GoesOn : Code → State → Type 0
GoesOn code s = (t : State) (c : ℕ) → LeadsOn code s t → ending t ≡ None → MovesOn code t c

-- moves from a reached state reach only reached states, so none of them is stuck
abbrev pub ReachedGoesOn : Type 0
ReachedGoesOn = (code : Code) (s : State) → ReachedState code s → ((t : State) → LeadsOn code s t → ReachedState code t)
    × GoesOn code s

-- a dead goroutine of a reached state takes no step in any continuation, and no continuation is stuck
abbrev pub ReachedDeadAreStill : Type 0
ReachedDeadAreStill = (code : Code) (s : State) (g : ℕ) → ReachedState code s → Dead s g → Still code s g
    × GoesOn code s

-- recovery in a reached state cannot be seen, and no continuation after it is stuck
abbrev pub ReachedRecoveryUnseen : Type 0
ReachedRecoveryUnseen = (code : Code) (s : State) (recover : Bool) → ReachedState code s → ending s ≡ None
    → ((events : List Event) → futures code (real_collect s recover (sets_finalisers code)) events
    (removed s recover (sets_finalisers code)) ≡ futures code (plain_collect s) events
    (removed s recover (sets_finalisers code)))
    × GoesOn code (real_collect s recover (sets_finalisers code))

-- on the plain machine no state that events reach from s is stuck before its ending
abbrev pub PlainGoesOn : Code → State → Type 0
PlainGoesOn code s = (events : List Event) (c : ℕ) → ending (run code s events) ≡ None
    → MovesOn code (run code s events) c

-- this holds for the code of a well-formed file that breaks no rule, from its opening state and from the state right
-- before each collection of a run
abbrev pub PlainRunsGoOn : Type 0
PlainRunsGoOn = (file : File) → IsProgram file
    → PlainGoesOn (CodeOf file) (start (CodeOf file))
    × ((events : List Event) (p : State) → In p (stops (CodeOf file) events) → PlainGoesOn (CodeOf file) p)
