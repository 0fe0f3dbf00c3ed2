-- One turn of the plain machine: its list of changes, and the state after it.
use Rattle.std.specs.Prelude.{◌≡◌, ℕ, ◌-◌, ◌/◌, ◌%◌, Bool, true, false, not, ◌||◌, cond, pos, List, [], ◌∷◌, length}
use Rattle.std.specs.Prelude.{Option, Some, None, option_and_then, ◌==◌, slice_get, int_lt, int_le}
use Rattle.golf_theory.specs.Maps.{find}
use Rattle.golf_data.specs.declared.value.Value.{Value}
use Rattle.golf_data.specs.declared.value.Object.{Object}
use Rattle.golf_data.specs.declared.code.Code.{Code}
use Rattle.golf_data.specs.declared.code.Instr.{Instr}
use Rattle.golf_data.specs.declared.code.CodeLine.{CodeLine}
use Rattle.golf_data.specs.declared.goroutine.Leaving.{Leaving}
use Rattle.golf_data.specs.declared.goroutine.PanicKind.{PanicKind}
use Rattle.golf_model.specs.Views.{FrameView, GoroutineView}
use Rattle.golf_model.specs.Values.{text_of, line_bytes}
use Rattle.golf_model.specs.State.{State, runnable, not_empty}
use Rattle.golf_model.specs.Changes.{Change, apply_all}
use Rattle.golf_model.specs.Actors.{Actor, goes, jumps, panics, on_some, taking_one, taking}
use Rattle.golf_model.specs.Arithmetic.{pushes, loads, stores, loads_global, stores_global, drops, doubles}
use Rattle.golf_model.specs.Arithmetic.{doubles_two, negates, inverts, computes, divides, compares, sum, difference}
use Rattle.golf_model.specs.Arithmetic.{product, quotient, remainder, equates, jumps_unless}
use Rattle.golf_model.specs.Structures.{makes, makes_struct, gets_field, sets_field, makes_slice, makes_channel}
use Rattle.golf_model.specs.Structures.{gets_element, sets_element, measures}
use Rattle.golf_model.specs.Channels.{sends, receives, closes}
use Rattle.golf_model.specs.Selects.{selects}
use Rattle.golf_model.specs.Mutexes.{locks, unlocks, adds, waits}
use Rattle.golf_model.specs.ReadersWriters.{write_locks, write_unlocks, read_locks, read_unlocks}
use Rattle.golf_model.specs.Conditions.{makes_condition, gets_mutex, awaits, signals, broadcasts}
use Rattle.golf_model.specs.Calls.{calls, spawns, defers, returns, returns_value, leaves_returning, leaves_unwinding}
use Rattle.golf_model.specs.Finalisers.{finalises, unfinalises, begins_queued}
use Rattle.golf_model.specs.ClearedSlots.{clearing}

-- takes n operands and prints them as a line
abbrev pub prints : Code → Actor → ℕ → List Change
prints code a n =
    taking n (λ vs rest. on_some (λ bytes. Change.Output bytes ∷ goes a rest) (line_bytes code.texts vs))
    a.frame.operands

-- `text ->`; panics with the text
abbrev pub panics_with : Actor → List Change
panics_with a = taking_one (λ x rest. on_some (λ k. panics a (PanicKind.Custom k)) (text_of x)) a.frame.operands

-- the changes of one instruction; a `select` takes the ready case at place `choice`, counted modulo their number
abbrev pub changes : Code → Instr → Actor → ℕ → State → List Change
changes code (Instr.Int n) a choice s = pushes a (Value.Int n)
changes code (Instr.Bool b) a choice s = pushes a (Value.Bool b)
changes code (Instr.Text k) a choice s = pushes a (Value.Text k)
changes code Instr.Unit a choice s = pushes a Value.Unit
changes code Instr.Nil a choice s = pushes a Value.Nil
changes code (Instr.Load i) a choice s = loads a i
changes code (Instr.Store i) a choice s = stores a i
changes code (Instr.LoadGlobal i) a choice s = loads_global a i s
changes code (Instr.StoreGlobal i) a choice s = stores_global a i s
changes code Instr.Drop a choice s = drops a
changes code Instr.Dup a choice s = doubles a
changes code Instr.Dup2 a choice s = doubles_two a
changes code Instr.Neg a choice s = negates a
changes code Instr.Not a choice s = inverts a
changes code Instr.Add a choice s = computes sum a
changes code Instr.Sub a choice s = computes difference a
changes code Instr.Mul a choice s = computes product a
changes code Instr.Div a choice s = divides quotient a
changes code Instr.Rem a choice s = divides remainder a
changes code Instr.Eq a choice s = equates a
changes code Instr.Less a choice s = compares int_lt a
changes code Instr.AtMost a choice s = compares int_le a
changes code (Instr.Jump target) a choice s = jumps a target a.frame.operands
changes code (Instr.JumpIfNot target) a choice s = jumps_unless a target
changes code (Instr.NewStruct t) a choice s = makes_struct code a t s
changes code Instr.NewMutex a choice s = makes a (Object.Mutex false) a.frame.operands s
changes code Instr.NewGroup a choice s = makes a (Object.Group (pos 0)) a.frame.operands s
changes code Instr.NewRw a choice s = makes a (Object.Rw (pos 0)) a.frame.operands s
changes code Instr.NewCond a choice s = makes_condition a s
changes code (Instr.Field i) a choice s = gets_field a i s
changes code (Instr.SetField i) a choice s = sets_field a i s
changes code (Instr.NewSlice zero) a choice s = makes_slice a zero s
changes code (Instr.NewChan zero) a choice s = makes_channel a zero s
changes code Instr.Index a choice s = gets_element a s
changes code Instr.SetIndex a choice s = sets_element a s
changes code Instr.Len a choice s = measures a s
changes code Instr.Send a choice s = sends a s
changes code Instr.Receive a choice s = receives false a s
changes code Instr.ReceiveOk a choice s = receives true a s
changes code Instr.Close a choice s = closes a s
changes code (Instr.Select cases otherwise) a choice s = selects a s choice cases otherwise
changes code Instr.Lock a choice s = locks a s
changes code Instr.Unlock a choice s = unlocks a s
changes code Instr.GroupAdd a choice s = adds a s
changes code Instr.GroupWait a choice s = waits a s
changes code Instr.RwLock a choice s = write_locks a s
changes code Instr.RwUnlock a choice s = write_unlocks a s
changes code Instr.ReadLock a choice s = read_locks a s
changes code Instr.ReadUnlock a choice s = read_unlocks a s
changes code Instr.CondMutex a choice s = gets_mutex a s
changes code Instr.CondWait a choice s = awaits a s
changes code Instr.CondSignal a choice s = signals a s
changes code Instr.CondBroadcast a choice s = broadcasts a s
changes code (Instr.Call f n) a choice s = calls code a f n
changes code (Instr.Go f n) a choice s = spawns code a f n
changes code (Instr.Defer f n) a choice s = defers a f n
changes code Instr.Return a choice s = returns a
changes code Instr.ReturnValue a choice s = returns_value a
changes code (Instr.Print n) a choice s = prints code a n
changes code Instr.Collect a choice s = goes a a.frame.operands
changes code (Instr.SetFinalizer f) a choice s = finalises a f s
changes code Instr.ClearFinalizer a choice s = unfinalises a s
changes code Instr.Panic a choice s = panics_with a

-- the instruction at a place of a function, with its line
abbrev pub line_at : Code → ℕ → ℕ → Option CodeLine
line_at code f at = option_and_then (λ fn. slice_get fn.body at) (slice_get code.functions f)

abbrev pub line_number : Option CodeLine → ℕ
line_number None = 0
line_number (Some l) = l.line

-- the line of the return of a returning frame, whose position is one past the return
abbrev pub return_line : Code → FrameView → ℕ
return_line code f = line_number (line_at code f.function (f.at - 1))

-- the goroutine with this innermost frame, at an instruction of this line
abbrev pub acting : ℕ → GoroutineView → FrameView → List FrameView → ℕ → Actor
acting g r f callers line = record { number = g; frame = f; callers = callers; started = r.started; line = line }

-- the changes of an instruction at its line; past the end no rule fits
abbrev pub performs : Code → ℕ → GoroutineView → FrameView → List FrameView → ℕ → State → Option CodeLine → List Change
performs code g r f callers choice s None = []
performs code g r f callers choice s (Some l) = changes code l.instr (acting g r f callers l.line) choice s

-- the turn of a goroutine with this innermost frame
abbrev pub frame_changes : Code → ℕ → GoroutineView → FrameView → List FrameView → ℕ → State → Leaving → List Change
frame_changes code g r f callers choice s Leaving.No =
    performs code g r f callers choice s (line_at code f.function f.at)
frame_changes code g r f callers choice s (Leaving.Returning v) =
    leaves_returning code (acting g r f callers (return_line code f)) v f.deferred
frame_changes code g r f callers choice s (Leaving.Unwinding x) =
    leaves_unwinding code (acting g r f callers x.line) x f.deferred

-- the turn of a goroutine with these frames; goroutine 0 without frames takes an entry of its queue
abbrev pub goroutine_changes : Code → ℕ → GoroutineView → ℕ → State → List FrameView → List Change
goroutine_changes code g r choice s [] = cond (g == 0) (begins_queued code r s.queue) []
goroutine_changes code g r choice s (f ∷ callers) = frame_changes code g r f callers choice s f.leaving

abbrev pub turn_of : Code → ℕ → ℕ → State → Option GoroutineView → List Change
turn_of code g choice s None = []
turn_of code g choice s (Some r) = goroutine_changes code g r choice s r.frames

-- the changes of the turn of this goroutine; if there are none the state is stuck
abbrev pub turn_changes : Code → ℕ → State → Option ℕ → List Change
turn_changes code choice s None = []
turn_changes code choice s (Some g) = turn_of code g choice s (find g s.goroutines)

-- the goroutine that takes the turn: of those that can run, the one at place c, counted modulo their number (this
-- runtime's rule)
abbrev pub whose_turn : State → ℕ → Option ℕ
whose_turn s c = slice_get (runnable s) (c % length (runnable s))

abbrev pub is_collection : Instr → Bool
is_collection Instr.Collect = true
is_collection _ = false

abbrev pub line_collects : Option CodeLine → Bool
line_collects None = false
line_collects (Some l) = is_collection l.instr

abbrev pub frame_collects : Code → FrameView → Leaving → Bool
frame_collects code f Leaving.No = line_collects (line_at code f.function f.at)
frame_collects code f (Leaving.Returning v) = false
frame_collects code f (Leaving.Unwinding x) = false

abbrev pub frames_collect : Code → List FrameView → Bool
frames_collect code [] = false
frames_collect code (f ∷ fs) = frame_collects code f f.leaving

abbrev pub goroutine_collects : Code → Option GoroutineView → Bool
goroutine_collects code None = false
goroutine_collects code (Some r) = frames_collect code r.frames

-- whether the instruction of this turn is a collection
abbrev pub wants_collection : Code → State → ℕ → Bool
wants_collection code s c = goroutine_collects code (option_and_then (λ g. find g s.goroutines) (whose_turn s c))

-- the state that the changes of the turn of this number leave; if no rule fits it is unchanged
abbrev pub turned : Code → State → ℕ → State
turned code s c = apply_all (turn_changes code (c / length (runnable s)) s (whose_turn s c)) s

-- whether a rule fits the turn of this number
abbrev pub moves_on : Code → State → ℕ → Bool
moves_on code s c = not_empty (turn_changes code (c / length (runnable s)) s (whose_turn s c))

-- whether nothing is cleared after the turn of this number: its instruction is a collection, or no rule fits
abbrev pub clears_nothing : Code → State → ℕ → Bool
clears_nothing code s c = wants_collection code s c || not (moves_on code s c)

-- the changes that clear slots after the turn of this number
abbrev pub cleared_after : Code → State → ℕ → List Change
cleared_after code s c = clearing code (clears_nothing code s c) (whose_turn s c) (turned code s c)

-- the state after the turn of this number: its changes, and then the innermost frame of its goroutine is cleared; if no
-- rule fits it is unchanged
abbrev pub step : Code → State → ℕ → State
step code s c = apply_all (cleared_after code s c) (turned code s c)

-- a rule fits the turn of this number: the state is not stuck
abbrev pub MovesOn : Code → State → ℕ → Type 0
MovesOn code s c = moves_on code s c ≡ true
