-- The calls of a run: the operations that each has shown and its answers, turn by turn; and what holds of them.
use Rattle.std.specs.Prelude.{◌≡◌, ℕ, zero, suc, ◌-◌, ◌==◌, Bool, true, false, cond, List, [], ◌∷◌, ◌++◌, length, map}
use Rattle.std.specs.Prelude.{Option, Some, None, unwrap_or, slice_get}
use Rattle.golf_theory.specs.Maps.{find, Entry}
use Rattle.golf_theory.specs.Membership.{Every}
use Rattle.golf_data.specs.declared.value.Value.{Value}
use Rattle.golf_data.specs.declared.code.Code.{Code}
use Rattle.golf_data.specs.declared.code.CodeLine.{CodeLine}
use Rattle.golf_data.specs.declared.code.Function.{Function}
use Rattle.golf_data.specs.declared.goroutine.Deferred.{Deferred}
use Rattle.golf_data.specs.declared.goroutine.Leaving.{Leaving}
use Rattle.golf_data.specs.declared.goroutine.Mode.{Mode}
use Rattle.golf_data.specs.declared.goroutine.Queued.{Queued}
use Rattle.golf_data.specs.declared.goroutine.Wait.{Wait}
use Rattle.golf_live.specs.Live.{live}
use Rattle.golf_model.specs.Views.{FrameView, GoroutineView}
use Rattle.golf_model.specs.State.{State, start, ending}
use Rattle.golf_model.specs.Turn.{line_at, whose_turn, step, MovesOn}
use Rattle.golf_model.specs.Runs.{Event, has_ended, happens, run}
use Rattle.golf_model_typing.specs.Types.{ValueType, Signature, FunctionTypes, signature, Typing, ValuesFit}
use Rattle.golf_model_typing.specs.Grows.{Grows}
use Rattle.golf_model_typing.specs.Shapes.{HasShapes}
use Rattle.golf_model_typing.specs.WellTyped.{WellTyped}
use Rattle.golf_meaning_flat.specs.Worlds.{Operation, Halt, pushed}
use Rattle.golf_meaning_flat.specs.InstructionEffects.{Frame}
use Rattle.golf_meaning_flat.specs.Flat.{lower}
use Rattle.golf_meaning_runs.specs.VisibleOutcomes.{IsOfLock}
use Rattle.golf_meaning_runs.specs.FrameShapes.{Shaping, IsShaped}
use Rattle.golf_meaning_runs.specs.Life.{frame, Now, Life}
use Rattle.golf_meaning_runs.specs.AnswerTypes.{AnswerFits, AreAnswers}
use Rattle.golf_meaning_runs.specs.TurnsInLives.{answer, Asked, shows, ends_with}
use Rattle.golf_meaning_runs.specs.CallRecords.{Standing, CallSnapshot, Child, Origin, Call, Beginning, fresh, as_seen, call_of}
use Rattle.golf_meaning_runs.specs.CallRecords.{beginning, beginners, StartedCall, noting_start, started_as, starts, origin_by, leaving_so, noted_below, deferrals}
use Rattle.golf_meaning_runs.specs.Joins.{IsOutermostOf, OutermostIs, GoesNoMore, IsBegun, DiscardsSo, IsOutermost, JoinsTop, JoinsBelow, JoinsEnded}
use Rattle.golf_meaning_runs.specs.Joins.{DeferredHaveRun, HasLeftSo}

-- n operands in source order
abbrev pub popped : ℕ → List Value → List Value → List Value
popped zero vs os = vs
popped (suc n) vs [] = vs
popped (suc n) vs (v ∷ os) = popped n (v ∷ vs) os

-- before the next turn of a call the answer to its last operation is recorded: its clause is given by the call's place,
-- and its values are on top of the operands that were left
abbrev pub settled_by : Standing → FrameView → Call → Call
settled_by Standing.Goes f k = k
settled_by (Standing.Asks q) f k = record k {
  got = k.got
      ++ answer (lower q.ranks f.at) (popped (length f.operands - length q.rest) [] f.operands) ∷ [];
  standing =
      Standing.Goes;
}
settled_by (Standing.Ended h) f k = k

-- by its turn a call shows an operation, or ends, or does neither
abbrev pub with_turn : Option (Operation × Asked) → Option Halt → Call → Call
with_turn (Some x) e k = record k { shown = k.shown ++ x.0 ∷ []; standing = Standing.Asks x.1 }
with_turn None None k = k
with_turn None (Some h) k = record k { standing = Standing.Ended h }

-- ---- the calls of a goroutine after its turn

abbrev pub line_shows : Option CodeLine → FrameView → Option (Operation × Asked)
line_shows None f = None
line_shows (Some l) f = shows l.instr f.operands

abbrev pub line_ends : Option CodeLine → FrameView → Option Halt
line_ends None f = None
line_ends (Some l) f = ends_with l.instr f.at (frame f.slots f.operands)

-- the innermost call after a turn, by how its frame is leaving
abbrev pub turned_call : Code → FrameView → Leaving → Call → Call
turned_call code f Leaving.No k = with_turn (line_shows (line_at code f.function f.at) f)
    (line_ends (line_at code f.function f.at) f) (settled_by k.standing f k)
turned_call code f (Leaving.Returning v) k = k
turned_call code f (Leaving.Unwinding x) k = k

-- the arguments of the call that a turn begins: those of the operation, or those of the deferred call
abbrev pub operands_shown : Option (Operation × Asked) → List Value
operands_shown None = []
operands_shown (Some x) = x.0.operands

abbrev pub first_arguments : List Deferred → List Value
first_arguments [] = []
first_arguments (d ∷ ds) = d.arguments

abbrev pub passed : Code → FrameView → Leaving → List Value
passed code f Leaving.No = operands_shown (line_shows (line_at code f.function f.at) f)
passed code f (Leaving.Returning v) = first_arguments f.deferred
passed code f (Leaving.Unwinding x) = first_arguments f.deferred

-- whether a list is longer than another
abbrev pub is_longer : {X : Type 0} → List X → List X → Bool
is_longer [] ys = false
is_longer (x ∷ xs) [] = true
is_longer (x ∷ xs) (y ∷ ys) = is_longer xs ys

abbrev pub begun_in : Origin → List FrameView → List Value → List Call
begun_in o [] vs = []
begun_in o (f ∷ fs) vs = fresh o f.function vs ∷ []

-- one more frame is one more call; one frame fewer is one call fewer, which the call below notes
abbrev pub rebooked : Code → FrameView → List FrameView → List FrameView → Call → List Call → List Call
rebooked code f callers after k ks = cond (is_longer after (f ∷ callers))
    (begun_in (origin_by f.leaving (turned_call code f f.leaving k)) after (passed code f f.leaving)
    ++ turned_call code f f.leaving k ∷ ks)
    (cond (is_longer (f ∷ callers) after) (noted_below k.origin
    (leaving_so f.leaving (turned_call code f f.leaving k)) ks)
    (turned_call code f f.leaving k ∷ ks))

abbrev pub queue_arguments : List Queued → List Value
queue_arguments [] = []
queue_arguments (q ∷ qs) = Value.Ref q.object ∷ []

abbrev pub calls_after : Code → List Queued → List FrameView → List FrameView → List Call → List Call
calls_after code queue [] after ks = begun_in Origin.Finalising after (queue_arguments queue)
calls_after code queue (f ∷ callers) after [] = []
calls_after code queue (f ∷ callers) after (k ∷ ks) = rebooked code f callers after k ks

-- ---- the book of a run: the calls of each goroutine, the innermost first

abbrev pub Book : Type 0
Book = ℕ → List Call

abbrev pub frames_in : Option GoroutineView → List FrameView
frames_in None = []
frames_in (Some r) = r.frames

abbrev pub frames_at : State → ℕ → List FrameView
frames_at s g = frames_in (find g s.goroutines)

-- the goroutine that is started gets the operands of `go`
abbrev pub started_with : Code → List FrameView → List Value
started_with code [] = []
started_with code (f ∷ callers) = passed code f f.leaving

-- it is begun by the innermost call of the goroutine that starts it
abbrev pub begun_by : Code → List FrameView → List Call → List FrameView → List Call
begun_by code (f ∷ callers) (k ∷ ks) after =
    begun_in (Origin.Starting (as_seen (turned_call code f f.leaving k))) after (started_with code (f ∷ callers))
begun_by code _ _ after = []

abbrev pub turned_book : Code → State → ℕ → Option ℕ → Book → Book
turned_book code s c None b h = b h
turned_book code s c (Some g) b h =
    cond (h == g) (noting_start s.next_goroutine
    (begun_by code (frames_at s g) (b g) (frames_at (step code s c) s.next_goroutine))
    (calls_after code s.queue (frames_at s g) (frames_at (step code s c) g) (b g)))
    (cond (h == s.next_goroutine) (begun_by code (frames_at s g) (b g) (frames_at (step code s c) h)) (b h))

abbrev pub booked_in : Bool → Code → State → Event → Book → Book
booked_in true code s e b = b
booked_in false code s (Event.Turn c) b = turned_book code s c (whose_turn s c) b
booked_in false code s Event.Collect b = b

abbrev pub book_from : Code → State → List Event → Book → Book
book_from code s [] b = b
book_from code s (e ∷ es) b = book_from code (happens code s e) es (booked_in (has_ended s) code s e b)

-- at first, goroutine 1 has a call of function 0
abbrev pub first_book : Book
first_book g = cond (g == 1) (fresh Origin.Opening 0 [] ∷ []) []

-- the calls of the run from the opening state
abbrev pub book_of : Code → List Event → Book
book_of code es = book_from code (start code) es first_book

-- ---- the calls that have left the book because their frames are gone

-- with one frame fewer, the innermost call has left
abbrev pub left_by : Code → List FrameView → List FrameView → List Call → List Call
left_by code (f ∷ callers) after (k ∷ ks) =
    cond (is_longer (f ∷ callers) after) (leaving_so f.leaving (turned_call code f f.leaving k) ∷ []) []
left_by code _ after _ = []

abbrev pub left_at_turn : Code → State → ℕ → Option ℕ → Book → List Call
left_at_turn code s c None b = []
left_at_turn code s c (Some g) b = left_by code (frames_at s g) (frames_at (step code s c) g) (b g)

abbrev pub left_in : Bool → Code → State → Event → Book → List Call
left_in true code s e b = []
left_in false code s (Event.Turn c) b = left_at_turn code s c (whose_turn s c) b
left_in false code s Event.Collect b = []

abbrev pub left_from : Code → State → List Event → Book → List Call
left_from code s [] b = []
left_from code s (e ∷ es) b = left_in (has_ended s) code s e b
    ++ left_from code (happens code s e) es (booked_in (has_ended s) code s e b)

-- the calls that left in the run from the opening state, in the order in which they left
abbrev pub left_of : Code → List Event → List Call
left_of code es = left_from code (start code) es first_book

-- ---- what holds of the calls

-- the types of a code with the shapes of its functions, and the types of the objects of a run
pub record RunTypes : Type 0 where
  pub typing : Typing
  pub known : List (ℕ × ValueType)

-- the values are of the types of the function's parameters
abbrev pub AreArguments : RunTypes → ℕ → List Value → Type 0
AreArguments types f vs = (sig : Signature) × (slice_get types.typing.of.functions f ≡ Some sig)
    × ValuesFit types.typing.of types.known vs sig.params

-- the shapes of a function
abbrev pub shaping : RunTypes → ℕ → Option Shaping
shaping types f = Some (record {
  types = types.typing.of;
  known = types.known;
  shapes = unwrap_or (slice_get types.typing.shapes f) [];
})

-- a frame of the function has the shape of this place
abbrev pub Shaped : RunTypes → ℕ → ℕ → Frame → Type 0
Shaped types f at c = IsShaped (shaping types f) at c

-- the function of this number can be called with these arguments
abbrev pub CanBeCalledWith : Code → RunTypes → ℕ → List Value → Type 0
CanBeCalledWith code types f vs = (fn : Function) → slice_get code.functions f ≡ Some fn → (length vs ≡ fn.params)
    × AreArguments types f vs

-- the present of a life agrees with the standing of the call
abbrev pub StandsSo : Standing → Now → Type 0
StandsSo Standing.Goes (Now.Stands at c) = Unit {0}
StandsSo (Standing.Asks q) (Now.Asks at c before) = Unit {0}
StandsSo (Standing.Ended h) (Now.Halted i) = h ≡ i
StandsSo _ _ = ⊥

-- the call has arguments of the types of its function, and a life whose frames have shapes and whose present agrees
-- with the call's standing
abbrev pub Lives : RunTypes → Function → Call → Type 0
Lives types fn k = AreArguments types k.function k.arguments
    × ((now : Now) × Life fn (shaping types k.function) k.arguments k.shown k.got now × StandsSo k.standing now)

abbrev pub HasLife : Code → RunTypes → Call → Type 0
HasLife code types k = (fn : Function) × (slice_get code.functions k.function ≡ Some fn) × Lives types fn k

-- with this answer to its last operation the call is at that place, if its frame has the shape of the place
abbrev pub LivesAt : RunTypes → Function → Call → List ℕ → ℕ → List Value → List Value → List Value → Type 0
LivesAt types fn k ranks to slots values rest = Shaped types k.function to (frame slots (pushed values rest))
    → Life fn (shaping types k.function) k.arguments k.shown (k.got ++ answer (lower ranks to) values ∷ [])
    (Now.Stands to (frame slots (pushed values rest)))

-- the call lives on with any values by which this wait serves it, and also if it is only woken
abbrev pub MayServe : RunTypes → Function → Call → Asked → FrameView → Wait → Type 0
MayServe types fn k q f w = ((values : List Value)
    → LivesAt types fn k q.ranks (unwrap_or w.target f.at) f.slots values q.rest)
    × (IsOfLock w.side → LivesAt types fn k q.ranks f.at f.slots [] q.rest)

-- the innermost frame of a goroutine and its call: the call is at its place, or was answered, or waits
abbrev pub IsOnTop : RunTypes → Function → Call → FrameView → Standing → Mode → Type 0
IsOnTop types fn k f Standing.Goes Mode.Running =
    Life fn (shaping types k.function) k.arguments k.shown k.got (Now.Stands f.at (frame f.slots f.operands))
IsOnTop types fn k f Standing.Goes (Mode.Blocked kind line waits ticket) = ⊥
IsOnTop types fn k f (Standing.Asks q) Mode.Running = (values : List Value) × (f.operands ≡ pushed values q.rest)
    × LivesAt types fn k q.ranks f.at f.slots values q.rest
IsOnTop types fn k f (Standing.Asks q) (Mode.Blocked kind line waits ticket) = (f.operands ≡ q.rest)
    × Every (MayServe types fn k q f) waits
IsOnTop types fn k f (Standing.Ended h) mode = ⊥

-- a call whose frame is leaving: it has returned this value, or it unwinds
abbrev pub IsLeft : Call → Leaving → Type 0
IsLeft k Leaving.No = Unit {0}
IsLeft k (Leaving.Returning v) = k.standing ≡ Standing.Ended (Halt.Returned v)
IsLeft k (Leaving.Unwinding x) = GoesNoMore k.standing

abbrev pub Top : RunTypes → Function → Call → FrameView → Leaving → Mode → Type 0
Top types fn k f Leaving.No mode = IsOnTop types fn k f k.standing mode
Top types fn k f (Leaving.Returning v) mode = IsLeft k (Leaving.Returning v)
Top types fn k f (Leaving.Unwinding x) mode = IsLeft k (Leaving.Unwinding x)

-- a frame below another: its call waits for the value that the frame above gives
abbrev pub WaitsBelow : RunTypes → Function → Call → FrameView → Standing → Type 0
WaitsBelow types fn k f Standing.Goes = ⊥
WaitsBelow types fn k f (Standing.Asks q) = (f.operands ≡ q.rest)
    × ((values : List Value) → LivesAt types fn k q.ranks f.at f.slots values q.rest)
WaitsBelow types fn k f (Standing.Ended h) = ⊥

abbrev pub Below : RunTypes → Function → Call → FrameView → Leaving → Type 0
Below types fn k f Leaving.No = WaitsBelow types fn k f k.standing
Below types fn k f (Leaving.Returning v) = IsLeft k (Leaving.Returning v)
Below types fn k f (Leaving.Unwinding x) = IsLeft k (Leaving.Unwinding x)

-- the frame is of the function of its call
abbrev pub Of : Code → RunTypes → Call → FrameView → (Function → Type 0) → Type 0
Of code types k f P = (fn : Function) × (slice_get code.functions k.function ≡ Some fn) × (f.function ≡ k.function)
    × Lives types fn k × P fn

-- these calls have lives
abbrev pub one_of : Child → CallSnapshot
one_of x = x.one

abbrev pub AreLived : Code → RunTypes → List CallSnapshot → Type 0
AreLived code types ss = Every (λ (x : CallSnapshot). HasLife code types (call_of x)) ss

-- A call that was begun so, and the calls that it began and that have left: function and arguments are those of its
-- beginning, and the others have lives.
pub record Ties (code : Code) (types : RunTypes) (o : Origin) (f : ℕ) (vs : List Value) (made : List Child)
    (late : List Child) (shown : List Operation) (spawned : List StartedCall) (discards : Bool) : Type 0 where
  pub begun : IsBegun o f vs
  pub by : AreLived code types (beginners o)
  pub discards_so : DiscardsSo o discards
  pub made_live : AreLived code types (map one_of made)
  pub late_live : AreLived code types (map one_of late)
  pub starts_so : map started_as spawned ≡ starts shown

abbrev pub TiesOf : Code → RunTypes → Call → Bool → Type 0
TiesOf code types k d = Ties code types k.origin k.function k.arguments k.made k.late k.shown k.spawned d

-- the frames below a call that was begun so
abbrev pub FramesStand : Code → RunTypes → Beginning → List FrameView → List Call → Type 0
FramesStand code types above [] [] = IsOutermost above.origin
FramesStand code types above (f ∷ fs) (k ∷ ks) = Of code types k f (λ fn. Below types fn k f f.leaving)
    × JoinsBelow above k f f.leaving × TiesOf code types k f.discards × FramesStand code types (beginning k) fs ks
FramesStand code types above _ _ = ⊥

-- the frames of a goroutine match its calls
abbrev pub FramesMatch : Code → RunTypes → Mode → List FrameView → List Call → Type 0
FramesMatch code types mode [] [] = Unit {0}
FramesMatch code types mode (f ∷ fs) (k ∷ ks) = Of code types k f (λ fn. Top types fn k f f.leaving mode)
    × JoinsTop k f f.leaving mode × TiesOf code types k f.discards × FramesStand code types (beginning k) fs ks
FramesMatch code types mode _ _ = ⊥

-- A call that has left. It goes on no more, and is joined. All of its deferred calls have run. It has returned and none
-- of these has panicked, or it panicked.
pub record CallHasLeft (code : Code) (types : RunTypes) (k : Call) : Type 0 where
  pub life : HasLife code types k
  pub ended : GoesNoMore k.standing
  pub joins : JoinsEnded k k.standing
  pub ran : DeferredHaveRun k (deferrals k.shown)
  pub so : HasLeftSo k.panicked k
  pub begun : IsBegun k.origin k.function k.arguments
  pub by : AreLived code types (beginners k.origin)
  pub made_live : AreLived code types (map one_of k.made)
  pub late_live : AreLived code types (map one_of k.late)
  pub starts_so : map started_as k.spawned ≡ starts k.shown

-- the masks of each function are those of its body
abbrev pub HasMasks : Code → Type 0
HasMasks code = (k : ℕ) (fn : Function) → slice_get code.functions k ≡ Some fn → fn.live ≡ live fn.slots fn.body

-- each function has as many parameters as its type says
abbrev pub HasParameters : Code → Typing → Type 0
HasParameters code types = (k : ℕ) (fn : Function) (sig : Signature) → slice_get code.functions k ≡ Some fn
    → slice_get types.of.functions k ≡ Some sig → fn.params ≡ length sig.params

-- the state is well typed by what is known of its objects, and all of that is still known later
abbrev pub TypedIn : Typing → List (ℕ × ValueType) → State → Type 0
TypedIn types later s = (known : List (ℕ × ValueType)) × WellTyped types known s × Grows known later

-- each state of a run from this one on is well typed
abbrev pub TypedAlong : Code → Typing → List (ℕ × ValueType) → State → List Event → Type 0
TypedAlong code types later s [] = TypedIn types later s
TypedAlong code types later s (e ∷ es) = TypedIn types later s × TypedAlong code types later (happens code s e) es

-- the states of each run are well typed, and none is stuck before its ending
abbrev pub GoesWell : Code → Typing → Type 0
GoesWell code types =
    ((events : List Event) → (known : List (ℕ × ValueType)) × TypedAlong code types known (start code) events)
    × ((events : List Event) (c : ℕ) → ending (run code (start code) events) ≡ None
    → MovesOn code (run code (start code) events) c)

-- each answer of the call is of the types that its operation leaves, by the shapes of a function with its signature
abbrev pub IsAnswered : RunTypes → Call → Type 0
IsAnswered types k = (ft : FunctionTypes) × (slice_get types.typing.of.functions k.function ≡ Some (signature ft))
    × AreAnswers (AnswerFits types.typing.of types.known ft) k.shown k.got

-- In each state of a run without an ending the frames of each goroutine match its calls, with the operations shown and
-- the answers got in that run. Each call, even one that has left, has arguments of its types, a life, and answers of
-- the types that its operations leave. A call that has left does not go on.
pub record IsBooked (code : Code) (types : RunTypes) (events : List Event) : Type 0 where
  pub going : ending (run code (start code) events) ≡ None → (g : ℕ) (r : GoroutineView)
      → Entry (run code (start code) events).goroutines g r
      → FramesMatch code types r.mode r.frames (book_of code events g)
  pub always : (g : ℕ) → Every (HasLife code types) (book_of code events g)
  pub first : (g : ℕ) → OutermostIs (IsOutermostOf g) (book_of code events g)
  pub left : Every (CallHasLeft code types) (left_of code events)
  pub answered : (g : ℕ) → Every (IsAnswered types) (book_of code events g)
  pub left_answered : Every (IsAnswered types) (left_of code events)

-- a run is booked if the code has shapes and goes well; `known` has the objects known at the end of the run
abbrev pub RunsAreBooked : Type 0
RunsAreBooked = (code : Code) (types : Typing) → HasMasks code → HasShapes code types → HasParameters code types
    → GoesWell code types → (events : List Event) → (known : List (ℕ × ValueType))
    × IsBooked code (record { typing = types; known = known }) events
