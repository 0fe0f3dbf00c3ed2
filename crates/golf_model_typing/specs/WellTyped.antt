-- Well-typed states: values, frames and waits are of the types of a code. `known` gives the types of objects, by their
-- numbers.
use Rattle.std.specs.Prelude.{◌≡◌, ℕ, ◌+◌, ◌<◌, ◌≤◌, Bool, true, false, ◌||◌, List, [], ◌∷◌, ◌++◌, length, Option, Some}
use Rattle.std.specs.Prelude.{None, option_to_list, unwrap_or, ◌==◌, slice_get}
use Rattle.golf_theory.specs.Maps.{Entry, find, add}
use Rattle.golf_theory.specs.Membership.{Every}
use Rattle.golf_data.specs.declared.value.Value.{Value}
use Rattle.golf_data.specs.declared.value.Object.{Object}
use Rattle.golf_data.specs.declared.goroutine.Deferred.{Deferred}
use Rattle.golf_data.specs.declared.goroutine.Leaving.{Leaving}
use Rattle.golf_data.specs.declared.goroutine.Mode.{Mode}
use Rattle.golf_data.specs.declared.goroutine.Side.{Side}
use Rattle.golf_data.specs.declared.goroutine.Wait.{Wait}
use Rattle.golf_data.specs.declared.goroutine.Queued.{Queued}
use Rattle.golf_model.specs.Views.{FrameView, GoroutineView}
use Rattle.golf_model.specs.State.{State, not_empty}
use Rattle.golf_model.specs.Wakes.{Waking}
use Rattle.golf_model.specs.Changes.{Change, apply}
use Rattle.golf_model_typing.specs.Types.{ValueType, Shape, Signature, FunctionTypes, Typing, signature, HasType}
use Rattle.golf_model_typing.specs.Types.{ValueFits, ValuesFit, ObjectFits}
use Rattle.golf_model_typing.specs.Shapes.{slot_types}

-- the types of the values that a receive leaves, the top one first
abbrev pub received_types : Bool → ValueType → List ValueType
received_types true e = ValueType.Bool ∷ e ∷ []
received_types false e = e ∷ []

-- the types of the values that a frame leaves its caller
abbrev pub gives : Bool → Option ValueType → List ValueType
gives true result = []
gives false result = option_to_list result

module _ (types : Typing) (known : List (ℕ × ValueType)) where
  -- the slot holds a value of its type
  abbrev pub SlotFits : List ValueType → List Value → ℕ → Type 0
  SlotFits ts slots i = (t : ValueType) × (v : Value) × (slice_get ts i ≡ Some t) × (slice_get slots i ≡ Some v)
      × ValueFits types.of known v t

  -- a frame at this position, without the operands that it will still be given
  pub record FrameStands (ft : FunctionTypes) (lacking : List ValueType) (at : ℕ)
      (operands slots : List Value) : Type 0 where
    pub shape : Shape
    pub here : slice_get ft.shapes at ≡ Some shape
    pub rest : List ValueType
    pub lacks : shape.operands ≡ lacking ++ rest
    pub held : ValuesFit types.of known operands rest
    pub assigned : Every (SlotFits (slot_types ft) slots) shape.assigned

  -- the value that a frame returns is of the result type
  abbrev pub ResultFits : Option Value → Option ValueType → Type 0
  ResultFits None None = Unit {0}
  ResultFits None (Some t) = ⊥
  ResultFits (Some v) None = ⊥
  ResultFits (Some v) (Some t) = ValueFits types.of known v t

  -- a frame that is leaving has no shape, and nothing is asked of its operands and slots
  abbrev pub LeavingFits : FunctionTypes → List ValueType → ℕ → List Value → List Value → Leaving → Type 0
  LeavingFits ft lacking at operands slots Leaving.No = FrameStands ft lacking at operands slots
  LeavingFits ft lacking at operands slots (Leaving.Returning v) = ResultFits v ft.result
  LeavingFits ft lacking at operands slots (Leaving.Unwinding x) = Unit {0}

  -- a call of a function with these arguments
  abbrev pub CallFits : ℕ → List Value → Type 0
  CallFits f arguments = (sig : Signature) × (slice_get types.of.functions f ≡ Some sig)
      × ValuesFit types.of known arguments sig.params

  abbrev pub DeferredFits : Deferred → Type 0
  DeferredFits d = CallFits d.function d.arguments

  -- holds of a frame at any position
  pub record FrameBase (ft : FunctionTypes) (function : ℕ) (slots : List Value)
      (deferred : List Deferred) : Type 0 where
    pub typed : slice_get types.of.functions function ≡ Some (signature ft)
    pub shaped : slice_get types.shapes function ≡ Some ft.shapes
    pub full : length slots ≡ length (slot_types ft)
    pub deferred_calls : Every DeferredFits deferred

  abbrev pub FrameFits : FunctionTypes → List ValueType → FrameView → Type 0
  FrameFits ft lacking f = FrameBase ft f.function f.slots f.deferred
      × LeavingFits ft lacking f.at f.operands f.slots f.leaving

  -- each frame lacks the operands that the frame above it will leave
  abbrev pub FramesFit : List ValueType → List FrameView → Type 0
  FramesFit lacking [] = Unit {0}
  FramesFit lacking (f ∷ fs) = (ft : FunctionTypes) × FrameFits ft lacking f × FramesFit (gives f.discards ft.result) fs

  -- the frame can go on once the wait is served
  abbrev pub WaitFitsAt : FunctionTypes → FrameView → Wait → Side → Type 0
  WaitFitsAt ft f w Side.Receive = (e : ValueType) × HasType known w.object.0 (ValueType.Chan e)
      × LeavingFits ft (received_types w.with_ok e) (unwrap_or w.target f.at) f.operands f.slots f.leaving
  WaitFitsAt ft f w Side.Send = (e : ValueType) × HasType known w.object.0 (ValueType.Chan e)
      × ValueFits types.of known w.value e × LeavingFits ft [] (unwrap_or w.target f.at) f.operands f.slots f.leaving
  WaitFitsAt ft f w Side.Lock = HasType known w.object.0 ValueType.Mutex
      × LeavingFits ft [] f.at f.operands f.slots f.leaving
  WaitFitsAt ft f w Side.Group = HasType known w.object.0 ValueType.Group
      × LeavingFits ft [] f.at f.operands f.slots f.leaving
  WaitFitsAt ft f w Side.Read = HasType known w.object.0 ValueType.Rw
      × LeavingFits ft [] f.at f.operands f.slots f.leaving
  WaitFitsAt ft f w Side.Write = HasType known w.object.0 ValueType.Rw
      × LeavingFits ft [] f.at f.operands f.slots f.leaving
  WaitFitsAt ft f w Side.Cond = HasType known w.object.0 ValueType.Cond
      × LeavingFits ft [] f.at f.operands f.slots f.leaving

  abbrev pub WaitFits : FunctionTypes → FrameView → Wait → Type 0
  WaitFits ft f w = WaitFitsAt ft f w w.side

  -- for each wait, the innermost frame of a blocked goroutine lacks the values that this wait will give
  abbrev pub BlockedFits : List Wait → List FrameView → Type 0
  BlockedFits waits [] = ⊥
  BlockedFits waits (f ∷ fs) =
      (ft : FunctionTypes) × FrameBase ft f.function f.slots f.deferred × Every (WaitFits ft f) waits
      × FramesFit (gives f.discards ft.result) fs

  -- a wait on a condition is the goroutine's only wait
  abbrev pub WaitsAlone : List Wait → Type 0
  WaitsAlone waits = Every (λ w. w.side ≡ Side.Cond → waits ≡ w ∷ []) waits

  -- frames of a goroutine in this mode
  abbrev pub ModeFits : List FrameView → Mode → Type 0
  ModeFits frames Mode.Running = FramesFit [] frames
  ModeFits frames (Mode.Blocked kind line waits ticket) = BlockedFits waits frames × WaitsAlone waits

  -- only goroutine 0 may have no frame
  abbrev pub GoroutineFits : ℕ → GoroutineView → Type 0
  GoroutineFits g r = ModeFits r.frames r.mode × ((g == 0) || not_empty r.frames ≡ true)

  -- a function that can be called with the object
  abbrev pub FinaliserFits : ℕ → ℕ → Type 0
  FinaliserFits o f = CallFits f (Value.Ref (record { 0 = o }) ∷ [])

  -- all values fit their types; an object number that is not given yet is not known and has no object
  pub record WellTyped (s : State) : Type 0 where
    pub globals : ValuesFit types.of known s.globals types.of.globals
    pub objects : (o : ℕ) (t : ValueType) (x : Object) → HasType known o t → find o s.objects ≡ Some x
        → ObjectFits types.of known x t
    pub goroutines : (g : ℕ) (r : GoroutineView) → Entry s.goroutines g r → GoroutineFits g r
    pub finalisers : (o f : ℕ) → Entry s.finalisers o f → FinaliserFits o f
    pub queue : Every (λ (q : Queued). FinaliserFits q.object.0 q.function) s.queue
    pub below : (o : ℕ) (t : ValueType) → HasType known o t → o ≤ s.last_object
    pub fresh : (o : ℕ) → s.last_object < o → find o s.objects ≡ None

  -- the value that a waking gives is of the type of the channel's elements
  abbrev pub WakingFits : ℕ → Waking → Type 0
  WakingFits o (Waking.Closing zero) = (e : ValueType) × HasType known o (ValueType.Chan e)
      × ValueFits types.of known zero e
  WakingFits o Waking.AtZero = Unit {0}
  WakingFits o (Waking.ToReaders below) = Unit {0}

  -- a goroutine that goes on where it stands, and gets no value
  abbrev pub LacksNothing : Mode → Type 0
  LacksNothing Mode.Running = Unit {0}
  LacksNothing (Mode.Blocked kind line [] ticket) = ⊥
  LacksNothing (Mode.Blocked kind line (w ∷ ws) ticket) = (w.side ≡ Side.Receive → ⊥) × (w.side ≡ Side.Send → ⊥)

  -- a change that keeps types and makes no object
  abbrev pub ChangeFits : State → Change → Type 0
  ChangeFits s (Change.Make x) = ⊥
  ChangeFits s (Change.Replace o x) = (t : ValueType) × HasType known o t × ObjectFits types.of known x t
  ChangeFits s (Change.SetGlobal i v) = (t : ValueType) × (slice_get types.of.globals i ≡ Some t)
      × ValueFits types.of known v t
  ChangeFits s (Change.Become g r) = GoroutineFits g r
  ChangeFits s (Change.Block g kind line waits r) = BlockedFits waits r.frames × WaitsAlone waits
  ChangeFits s (Change.Spawn r) = ModeFits r.frames r.mode × (not_empty r.frames ≡ true)
  ChangeFits s (Change.Leave g) = Unit {0}
  ChangeFits s (Change.Finish e) = Unit {0}
  ChangeFits s (Change.SetFinaliser o f) = FinaliserFits o f
  ChangeFits s (Change.ClearFinaliser o) = Unit {0}
  ChangeFits s Change.TakeQueued = Unit {0}
  ChangeFits s (Change.Output bytes) = Unit {0}
  ChangeFits s (Change.WakeAll o how) = WakingFits o how
  ChangeFits s (Change.Requeue g m) = HasType known m ValueType.Mutex
      × ((r : GoroutineView) → find g s.goroutines ≡ Some r → LacksNothing r.mode)

-- changes that keep types, one after another; a new object becomes known
abbrev pub ChangesFit : Typing → List (ℕ × ValueType) → State → List Change → Type 0
ChangesFit types known s [] = Unit {0}
ChangesFit types known s (Change.Make x ∷ cs) = (t : ValueType) × ObjectFits types.of known x t
    × ChangesFit types (add (s.last_object + 1) t known) (apply (Change.Make x) s) cs
ChangesFit types known s (c ∷ cs) = ChangeFits types known s c × ChangesFit types known (apply c s) cs
