-- The outcome of a visible operation in the goroutine that does it.
use Rattle.std.specs.Prelude.{◌≡◌, ℕ, zero, suc, true, false, List, [], ◌∷◌, ◌++◌, Option, Some, None, ◌⊎◌, slice_get}
use Rattle.golf_theory.specs.Membership.{In, Every}
use Rattle.golf_data.specs.declared.value.Value.{Value}
use Rattle.golf_data.specs.declared.code.Code.{Code}
use Rattle.golf_data.specs.declared.code.Function.{Function}
use Rattle.golf_data.specs.declared.code.Instr.{Instr}
use Rattle.golf_data.specs.declared.goroutine.Deferred.{Deferred}
use Rattle.golf_data.specs.declared.goroutine.Mode.{Mode}
use Rattle.golf_data.specs.declared.goroutine.PanicKind.{PanicKind}
use Rattle.golf_data.specs.declared.goroutine.Side.{Side}
use Rattle.golf_data.specs.declared.goroutine.Wait.{Wait}
use Rattle.golf_data.specs.declared.goroutine.WaitKind.{WaitKind}
use Rattle.golf_model.specs.Views.{FrameView, GoroutineView}
use Rattle.golf_model.specs.State.{State, opened}
use Rattle.golf_model.specs.Waiters.{Waiter, waiters}
use Rattle.golf_model.specs.Wakes.{resumed, released}
use Rattle.golf_model.specs.Changes.{Change}
use Rattle.golf_model.specs.Actors.{Actor, with_frames, stands, panics, dies, blocks}
use Rattle.golf_meaning_flat.specs.Worlds.{pushed}

-- n operands in source order, and the operands below them; none if there are fewer
abbrev pub split_from : ℕ → List Value → List Value → Option (List Value × List Value)
split_from zero taken rest = Some (taken, rest)
split_from (suc n) taken [] = None
split_from (suc n) taken (v ∷ rest) = split_from n (v ∷ taken) rest

-- the side of a lock, a group or a condition, which gives no values
abbrev pub IsOfLock : Side → Type 0
IsOfLock Side.Send = ⊥
IsOfLock Side.Receive = ⊥
IsOfLock _ = Unit {0}

-- a waiter with that side goes on as this goroutine: it was served with values, or a lock, a group or a condition
-- released it where it stands
abbrev pub GoesOnAs : Side → Waiter → GoroutineView → Type 0
GoesOnAs side w r = ((values : List Value) × (r ≡ resumed w.wait values w.goroutine))
    ⊎ (IsOfLock side × (r ≡ released w.goroutine))

-- the goroutine of this number is a waiter of the state, and goes on as this goroutine
abbrev pub Serves : State → ℕ → GoroutineView → Type 0
Serves s h r = (o : ℕ) × (side : Side) × (w : Waiter) × In w (waiters o side s.goroutines) × (w.number ≡ h)
    × GoesOnAs side w r

-- the goroutine of this number waits on a condition
abbrev pub WaitsOnCondition : State → ℕ → Type 0
WaitsOnCondition s h = (o : ℕ) × (w : Waiter) × In w (waiters o Side.Cond s.goroutines) × (w.number ≡ h)

-- a change that is not of goroutine g; a goroutine that it changes is a waiter
abbrev pub IsOther : State → ℕ → Change → Type 0
IsOther s g (Change.Make x) = Unit {0}
IsOther s g (Change.Replace o x) = Unit {0}
IsOther s g (Change.SetGlobal i v) = Unit {0}
IsOther s g (Change.Become h r) = (h ≡ g → ⊥) × Serves s h r
IsOther s g (Change.Block h kind line waits r) = ⊥
IsOther s g (Change.Spawn r) = ⊥
IsOther s g (Change.Leave h) = ⊥
IsOther s g (Change.Finish e) = ⊥
IsOther s g (Change.SetFinaliser o f) = Unit {0}
IsOther s g (Change.ClearFinaliser o) = Unit {0}
IsOther s g Change.TakeQueued = ⊥
IsOther s g (Change.Output bytes) = Unit {0}
IsOther s g (Change.WakeAll o how) = Unit {0}
IsOther s g (Change.Requeue h m) = (h ≡ g → ⊥) × WaitsOnCondition s h

abbrev pub AreOthers : State → ℕ → List Change → Type 0
AreOthers s g cs = Every (IsOther s g) cs

-- the frame of a goroutine at a place, with these operands
abbrev pub stood : Actor → ℕ → List Value → FrameView
stood a to operands = record a.frame { at = to; operands = operands }

-- the goroutine that this actor starts, with its first frame
abbrev pub started_on : Actor → FrameView → GoroutineView
started_on a x = record { frames = x ∷ []; mode = Mode.Running; started = a.line }

-- the instruction calls the function of this number, or starts a goroutine on it
abbrev pub CalledBy : Instr → ℕ → Type 0
CalledBy (Instr.Call f n) g = f ≡ g
CalledBy (Instr.Go f n) g = f ≡ g
CalledBy _ g = ⊥

-- the instruction defers a call
abbrev pub DefersBy : Instr → Type 0
DefersBy (Instr.Defer f n) = Unit {0}
DefersBy _ = ⊥

-- The outcome of an operation with its operands, and with `rest` below them:
--   no rule fits;
--   it is answered at once, and the goroutine goes on at a place where answers go on;
--   it waits, in wait queues or for the function that it calls;
--   it starts a goroutine on a function;
--   it defers a call;
--   it has no answer, since the goroutine panics or the program ends.
pub data ComesTo (code : Code) (s : State) (a : Actor) (i : Instr) (operands rest : List Value) (Answering : ℕ → Type 0)
    (Waiting : ℕ → List Wait → Type 0) (cs : List Change) : Type 0 where
  NoRule : cs ≡ [] → ComesTo code s a i operands rest Answering Waiting cs
  Answered : (to : ℕ) (values : List Value) (before later : List Change) → Answering to → cs ≡ before
      ++ (stands a (stood a to (pushed values rest)) ++ later) → AreOthers s a.number before
      → AreOthers s a.number later → ComesTo code s a i operands rest Answering Waiting cs
  Waits : (to : ℕ) (kind : WaitKind) (waits : List Wait) (before : List Change) → Waiting to waits → cs ≡ before
      ++ blocks a (stood a to rest) kind waits → AreOthers s a.number before
      → ComesTo code s a i operands rest Answering Waiting cs
  Calls : (to g : ℕ) (fn : Function) → Answering to → CalledBy i g → slice_get code.functions g ≡ Some fn
      → cs ≡ Change.Become a.number (with_frames a (opened g operands false fn ∷ (stood a to rest ∷ a.callers))) ∷ []
      → ComesTo code s a i operands rest Answering Waiting cs
  Starts : (to g : ℕ) (fn : Function) → Answering to → CalledBy i g → slice_get code.functions g ≡ Some fn
      → cs ≡ Change.Spawn (started_on a (opened g operands true fn)) ∷ stands a (stood a to rest)
      → ComesTo code s a i operands rest Answering Waiting cs
  Defers : (to : ℕ) (d : Deferred) → Answering to → DefersBy i
      → cs ≡ stands a (record a.frame { at = to; operands = rest; deferred = d ∷ a.frame.deferred })
      → ComesTo code s a i operands rest Answering Waiting cs
  Panics : (kind : PanicKind) → cs ≡ panics a kind → ComesTo code s a i operands rest Answering Waiting cs
  Dies : (kind : PanicKind) → cs ≡ dies a kind → ComesTo code s a i operands rest Answering Waiting cs

-- the same; with too few operands no rule fits
abbrev pub ComesBy : Code → State → Actor → Instr → (ℕ → Type 0) → (ℕ → List Wait → Type 0)
    → Option (List Value × List Value) → List Change → Type 0
ComesBy code s a i Answering Waiting None cs = cs ≡ []
ComesBy code s a i Answering Waiting (Some o) cs = ComesTo code s a i o.0 o.1 Answering Waiting cs

-- a goroutine that is served for one of these waits goes on where it stands
abbrev pub ServedGoOn : List Wait → Type 0
ServedGoOn ws = Every (λ (w : Wait). w.target ≡ None) ws

-- a goroutine that is served for one of these waits goes on at one of these places, and a channel serves it
abbrev pub Chooses : List ℕ → List Wait → Type 0
Chooses ts ws = Every (λ (w : Wait). (t : ℕ) × (w.target ≡ Some t) × In t ts
    × ((w.side ≡ Side.Send) ⊎ (w.side ≡ Side.Receive))) ws

-- the goroutine is in no wait queue
abbrev pub IsAwake : State → ℕ → Type 0
IsAwake s g = (o : ℕ) (side : Side) (w : Waiter) → In w (waiters o side s.goroutines) → w.number ≡ g → ⊥
