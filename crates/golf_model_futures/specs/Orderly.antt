-- Goroutines in order: each blocked goroutine has a frame and its own ticket, each goroutine that waits on a condition
-- waits on one with a mutex, and goroutine 0 exists.
use Rattle.std.specs.Prelude.{◌≡◌, ℕ, ℤ, ◌<◌, Bool, true, false, List, Some}
use Rattle.golf_theory.specs.Maps.{Entry, find, keys}
use Rattle.golf_theory.specs.Membership.{In, Every}
use Rattle.golf_data.specs.declared.value.Value.{Value}
use Rattle.golf_data.specs.declared.value.Object.{Object}
use Rattle.golf_data.specs.declared.value.Channel.{Channel}
use Rattle.golf_data.specs.declared.goroutine.Side.{Side}
use Rattle.golf_data.specs.declared.goroutine.Wait.{Wait}
use Rattle.golf_model.specs.Views.{GoroutineView}
use Rattle.golf_model.specs.Values.{reference}
use Rattle.golf_model.specs.State.{State, is_running, not_empty}
use Rattle.golf_model.specs.Waiters.{ticket_of, waits_of}
use Rattle.golf_model.specs.Changes.{Change}

-- the goroutine exists and is blocked
pub record IsBlocked (goroutines : List (ℕ × GoroutineView)) (g : ℕ) (r : GoroutineView) : Type 0 where
  pub entry : Entry goroutines g r
  pub blocked : is_running r.mode ≡ false

-- the goroutines are in order; n is the next ticket
pub record InOrder (goroutines : List (ℕ × GoroutineView)) (n : ℕ) : Type 0 where
  pub finaliser_goroutine : In 0 (keys goroutines)
  pub frames : (g : ℕ) (r : GoroutineView) → IsBlocked goroutines g r → not_empty r.frames ≡ true
  pub below : (g : ℕ) (r : GoroutineView) → IsBlocked goroutines g r → ticket_of r.mode < n
  pub different : (g h : ℕ) (q r : GoroutineView) → IsBlocked goroutines g q → IsBlocked goroutines h r
      → ticket_of q.mode ≡ ticket_of r.mode → g ≡ h

-- if the wait is on a condition, the condition and its mutex exist
abbrev pub HasMutex : List (ℕ × Object) → Wait → Type 0
HasMutex objects w = w.side ≡ Side.Cond → (m : ℕ) × (locked : Bool)
    × (find w.object.0 objects ≡ Some (Object.Cond (reference m))) × (find m objects ≡ Some (Object.Mutex locked))

-- blocked goroutines have frames; their tickets differ and lie below the next ticket; goroutine 0 exists; conditions on
-- which goroutines wait have a mutex
pub record IsOrderly (s : State) : Type 0 where
  pub goroutines : InOrder s.goroutines s.next_ticket
  pub conditions : (g : ℕ) (r : GoroutineView) → Entry s.goroutines g r → Every (HasMutex s.objects) (waits_of r.mode)

-- both objects are of one kind; a condition keeps its mutex
abbrev pub SameKind : Object → Object → Type 0
SameKind (Object.Struct fields) y = (others : List Value) × (y ≡ Object.Struct others)
SameKind (Object.Slice elements) y = (others : List Value) × (y ≡ Object.Slice others)
SameKind (Object.Chan c) y = (d : Channel) × (y ≡ Object.Chan d)
SameKind (Object.Mutex locked) y = (b : Bool) × (y ≡ Object.Mutex b)
SameKind (Object.Group n) y = (k : ℤ) × (y ≡ Object.Group k)
SameKind (Object.Rw n) y = (k : ℤ) × (y ≡ Object.Rw k)
SameKind (Object.Cond v) y = y ≡ Object.Cond v

-- a goroutine that is replaced or started runs, a goroutine that blocks has a frame, goroutine 0 does not leave, and an
-- object keeps its kind
abbrev pub KeepsOrder : List (ℕ × Object) → Change → Type 0
KeepsOrder objects (Change.Replace o x) = (y : Object) × (find o objects ≡ Some y) × SameKind y x
KeepsOrder objects (Change.Become g r) = is_running r.mode ≡ true
KeepsOrder objects (Change.Block g kind line waits r) = (not_empty r.frames ≡ true) × Every (HasMutex objects) waits
KeepsOrder objects (Change.Spawn r) = is_running r.mode ≡ true
KeepsOrder objects (Change.Leave g) = g ≡ 0 → ⊥
KeepsOrder objects _ = Unit {0}

-- each of the changes, with these objects before them
abbrev pub AllKeepOrder : List (ℕ × Object) → List Change → Type 0
AllKeepOrder objects cs = Every (KeepsOrder objects) cs
