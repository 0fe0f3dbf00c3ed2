-- The references of objects and goroutines.
use Rattle.std.specs.Prelude.{ℕ, Bool, true, false, List, [], ◌∷◌, ◌++◌, Option, Some, None}
use Rattle.golf_theory.specs.Maps.{keys}
use Rattle.golf_theory.specs.Membership.{is_in}
use Rattle.golf_data.specs.declared.value.Value.{Value}
use Rattle.golf_data.specs.declared.value.Object.{Object}
use Rattle.golf_data.specs.declared.goroutine.Deferred.{Deferred}
use Rattle.golf_data.specs.declared.goroutine.Leaving.{Leaving}
use Rattle.golf_data.specs.declared.goroutine.Queued.{Queued}
use Rattle.golf_data.specs.declared.goroutine.Wait.{Wait}
use Rattle.golf_model.specs.Views.{FrameView, GoroutineView}
use Rattle.golf_model.specs.Values.{value_refs, refs}
use Rattle.golf_model.specs.Waiters.{waits_of}
use Rattle.golf_model.specs.State.{State}

-- the references in an object
abbrev pub object_refs : Object → List ℕ
object_refs (Object.Struct fields) = refs fields
object_refs (Object.Slice elements) = refs elements
object_refs (Object.Chan c) = refs c.buffer ++ value_refs c.zero
object_refs (Object.Mutex locked) = []
object_refs (Object.Group n) = []
object_refs (Object.Rw n) = []
object_refs (Object.Cond m) = value_refs m

-- the references in the arguments of deferred calls
abbrev pub deferred_refs : List Deferred → List ℕ
deferred_refs [] = []
deferred_refs (d ∷ ds) = refs d.arguments ++ deferred_refs ds

abbrev pub option_refs : Option Value → List ℕ
option_refs None = []
option_refs (Some v) = value_refs v

-- the reference in the value of a returning frame
abbrev pub leaving_refs : Leaving → List ℕ
leaving_refs Leaving.No = []
leaving_refs (Leaving.Returning v) = option_refs v
leaving_refs (Leaving.Unwinding x) = []

-- the references in a frame; every slot counts until the frame is gone
abbrev pub frame_refs : FrameView → List ℕ
frame_refs f = refs f.slots ++ (refs f.operands ++ (deferred_refs f.deferred ++ leaving_refs f.leaving))

abbrev pub frames_refs : List FrameView → List ℕ
frames_refs [] = []
frames_refs (f ∷ fs) = frame_refs f ++ frames_refs fs

-- the objects that a goroutine with these waits waits on
abbrev pub waited : List Wait → List ℕ
waited [] = []
waited (w ∷ ws) = w.object.0 ∷ waited ws

-- the objects of the waits, and the references in the values to be sent
abbrev pub wait_refs : List Wait → List ℕ
wait_refs [] = []
wait_refs (w ∷ ws) = w.object.0 ∷ (value_refs w.value ++ wait_refs ws)

-- the references in all frames of a goroutine and in its waits
abbrev pub goroutine_refs : GoroutineView → List ℕ
goroutine_refs r = frames_refs r.frames ++ wait_refs (waits_of r.mode)

-- the objects of the finaliser queue
abbrev pub queue_refs : List Queued → List ℕ
queue_refs [] = []
queue_refs (q ∷ queue) = q.object.0 ∷ queue_refs queue

-- whether the object has a finaliser
abbrev pub has_finaliser : State → ℕ → Bool
has_finaliser s o = is_in o (keys s.finalisers)

abbrev pub refs_if : Bool → List ℕ → List ℕ
refs_if true xs = xs
refs_if false xs = []

-- the references in the objects that satisfy the test
abbrev pub refs_where : (ℕ → Bool) → List (ℕ × Object) → List ℕ
refs_where test [] = []
refs_where test (e ∷ es) = refs_if (test e.0) (object_refs e.1) ++ refs_where test es

-- the references in the goroutines that satisfy the test
abbrev pub goroutine_refs_where : (ℕ → Bool) → List (ℕ × GoroutineView) → List ℕ
goroutine_refs_where test [] = []
goroutine_refs_where test (e ∷ es) = refs_if (test e.0) (goroutine_refs e.1) ++ goroutine_refs_where test es

-- the references in the goroutine of this number
abbrev pub refs_of_goroutine : Option GoroutineView → List ℕ
refs_of_goroutine None = []
refs_of_goroutine (Some r) = goroutine_refs r
