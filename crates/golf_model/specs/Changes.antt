-- The changes that make up a turn, and the effect of each on a state.
use Rattle.std.specs.Prelude.{ℕ, ◌+◌, Bool, true, false, not, List, [], ◌∷◌, ◌++◌, Option, Some, None, ◌==◌, slice_set}
use Rattle.golf_theory.specs.Maps.{find, put, add, insert, only, map_values}
use Rattle.golf_data.specs.declared.value.Value.{Value}
use Rattle.golf_data.specs.declared.value.Object.{Object}
use Rattle.golf_data.specs.declared.goroutine.Ending.{Ending}
use Rattle.golf_data.specs.declared.goroutine.Mode.{Mode}
use Rattle.golf_data.specs.declared.goroutine.Side.{Side}
use Rattle.golf_data.specs.declared.goroutine.Wait.{Wait}
use Rattle.golf_data.specs.declared.goroutine.WaitKind.{WaitKind}
use Rattle.golf_model.specs.Views.{GoroutineView}
use Rattle.golf_model.specs.State.{State}
use Rattle.golf_model.specs.Wakes.{Waking, woken_by, released}

pub data Change : Type 0 where
  -- the object gets the next object number
  Make : (x : Object) → Change
  -- the object of this number becomes this one
  Replace : (o : ℕ) (x : Object) → Change
  SetGlobal : (i : ℕ) (v : Value) → Change
  -- the goroutine of this number becomes this one
  Become : (g : ℕ) (r : GoroutineView) → Change
  -- the goroutine becomes this one, blocked, and takes the next ticket
  Block : (g : ℕ) (kind : WaitKind) (line : ℕ) (waits : List Wait) (r : GoroutineView) → Change
  -- the goroutine gets the next goroutine number
  Spawn : (r : GoroutineView) → Change
  -- the goroutine has ended
  Leave : (g : ℕ) → Change
  -- the program has ended
  Finish : (e : Ending) → Change
  SetFinaliser : (o f : ℕ) → Change
  ClearFinaliser : (o : ℕ) → Change
  -- the first entry of the finaliser queue is taken
  TakeQueued : Change
  Output : (bytes : List ℕ) → Change
  -- all goroutines that wait on the object are woken
  WakeAll : (o : ℕ) (how : Waking) → Change
  -- a goroutine that waits on a condition is requeued on the condition's mutex
  Requeue : (g m : ℕ) → Change

abbrev pub make : Object → State → State
make x s = record s { objects = add (s.last_object + 1) x s.objects; last_object = s.last_object + 1 }

abbrev pub replace : ℕ → Object → State → State
replace o x s = record s { objects = put o x s.objects }

abbrev pub set_global : ℕ → Value → State → State
set_global i v s = record s { globals = slice_set s.globals i v }

abbrev pub become : ℕ → GoroutineView → State → State
become g r s = record s { goroutines = put g r s.goroutines }

-- each goroutine that blocks takes the next ticket, even if it waits on nothing (this runtime's rule)
abbrev pub block : ℕ → WaitKind → ℕ → List Wait → GoroutineView → State → State
block g kind line waits r s =
    record s {
      goroutines = put g (record r { mode = Mode.Blocked kind line waits s.next_ticket }) s.goroutines;
      next_ticket = s.next_ticket + 1;
    }

abbrev pub spawn : GoroutineView → State → State
spawn r s = record s { goroutines = add s.next_goroutine r s.goroutines; next_goroutine = s.next_goroutine + 1 }

abbrev pub leave : ℕ → State → State
leave g s = record s { goroutines = only (λ h. not (h == g)) s.goroutines }

abbrev pub finish : Ending → State → State
finish e s = record s { recorded = Some e }

abbrev pub set_finaliser : ℕ → ℕ → State → State
set_finaliser o f s = record s { finalisers = insert o f s.finalisers }

abbrev pub clear_finaliser : ℕ → State → State
clear_finaliser o s = record s { finalisers = only (λ p. not (p == o)) s.finalisers }

abbrev pub behind_first : {X : Type 0} → List X → List X
behind_first [] = []
behind_first (x ∷ xs) = xs

abbrev pub take_queued : State → State
take_queued s = record s { queue = behind_first s.queue }

abbrev pub output : List ℕ → State → State
output bytes s = record s { output = s.output ++ bytes }

abbrev pub wake_all : ℕ → Waking → State → State
wake_all o how s = record s { goroutines = map_values (λ g. woken_by how o) s.goroutines }

-- the one wait, on the condition, becomes a wait for the mutex
abbrev pub moved_waits : ℕ → List Wait → List Wait
moved_waits m [] = []
moved_waits m (w ∷ ws) = record w { object = record { 0 = m }; side = Side.Lock } ∷ []

-- the mode with the moved wait and the ticket; kind and line stay
abbrev pub moved : ℕ → ℕ → Mode → Mode
moved m ticket Mode.Running = Mode.Running
moved m ticket (Mode.Blocked kind line waits old) = Mode.Blocked kind line (moved_waits m waits) ticket

-- the goroutine waits for the mutex from now on, with the next ticket
abbrev pub move_wait : ℕ → ℕ → GoroutineView → State → State
move_wait g m r s =
    record s {
      goroutines = put g (record r { mode = moved m s.next_ticket r.mode }) s.goroutines;
      next_ticket = s.next_ticket + 1;
    }

-- an unlocked mutex becomes locked and the goroutine runs; for a locked one the goroutine waits from now on (package
-- sync, `Cond.Wait`: it "locks c.L before returning"; the order is this runtime's rule)
abbrev pub requeue_by : Bool → ℕ → ℕ → GoroutineView → State → State
requeue_by false g m r s = replace m (Object.Mutex true) (become g (released r) s)
requeue_by true g m r s = move_wait g m r s

abbrev pub requeue_at : Object → ℕ → ℕ → GoroutineView → State → State
requeue_at (Object.Struct fields) g m r s = s
requeue_at (Object.Slice elements) g m r s = s
requeue_at (Object.Chan c) g m r s = s
requeue_at (Object.Mutex locked) g m r s = requeue_by locked g m r s
requeue_at (Object.Group n) g m r s = s
requeue_at (Object.Rw n) g m r s = s
requeue_at (Object.Cond v) g m r s = s

abbrev pub requeue : ℕ → ℕ → Option GoroutineView → Option Object → State → State
requeue g m None x s = s
requeue g m (Some r) None s = s
requeue g m (Some r) (Some x) s = requeue_at x g m r s

abbrev pub apply : Change → State → State
apply (Change.Make x) s = make x s
apply (Change.Replace o x) s = replace o x s
apply (Change.SetGlobal i v) s = set_global i v s
apply (Change.Become g r) s = become g r s
apply (Change.Block g kind line waits r) s = block g kind line waits r s
apply (Change.Spawn r) s = spawn r s
apply (Change.Leave g) s = leave g s
apply (Change.Finish e) s = finish e s
apply (Change.SetFinaliser o f) s = set_finaliser o f s
apply (Change.ClearFinaliser o) s = clear_finaliser o s
apply Change.TakeQueued s = take_queued s
apply (Change.Output bytes) s = output bytes s
apply (Change.WakeAll o how) s = wake_all o how s
apply (Change.Requeue g m) s = requeue g m (find g s.goroutines) (find m s.objects) s

-- the changes one after another
abbrev pub apply_all : List Change → State → State
apply_all [] s = s
apply_all (c ∷ cs) s = apply_all cs (apply c s)
