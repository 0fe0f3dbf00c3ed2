-- A set of objects and a set of goroutines that a run does not leave.
use Rattle.std.specs.Prelude.{◌≡◌, ℕ, ◌+◌, ◌<◌, ◌≤◌, ◌⊎◌, true, false, List, [], ◌∷◌, None}
use Rattle.golf_theory.specs.Membership.{In, Every, is_in}
use Rattle.golf_theory.specs.Maps.{Entry, find, keys}
use Rattle.golf_theory.specs.Agreement.{AgreeOutside}
use Rattle.golf_data.specs.declared.value.Object.{Object}
use Rattle.golf_model.specs.Views.{FrameView, GoroutineView}
use Rattle.golf_model.specs.Values.{value_refs, refs}
use Rattle.golf_model.specs.State.{State, is_running}
use Rattle.golf_model.specs.Waiters.{waits_of}
use Rattle.golf_model.specs.Wakes.{Waking}
use Rattle.golf_model.specs.Changes.{Change}
use Rattle.golf_model.specs.Actors.{Actor}
use Rattle.golf_model.specs.Reach.{reach, sources}
use Rattle.golf_model.specs.Refs.{object_refs, deferred_refs, leaving_refs, frames_refs, wait_refs, goroutine_refs}
use Rattle.golf_model.specs.Refs.{queue_refs, waited}

-- references from globals, the queue, finalised objects and members of the sets are to members only; each goroutine
-- that runs or waits on a member is a member, and so are goroutine 0 and each number that is not given yet
pub record Closed (s : State) (O G : ℕ → Type 0) : Type 0 where
  pub globals : Every O (refs s.globals)
  pub queue : Every O (queue_refs s.queue)
  pub finalised : (p f : ℕ) (x : Object) → Entry s.finalisers p f → Entry s.objects p x → Every O (object_refs x)
  pub objects : (p : ℕ) (x : Object) → O p → Entry s.objects p x → Every O (object_refs x)
  pub goroutines : (g : ℕ) (r : GoroutineView) → G g → Entry s.goroutines g r → Every O (goroutine_refs r)
  pub running : (g : ℕ) (r : GoroutineView) → Entry s.goroutines g r → is_running r.mode ≡ true → G g
  pub awake : (g : ℕ) (r : GoroutineView) (o : ℕ) → Entry s.goroutines g r → In o (waited (waits_of r.mode)) → O o → G g
  pub zero_in : G 0
  pub new_objects : (o : ℕ) → s.last_object < o → O o
  pub new_goroutines : (g : ℕ) → s.next_goroutine ≤ g → G g

-- outside the sets the two states agree
pub record Confined (O G : ℕ → Type 0) (s t : State) : Type 0 where
  pub objects : AgreeOutside O s.objects t.objects
  pub finalisers : AgreeOutside O s.finalisers t.finalisers
  pub goroutines : AgreeOutside G s.goroutines t.goroutines

-- a waking gives only references to members
abbrev pub GoodWaking : (ℕ → Type 0) → Waking → Type 0
GoodWaking O (Waking.Closing zero) = Every O (value_refs zero)
GoodWaking O Waking.AtZero = Unit {0}
GoodWaking O (Waking.ToReaders below) = Unit {0}

-- the change concerns only members of the sets and stores only references to members; it sets a finaliser only for an
-- object of the third set
abbrev pub Good : (ℕ → Type 0) → (ℕ → Type 0) → (ℕ → Type 0) → Change → Type 0
Good O G F (Change.Make x) = Every O (object_refs x)
Good O G F (Change.Replace o x) = O o × Every O (object_refs x)
Good O G F (Change.SetGlobal i v) = Every O (value_refs v)
Good O G F (Change.Become g r) = G g × Every O (goroutine_refs r)
Good O G F (Change.Block g kind line waits r) = G g × Every O (frames_refs r.frames) × Every O (wait_refs waits)
Good O G F (Change.Spawn r) = Every O (goroutine_refs r)
Good O G F (Change.Leave g) = G g
Good O G F (Change.Finish e) = Unit {0}
Good O G F (Change.SetFinaliser o f) = O o × F o
Good O G F (Change.ClearFinaliser o) = O o
Good O G F Change.TakeQueued = Unit {0}
Good O G F (Change.Output bytes) = Unit {0}
Good O G F (Change.WakeAll o how) = O o × GoodWaking O how
Good O G F (Change.Requeue g m) = G g × O m

-- the empty set
abbrev pub Nothing : ℕ → Type 0
Nothing n = ⊥

-- each change is good, and no finaliser is set
abbrev pub AllGood : (ℕ → Type 0) → (ℕ → Type 0) → List Change → Type 0
AllGood O G cs = Every (Good O G Nothing) cs

-- the sets and the last object number after a change: a new object joins its set, and after a finaliser no further one
-- may be set
abbrev pub objects_after : Change → (ℕ → Type 0) → ℕ → ℕ → Type 0
objects_after (Change.Make x) O n = λ o. O o ⊎ (o ≡ n + 1)
objects_after _ O n = O

abbrev pub last_after : Change → ℕ → ℕ
last_after (Change.Make x) n = n + 1
last_after _ n = n

abbrev pub finalisable_after : Change → (ℕ → Type 0) → ℕ → Type 0
finalisable_after (Change.SetFinaliser o f) F = Nothing
finalisable_after _ F = F

-- each change is good for the sets after the changes before it; n is the last object number
abbrev pub Sound : (ℕ → Type 0) → (ℕ → Type 0) → (ℕ → Type 0) → ℕ → List Change → Type 0
Sound O G F n [] = Unit {0}
Sound O G F n (c ∷ cs) = Good O G F c × Sound (objects_after c O n) G (finalisable_after c F) (last_after c n) cs

-- the parts of a frame refer only to members
pub record FrameIn (O : ℕ → Type 0) (f : FrameView) : Type 0 where
  pub slots : Every O (refs f.slots)
  pub operands : Every O (refs f.operands)
  pub deferred : Every O (deferred_refs f.deferred)
  pub leaving : Every O (leaving_refs f.leaving)

-- the acting goroutine is a member, and refers only to members
pub record ActorIn (O G : ℕ → Type 0) (a : Actor) : Type 0 where
  pub number : G a.number
  pub frame : FrameIn O a.frame
  pub callers : Every O (frames_refs a.callers)

-- the objects that have no finaliser
abbrev pub Unfinalised : State → ℕ → Type 0
Unfinalised s o = find o s.finalisers ≡ None

-- the finalised objects that a collection would queue
abbrev pub Queueing : State → ℕ → Type 0
Queueing s o = In o (keys s.finalisers) × (is_in o (reach s (sources s [])) ≡ false)
