-- Closed sets stay closed under each change that is good.
-- For: `Closed`, `Good`, specs/Invariant.antt; `apply`, golf_model/specs/Changes.antt
-- By: cases of the change; no induction
use Rattle.std.proofs.Common.{◌≡◌, ℕ, ◌+◌, ◌≤◌, Bool, true, false, not, List, [], ◌∷◌, ◌++◌, Option, Some, None, ◌⊎◌}
use Rattle.std.proofs.Common.{inl, inr, refl, sym, subst, arith, ◌==◌, slice_set}
use Rattle.golf_theory.specs.Membership.{Every}
use Rattle.golf_theory.specs.Maps.{Entry, find, put, add, insert, only, map_values}
use Rattle.golf_theory.proofs.Lists.{Every-append, Every-left}
use Rattle.golf_theory.proofs.MapEntries.{Entry-find, Entry-put, Entry-add, Entry-only, Entry-map_values_back}
use Rattle.golf_theory.proofs.Insert.{Entry-insert}
use Rattle.golf_data.specs.declared.value.Value.{Value}
use Rattle.golf_data.specs.declared.value.Object.{Object}
use Rattle.golf_data.specs.declared.goroutine.Ending.{Ending}
use Rattle.golf_data.specs.declared.goroutine.Mode.{Mode}
use Rattle.golf_data.specs.declared.goroutine.Queued.{Queued}
use Rattle.golf_data.specs.declared.goroutine.Wait.{Wait}
use Rattle.golf_model.specs.Views.{GoroutineView}
use Rattle.golf_model.specs.Values.{value_refs, refs}
use Rattle.golf_model.specs.State.{State}
use Rattle.golf_model.specs.Waiters.{waits_of}
use Rattle.golf_model.specs.Wakes.{Waking, woken_by, released}
use Rattle.golf_model.specs.Changes.{Change, apply, replace, become, behind_first, moved, moved_waits, requeue}
use Rattle.golf_model.specs.Changes.{requeue_at, requeue_by}
use Rattle.golf_model.specs.Refs.{object_refs, wait_refs, goroutine_refs, queue_refs}
use Rattle.golf_model_futures.specs.Invariant.{Closed, Good, GoodWaking}
use Rattle.golf_model_futures.proofs.RefLaws.{vals-set, goroutine-both, goroutine-frames, goroutine-waits}
use Rattle.golf_model_futures.proofs.Waking.{Woken, woken-in, woken-cases, released-in}
use Rattle.golf_model_futures.proofs.Acting.{Ground}

pub closed-ground : (O G : ℕ → Type 0) (s : State) → Closed s O G → Ground s O G
closed-ground O G s c = record {
  globals = c.globals;
  queue = c.queue;
  objects = c.objects;
  goroutines = c.goroutines;
  awake = c.awake;
}

-- the waits of a goroutine that is requeued
pub moved_waits-in : (O : ℕ → Type 0) (m : ℕ) (ws : List Wait) → O m → Every O (wait_refs ws)
    → Every O (wait_refs (moved_waits m ws))
moved_waits-in O m [] i a = tt
moved_waits-in O m (w ∷ ws) i a = (
  i,
  Every-append O (value_refs w.value) []
      (Every-left O (value_refs w.value) _ a.1) tt,
)

pub moved-in : (O : ℕ → Type 0) (m ticket : ℕ) (mode : Mode) → O m → Every O (wait_refs (waits_of mode))
    → Every O (wait_refs (waits_of (moved m ticket mode)))
moved-in O m ticket Mode.Running i a = tt
moved-in O m ticket (Mode.Blocked kind line waits old) i a = moved_waits-in O m waits i a

pub behind_first-in : (O : ℕ → Type 0) (qs : List Queued) → Every O (queue_refs qs)
    → Every O (queue_refs (behind_first qs))
behind_first-in O [] a = tt
behind_first-in O (q ∷ qs) a = a.1

module _ (O G : ℕ → Type 0) (s : State) (c : Closed s O G) where
  -- objects change to ones that refer to members alone
  closed-objects : (os : List (ℕ × Object)) (n : ℕ) → s.last_object ≤ n
      → ((p : ℕ) (x : Object) → Entry os p x → Every O (object_refs x) ⊎ Entry s.objects p x)
      → Closed (record s { objects = os; last_object = n }) O G
  closed-objects os n l h = record {
    globals = c.globals;
    queue = c.queue;
    finalised = λ p f x i e. elim (h p x e) [ inl a ↦ a | inr a ↦ c.finalised p f x i a ];
    objects = λ p x m e. elim (h p x e) [ inl a ↦ a | inr a ↦ c.objects p x m a ];
    goroutines = c.goroutines;
    running = c.running;
    awake = c.awake;
    zero_in = c.zero_in;
    new_objects = λ o m. c.new_objects o (omega arith);
    new_goroutines = c.new_goroutines;
  }

  -- goroutines that change are members, and refer to members alone
  closed-goroutines : (gs : List (ℕ × GoroutineView)) (n ticket : ℕ) → s.next_goroutine ≤ n
      → ((g : ℕ) (r : GoroutineView) → Entry gs g r → (G g × Every O (goroutine_refs r)) ⊎ Entry s.goroutines g r)
      → Closed (record s { goroutines = gs; next_goroutine = n; next_ticket = ticket }) O G
  closed-goroutines gs n ticket l h = record {
    globals = c.globals;
    queue = c.queue;
    finalised = c.finalised;
    objects = c.objects;
    goroutines = λ g r m e. elim (h g r e) [ inl a ↦ a.1 | inr a ↦ c.goroutines g r m a ];
    running = λ g r e t. elim (h g r e) [ inl a ↦ a.0 | inr a ↦ c.running g r a t ];
    awake = λ g r o e w m. elim (h g r e) [ inl a ↦ a.0 | inr a ↦ c.awake g r o a w m ];
    zero_in = c.zero_in;
    new_objects = c.new_objects;
    new_goroutines = λ g m. c.new_goroutines g (omega arith);
  }

  -- an object that gets a finaliser is a member
  closed-finalisers : (fs : List (ℕ × ℕ)) → ((p f : ℕ) → Entry fs p f → O p ⊎ Entry s.finalisers p f)
      → Closed (record s { finalisers = fs }) O G
  closed-finalisers fs h = record {
    globals = c.globals;
    queue = c.queue;
    finalised = λ p f x i e. elim (h p f i) [ inl a ↦ c.objects p x a e | inr a ↦ c.finalised p f x a e ];
    objects = c.objects;
    goroutines = c.goroutines;
    running = c.running;
    awake = c.awake;
    zero_in = c.zero_in;
    new_objects = c.new_objects;
    new_goroutines = c.new_goroutines;
  }

  -- globals and queue refer to members alone
  closed-rest : (vs : List Value) (qs : List Queued) (bytes : List ℕ) (e : Option Ending) → Every O (refs vs)
      → Every O (queue_refs qs) → Closed (record s { globals = vs; queue = qs; output = bytes; recorded = e }) O G
  closed-rest vs qs bytes e a b = record {
    globals = a;
    queue = b;
    finalised = c.finalised;
    objects = c.objects;
    goroutines = c.goroutines;
    running = c.running;
    awake = c.awake;
    zero_in = c.zero_in;
    new_objects = c.new_objects;
    new_goroutines = c.new_goroutines;
  }

  -- one goroutine is replaced
  closed-put : (g : ℕ) (r : GoroutineView) (ticket : ℕ) → G g → Every O (goroutine_refs r)
      → Closed (record s { goroutines = put g r s.goroutines; next_ticket = ticket }) O G
  closed-put g r ticket i a = closed-goroutines (put g r s.goroutines) s.next_goroutine ticket (omega arith)
      (λ h q e. elim (Entry-put g r s.goroutines h q e) [
        | inl b ↦ inl
            (subst G (sym b.0) i, subst (λ z. Every O (goroutine_refs z)) (sym b.1) a)
        | inr b ↦ inr b
      ])

  closed-replace : (p : ℕ) (x : Object) → Every O (object_refs x) → Closed (replace p x s) O G
  closed-replace p x a = closed-objects (put p x s.objects) s.last_object (omega arith)
      (λ q y e. elim (Entry-put p x s.objects q y e) [
        | inl b ↦ inl
            (subst (λ z. Every O (object_refs z)) (sym b.1) a)
        | inr b ↦ inr b
      ])

  closed-wake_all : (o : ℕ) (how : Waking) → O o → GoodWaking O how
      → Closed (record s { goroutines = map_values (λ g. woken_by how o) s.goroutines }) O G
  closed-wake_all o how i a = closed-goroutines
      (map_values (λ g. woken_by how o) s.goroutines) s.next_goroutine s.next_ticket (omega arith) each
    where
      case : (g : ℕ) (r : GoroutineView) → Entry s.goroutines g r → Woken o r (woken_by how o r)
          → (G g × Every O (goroutine_refs (woken_by how o r))) ⊎ Entry s.goroutines g (woken_by how o r)
      case g r e (inl same) = inr (subst (λ z. Entry s.goroutines g z) (sym same) e)
      case g r e (inr w) = let m = c.awake g r o e w.0 i in inl (m, woken-in O how o r a (c.goroutines g r m e))

      each : (g : ℕ) (q : GoroutineView) → Entry (map_values (λ g. woken_by how o) s.goroutines) g q
          → (G g × Every O (goroutine_refs q)) ⊎ Entry s.goroutines g q
      each g q e =
          let r = Entry-map_values_back (λ g. woken_by how o) s.goroutines g q e in
          subst (λ z. (G g × Every O (goroutine_refs z)) ⊎ Entry s.goroutines g z) (sym r.2)
          (case g r.0 r.1 (woken-cases how o r.0))

-- requeueing
module _ (O G : ℕ → Type 0) (s : State) (c : Closed s O G) (g m : ℕ) (i : G g) (j : O m) where
  closed-requeue_by : (locked : Bool) (r : GoroutineView) → Every O (goroutine_refs r)
      → Closed (requeue_by locked g m r s) O G
  closed-requeue_by false r a = closed-replace O G (become g (released r) s)
      (closed-put O G s c g (released r) s.next_ticket i (released-in O r a)) m (Object.Mutex true) tt
  closed-requeue_by true r a =
      let q : GoroutineView = record r { mode = moved m s.next_ticket r.mode } in
      closed-put O G s c g q (s.next_ticket + 1) i
      (goroutine-both O q (goroutine-frames O r a) (moved-in O m s.next_ticket r.mode j (goroutine-waits O r a)))

  closed-requeue_at : (x : Object) (r : GoroutineView) → Every O (goroutine_refs r) → Closed (requeue_at x g m r s) O G
  closed-requeue_at (Object.Mutex locked) r a = closed-requeue_by locked r a
  closed-requeue_at _ r a = c

  closed-requeue : (r : Option GoroutineView) (x : Option Object)
      → ((q : GoroutineView) → r ≡ Some q → Every O (goroutine_refs q)) → Closed (requeue g m r x s) O G
  closed-requeue None x h = c
  closed-requeue (Some r) None h = c
  closed-requeue (Some r) (Some x) h = closed-requeue_at x r (h r refl)

-- once for each kind of change
pub closed_change : (O G F : ℕ → Type 0) (s : State) (c : Change) → Closed s O G → Good O G F c → Closed (apply c s) O G
closed_change O G F s (Change.Make x) h a =
    closed-objects O G s h (add (s.last_object + 1) x s.objects) (s.last_object + 1) (omega arith)
    (λ q y e. elim (Entry-add (s.last_object + 1) x s.objects q y e) [
      | inl b ↦ inl
          (subst (λ z. Every O (object_refs z)) (sym b.1) a)
      | inr b ↦ inr b
    ])
closed_change O G F s (Change.Replace p x) h a = closed-replace O G s h p x a.1
closed_change O G F s (Change.SetGlobal i v) h a =
    closed-rest O G s h (slice_set s.globals i v) s.queue s.output s.recorded
    (vals-set O s.globals i v a h.globals) h.queue
closed_change O G F s (Change.Become g r) h a = closed-put O G s h g r s.next_ticket a.0 a.1
closed_change O G F s (Change.Block g kind line waits r) h a =
    let q : GoroutineView = record r { mode = Mode.Blocked kind line waits s.next_ticket } in
    closed-put O G s h g q (s.next_ticket + 1) a.0 (goroutine-both O q a.1 a.2)
closed_change O G F s (Change.Spawn r) h a =
    closed-goroutines O G s h (add s.next_goroutine r s.goroutines) (s.next_goroutine + 1) s.next_ticket (omega arith)
    (λ g q e. elim (Entry-add s.next_goroutine r s.goroutines g q e) [
      | inl b ↦ inl (
        subst G (sym b.0) (h.new_goroutines s.next_goroutine (omega arith)),
        subst (λ z. Every O (goroutine_refs z)) (sym b.1) a,
      )
      | inr b ↦ inr b
    ])
closed_change O G F s (Change.Leave g) h a =
    closed-goroutines O G s h (only (λ k. not (k == g)) s.goroutines) s.next_goroutine s.next_ticket (omega arith)
    (λ k q e. inr (Entry-only (λ j. not (j == g)) s.goroutines k q e).1)
closed_change O G F s (Change.Finish e) h a = closed-rest O G s h s.globals s.queue s.output (Some e) h.globals h.queue
closed_change O G F s (Change.SetFinaliser p k) h a = closed-finalisers O G s h (insert p k s.finalisers)
    (λ q f e. elim (Entry-insert p k s.finalisers q f e) [ inl b ↦ inl (subst O (sym b.0) a.0) | inr b ↦ inr b ])
closed_change O G F s (Change.ClearFinaliser p) h a = closed-finalisers O G s h (only (λ q. not (q == p)) s.finalisers)
    (λ q f e. inr (Entry-only (λ j. not (j == p)) s.finalisers q f e).1)
closed_change O G F s Change.TakeQueued h a =
    closed-rest O G s h s.globals (behind_first s.queue) s.output s.recorded h.globals
    (behind_first-in O s.queue h.queue)
closed_change O G F s (Change.Output bytes) h a =
    closed-rest O G s h s.globals s.queue (s.output ++ bytes) s.recorded h.globals h.queue
closed_change O G F s (Change.WakeAll o how) h a = closed-wake_all O G s h o how a.0 a.1
closed_change O G F s (Change.Requeue g m) h a =
    closed-requeue O G s h g m a.0 a.1 (find g s.goroutines) (find m s.objects)
    (λ q e. h.goroutines g q a.0 (Entry-find g s.goroutines q e))
