-- Sets that references do not leave stay so under each good change, each list of them and each collection.
-- For: `apply_all`, golf_model/specs/Changes.antt; `plain_collect`, golf_model/specs/Collections.antt
-- By: cases of the change, then induction over the list of changes
use Rattle.std.proofs.Common.{◌≡◌, ℕ, ◌+◌, ◌<◌, ◌≤◌, Bool, true, false, not, List, [], ◌∷◌, ◌++◌, filter, Option, Some}
use Rattle.std.proofs.Common.{None, ◌⊎◌, inl, inr, refl, sym, subst, arith, ◌==◌, slice_set}
use Rattle.golf_theory.specs.Membership.{Every, is_in}
use Rattle.golf_theory.specs.Maps.{Entry, find, put, add, insert, only, keys, map_values}
use Rattle.golf_theory.proofs.Lists.{In-filter, Every-from}
use Rattle.golf_theory.proofs.MapEntries.{Entry-find, Entry-put, Entry-add, Entry-only, Entry-map_values_back}
use Rattle.golf_theory.proofs.MapEntries.{Entry-keys}
use Rattle.golf_theory.proofs.MapKeys.{keys-only}
use Rattle.golf_theory.proofs.Insert.{Entry-insert}
use Rattle.golf_data.specs.declared.value.Value.{Value}
use Rattle.golf_data.specs.declared.value.Object.{Object}
use Rattle.golf_data.specs.declared.goroutine.Ending.{Ending}
use Rattle.golf_data.specs.declared.goroutine.Mode.{Mode}
use Rattle.golf_data.specs.declared.goroutine.Queued.{Queued}
use Rattle.golf_model.specs.Views.{GoroutineView}
use Rattle.golf_model.specs.Values.{refs}
use Rattle.golf_model.specs.State.{State}
use Rattle.golf_model.specs.Wakes.{woken_by, released}
use Rattle.golf_model.specs.Changes.{Change, apply, apply_all, replace, become, behind_first, moved, requeue}
use Rattle.golf_model.specs.Changes.{requeue_at, requeue_by}
use Rattle.golf_model.specs.Refs.{object_refs, goroutine_refs, queue_refs}
use Rattle.golf_model.specs.Reach.{reach, sources}
use Rattle.golf_model.specs.Collections.{queued, plain_collect}
use Rattle.golf_model_futures.specs.Invariant.{Good, Sound, finalisable_after, last_after}
use Rattle.golf_model_futures.proofs.RefLaws.{vals-set, goroutine-both, goroutine-frames, goroutine-waits}
use Rattle.golf_model_futures.proofs.Waking.{woken-in, released-in}
use Rattle.golf_model_futures.proofs.Closing.{moved-in, behind_first-in}
use Rattle.golf_model_futures.proofs.Changing.{fresh-after, rest-sound}
use Rattle.golf_model_futures.proofs.Collecting.{queue-append, queue-keys}

-- globals, the queue, members and finalised objects refer to members alone; finalised objects and fresh numbers are
-- members
pub record Flow (O G : ℕ → Type 0) (s : State) : Type 0 where
  pub globals : Every O (refs s.globals)
  pub queue : Every O (queue_refs s.queue)
  pub finalised : (p f : ℕ) → Entry s.finalisers p f → O p
  pub objects : (p : ℕ) (x : Object) → O p → Entry s.objects p x → Every O (object_refs x)
  pub goroutines : (g : ℕ) (r : GoroutineView) → G g → Entry s.goroutines g r → Every O (goroutine_refs r)
  pub new_objects : (o : ℕ) → s.last_object < o → O o
  pub new_goroutines : (g : ℕ) → s.next_goroutine ≤ g → G g

module _ (O G : ℕ → Type 0) (s : State) (c : Flow O G s) where
  flow-objects : (os : List (ℕ × Object)) (n : ℕ) → s.last_object ≤ n
      → ((p : ℕ) (x : Object) → Entry os p x → Every O (object_refs x) ⊎ Entry s.objects p x)
      → Flow O G (record s { objects = os; last_object = n })
  flow-objects os n l h = record {
    globals = c.globals;
    queue = c.queue;
    finalised = c.finalised;
    objects = λ p x m e. elim (h p x e) [ inl a ↦ a | inr a ↦ c.objects p x m a ];
    goroutines = c.goroutines;
    new_objects = λ o m. c.new_objects o (omega arith);
    new_goroutines = c.new_goroutines;
  }

  flow-goroutines : (gs : List (ℕ × GoroutineView)) (n ticket : ℕ) → s.next_goroutine ≤ n
      → ((g : ℕ) (r : GoroutineView) → G g → Entry gs g r → Every O (goroutine_refs r) ⊎ Entry s.goroutines g r)
      → Flow O G (record s { goroutines = gs; next_goroutine = n; next_ticket = ticket })
  flow-goroutines gs n ticket l h = record {
    globals = c.globals;
    queue = c.queue;
    finalised = c.finalised;
    objects = c.objects;
    goroutines = λ g r m e. elim (h g r m e) [ inl a ↦ a | inr a ↦ c.goroutines g r m a ];
    new_objects = c.new_objects;
    new_goroutines = λ g m. c.new_goroutines g (omega arith);
  }

  flow-finalisers : (fs : List (ℕ × ℕ)) → ((p f : ℕ) → Entry fs p f → O p) → Flow O G (record s { finalisers = fs })
  flow-finalisers fs h = record {
    globals = c.globals;
    queue = c.queue;
    finalised = h;
    objects = c.objects;
    goroutines = c.goroutines;
    new_objects = c.new_objects;
    new_goroutines = c.new_goroutines;
  }

  flow-rest : (vs : List Value) (qs : List Queued) (bytes : List ℕ) (e : Option Ending) → Every O (refs vs)
      → Every O (queue_refs qs) → Flow O G (record s { globals = vs; queue = qs; output = bytes; recorded = e })
  flow-rest vs qs bytes e a b = record {
    globals = a;
    queue = b;
    finalised = c.finalised;
    objects = c.objects;
    goroutines = c.goroutines;
    new_objects = c.new_objects;
    new_goroutines = c.new_goroutines;
  }

  flow-put : (g : ℕ) (r : GoroutineView) (ticket : ℕ) → Every O (goroutine_refs r)
      → Flow O G (record s { goroutines = put g r s.goroutines; next_ticket = ticket })
  flow-put g r ticket a = flow-goroutines (put g r s.goroutines) s.next_goroutine ticket (omega arith)
      (λ h q m e. elim (Entry-put g r s.goroutines h q e) [
        | inl b ↦ inl
            (subst (λ z. Every O (goroutine_refs z)) (sym b.1) a)
        | inr b ↦ inr b
      ])

  flow-replace : (p : ℕ) (x : Object) → Every O (object_refs x) → Flow O G (replace p x s)
  flow-replace p x a = flow-objects (put p x s.objects) s.last_object (omega arith)
      (λ q y e. elim (Entry-put p x s.objects q y e) [
        | inl b ↦ inl
            (subst (λ z. Every O (object_refs z)) (sym b.1) a)
        | inr b ↦ inr b
      ])

module _ (O G : ℕ → Type 0) (s : State) (c : Flow O G s) (g m : ℕ) (i : G g) (j : O m) where
  flow-requeue_by : (locked : Bool) (r : GoroutineView) → Every O (goroutine_refs r)
      → Flow O G (requeue_by locked g m r s)
  flow-requeue_by false r a = flow-replace O G (become g (released r) s)
      (flow-put O G s c g (released r) s.next_ticket (released-in O r a)) m (Object.Mutex true) tt
  flow-requeue_by true r a =
      let q : GoroutineView = record r { mode = moved m s.next_ticket r.mode } in
      flow-put O G s c g q (s.next_ticket + 1)
      (goroutine-both O q (goroutine-frames O r a) (moved-in O m s.next_ticket r.mode j (goroutine-waits O r a)))

  flow-requeue_at : (x : Object) (r : GoroutineView) → Every O (goroutine_refs r) → Flow O G (requeue_at x g m r s)
  flow-requeue_at (Object.Mutex locked) r a = flow-requeue_by locked r a
  flow-requeue_at _ r a = c

  flow-requeue : (r : Option GoroutineView) (x : Option Object)
      → ((q : GoroutineView) → r ≡ Some q → Every O (goroutine_refs q)) → Flow O G (requeue g m r x s)
  flow-requeue None x h = c
  flow-requeue (Some r) None h = c
  flow-requeue (Some r) (Some x) h = flow-requeue_at x r (h r refl)

-- once for each kind of change
pub flow_change : (O G F : ℕ → Type 0) (s : State) (c : Change) → Flow O G s → Good O G F c → Flow O G (apply c s)
flow_change O G F s (Change.Make x) h a =
    flow-objects O G s h (add (s.last_object + 1) x s.objects) (s.last_object + 1) (omega arith)
    (λ q y e. elim (Entry-add (s.last_object + 1) x s.objects q y e) [
      | inl b ↦ inl
          (subst (λ z. Every O (object_refs z)) (sym b.1) a)
      | inr b ↦ inr b
    ])
flow_change O G F s (Change.Replace p x) h a = flow-replace O G s h p x a.1
flow_change O G F s (Change.SetGlobal i v) h a =
    flow-rest O G s h (slice_set s.globals i v) s.queue s.output s.recorded
    (vals-set O s.globals i v a h.globals) h.queue
flow_change O G F s (Change.Become g r) h a = flow-put O G s h g r s.next_ticket a.1
flow_change O G F s (Change.Block g kind line waits r) h a =
    let q : GoroutineView = record r { mode = Mode.Blocked kind line waits s.next_ticket } in
    flow-put O G s h g q (s.next_ticket + 1) (goroutine-both O q a.1 a.2)
flow_change O G F s (Change.Spawn r) h a =
    flow-goroutines O G s h (add s.next_goroutine r s.goroutines) (s.next_goroutine + 1) s.next_ticket (omega arith)
    (λ g q m e. elim (Entry-add s.next_goroutine r s.goroutines g q e) [
      | inl b ↦ inl
          (subst (λ z. Every O (goroutine_refs z)) (sym b.1) a)
      | inr b ↦ inr b
    ])
flow_change O G F s (Change.Leave g) h a =
    flow-goroutines O G s h (only (λ k. not (k == g)) s.goroutines) s.next_goroutine s.next_ticket (omega arith)
    (λ k q m e. inr (Entry-only (λ j. not (j == g)) s.goroutines k q e).1)
flow_change O G F s (Change.Finish e) h a = flow-rest O G s h s.globals s.queue s.output (Some e) h.globals h.queue
flow_change O G F s (Change.SetFinaliser p k) h a = flow-finalisers O G s h (insert p k s.finalisers)
    (λ q f e. elim (Entry-insert p k s.finalisers q f e) [ inl b ↦ subst O (sym b.0) a.0 | inr b ↦ h.finalised q f b ])
flow_change O G F s (Change.ClearFinaliser p) h a = flow-finalisers O G s h (only (λ q. not (q == p)) s.finalisers)
    (λ q f e. h.finalised q f (Entry-only (λ j. not (j == p)) s.finalisers q f e).1)
flow_change O G F s Change.TakeQueued h a =
    flow-rest O G s h s.globals (behind_first s.queue) s.output s.recorded h.globals (behind_first-in O s.queue h.queue)
flow_change O G F s (Change.Output bytes) h a =
    flow-rest O G s h s.globals s.queue (s.output ++ bytes) s.recorded h.globals h.queue
flow_change O G F s (Change.WakeAll o how) h a =
    flow-goroutines O G s h (map_values (λ g. woken_by how o) s.goroutines) s.next_goroutine s.next_ticket (omega arith)
    (λ g q m e.
    let r = Entry-map_values_back (λ k. woken_by how o) s.goroutines g q e in
    inl (subst (λ z. Every O (goroutine_refs z)) (sym r.2) (woken-in O how o r.0 a.1 (h.goroutines g r.0 m r.1))))
flow_change O G F s (Change.Requeue g m) h a = flow-requeue O G s h g m a.0 a.1 (find g s.goroutines) (find m s.objects)
    (λ q e. h.goroutines g q a.0 (Entry-find g s.goroutines q e))

module _ (O G : ℕ → Type 0) where
  pub flow_changes : (F : ℕ → Type 0) (n : ℕ) (cs : List Change) (s : State) → ((o : ℕ) → n < o → O o) → Flow O G s
      → Sound O G F n cs → Flow O G (apply_all cs s)
  flow_changes F n [] s h c a = c
  flow_changes F n (d ∷ cs) s h c a = flow_changes (finalisable_after d F) (last_after d n) cs (apply d s)
      (fresh-after O G n d h) (flow_change O G F s d c a.0) (rest-sound O G F n d cs h a.1)

  -- a collection
  pub flow-collect : (s : State) → Flow O G s → Flow O G (plain_collect s)
  flow-collect s c =
      let reached : List ℕ = reach s (sources s []) in
      let fs : List (ℕ × ℕ) = only (λ o. is_in o reached) s.finalisers in
      let out : ℕ → Bool = λ o. not (is_in o reached) in
      let t : State = record s { finalisers = fs } in
      flow-rest O G t (flow-finalisers O G s c fs
      (λ p f e. c.finalised p f (Entry-only (λ o. is_in o reached) s.finalisers p f e).1))
      s.globals (s.queue ++ queued (only out s.finalisers)) s.output s.recorded c.globals
      (queue-append O s.queue (queued (only out s.finalisers)) c.queue
      (queue-keys O (only out s.finalisers) (subst (Every O) (sym (keys-only out s.finalisers))
      (Every-from O (filter out (keys s.finalisers))
      (λ o h. let r = Entry-keys s.finalisers o
      (In-filter out o (keys s.finalisers) h).0 in c.finalised o r.0 r.1)))))
