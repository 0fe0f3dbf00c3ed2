-- Numbers stay in order, and references at most the last object, under each change that is good.
-- For: `Numbered`, golf_model/specs/Futures.antt; `apply`, golf_model/specs/Changes.antt
-- By: cases of the change; no induction
use Rattle.std.proofs.Common.{◌≡◌, ℕ, ◌+◌, ◌<◌, ◌≤◌, Bool, true, false, not, List, ◌++◌, Option, Some, None, inl, inr}
use Rattle.std.proofs.Common.{refl, sym, subst, arith, ◌==◌, slice_set}
use Rattle.golf_theory.specs.Maps.{Entry, find, put, add, insert, only, map_values, IsRising, AllBelow}
use Rattle.golf_theory.proofs.Lists.{Every-weaker}
use Rattle.golf_theory.proofs.MapEntries.{Entry-find, Entry-put, Entry-add, Entry-only, Entry-map_values_back}
use Rattle.golf_theory.proofs.MapEntries.{Entry-Every, Every-Entry}
use Rattle.golf_theory.proofs.MapFinds.{Entry-below}
use Rattle.golf_theory.proofs.MapOrder.{Rises-put, Rises-add, Rises-only, Rises-map_values, AllBelow-more, AllBelow-put}
use Rattle.golf_theory.proofs.MapOrder.{AllBelow-add, AllBelow-only, AllBelow-map_values}
use Rattle.golf_theory.proofs.Insert.{Rises-insert, AllBelow-insert}
use Rattle.golf_data.specs.declared.value.Value.{Value}
use Rattle.golf_data.specs.declared.value.Object.{Object}
use Rattle.golf_data.specs.declared.goroutine.Ending.{Ending}
use Rattle.golf_data.specs.declared.goroutine.Mode.{Mode}
use Rattle.golf_data.specs.declared.goroutine.Queued.{Queued}
use Rattle.golf_model.specs.Views.{GoroutineView}
use Rattle.golf_model.specs.Values.{refs}
use Rattle.golf_model.specs.State.{State}
use Rattle.golf_model.specs.Wakes.{woken_by, released}
use Rattle.golf_model.specs.Changes.{Change, apply, replace, become, behind_first, moved, requeue, requeue_at}
use Rattle.golf_model.specs.Changes.{requeue_by}
use Rattle.golf_model.specs.Refs.{object_refs, goroutine_refs, queue_refs}
use Rattle.golf_model.specs.Futures.{Numbered, UpTo}
use Rattle.golf_model_futures.specs.Invariant.{Good, Unfinalised}
use Rattle.golf_model_futures.proofs.RefLaws.{vals-set, goroutine-both, goroutine-frames, goroutine-waits}
use Rattle.golf_model_futures.proofs.Waking.{woken-in, released-in}
use Rattle.golf_model_futures.proofs.Acting.{Ground}
use Rattle.golf_model_futures.proofs.Closing.{moved-in, behind_first-in}

-- the numbers that were given
abbrev pub Given : State → ℕ → Type 0
Given s o = o ≤ s.last_object

abbrev pub Started : State → ℕ → Type 0
Started s g = g < s.next_goroutine

module _ (s : State) (n : Numbered s) where
  pub object-in : (p : ℕ) (x : Object) → Entry s.objects p x → UpTo s.last_object (object_refs x)
  object-in p x e = Entry-Every (λ k y. UpTo s.last_object (object_refs y)) s.objects n.in_objects p x e

  pub goroutine-in : (g : ℕ) (r : GoroutineView) → Entry s.goroutines g r → UpTo s.last_object (goroutine_refs r)
  goroutine-in g r e = Entry-Every (λ k y. UpTo s.last_object (goroutine_refs y)) s.goroutines n.in_goroutines g r e

  pub numbered-ground : Ground s (Given s) (Started s)
  numbered-ground = record {
    globals = n.globals;
    queue = n.queue;
    objects = λ p x i e. object-in p x e;
    goroutines = λ g r i e. goroutine-in g r e;
    awake = λ g r o e w i. Entry-below s.next_goroutine s.goroutines g r n.goroutines_below e;
  }

  pub numbered-objects : (os : List (ℕ × Object)) (m : ℕ) → s.last_object ≤ m → IsRising os → AllBelow (m + 1) os
      → ((p : ℕ) (x : Object) → Entry os p x → UpTo m (object_refs x))
      → Numbered (record s { objects = os; last_object = m })
  numbered-objects os m l rise below h = record {
    objects_rise = rise;
    objects_below = below;
    finalisers_rise = n.finalisers_rise;
    finalisers_below = AllBelow-more (s.last_object + 1) (m + 1) s.finalisers (omega arith) n.finalisers_below;
    goroutines_rise = n.goroutines_rise;
    goroutines_below = n.goroutines_below;
    globals = wide (refs s.globals) n.globals;
    queue = wide (queue_refs s.queue) n.queue;
    in_objects = Every-Entry (λ k y. UpTo m (object_refs y)) os h;
    in_goroutines = Every-Entry (λ k y. UpTo m (goroutine_refs y)) s.goroutines
        (λ g r e. wide (goroutine_refs r) (goroutine-in g r e));
  }
    where
      wide : (os : List ℕ) → UpTo s.last_object os → UpTo m os
      wide os a = Every-weaker (λ o. o ≤ s.last_object) (λ o. o ≤ m) (λ o h. omega arith) os a

  pub numbered-goroutines : (gs : List (ℕ × GoroutineView)) (m ticket : ℕ) → IsRising gs → AllBelow m gs
      → ((g : ℕ) (r : GoroutineView) → Entry gs g r → UpTo s.last_object (goroutine_refs r))
      → Numbered (record s { goroutines = gs; next_goroutine = m; next_ticket = ticket })
  numbered-goroutines gs m ticket rise below h = record {
    objects_rise = n.objects_rise;
    objects_below = n.objects_below;
    finalisers_rise = n.finalisers_rise;
    finalisers_below = n.finalisers_below;
    goroutines_rise = rise;
    goroutines_below = below;
    globals = n.globals;
    queue = n.queue;
    in_objects = n.in_objects;
    in_goroutines = Every-Entry (λ k y. UpTo s.last_object (goroutine_refs y)) gs h;
  }

  pub numbered-finalisers : (fs : List (ℕ × ℕ)) → IsRising fs → AllBelow (s.last_object + 1) fs
      → Numbered (record s { finalisers = fs })
  numbered-finalisers fs rise below = record {
    objects_rise = n.objects_rise;
    objects_below = n.objects_below;
    finalisers_rise = rise;
    finalisers_below = below;
    goroutines_rise = n.goroutines_rise;
    goroutines_below = n.goroutines_below;
    globals = n.globals;
    queue = n.queue;
    in_objects = n.in_objects;
    in_goroutines = n.in_goroutines;
  }

  pub numbered-rest : (vs : List Value) (qs : List Queued) (bytes : List ℕ) (e : Option Ending)
      → UpTo s.last_object (refs vs) → UpTo s.last_object (queue_refs qs)
      → Numbered (record s { globals = vs; queue = qs; output = bytes; recorded = e })
  numbered-rest vs qs bytes e a b = record {
    objects_rise = n.objects_rise;
    objects_below = n.objects_below;
    finalisers_rise = n.finalisers_rise;
    finalisers_below = n.finalisers_below;
    goroutines_rise = n.goroutines_rise;
    goroutines_below = n.goroutines_below;
    globals = a;
    queue = b;
    in_objects = n.in_objects;
    in_goroutines = n.in_goroutines;
  }

  numbered-replace : (p : ℕ) (x : Object) → UpTo s.last_object (object_refs x) → Numbered (replace p x s)
  numbered-replace p x a = numbered-objects (put p x s.objects) s.last_object (omega arith)
      (Rises-put 0 p x s.objects n.objects_rise) (AllBelow-put (s.last_object + 1) p x s.objects n.objects_below)
      (λ q y e. elim (Entry-put p x s.objects q y e) [
        | inl b ↦ subst (λ z. UpTo s.last_object (object_refs z))
            (sym b.1) a
        | inr b ↦ object-in q y b
      ])

  numbered-put : (g : ℕ) (r : GoroutineView) (ticket : ℕ) → UpTo s.last_object (goroutine_refs r)
      → Numbered (record s { goroutines = put g r s.goroutines; next_ticket = ticket })
  numbered-put g r ticket a = numbered-goroutines (put g r s.goroutines) s.next_goroutine ticket
      (Rises-put 0 g r s.goroutines n.goroutines_rise)
      (AllBelow-put s.next_goroutine g r s.goroutines n.goroutines_below)
      (λ h q e. elim (Entry-put g r s.goroutines h q e) [
        | inl b ↦ subst (λ z. UpTo s.last_object (goroutine_refs z))
            (sym b.1) a
        | inr b ↦ goroutine-in h q b
      ])

module _ (s : State) (n : Numbered s) (g m : ℕ) (j : m ≤ s.last_object) where
  numbered-requeue_by : (locked : Bool) (r : GoroutineView) → UpTo s.last_object (goroutine_refs r)
      → Numbered (requeue_by locked g m r s)
  numbered-requeue_by false r a = numbered-replace (become g (released r) s)
      (numbered-put s n g (released r) s.next_ticket (released-in (Given s) r a)) m (Object.Mutex true) tt
  numbered-requeue_by true r a =
      let q : GoroutineView = record r { mode = moved m s.next_ticket r.mode } in
      numbered-put s n g q (s.next_ticket + 1)
      (goroutine-both (Given s) q (goroutine-frames (Given s) r a)
      (moved-in (Given s) m s.next_ticket r.mode j (goroutine-waits (Given s) r a)))

  numbered-requeue_at : (x : Object) (r : GoroutineView) → UpTo s.last_object (goroutine_refs r)
      → Numbered (requeue_at x g m r s)
  numbered-requeue_at (Object.Mutex locked) r a = numbered-requeue_by locked r a
  numbered-requeue_at _ r a = n

  numbered-requeue : (r : Option GoroutineView) (x : Option Object)
      → ((q : GoroutineView) → r ≡ Some q → UpTo s.last_object (goroutine_refs q)) → Numbered (requeue g m r x s)
  numbered-requeue None x h = n
  numbered-requeue (Some r) None h = n
  numbered-requeue (Some r) (Some x) h = numbered-requeue_at x r (h r refl)

-- once for each kind of change
pub numbered_change : (s : State) (c : Change) → Numbered s → Good (Given s) (Started s) (Unfinalised s) c
    → Numbered (apply c s)
numbered_change s (Change.Make x) n a = numbered-objects s n (add (s.last_object + 1) x s.objects) (s.last_object + 1)
    (omega arith)
    (Rises-add 0 (s.last_object + 1) x s.objects (omega arith) n.objects_below n.objects_rise)
    (AllBelow-add (s.last_object + 1 + 1) (s.last_object + 1) x s.objects (omega arith)
    (AllBelow-more (s.last_object + 1) (s.last_object + 1 + 1) s.objects (omega arith) n.objects_below))
    (λ q y e. Every-weaker (λ o. o ≤ s.last_object) (λ o. o ≤ s.last_object + 1) (λ o h. omega arith) (object_refs y)
    (elim (Entry-add (s.last_object + 1) x s.objects q y e) [
      | inl b ↦ subst (λ z. UpTo s.last_object (object_refs z))
          (sym b.1) a
      | inr b ↦ object-in s n q y b
    ]))
numbered_change s (Change.Replace p x) n a = numbered-replace s n p x a.1
numbered_change s (Change.SetGlobal i v) n a =
    numbered-rest s n (slice_set s.globals i v) s.queue s.output s.recorded
    (vals-set (Given s) s.globals i v a n.globals) n.queue
numbered_change s (Change.Become g r) n a = numbered-put s n g r s.next_ticket a.1
numbered_change s (Change.Block g kind line waits r) n a =
    let q : GoroutineView = record r { mode = Mode.Blocked kind line waits s.next_ticket } in
    numbered-put s n g q (s.next_ticket + 1) (goroutine-both (Given s) q a.1 a.2)
numbered_change s (Change.Spawn r) n a =
    numbered-goroutines s n (add s.next_goroutine r s.goroutines) (s.next_goroutine + 1) s.next_ticket
    (Rises-add 0 s.next_goroutine r s.goroutines (omega arith) n.goroutines_below n.goroutines_rise)
    (AllBelow-add (s.next_goroutine + 1) s.next_goroutine r s.goroutines (omega arith)
    (AllBelow-more s.next_goroutine (s.next_goroutine + 1) s.goroutines (omega arith) n.goroutines_below))
    (λ g q e. elim (Entry-add s.next_goroutine r s.goroutines g q e) [
      | inl b ↦ subst
          (λ z. UpTo s.last_object (goroutine_refs z)) (sym b.1) a
      | inr b ↦ goroutine-in s n g q b
    ])
numbered_change s (Change.Leave g) n a =
    numbered-goroutines s n (only (λ k. not (k == g)) s.goroutines) s.next_goroutine s.next_ticket
    (Rises-only 0 (λ k. not (k == g)) s.goroutines n.goroutines_rise)
    (AllBelow-only s.next_goroutine (λ k. not (k == g)) s.goroutines n.goroutines_below)
    (λ k q e. goroutine-in s n k q (Entry-only (λ j. not (j == g)) s.goroutines k q e).1)
numbered_change s (Change.Finish e) n a = numbered-rest s n s.globals s.queue s.output (Some e) n.globals n.queue
numbered_change s (Change.SetFinaliser p k) n a = numbered-finalisers s n (insert p k s.finalisers)
    (Rises-insert 0 p k s.finalisers (omega arith) a.1 n.finalisers_rise)
    (AllBelow-insert (s.last_object + 1) p k s.finalisers (let b = a.0 in omega arith) n.finalisers_below)
numbered_change s (Change.ClearFinaliser p) n a = numbered-finalisers s n (only (λ q. not (q == p)) s.finalisers)
    (Rises-only 0 (λ q. not (q == p)) s.finalisers n.finalisers_rise)
    (AllBelow-only (s.last_object + 1) (λ q. not (q == p)) s.finalisers n.finalisers_below)
numbered_change s Change.TakeQueued n a =
    numbered-rest s n s.globals (behind_first s.queue) s.output s.recorded n.globals
    (behind_first-in (Given s) s.queue n.queue)
numbered_change s (Change.Output bytes) n a =
    numbered-rest s n s.globals s.queue (s.output ++ bytes) s.recorded n.globals n.queue
numbered_change s (Change.WakeAll o how) n a =
    numbered-goroutines s n (map_values (λ g. woken_by how o) s.goroutines) s.next_goroutine s.next_ticket
    (Rises-map_values (λ g. woken_by how o) 0 s.goroutines n.goroutines_rise)
    (AllBelow-map_values (λ g. woken_by how o) s.next_goroutine s.goroutines n.goroutines_below)
    (λ g q e.
    let r = Entry-map_values_back (λ h. woken_by how o) s.goroutines g q e in
    subst (λ z. UpTo s.last_object (goroutine_refs z)) (sym r.2)
    (woken-in (Given s) how o r.0 a.1 (goroutine-in s n g r.0 r.1)))
numbered_change s (Change.Requeue g m) n a =
    numbered-requeue s n g m a.1 (find g s.goroutines) (find m s.objects)
    (λ q e. goroutine-in s n g q (Entry-find g s.goroutines q e))
