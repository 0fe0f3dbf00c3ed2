-- Every state that moves lead to has its numbers in order.
-- For: `leads_number`, src/lib.rt; `Leads`, `Numbered`, golf_model/specs/Futures.antt
-- By: induction over the moves that lead to the state, and over the list of changes
use Rattle.std.proofs.Common.{◌≡◌, ℕ, ◌+◌, ◌<◌, ◌≤◌, ◌/◌, Bool, true, false, not, List, [], ◌∷◌, ◌++◌, length, filter}
use Rattle.std.proofs.Common.{Option, Some, None, inl, inr, refl, sym, subst, arith, ◌==◌}
use Rattle.std.specs.Prelude.{option_to_list}
use Rattle.golf_theory.specs.Membership.{In, Every, is_in}
use Rattle.golf_theory.specs.Maps.{find, only, keys}
use Rattle.golf_theory.proofs.Lists.{In-filter, Every-from, Every-append}
use Rattle.golf_theory.proofs.MapEntries.{Entry-only, Entry-keys, Entry-find}
use Rattle.golf_theory.proofs.MapFinds.{find-none, none-find, Entry-below}
use Rattle.golf_theory.proofs.MapKeys.{keys-only}
use Rattle.golf_theory.proofs.MapOrder.{Rises-only, AllBelow-only}
use Rattle.golf_data.specs.declared.value.Object.{Object}
use Rattle.golf_data.specs.declared.code.Code.{Code}
use Rattle.golf_model.specs.Views.{FrameView, GoroutineView}
use Rattle.golf_model.specs.State.{State, start, call_frame, runnable}
use Rattle.golf_model.specs.Changes.{Change, apply, apply_all, requeue, requeue_at, requeue_by}
use Rattle.golf_model.specs.Turn.{turned, clears_nothing, cleared_after, step, turn_changes, whose_turn}
use Rattle.golf_model.specs.Refs.{frames_refs}
use Rattle.golf_model.specs.Reach.{reach, sources}
use Rattle.golf_model.specs.Collections.{queued, plain_collect, cut, sets_finalisers, real_collect}
use Rattle.golf_model.specs.Futures.{Numbered, UpTo, Leads}
use Rattle.golf_model_futures.specs.Invariant.{Sound, objects_after, last_after, finalisable_after, Unfinalised}
use Rattle.golf_model_futures.proofs.RefLaws.{frames-cons}
use Rattle.golf_model_futures.proofs.Goodness.{good-sound}
use Rattle.golf_model_futures.proofs.Changing.{Wider, sound-wider}
use Rattle.golf_model_futures.proofs.Collecting.{queue-append, queue-keys}
use Rattle.golf_model_futures.proofs.GoodCalls.{call_frame-in}
use Rattle.golf_model_futures.proofs.GoodStructures.{zeros-in}
use Rattle.golf_model_futures.proofs.GoodTurn.{sound_turn}
use Rattle.golf_model_futures.proofs.Clearing.{good-clearing}
use Rattle.golf_model_futures.proofs.Numbering.{Given, Started, numbered-ground, numbered-objects, numbered-goroutines}
use Rattle.golf_model_futures.proofs.Numbering.{numbered-finalisers, numbered-rest, numbered_change, object-in}
use Rattle.golf_model_futures.proofs.Numbering.{goroutine-in}
use Rattle.golf_model_futures.proofs.Staying.{turn-running}

-- requeueing gives no number and no finaliser
module _ (s : State) (g m : ℕ) where
  abbrev Same : State → Type 0
  Same t = (t.last_object ≡ s.last_object) × (t.next_goroutine ≡ s.next_goroutine) × (t.finalisers ≡ s.finalisers)

  same-by : (locked : Bool) (r : GoroutineView) → Same (requeue_by locked g m r s)
  same-by true r = (refl, refl, refl)
  same-by false r = (refl, refl, refl)

  same-at : (x : Object) (r : GoroutineView) → Same (requeue_at x g m r s)
  same-at (Object.Mutex locked) r = same-by locked r
  same-at _ r = (refl, refl, refl)

  pub same-requeue : (r : Option GoroutineView) (x : Option Object) → Same (requeue g m r x s)
  same-requeue None x = (refl, refl, refl)
  same-requeue (Some r) None = (refl, refl, refl)
  same-requeue (Some r) (Some x) = same-at x r

pub last-apply : (s : State) (c : Change) → last_after c s.last_object ≡ (apply c s).last_object
last-apply s (Change.Requeue g m) = sym (same-requeue s g m (find g s.goroutines) (find m s.objects)).0
last-apply s _ = refl

given-after : (s : State) (c : Change) (o : ℕ) → objects_after c (Given s) s.last_object o → Given (apply c s) o
given-after s (Change.Make x) o a = elim a [ inl b ↦ omega arith | inr b ↦ omega arith ]
given-after s (Change.Requeue g m) o a = subst (λ n. o ≤ n)
    (sym (same-requeue s g m (find g s.goroutines) (find m s.objects)).0) a
given-after s _ o a = a

started-after : (s : State) (c : Change) (h : ℕ) → Started s h → Started (apply c s) h
started-after s (Change.Spawn r) h a = omega arith
started-after s (Change.Requeue g m) h a =
    subst (λ n. h < n) (sym (same-requeue s g m (find g s.goroutines) (find m s.objects)).1) a
started-after s _ h a = a

unfinalised-after : (s : State) (c : Change) (o : ℕ) → finalisable_after c (Unfinalised s) o → Unfinalised (apply c s) o
unfinalised-after s (Change.SetFinaliser p k) o a = absurd a
unfinalised-after s (Change.ClearFinaliser p) o a =
    find-none o (only (λ q. not (q == p)) s.finalisers)
    (λ f e. none-find o s.finalisers f a (Entry-only (λ q. not (q == p)) s.finalisers o f e).1)
unfinalised-after s (Change.Requeue g m) o a =
    subst (λ (fs : List (ℕ × ℕ)). find o fs ≡ None)
    (sym (same-requeue s g m (find g s.goroutines) (find m s.objects)).2) a
unfinalised-after s _ o a = a

-- sound changes keep numbers in order
pub numbered_changes : (cs : List Change) (s : State) → Numbered s
    → Sound (Given s) (Started s) (Unfinalised s) s.last_object cs → Numbered (apply_all cs s)
numbered_changes [] s n a = n
numbered_changes (c ∷ cs) s n a =
    let t = apply c s in
    let wider : Wider (objects_after c (Given s) s.last_object) (Given t) (Started s) (Started t)
    (finalisable_after c (Unfinalised s)) (Unfinalised t) =
    record { objects = given-after s c; goroutines = started-after s c; finalisable = unfinalised-after s c } in
    let w = sound-wider (last_after c s.last_object) cs wider a.1 in
    numbered_changes cs t (numbered_change s c n a.0)
    (subst (λ k. Sound (Given t) (Started t) (Unfinalised t) k cs) (last-apply s c) w)

pub numbered-turned : (code : Code) (s : State) (k : ℕ) → Numbered s → Numbered (turned code s k)
numbered-turned code s k n =
    numbered_changes (turn_changes code (k / length (runnable s)) s (whose_turn s k)) s n
    (sound_turn (Given s) (Started s) (Unfinalised s) code s (numbered-ground s n) (λ f at l is t o h. h)
    (k / length (runnable s)) (whose_turn s k)
    (λ g h. let r = turn-running s k g h in Entry-below s.next_goroutine s.goroutines g r.0 n.goroutines_below r.1))

pub numbered-step : (code : Code) (s : State) (k : ℕ) → Numbered s → Numbered (step code s k)
numbered-step code s k n =
    let t = turned code s k in
    let m = numbered-turned code s k n in
    numbered_changes (cleared_after code s k) t m
    (good-sound (Given t) (Started t) (Unfinalised t) t.last_object (cleared_after code s k)
    (good-clearing (Given t) (Started t) code (clears_nothing code s k) (whose_turn s k) t
    (λ g r i e j. let h = Entry-find g t.goroutines r
    e in (Entry-below t.next_goroutine t.goroutines g r m.goroutines_below h, goroutine-in t m g r h))))

-- collections
module _ (s : State) (n : Numbered s) where
  finalised-given : (p : ℕ) → In p (keys s.finalisers) → p ≤ s.last_object
  finalised-given p h = let r = Entry-keys s.finalisers p h in let b =
      Entry-below (s.last_object + 1) s.finalisers p r.0 n.finalisers_below r.1 in omega arith

  pub numbered-collect : Numbered (plain_collect s)
  numbered-collect =
      let reached : List ℕ = reach s (sources s []) in
      let fs : List (ℕ × ℕ) = only (λ o. is_in o reached) s.finalisers in
      let out : ℕ → Bool = λ o. not (is_in o reached) in
      let t : State = record s { finalisers = fs } in
      numbered-rest t
      (numbered-finalisers s n fs (Rises-only 0 (λ o. is_in o reached) s.finalisers n.finalisers_rise)
      (AllBelow-only (s.last_object + 1) (λ o. is_in o reached) s.finalisers n.finalisers_below))
      s.globals (s.queue ++ queued (only out s.finalisers)) s.output s.recorded n.globals
      (queue-append (Given s) s.queue (queued (only out s.finalisers)) n.queue
      (queue-keys (Given s) (only out s.finalisers)
      (subst (Every (Given s)) (sym (keys-only out s.finalisers))
      (Every-from (Given s) (filter out (keys s.finalisers))
      (λ o h. finalised-given o (In-filter out o (keys s.finalisers) h).0)))))

  pub numbered-cut : (stays kept : ℕ → Bool) → Numbered (cut stays kept s)
  numbered-cut stays kept =
      let t : State = record s { objects = only kept s.objects } in
      numbered-goroutines t
      (numbered-objects s n (only kept s.objects) s.last_object (omega arith)
      (Rises-only 0 kept s.objects n.objects_rise)
      (AllBelow-only (s.last_object + 1) kept s.objects n.objects_below)
      (λ p x e. object-in s n p x (Entry-only kept s.objects p x e).1))
      (only stays s.goroutines) s.next_goroutine s.next_ticket (Rises-only 0 stays s.goroutines n.goroutines_rise)
      (AllBelow-only s.next_goroutine stays s.goroutines n.goroutines_below)
      (λ g r e. goroutine-in s n g r (Entry-only stays s.goroutines g r e).1)

pub numbered-real : (s : State) (recover sets_finalisers : Bool) → Numbered s
    → Numbered (real_collect s recover sets_finalisers)
numbered-real s recover sets_finalisers n = numbered-cut (plain_collect s) (numbered-collect s n) _ _

-- the opening state
first_frames-in : (code : Code) (m : Option FrameView) → call_frame code 0 [] true ≡ m
    → UpTo 0 (frames_refs (option_to_list m))
first_frames-in code None h = tt
first_frames-in code (Some f) h = frames-cons (λ o. o ≤ 0) f [] (call_frame-in (λ o. o ≤ 0) code 0 [] true f tt h) tt

pub numbered-start : (code : Code) → Numbered (start code)
numbered-start code = record {
  objects_rise = tt;
  objects_below = tt;
  finalisers_rise = tt;
  finalisers_below = tt;
  goroutines_rise = (omega arith, (omega arith, tt));
  goroutines_below = (omega arith, (omega arith, tt));
  globals = zeros-in (λ o. o ≤ 0) code.globals;
  queue = tt;
  in_objects = tt;
  in_goroutines = (
    tt,
    (
      Every-append (λ o. o ≤ 0) (frames_refs (option_to_list (call_frame code 0 [] true))) []
          (first_frames-in code (call_frame code 0 [] true) refl) tt,
      tt,
    ),
  );
}

pub leads-numbered : (code : Code) (s : State) → Leads code s → Numbered s
leads-numbered code s Leads.Start = numbered-start code
leads-numbered code s (Leads.Turn t k l e) = numbered-step code t k (leads-numbered code t l)
leads-numbered code s (Leads.Collection t recover l e) =
    numbered-real t recover (sets_finalisers code) (leads-numbered code t l)
leads-numbered code s (Leads.Emptied t l) =
    let n = leads-numbered code t l in numbered-rest t n t.globals t.queue [] t.recorded n.globals n.queue
