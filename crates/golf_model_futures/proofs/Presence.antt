-- In every state of a plain run each reference is one to an object that is there.
-- For: `references_are_present`, src/lib.rt; `IsWhole`, golf_model/specs/Presence.antt
-- By: cases of the change, then induction over the list of changes
use Rattle.std.proofs.Common.{◌≡◌, ℕ, ◌+◌, ◌<◌, ◌≤◌, ◌/◌, Bool, true, false, List, [], ◌∷◌, ◌++◌, length, Option, Some}
use Rattle.std.proofs.Common.{None, ◌⊎◌, inl, inr, refl, sym, subst, arith}
use Rattle.std.specs.Prelude.{option_to_list}
use Rattle.std.proofs.lemmas.Bool.{cases_lt}
use Rattle.golf_theory.specs.Membership.{In, Every}
use Rattle.golf_theory.specs.Maps.{find, keys}
use Rattle.golf_theory.proofs.Lists.{In-left, In-cases, In-push, Every-append, Every-at, Every-from, Every-weaker}
use Rattle.golf_theory.proofs.MapEntries.{In-keys, Entry-Every, Entry-find}
use Rattle.golf_theory.proofs.MapFinds.{Entry-below}
use Rattle.golf_theory.proofs.MapKeys.{keys-put, keys-add}
use Rattle.golf_data.specs.declared.value.Object.{Object}
use Rattle.golf_data.specs.declared.code.Code.{Code}
use Rattle.golf_model.specs.Views.{FrameView, GoroutineView}
use Rattle.golf_model.specs.State.{State, start, call_frame, runnable}
use Rattle.golf_model.specs.Changes.{Change, apply, apply_all, requeue, requeue_at, requeue_by}
use Rattle.golf_model.specs.Turn.{turned, clears_nothing, cleared_after, step, turn_changes, whose_turn}
use Rattle.golf_model.specs.Refs.{frames_refs, goroutine_refs}
use Rattle.golf_model.specs.Collections.{plain_collect}
use Rattle.golf_model.specs.Runs.{Event, run, stops}
use Rattle.golf_model.specs.Presence.{Present, IsWhole}
use Rattle.golf_model.specs.Futures.{Numbered, UpTo}
use Rattle.golf_model_futures.proofs.RefLaws.{frames-cons}
use Rattle.golf_model_futures.proofs.Acting.{Ground}
use Rattle.golf_model_futures.proofs.Flowing.{Flow, flow_changes, flow-collect}
use Rattle.golf_model_futures.proofs.GoodCalls.{call_frame-in}
use Rattle.golf_model_futures.proofs.GoodStructures.{zeros-in}
use Rattle.golf_model_futures.proofs.GoodTurn.{sound_turn}
use Rattle.golf_model_futures.proofs.Goodness.{good-sound}
use Rattle.golf_model_futures.proofs.Clearing.{good-clearing}
use Rattle.golf_model_futures.proofs.Leading.{numbered-start, numbered-step, numbered-collect}
use Rattle.golf_model_futures.proofs.Numbering.{object-in, goroutine-in}
use Rattle.golf_model_futures.proofs.Stopping.{stops-kept, run-kept}

-- there already, or not given yet
abbrev pub Here : State → ℕ → Type 0
Here s o = Present s o ⊎ (s.last_object < o)

abbrev pub All : ℕ → Type 0
All g = Unit {0}

-- the same objects are there, or one more that has the next number
pub record SameHere (s t : State) : Type 0 where
  pub on : (o : ℕ) → Here s o → Here t o
  pub back : (o : ℕ) → Here t o → Here s o

here-same : (s t : State) → keys t.objects ≡ keys s.objects → t.last_object ≡ s.last_object → SameHere s t
here-same s t k l = record {
  on = λ o h. elim h [ inl i ↦ inl (subst (In o) (sym k) i) | inr m ↦ inr (omega (arith, l)) ];
  back = λ o h. elim h [ inl i ↦ inl (subst (In o) k i) | inr m ↦ inr (omega (arith, l)) ];
}

module _ (s : State) (x : Object) where
  abbrev made : State
  made = apply (Change.Make x) s

  grown : keys made.objects ≡ keys s.objects ++ (s.last_object + 1) ∷ []
  grown = keys-add (s.last_object + 1) x s.objects

  new-here : Here made (s.last_object + 1)
  new-here = inl (subst (In (s.last_object + 1)) (sym grown) (In-push (s.last_object + 1) (keys s.objects)))

  old-here : (o : ℕ) → In o (keys s.objects) → Here made o
  old-here o i = inl (subst (In o) (sym grown) (In-left o (keys s.objects) ((s.last_object + 1) ∷ []) i))

  fresh-here : (o : ℕ) → s.last_object < o → (s.last_object + 1 < o) ⊎ (o ≤ s.last_object + 1) → Here made o
  fresh-here o m (inl h) = inr h
  fresh-here o m (inr h) = let e : o ≡ s.last_object + 1 = omega (arith, m, h) in subst (Here made) (sym e) new-here

  was-here : (o : ℕ) → In o (keys s.objects) ⊎ In o ((s.last_object + 1) ∷ []) → Here s o
  was-here o (inl i) = inl i
  was-here o (inr (inl e)) = inr (omega (arith, e))
  was-here o (inr (inr e)) = absurd e

  here-made : SameHere s made
  here-made = record {
    on = λ o h. elim h [ inl i ↦ old-here o i | inr m ↦ fresh-here o m (cases_lt (s.last_object + 1) o) ];
    back = λ o h. elim h [
      | inl i ↦ was-here o
          (In-cases o (keys s.objects) ((s.last_object + 1) ∷ []) (subst (In o) grown i))
      | inr m ↦ inr
          (omega (arith, m))
    ];
  }

-- requeueing makes nothing
module _ (s : State) (g m : ℕ) where
  passed-by : (locked : Bool) (r : GoroutineView) → SameHere s (requeue_by locked g m r s)
  passed-by true r = here-same s (requeue_by true g m r s) refl refl
  passed-by false r = here-same s (requeue_by false g m r s) (keys-put m (Object.Mutex true) s.objects) refl

  passed-at : (x : Object) (r : GoroutineView) → SameHere s (requeue_at x g m r s)
  passed-at (Object.Mutex locked) r = passed-by locked r
  passed-at _ r = here-same s s refl refl

  passed-here : (r : Option GoroutineView) (x : Option Object) → SameHere s (requeue g m r x s)
  passed-here None x = here-same s s refl refl
  passed-here (Some r) None = here-same s s refl refl
  passed-here (Some r) (Some x) = passed-at x r

here-change : (s : State) (c : Change) → SameHere s (apply c s)
here-change s (Change.Make x) = here-made s x
here-change s (Change.Replace p y) = here-same s (apply (Change.Replace p y) s) (keys-put p y s.objects) refl
here-change s (Change.SetGlobal k v) = here-same s (apply (Change.SetGlobal k v) s) refl refl
here-change s (Change.Become h r) = here-same s (apply (Change.Become h r) s) refl refl
here-change s (Change.Block h kind line waits r) = here-same s (apply (Change.Block h kind line waits r) s) refl refl
here-change s (Change.Spawn r) = here-same s (apply (Change.Spawn r) s) refl refl
here-change s (Change.Leave h) = here-same s (apply (Change.Leave h) s) refl refl
here-change s (Change.Finish e) = here-same s (apply (Change.Finish e) s) refl refl
here-change s (Change.SetFinaliser p k) = here-same s (apply (Change.SetFinaliser p k) s) refl refl
here-change s (Change.ClearFinaliser p) = here-same s (apply (Change.ClearFinaliser p) s) refl refl
here-change s Change.TakeQueued = here-same s (apply Change.TakeQueued s) refl refl
here-change s (Change.Output bytes) = here-same s (apply (Change.Output bytes) s) refl refl
here-change s (Change.WakeAll p how) = here-same s (apply (Change.WakeAll p how) s) refl refl
here-change s (Change.Requeue g m) = passed-here s g m (find g s.goroutines) (find m s.objects)

here-then : (s t u : State) → SameHere s t → SameHere t u → SameHere s u
here-then s t u first rest = record { on = λ o h. rest.on o (first.on o h); back = λ o h. first.back o (rest.back o h) }

here-changes : (cs : List Change) (s : State) → SameHere s (apply_all cs s)
here-changes [] s = here-same s s refl refl
here-changes (c ∷ cs) s =
    here-then s (apply c s) (apply_all cs (apply c s)) (here-change s c) (here-changes cs (apply c s))

-- what is there or not given yet is all that a whole state refers to
whole-flows : (s : State) → IsWhole s → Flow (Here s) All s
whole-flows s w = record {
  globals = Every-weaker (Present s) (Here s) (λ o i. inl i) _ w.globals;
  queue = Every-weaker (Present s) (Here s) (λ o i. inl i) _ w.queue;
  finalised = λ p f e. inl (w.finalised p f e);
  objects = λ p x m e. Every-weaker (Present s) (Here s) (λ o i. inl i) _ (w.objects p x e);
  goroutines = λ g r m e. Every-weaker (Present s) (Here s) (λ o i. inl i) _ (w.goroutines g r e);
  new_objects = λ o m. inr m;
  new_goroutines = λ g m. tt;
}

whole-ground : (s : State) → Flow (Here s) All s → Ground s (Here s) All
whole-ground s f = record {
  globals = f.globals;
  queue = f.queue;
  objects = f.objects;
  goroutines = f.goroutines;
  awake = λ g r o e i h. tt;
}

-- a number that was given is there
module _ (s t : State) (n : Numbered t) (same : SameHere s t) where
  given-here : (o : ℕ) → Here s o → o ≤ t.last_object → Present t o
  given-here o h b = elim (same.on o h) [ inl i ↦ i | inr m ↦ absurd (omega (arith, m, b)) ]

  all-here : (os : List ℕ) → Every (Here s) os → UpTo t.last_object os → Every (Present t) os
  all-here os here up = Every-from (Present t) os
      (λ o i. given-here o (Every-at (Here s) os o here i) (Every-at (λ p. p ≤ t.last_object) os o up i))

  pub flow-whole : Flow (Here s) All t → IsWhole t
  flow-whole f = record {
    globals = all-here _ f.globals n.globals;
    queue = all-here _ f.queue n.queue;
    finalised = λ o k e. given-here o (f.finalised o k e)
        (let b = Entry-below (t.last_object + 1) t.finalisers o k n.finalisers_below e in omega (arith, b));
    objects = λ o x e. all-here _ (f.objects o x (same.back o (inl (In-keys t.objects o x e))) e) (object-in t n o x e);
    goroutines = λ g r e. all-here _ (f.goroutines g r tt e) (goroutine-in t n g r e);
  }

whole-step : (code : Code) (s : State) (k : ℕ) → Numbered s → IsWhole s → IsWhole (step code s k)
whole-step code s k n w =
    let f = whole-flows s w in
    let cs : List Change = turn_changes code (k / length (runnable s)) s (whose_turn s k) in
    let t : State = turned code s k in
    let ds : List Change = cleared_after code s k in
    let v = flow_changes (Here s) All All s.last_object cs s (λ o m. inr m) f
    (sound_turn (Here s) All All code s (whole-ground s f) (λ g at l is t o h. tt) (k / length (runnable s))
    (whose_turn s k) (λ g h. tt)) in
    flow-whole s (step code s k) (numbered-step code s k n)
    (here-then s t (step code s k) (here-changes cs s) (here-changes ds t))
    (flow_changes (Here s) All All t.last_object ds t v.new_objects v
    (good-sound (Here s) All All t.last_object ds
    (good-clearing (Here s) All code (clears_nothing code s k) (whose_turn s k) t
    (λ g r i e j. (tt, v.goroutines g r tt (Entry-find g t.goroutines r e))))))

pub whole-collect : (s : State) → Numbered s → IsWhole s → IsWhole (plain_collect s)
whole-collect s n w = flow-whole s (plain_collect s) (numbered-collect s n) (here-same s (plain_collect s) refl refl)
    (flow-collect (Here s) All s (whole-flows s w))

-- the opening state
first-frames : (P : ℕ → Type 0) (code : Code) (m : Option FrameView) → call_frame code 0 [] true ≡ m
    → Every P (frames_refs (option_to_list m))
first-frames P code None h = tt
first-frames P code (Some f) h = frames-cons P f [] (call_frame-in P code 0 [] true f tt h) tt

whole-start : (code : Code) → IsWhole (start code)
whole-start code =
    let P : ℕ → Type 0 = Present (start code) in
    record {
      globals = zeros-in P code.globals;
      queue = tt;
      finalised = λ o f e. absurd e;
      objects = λ o x e. absurd e;
      goroutines = Entry-Every (λ g r. Every P (goroutine_refs r)) (start code).goroutines (
        tt,
        (
          Every-append P (frames_refs (option_to_list (call_frame code 0 [] true))) []
              (first-frames P code (call_frame code 0 [] true) refl) tt,
          tt,
        ),
      );
    }

-- numbers in order, and every reference to an object that is there
pub record Sane (s : State) : Type 0 where
  pub numbered : Numbered s
  pub whole : IsWhole s

pub sane-start : (code : Code) → Sane (start code)
sane-start code = record { numbered = numbered-start code; whole = whole-start code }

pub sane-step : (code : Code) (s : State) (k : ℕ) → Sane s → Sane (step code s k)
sane-step code s k h = record {
  numbered = numbered-step code s k h.numbered;
  whole = whole-step code s k h.numbered h.whole;
}

sane-collect : (s : State) → Sane s → Sane (plain_collect s)
sane-collect s h = record { numbered = numbered-collect s h.numbered; whole = whole-collect s h.numbered h.whole }

pub sane-run : (code : Code) (events : List Event) (s : State) → Sane s → Sane (run code s events)
sane-run code events s h = run-kept code Sane (sane-step code) sane-collect events s h

pub references-present : (code : Code) (events : List Event) → IsWhole (run code (start code) events)
references-present code events = (sane-run code events (start code) (sane-start code)).whole

pub stops-whole : (code : Code) (events : List Event) (p : State) → In p (stops code events) → IsWhole p
stops-whole code events p i = (stops-kept code Sane (sane-step code) sane-collect events (start code) p
    (sane-start code) i).whole
