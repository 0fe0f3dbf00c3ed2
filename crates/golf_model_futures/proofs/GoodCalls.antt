-- Calls, goroutines, deferred calls, returns and finalisers: they move what their goroutine refers to.
-- For: `calls`, `returns`, golf_model/specs/Calls.antt; `finalises`, golf_model/specs/Finalisers.antt
-- By: cases of the operands, the frames and the deferred calls; no induction
use Rattle.std.proofs.Common.{◌≡◌, ℕ, ◌+◌, ◌-◌, Bool, true, false, List, [], ◌∷◌, length, Option, Some, None, refl}
use Rattle.std.proofs.Common.{subst, slice_get, ◌==◌}
use Rattle.std.specs.Prelude.{pos, option_map}
use Rattle.std.proofs.lemmas.Bool.{eqb-true}
use Rattle.golf_theory.specs.Membership.{Every}
use Rattle.golf_theory.specs.Maps.{find}
use Rattle.golf_theory.proofs.Lists.{Every-append, Every-left, Every-right}
use Rattle.golf_data.specs.declared.value.Value.{Value}
use Rattle.golf_data.specs.declared.code.Code.{Code}
use Rattle.golf_data.specs.declared.code.Function.{Function}
use Rattle.golf_data.specs.declared.goroutine.Deferred.{Deferred}
use Rattle.golf_data.specs.declared.goroutine.Ending.{Ending}
use Rattle.golf_data.specs.declared.goroutine.Fault.{Fault}
use Rattle.golf_data.specs.declared.goroutine.Leaving.{Leaving}
use Rattle.golf_data.specs.declared.goroutine.Mode.{Mode}
use Rattle.golf_data.specs.declared.goroutine.PanicKind.{PanicKind}
use Rattle.golf_data.specs.declared.goroutine.Queued.{Queued}
use Rattle.golf_model.specs.Views.{FrameView, GoroutineView}
use Rattle.golf_model.specs.Values.{refs}
use Rattle.golf_data.specs.Masks.{stays_under}
use Rattle.golf_model.specs.State.{State, call_frame, opened}
use Rattle.golf_model.specs.Wakes.{unwinding}
use Rattle.golf_model.specs.Waiters.{waits_of}
use Rattle.golf_model.specs.Changes.{Change}
use Rattle.golf_model.specs.Actors.{Actor, with_frames, next, goes, dies, panics, choose, at_reference}
use Rattle.golf_model.specs.Calls.{is_full, enters, calls, spawns, defers, ends, ends_returning, handed_back}
use Rattle.golf_model.specs.Calls.{returns_to, unwinds_to, returns_by, returns, returns_value, begins_deferred}
use Rattle.golf_model.specs.Calls.{leaves_returning, leaves_unwinding}
use Rattle.golf_model.specs.Finalisers.{finalises_by, finalises, unfinalises, begins_queued}
use Rattle.golf_model.specs.Refs.{frames_refs, goroutine_refs, deferred_refs, option_refs, queue_refs, wait_refs}
use Rattle.golf_model_futures.specs.Invariant.{AllGood, Nothing, Sound, ActorIn, FrameIn}
use Rattle.golf_model_futures.proofs.RefLaws.{Val, Vals, vals-cons, vals-append, vals-replicate, vals-cleared}
use Rattle.golf_model_futures.proofs.RefLaws.{frames-cons, frames-head, frames-tail, goroutine-both}
use Rattle.golf_model_futures.proofs.Waking.{unwinding-in}
use Rattle.golf_model_futures.proofs.Goodness.{all_good-append, good-sound}
use Rattle.golf_model_futures.proofs.Acting.{Ground, all-on_some, all-choose, all-taking_one, all-taking}
use Rattle.golf_model_futures.proofs.Acting.{all-at_reference_or, all-at_struct, found-in, good-stands, good-goes}
use Rattle.golf_model_futures.proofs.Acting.{good-dies, good-panics, next-in}

-- the first frame of a call refers to its arguments alone
module _ (O : ℕ → Type 0) where
  opened-in : (f : ℕ) (arguments : List Value) (discards : Bool) (fn : Function) → Vals O arguments
      → FrameIn O (opened f arguments discards fn)
  opened-in f arguments discards fn h = record {
    slots = vals-cleared O (stays_under (slice_get fn.live 0)) 0 _
        (vals-append O arguments _ h (vals-replicate O (fn.slots - length arguments) (Value.Int (pos 0)) tt));
    operands = tt;
    deferred = tt;
    leaving = tt;
  }

  called-in : (f : ℕ) (arguments : List Value) (discards : Bool) (m : Option Function) (x : FrameView)
      → Vals O arguments → option_map (opened f arguments discards) m ≡ Some x → FrameIn O x
  called-in f arguments discards None x h e = cc
  called-in f arguments discards (Some fn) x h e = let same : opened f arguments discards fn ≡ x =
      cc in subst (FrameIn O) same (opened-in f arguments discards fn h)

  pub call_frame-in : (code : Code) (f : ℕ) (arguments : List Value) (discards : Bool) (x : FrameView)
      → Vals O arguments → call_frame code f arguments discards ≡ Some x → FrameIn O x
  call_frame-in code f arguments discards x h e = called-in f arguments discards (slice_get code.functions f) x h e

module _ (O G : ℕ → Type 0) (s : State) (c : Ground s O G) (a : Actor) (i : ActorIn O G a) where
  ops : Vals O a.frame.operands
  ops = i.frame.operands

  -- the goroutine with these frames
  good-with_frames : (fs : List FrameView) → Every O (frames_refs fs)
      → AllGood O G (Change.Become a.number (with_frames a fs) ∷ [])
  good-with_frames fs h = ((i.number, goroutine-both O (with_frames a fs) h tt), tt)

  good-enters : (fs : List FrameView) (x : FrameView) → Every O (frames_refs fs) → FrameIn O x
      → AllGood O G (enters a fs x)
  good-enters fs x h k = all-choose (AllGood O G) tt (is_full fs) _ _ (good-dies O G a i PanicKind.StackOverflow)
      (good-with_frames (x ∷ fs) (frames-cons O x fs k h))

  pub good-calls : (code : Code) (f n : ℕ) → AllGood O G (calls code a f n)
  good-calls code f n = all-taking (AllGood O G) tt O n _ a.frame.operands ops
      (λ arguments rest h r. all-on_some (AllGood O G) tt _ (call_frame code f arguments false)
      (λ x e. good-enters (next a.frame rest ∷ a.callers) x
      (frames-cons O (next a.frame rest) a.callers (next-in O G a i rest r) i.callers)
      (call_frame-in O code f arguments false x h e)))

  pub good-spawns : (code : Code) (f n : ℕ) → AllGood O G (spawns code a f n)
  good-spawns code f n = all-taking (AllGood O G) tt O n _ a.frame.operands ops
      (λ arguments rest h r. all-on_some (AllGood O G) tt _ (call_frame code f arguments true)
      (λ x e. (
        goroutine-both O (record { frames = x ∷ []; mode = Mode.Running; started = a.line })
            (frames-cons O x [] (call_frame-in O code f arguments true x h e) tt) tt,
        good-goes O G a i rest r,
      )))

  pub good-defers : (f n : ℕ) → AllGood O G (defers a f n)
  good-defers f n = all-taking (AllGood O G) tt O n _ a.frame.operands ops
      (λ arguments rest h r. good-stands O G a i
      (record a.frame {
        at = a.frame.at + 1;
        operands = rest;
        deferred = record { function = f; arguments = arguments }
            ∷ a.frame.deferred;
      })
      (record {
        slots = i.frame.slots;
        operands = r;
        deferred = Every-append O (refs arguments) (deferred_refs a.frame.deferred) h i.frame.deferred;
        leaving =
            i.frame.leaving;
      }))

  good-ends : AllGood O G (ends a)
  good-ends = elim (a.number == 0) as (λ b. a.number == 0 ≡ b
      → AllGood O G (choose b (Change.Become 0 (with_frames a []) ∷ []) (Change.Leave a.number ∷ []))) [
        | true ↦ λ t. ((subst G (eqb-true a.number 0 t) i.number, tt), tt)
        | false ↦ λ t. (i.number, tt)
      ] refl

  good-ends_returning : AllGood O G (ends_returning a)
  good-ends_returning = all_good-append O G (ends a)
      (choose (a.number == 1) (Change.Finish Ending.Returned ∷ []) []) good-ends
      (all-choose (AllGood O G) tt (a.number == 1) (Change.Finish Ending.Returned ∷ []) [] (tt, tt) tt)

  handed_back-in : (discards : Bool) (v : Option Value) (f : FrameView) → Every O (option_refs v) → FrameIn O f
      → FrameIn O (handed_back discards v f)
  handed_back-in true v f h k = k
  handed_back-in false None f h k = k
  handed_back-in false (Some v) f h k = record {
    slots = k.slots;
    operands = vals-cons O v f.operands h k.operands;
    deferred = k.deferred;
    leaving = k.leaving;
  }

  good-returns_to : (v : Option Value) (fs : List FrameView) → Every O (option_refs v) → Every O (frames_refs fs)
      → AllGood O G (returns_to a v fs)
  good-returns_to v [] h k = good-ends_returning
  good-returns_to v (f ∷ fs) h k =
      good-with_frames (handed_back a.frame.discards v f ∷ fs)
      (frames-cons O (handed_back a.frame.discards v f) fs
      (handed_back-in a.frame.discards v f h (frames-head O f fs k)) (frames-tail O f fs k))

  good-unwinds_to : (x : Fault) (fs : List FrameView) → Every O (frames_refs fs) → AllGood O G (unwinds_to a x fs)
  good-unwinds_to x [] k = all_good-append O G (ends a) _ good-ends (tt, tt)
  good-unwinds_to x (f ∷ fs) k = good-with_frames (unwinding x f ∷ fs)
      (frames-cons O (unwinding x f) fs (unwinding-in O x f (frames-head O f fs k)) (frames-tail O f fs k))

  good-returns_by : (v : Option Value) (rest : List Value) (ds : List Deferred) → Every O (option_refs v) → Vals O rest
      → AllGood O G (returns_by a v rest ds)
  good-returns_by v rest [] h r = good-returns_to v a.callers h i.callers
  good-returns_by v rest (d ∷ ds) h r = good-stands O G a i
      (record a.frame { at = a.frame.at + 1; operands = rest; leaving = Leaving.Returning v })
      (record { slots = i.frame.slots; operands = r; deferred = i.frame.deferred; leaving = h })

  pub good-returns : AllGood O G (returns a)
  good-returns = good-returns_by None a.frame.operands a.frame.deferred tt ops

  pub good-returns_value : AllGood O G (returns_value a)
  good-returns_value = all-taking_one (AllGood O G) tt O _ a.frame.operands ops
      (λ v rest h r. good-returns_by (Some v) rest a.frame.deferred h r)

  good-begins_deferred : (code : Code) (d : Deferred) (ds : List Deferred) → Every O (deferred_refs (d ∷ ds))
      → AllGood O G (begins_deferred code a d ds)
  good-begins_deferred code d ds h = all-on_some (AllGood O G) tt _ (call_frame code d.function d.arguments true)
      (λ x e. good-enters (record a.frame { deferred = ds } ∷ a.callers) x
      (frames-cons O (record a.frame { deferred = ds }) a.callers
      (record {
        slots = i.frame.slots;
        operands = ops;
        deferred = Every-right O (refs d.arguments) (deferred_refs ds) h;
        leaving = i.frame.leaving;
      }) i.callers)
      (call_frame-in O code d.function d.arguments true x (Every-left O (refs d.arguments) (deferred_refs ds) h) e))

  pub good-leaves_returning : (code : Code) (v : Option Value) (ds : List Deferred) → Every O (option_refs v)
      → Every O (deferred_refs ds) → AllGood O G (leaves_returning code a v ds)
  good-leaves_returning code v [] h k = good-returns_to v a.callers h i.callers
  good-leaves_returning code v (d ∷ ds) h k = good-begins_deferred code d ds k

  pub good-leaves_unwinding : (code : Code) (x : Fault) (ds : List Deferred) → Every O (deferred_refs ds)
      → AllGood O G (leaves_unwinding code a x ds)
  good-leaves_unwinding code x [] k = good-unwinds_to x a.callers i.callers
  good-leaves_unwinding code x (d ∷ ds) k = good-begins_deferred code d ds k

  -- finalisers
  module _ (F : ℕ → Type 0) (none : (o : ℕ) → find o s.finalisers ≡ None → F o) where
    sound-finalises_by : (rest : List Value) (f o : ℕ) (m : Option ℕ) → find o s.finalisers ≡ m → Vals O rest → O o
        → Sound O G F s.last_object (finalises_by a rest f o m)
    sound-finalises_by rest f o None e r m =
        ((m, none o e), good-sound O G Nothing s.last_object (goes a rest) (good-goes O G a i rest r))
    sound-finalises_by rest f o (Some old) e r m =
        good-sound O G F s.last_object (dies a PanicKind.FinalizerSet) (good-dies O G a i PanicKind.FinalizerSet)

    sound-at_reference : (act : ℕ → List Change) (v : Value) → Val O v
        → ((o : ℕ) → O o → Sound O G F s.last_object (act o)) → Sound O G F s.last_object (at_reference a act v)
    sound-at_reference act Value.Nil h k =
        good-sound O G F s.last_object (panics a PanicKind.NilPointer) (good-panics O G a i PanicKind.NilPointer)
    sound-at_reference act (Value.Ref o) h k = k o.0 h.0
    sound-at_reference act _ h k = tt

    pub sound-finalises : (f : ℕ) → Sound O G F s.last_object (finalises a f s)
    sound-finalises f = all-taking_one (Sound O G F s.last_object) tt O _ a.frame.operands ops
        (λ p rest h r. sound-at_reference _ p h
        (λ o m. all-at_struct (Sound O G F s.last_object) tt O _ (find o s.objects) (found-in O G s c o m)
        (λ fields k. sound-finalises_by rest f o (find o s.finalisers) refl r m)))

  pub good-unfinalises : AllGood O G (unfinalises a s)
  good-unfinalises = all-taking_one (AllGood O G) tt O _ a.frame.operands ops
      (λ p rest h r. all-at_reference_or (AllGood O G) tt O _ _ p h (good-goes O G a i rest r)
      (λ o m. all-at_struct (AllGood O G) tt O _ (find o s.objects) (found-in O G s c o m)
      (λ fields k. (m, good-goes O G a i rest r))))

-- goroutine 0 begins with the first entry of its queue
pub good-begins_queued : (O G : ℕ → Type 0) (code : Code) (r : GoroutineView) (queue : List Queued) → G 0
    → Every O (goroutine_refs r) → Every O (queue_refs queue) → AllGood O G (begins_queued code r queue)
good-begins_queued O G code r [] z h q = tt
good-begins_queued O G code r (x ∷ queue) z h q =
    all-on_some (AllGood O G) tt _ (call_frame code x.function (Value.Ref x.object ∷ []) true)
    (λ f e. (
      tt,
      (
        (
          z,
          goroutine-both O (record r { frames = f ∷ [] })
              (frames-cons O f [] (call_frame-in O code x.function (Value.Ref x.object ∷ []) true f (q.0, tt) e) tt)
              (Every-right O (frames_refs r.frames) (wait_refs (waits_of r.mode)) h),
        ),
        tt,
      ),
    ))
