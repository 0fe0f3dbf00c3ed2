-- What values, lists of values, frames and goroutines refer to.
-- For: `refs`, golf_model/specs/Values.antt; `frame_refs`, `goroutine_refs`, golf_model/specs/Refs.antt
-- By: induction over the list of values and over the list of waits
use Rattle.std.proofs.Common.{◌≡◌, ℕ, zero, suc, ◌+◌, Bool, true, false, cond, List, [], ◌∷◌, ◌++◌, Some, inl, inr, sym}
use Rattle.std.proofs.Common.{subst, slice_get, slice_set}
use Rattle.std.specs.Prelude.{replicate, pos}
use Rattle.golf_theory.specs.Membership.{In, Every}
use Rattle.golf_theory.proofs.Lists.{Every-append, Every-left, Every-right}
use Rattle.golf_data.specs.declared.value.Value.{Value}
use Rattle.golf_data.specs.declared.goroutine.Wait.{Wait}
use Rattle.golf_model.specs.Views.{FrameView, GoroutineView}
use Rattle.golf_model.specs.Values.{value_refs, refs}
use Rattle.golf_data.specs.Slots.{cleared_from}
use Rattle.golf_model.specs.Waiters.{waits_of}
use Rattle.golf_model_futures.specs.Invariant.{FrameIn}
use Rattle.golf_model.specs.Refs.{frame_refs, frames_refs, wait_refs, waited, goroutine_refs, deferred_refs}

module _ (O : ℕ → Type 0) where
  -- the value, and each of the values, refers to members alone
  abbrev pub Val : Value → Type 0
  Val v = Every O (value_refs v)

  abbrev pub Vals : List Value → Type 0
  Vals vs = Every O (refs vs)

  pub vals-cons : (v : Value) (vs : List Value) → Val v → Vals vs → Vals (v ∷ vs)
  vals-cons v vs a b = Every-append O (value_refs v) (refs vs) a b

  pub vals-head : (v : Value) (vs : List Value) → Vals (v ∷ vs) → Val v
  vals-head v vs a = Every-left O (value_refs v) (refs vs) a

  pub vals-tail : (v : Value) (vs : List Value) → Vals (v ∷ vs) → Vals vs
  vals-tail v vs a = Every-right O (value_refs v) (refs vs) a

  pub vals-append : (vs ws : List Value) → Vals vs → Vals ws → Vals (vs ++ ws)
  vals-append [] ws a b = b
  vals-append (v ∷ vs) ws a b = vals-cons v (vs ++ ws) (vals-head v vs a) (vals-append vs ws (vals-tail v vs a) b)

  pub vals-set : (vs : List Value) (i : ℕ) (v : Value) → Val v → Vals vs → Vals (slice_set vs i v)
  vals-set [] i v a b = tt
  vals-set (w ∷ ws) zero v a b = vals-cons v ws a (vals-tail w ws b)
  vals-set (w ∷ ws) (suc i) v a b = vals-cons w (slice_set ws i v) (vals-head w ws b)
      (vals-set ws i v a (vals-tail w ws b))

  pub vals-get : (vs : List Value) (i : ℕ) (v : Value) → Vals vs → slice_get vs i ≡ Some v → Val v
  vals-get [] i v a h = cc
  vals-get (w ∷ ws) zero v a h = let e : w ≡ v = cc in subst Val e (vals-head w ws a)
  vals-get (w ∷ ws) (suc i) v a h = vals-get ws i v (vals-tail w ws a) h

  pub vals-replicate : (n : ℕ) (v : Value) → Val v → Vals (replicate n v)
  vals-replicate zero v a = tt
  vals-replicate (suc n) v a = vals-cons v (replicate n v) a (vals-replicate n v a)

  pub vals-cleared : (test : ℕ → Bool) (i : ℕ) (vs : List Value) → Vals vs → Vals (cleared_from test i vs)
  vals-cleared test i [] a = tt
  vals-cleared test i (v ∷ vs) a = vals-cons (cond (test i) v (Value.Int (pos 0))) (cleared_from test (i + 1) vs)
      (chosen (test i)) (vals-cleared test (i + 1) vs (vals-tail v vs a))
    where
      chosen : (b : Bool) → Val (cond b v (Value.Int (pos 0)))
      chosen true = vals-head v vs a
      chosen false = tt

  pub frame-in : (f : FrameView) → Every O (frame_refs f) → FrameIn O f
  frame-in f a =
      let b = Every-right O (refs f.slots) _ a in
      let c = Every-right O (refs f.operands) _ b in
      record {
        slots = Every-left O (refs f.slots) _ a;
        operands = Every-left O (refs f.operands) _ b;
        deferred = Every-left O (deferred_refs f.deferred) _ c;
        leaving =
            Every-right O (deferred_refs f.deferred) _ c;
      }

  pub frame-refs : (f : FrameView) → FrameIn O f → Every O (frame_refs f)
  frame-refs f a = Every-append O (refs f.slots) _ a.slots
      (Every-append O (refs f.operands) _ a.operands (Every-append O (deferred_refs f.deferred) _ a.deferred a.leaving))

  pub frames-cons : (f : FrameView) (fs : List FrameView) → FrameIn O f → Every O (frames_refs fs)
      → Every O (frames_refs (f ∷ fs))
  frames-cons f fs a b = Every-append O (frame_refs f) (frames_refs fs) (frame-refs f a) b

  pub frames-head : (f : FrameView) (fs : List FrameView) → Every O (frames_refs (f ∷ fs)) → FrameIn O f
  frames-head f fs a = frame-in f (Every-left O (frame_refs f) (frames_refs fs) a)

  pub frames-tail : (f : FrameView) (fs : List FrameView) → Every O (frames_refs (f ∷ fs)) → Every O (frames_refs fs)
  frames-tail f fs a = Every-right O (frame_refs f) (frames_refs fs) a

  pub goroutine-frames : (r : GoroutineView) → Every O (goroutine_refs r) → Every O (frames_refs r.frames)
  goroutine-frames r a = Every-left O (frames_refs r.frames) (wait_refs (waits_of r.mode)) a

  pub goroutine-waits : (r : GoroutineView) → Every O (goroutine_refs r) → Every O (wait_refs (waits_of r.mode))
  goroutine-waits r a = Every-right O (frames_refs r.frames) (wait_refs (waits_of r.mode)) a

  pub goroutine-both : (r : GoroutineView) → Every O (frames_refs r.frames) → Every O (wait_refs (waits_of r.mode))
      → Every O (goroutine_refs r)
  goroutine-both r a b = Every-append O (frames_refs r.frames) (wait_refs (waits_of r.mode)) a b

  pub waits-append : (ws us : List Wait) → Every O (wait_refs ws) → Every O (wait_refs us)
      → Every O (wait_refs (ws ++ us))
  waits-append [] us a b = b
  waits-append (w ∷ ws) us a b = (
    a.0,
    Every-append O (value_refs w.value) _ (Every-left O (value_refs w.value) _ a.1)
        (waits-append ws us (Every-right O (value_refs w.value) _ a.1) b),
  )

  -- what is waited on is referred to, and so is what is to be sent
  pub waits-object : (ws : List Wait) (o : ℕ) → Every O (wait_refs ws) → In o (waited ws) → O o
  waits-object [] o a h = absurd h
  waits-object (w ∷ ws) o a (inl e) = subst O (sym e) a.0
  waits-object (w ∷ ws) o a (inr h) = waits-object ws o (Every-right O (value_refs w.value) _ a.1) h

  pub waits-value : (ws : List Wait) (w : Wait) → Every O (wait_refs ws) → In w ws → Val w.value
  waits-value [] w a h = absurd h
  waits-value (v ∷ vs) w a (inl e) = subst (λ (z : Wait). Val z.value) (sym e) (Every-left O (value_refs v.value) _ a.1)
  waits-value (v ∷ vs) w a (inr h) = waits-value vs w (Every-right O (value_refs v.value) _ a.1) h
