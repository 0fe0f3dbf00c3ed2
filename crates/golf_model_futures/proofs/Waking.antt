-- What becomes of a goroutine that is woken, and that nobody else changes.
-- For: `woken_by`, golf_model/specs/Wakes.antt
-- By: cases of the waking and of the wait; no induction
use Rattle.std.proofs.Common.{◌≡◌, ℕ, Bool, true, false, cond, List, [], ◌∷◌, Option, Some, None, ◌⊎◌, inl, inr, refl}
use Rattle.golf_theory.specs.Membership.{In, Every}
use Rattle.golf_data.specs.declared.value.Value.{Value}
use Rattle.golf_data.specs.declared.goroutine.Fault.{Fault}
use Rattle.golf_data.specs.declared.goroutine.Mode.{Mode}
use Rattle.golf_data.specs.declared.goroutine.Side.{Side}
use Rattle.golf_data.specs.declared.goroutine.Wait.{Wait}
use Rattle.golf_model.specs.Views.{FrameView, GoroutineView}
use Rattle.golf_model.specs.Waiters.{waits_of, wait_for, wait_on, ticket_of}
use Rattle.golf_model.specs.Wakes.{Waking, unwinding, resumed, resumed_frame, released, unwound, received, on_top}
use Rattle.golf_model.specs.Wakes.{woken_by, closed_on, closed_for, released_by, reads_next, is_below}
use Rattle.golf_model.specs.Refs.{goroutine_refs, frames_refs, waited}
use Rattle.golf_model_futures.specs.Invariant.{GoodWaking, FrameIn}
use Rattle.golf_model_futures.proofs.RefLaws.{Val, Vals, vals-append, vals-cons, frames-cons, frames-head, frames-tail}
use Rattle.golf_model_futures.proofs.RefLaws.{goroutine-frames, goroutine-both}
use Rattle.golf_model_futures.proofs.WaitLaws.{wait_for-waited, wait_on-waited}

module _ (O : ℕ → Type 0) where
  pub received-in : (with_ok : Bool) (v : Value) (sent : Bool) → Val O v → Vals O (received with_ok v sent)
  received-in true v sent a = vals-cons O (Value.Bool sent) (v ∷ []) tt (vals-cons O v [] a tt)
  received-in false v sent a = vals-cons O v [] a tt

  pub unwinding-in : (x : Fault) (f : FrameView) → FrameIn O f → FrameIn O (unwinding x f)
  unwinding-in x f a = record { slots = a.slots; operands = tt; deferred = a.deferred; leaving = tt }

  pub resumed_frame-in : (w : Wait) (vs : List Value) (f : FrameView) → Vals O vs → FrameIn O f
      → FrameIn O (resumed_frame w vs f)
  resumed_frame-in w vs f a b = record {
    slots = b.slots;
    operands = vals-append O vs f.operands a b.operands;
    deferred = b.deferred;
    leaving = b.leaving;
  }

  on_top-in : (change : FrameView → FrameView) → ((f : FrameView) → FrameIn O f → FrameIn O (change f))
      → (fs : List FrameView) → Every O (frames_refs fs) → Every O (frames_refs (on_top change fs))
  on_top-in change h [] a = tt
  on_top-in change h (f ∷ fs) a = frames-cons O (change f) fs (h f (frames-head O f fs a)) (frames-tail O f fs a)

  pub resumed-in : (w : Wait) (vs : List Value) (r : GoroutineView) → Vals O vs → Every O (goroutine_refs r)
      → Every O (goroutine_refs (resumed w vs r))
  resumed-in w vs r a b = goroutine-both O (resumed w vs r)
      (on_top-in (resumed_frame w vs) (λ f h. resumed_frame-in w vs f a h) r.frames (goroutine-frames O r b)) tt

  pub unwound-in : (x : Fault) (r : GoroutineView) → Every O (goroutine_refs r) → Every O (goroutine_refs (unwound x r))
  unwound-in x r b = goroutine-both O (unwound x r)
      (on_top-in (unwinding x) (unwinding-in x) r.frames (goroutine-frames O r b)) tt

  pub released-in : (r : GoroutineView) → Every O (goroutine_refs r) → Every O (goroutine_refs (released r))
  released-in r b = goroutine-both O (released r) (goroutine-frames O r b) tt

  closed_for-in : (zero : Value) (w : Wait) (side : Side) (r : GoroutineView) → Val O zero → Every O (goroutine_refs r)
      → Every O (goroutine_refs (closed_for zero w side r))
  closed_for-in zero w Side.Receive r a b =
      resumed-in w (received w.with_ok zero false) r (received-in w.with_ok zero false a) b
  closed_for-in zero w Side.Send r a b = unwound-in _ r b
  closed_for-in zero w _ r a b = b

  closed_on-in : (zero : Value) (m : Option Wait) (r : GoroutineView) → Val O zero → Every O (goroutine_refs r)
      → Every O (goroutine_refs (closed_on zero m r))
  closed_on-in zero None r a b = b
  closed_on-in zero (Some w) r a b = closed_for-in zero w w.side r a b

  released_by-in : (m : Option Wait) (r : GoroutineView) → Every O (goroutine_refs r)
      → Every O (goroutine_refs (released_by m r))
  released_by-in None r b = b
  released_by-in (Some w) r b = released-in r b

  -- who is woken refers to members alone
  pub woken-in : (how : Waking) (o : ℕ) (r : GoroutineView) → GoodWaking O how → Every O (goroutine_refs r)
      → Every O (goroutine_refs (woken_by how o r))
  woken-in (Waking.Closing zero) o r a b = closed_on-in zero (wait_on o (waits_of r.mode)) r a b
  woken-in Waking.AtZero o r a b = released_by-in (wait_for o Side.Group (waits_of r.mode)) r b
  woken-in (Waking.ToReaders below) o r a b = released_by-in (reads_next below o r) r b

-- who is woken waited there and runs; everyone else stands as before
abbrev pub Woken : ℕ → GoroutineView → GoroutineView → Type 0
Woken o r q = (q ≡ r) ⊎ (In o (waited (waits_of r.mode)) × (q.mode ≡ Mode.Running))

closed_for-cases : (zero : Value) (o : ℕ) (w : Wait) (side : Side) (r : GoroutineView) → In o (waited (waits_of r.mode))
    → Woken o r (closed_for zero w side r)
closed_for-cases zero o w Side.Receive r i = inr (i, refl)
closed_for-cases zero o w Side.Send r i = inr (i, refl)
closed_for-cases zero o w _ r i = inl refl

closed_on-cases : (zero : Value) (o : ℕ) (r : GoroutineView) (m : Option Wait) → wait_on o (waits_of r.mode) ≡ m
    → Woken o r (closed_on zero m r)
closed_on-cases zero o r None h = inl refl
closed_on-cases zero o r (Some w) h = closed_for-cases zero o w w.side r (wait_on-waited o (waits_of r.mode) w h)

released_by-cases : (o : ℕ) (r : GoroutineView) (m : Option Wait)
    → ((w : Wait) → m ≡ Some w → In o (waited (waits_of r.mode))) → Woken o r (released_by m r)
released_by-cases o r None h = inl refl
released_by-cases o r (Some w) h = inr (h w refl, refl)

pub reads_next-waited : (below : Option ℕ) (o : ℕ) (r : GoroutineView) (w : Wait) → reads_next below o r ≡ Some w
    → In o (waited (waits_of r.mode))
reads_next-waited below o r w h =
    elim (is_below below (ticket_of r.mode)) as (λ b. cond b (wait_for o Side.Read (waits_of r.mode)) None ≡ Some w
    → In o (waited (waits_of r.mode))) [
      | true ↦ λ i. wait_for-waited o Side.Read (waits_of r.mode) w i
      | false ↦ λ i. cc
    ] h

pub woken-cases : (how : Waking) (o : ℕ) (r : GoroutineView) → Woken o r (woken_by how o r)
woken-cases (Waking.Closing zero) o r = closed_on-cases zero o r (wait_on o (waits_of r.mode)) refl
woken-cases Waking.AtZero o r = released_by-cases o r (wait_for o Side.Group (waits_of r.mode))
    (λ w h. wait_for-waited o Side.Group (waits_of r.mode) w h)
woken-cases (Waking.ToReaders below) o r =
    released_by-cases o r (reads_next below o r) (λ w h. reads_next-waited below o r w h)

-- who does not wait there is not changed
pub woken-still : (how : Waking) (o : ℕ) (r : GoroutineView) → (In o (waited (waits_of r.mode)) → ⊥)
    → woken_by how o r ≡ r
woken-still how o r n = elim (woken-cases how o r) [ inl e ↦ e | inr a ↦ absurd (n a.0) ]
