-- Goroutines that are woken stay typed.
-- For: `woken_by`, golf_model/specs/Wakes.antt.
-- By: cases of why it is woken and of the wait that is found; no induction.
use Rattle.std.proofs.Common.{◌≡◌, ℕ, true, false, cond, List, Option, Some, None, refl, sym, ◌∙◌}
use Rattle.golf_theory.specs.Membership.{In}
use Rattle.golf_data.specs.declared.value.Value.{Value}
use Rattle.golf_data.specs.declared.goroutine.Mode.{Mode}
use Rattle.golf_data.specs.declared.goroutine.Side.{Side}
use Rattle.golf_data.specs.declared.goroutine.Wait.{Wait}
use Rattle.golf_data.specs.declared.goroutine.PanicKind.{PanicKind}
use Rattle.golf_model.specs.Views.{FrameView, GoroutineView}
use Rattle.golf_model.specs.Waiters.{waits_of, ticket_of, blocked_line, wait_for, wait_on}
use Rattle.golf_model.specs.Wakes.{Waking, fault, woken_by, closed_on, closed_for, released_by, reads_next, is_below}
use Rattle.golf_model_futures.proofs.WaitLaws.{wait_for-in, wait_on-in}
use Rattle.golf_model_typing.specs.Types.{ValueType, Typing, HasType, ValueFits}
use Rattle.golf_model_typing.specs.WellTyped.{BlockedFits, ModeFits, GoroutineFits, WakingFits}
use Rattle.golf_model_typing.proofs.Waits.{wait_for-is, wait_on-is}
use Rattle.golf_model_typing.proofs.Changing.{released-at, WaitsOn, receiver-served, unwound-fits}

module _ (types : Typing) (known : List (ℕ × ValueType)) where
  -- who waits is blocked
  pub blocked-of : (fs : List FrameView) (m : Mode) (w : Wait) → In w (waits_of m) → ModeFits types known fs m
      → BlockedFits types known (waits_of m) fs
  blocked-of fs Mode.Running w i h = absurd i
  blocked-of fs (Mode.Blocked kind line waits ticket) w i h = h.0

  module _ (g o : ℕ) (r : GoroutineView) (h : GoroutineFits types known g r) where
    closed_for-fits : (zero : Value) (e : ValueType) (w : Wait) (side : Side) → HasType known o (ValueType.Chan e)
        → ValueFits types.of known zero e → w.side ≡ side → w.object.0 ≡ o → In w (waits_of r.mode)
        → GoroutineFits types known g (closed_for zero w side r)
    closed_for-fits zero e w Side.Receive k a q j i =
        let is : WaitsOn types known o Side.Receive w (waits_of r.mode) r =
        record { blocked = blocked-of r.frames r.mode w i h.0; in_waits = i; object = j; side_is = q } in
        receiver-served types known g e zero false is k a
    closed_for-fits zero e w Side.Send k a q j i =
        unwound-fits types known (fault PanicKind.SendClosed (blocked_line r.mode)) g (waits_of r.mode) r
        (blocked-of r.frames r.mode w i h.0)
    closed_for-fits zero e w _ k a q j i = h

    closed_on-fits : (zero : Value) (e : ValueType) (m : Option Wait) → HasType known o (ValueType.Chan e)
        → ValueFits types.of known zero e → wait_on o (waits_of r.mode) ≡ m
        → GoroutineFits types known g (closed_on zero m r)
    closed_on-fits zero e None k a q = h
    closed_on-fits zero e (Some w) k a q =
        closed_for-fits zero e w w.side k a refl (wait_on-is o (waits_of r.mode) w q)
        (wait_on-in o (waits_of r.mode) w q)

    released_by-fits : (side : Side) → (side ≡ Side.Receive → ⊥) → (side ≡ Side.Send → ⊥) → (m : Option Wait)
        → ((w : Wait) → m ≡ Some w → wait_for o side (waits_of r.mode) ≡ Some w)
        → GoroutineFits types known g (released_by m r)
    released_by-fits side n p None f = h
    released_by-fits side n p (Some w) f =
        let q = f w refl in
        let same = (wait_for-is o side (waits_of r.mode) w q).1 in
        let i = wait_for-in o side (waits_of r.mode) w q in
        released-at types known g w (waits_of r.mode) r (λ e. n (sym same ∙ e)) (λ e. p (sym same ∙ e)) i
        (blocked-of r.frames r.mode w i h.0)

    pub woken-fits : (how : Waking) → WakingFits types known o how → GoroutineFits types known g (woken_by how o r)
    woken-fits (Waking.Closing zero) a = closed_on-fits zero a.0 (wait_on o (waits_of r.mode)) a.1 a.2 refl
    woken-fits Waking.AtZero a = released_by-fits Side.Group (λ e. cc) (λ e. cc)
        (wait_for o Side.Group (waits_of r.mode)) (λ w q. q)
    woken-fits (Waking.ToReaders below) a = released_by-fits Side.Read (λ e. cc) (λ e. cc) (reads_next below o r)
        (λ w q. elim (is_below below (ticket_of r.mode)) as (λ b. cond b (wait_for o Side.Read (waits_of r.mode)) None
        ≡ Some w → wait_for o Side.Read (waits_of r.mode) ≡ Some w) [ true ↦ λ i. i | false ↦ λ i. cc ] q)
