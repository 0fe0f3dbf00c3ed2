-- What is cleared after a turn is not asked for, so types are kept.
-- For: `clearing`, golf_model/specs/ClearedSlots.antt; `cleared_from`, golf_data/specs/Slots.antt
-- By: induction over the list of slots
use Rattle.std.proofs.Common.{◌≡◌, ℕ, zero, suc, ◌+◌, Bool, true, false, cond, List, [], ◌∷◌, Option, Some, None, ◌==◌}
use Rattle.std.proofs.Common.{refl, sym, ap, ◌∙◌, subst, slice_get, length, pos, arith}
use Rattle.std.specs.Prelude.{option_and_then}
use Rattle.golf_theory.specs.Maps.{find}
use Rattle.golf_theory.specs.Membership.{Every}
use Rattle.golf_theory.proofs.Lists.{Every-weaker, Every-both}
use Rattle.golf_theory.proofs.MapEntries.{Entry-find}
use Rattle.golf_data.specs.declared.value.Value.{Value}
use Rattle.golf_data.specs.declared.code.Code.{Code}
use Rattle.golf_data.specs.declared.goroutine.Leaving.{Leaving}
use Rattle.golf_data.specs.declared.goroutine.Mode.{Mode}
use Rattle.golf_data.specs.Masks.{stays_under}
use Rattle.golf_model.specs.Views.{FrameView, GoroutineView}
use Rattle.golf_data.specs.Slots.{cleared_from, cleared_slots}
use Rattle.golf_model.specs.State.{State}
use Rattle.golf_model.specs.ClearedSlots.{mask_at, stays_in, cleared, clears_in, clears, clearing}
use Rattle.golf_model_typing.specs.Types.{ValueType, Shape, FunctionTypes, Typing, signature}
use Rattle.golf_model_typing.specs.Shapes.{slot_types, HasShapes}
use Rattle.golf_model_typing.specs.WellTyped.{SlotFits, LeavingFits, FrameBase, FrameFits, ModeFits, GoroutineFits}
use Rattle.golf_model_typing.specs.WellTyped.{WellTyped, ChangesFit}
use Rattle.golf_model_typing.proofs.Changing.{or_true}

pub length-cleared : (test : ℕ → Bool) (n : ℕ) (vs : List Value) → length (cleared_from test n vs) ≡ length vs
length-cleared test n [] = refl
length-cleared test n (v ∷ vs) = ap suc (length-cleared test (n + 1) vs)

-- a slot that stays holds what it held
pub get-cleared : (test : ℕ → Bool) (n i : ℕ) (vs : List Value) (v : Value) → slice_get vs i ≡ Some v
    → test (n + i) ≡ true → slice_get (cleared_from test n vs) i ≡ Some v
get-cleared test n i [] v e t = cc
get-cleared test n zero (w ∷ vs) v e t =
    ap (λ (b : Bool). Some (cond b w (Value.Int (pos 0)))) (ap test (let h : n ≡ n + 0 = omega arith in h) ∙ t) ∙ e
get-cleared test n (suc i) (w ∷ vs) v e t =
    get-cleared test (n + 1) i vs v e (ap test (let h : n + 1 + i ≡ n + suc i = omega arith in h) ∙ t)

one_only : {X : Type 0} (m : Option X) (a b : X) → m ≡ Some a → m ≡ Some b → a ≡ b
one_only m a b e f = cc

module _ (code : Code) (types : Typing) (shapes : HasShapes code types) (known : List (ℕ × ValueType)) where
  -- what a shape asks for stays under the mask of its position
  covers : (f at : ℕ) (ft : FunctionTypes) (sh : Shape) → slice_get types.of.functions f ≡ Some (signature ft)
      → slice_get types.shapes f ≡ Some ft.shapes → slice_get ft.shapes at ≡ Some sh
      → Every (λ i. stays_under (mask_at code f at) i ≡ true) sh.assigned
  covers f at ft sh e d h =
      let found = shapes.functions f (signature ft) e in
      let same : found.0 ≡ ft.shapes = one_only (slice_get types.shapes f) found.0 ft.shapes found.2 d in
      let all = found.5 at sh (ap (λ (own : List Shape). slice_get own at) same ∙ h) in
      subst (λ (m : Option ℕ). Every (λ i. stays_under m i ≡ true) sh.assigned)
      (sym (ap (option_and_then (λ fn. slice_get fn.live at)) found.3)) all

  pub assigned-cleared : (ft : FunctionTypes) (slots : List Value) (test : ℕ → Bool) (is : List ℕ)
      → Every (SlotFits types known (slot_types ft) slots) is → Every (λ i. test i ≡ true) is
      → Every (SlotFits types known (slot_types ft) (cleared_slots test slots)) is
  assigned-cleared ft slots test is h t =
      Every-weaker (λ i. SlotFits types known (slot_types ft) slots i × (test i ≡ true))
      (SlotFits types known (slot_types ft) (cleared_slots test slots))
      (λ i b. (
        b.0.0,
        b.0.1,
        b.0.2,
        get-cleared test 0 i slots b.0.1 b.0.3
            (ap test (let z : 0 + i ≡ i = omega arith in z) ∙ b.1),
        b.0.4,
      )) is
      (Every-both (SlotFits types known (slot_types ft) slots) (λ i. test i ≡ true) is h t)

  leaving-cleared : (ft : FunctionTypes) (f : FrameView) → FrameBase types known ft f.function f.slots f.deferred
      → (l : Leaving) → LeavingFits types known ft [] f.at f.operands f.slots l
      → LeavingFits types known ft [] f.at f.operands
      (cleared_slots (stays_in l (mask_at code f.function f.at)) f.slots) l
  leaving-cleared ft f b Leaving.No h = record {
    shape = h.shape;
    here = h.here;
    rest = h.rest;
    lacks = h.lacks;
    held = h.held;
    assigned = assigned-cleared ft f.slots (stays_under (mask_at code f.function f.at)) h.shape.assigned h.assigned
        (covers f.function f.at ft h.shape b.typed b.shaped h.here);
  }
  leaving-cleared ft f b (Leaving.Returning v) h = h
  leaving-cleared ft f b (Leaving.Unwinding x) h = tt

  frame-cleared : (ft : FunctionTypes) (f : FrameView) → FrameFits types known ft [] f
      → FrameFits types known ft [] (cleared code f)
  frame-cleared ft f h = (
    record {
      typed = h.0.typed;
      shaped = h.0.shaped;
      full = length-cleared (stays_in f.leaving (mask_at code f.function f.at)) 0 f.slots ∙ h.0.full;
      deferred_calls =
          h.0.deferred_calls;
    },
    leaving-cleared ft f h.0 f.leaving h.1,
  )

  module _ (t : State) (g : ℕ) where
    fits-clears_in : (r : GoroutineView) (m : Mode) (fs : List FrameView) → r.mode ≡ m → ModeFits types known fs m
        → ChangesFit types known t (clears_in code g r m fs)
    fits-clears_in r Mode.Running [] e h = tt
    fits-clears_in r Mode.Running (f ∷ fs) e h = (
      (
        subst (ModeFits types known (cleared code f ∷ fs)) (sym e) (h.0, frame-cleared h.0 f h.1, h.2),
        or_true (g == 0),
      ),
      tt,
    )
    fits-clears_in r (Mode.Blocked kind line waits ticket) fs e h = tt

    fits-clears : (m : Option GoroutineView) → ((r : GoroutineView) → m ≡ Some r → GoroutineFits types known g r)
        → ChangesFit types known t (clears code g m)
    fits-clears None h = tt
    fits-clears (Some r) h = fits-clears_in r r.mode r.frames refl (h r refl).0

  pub fits-clearing : (b : Bool) (m : Option ℕ) (t : State) → WellTyped types known t
      → ChangesFit types known t (clearing code b m t)
  fits-clearing true m t w = tt
  fits-clearing false None t w = tt
  fits-clearing false (Some g) t w = fits-clears t g (find g t.goroutines)
      (λ r e. w.goroutines g r (Entry-find g t.goroutines r e))
