-- More objects are known, and what was typed stays typed.
-- For: `WellTyped` and `GoroutineFits`, golf_model_typing/specs/WellTyped.antt.
-- By: induction over the list of values, and over the list of frames.
use Rattle.std.proofs.Common.{ℕ, List, [], ◌∷◌, Option, Some, None}
use Rattle.std.specs.Prelude.{unwrap_or}
use Rattle.golf_theory.specs.Membership.{Every}
use Rattle.golf_theory.proofs.Lists.{Every-weaker}
use Rattle.golf_data.specs.declared.value.Value.{Value}
use Rattle.golf_data.specs.declared.value.Object.{Object}
use Rattle.golf_data.specs.declared.goroutine.Deferred.{Deferred}
use Rattle.golf_data.specs.declared.goroutine.Leaving.{Leaving}
use Rattle.golf_data.specs.declared.goroutine.Mode.{Mode}
use Rattle.golf_data.specs.declared.goroutine.Side.{Side}
use Rattle.golf_data.specs.declared.goroutine.Wait.{Wait}
use Rattle.golf_model.specs.Views.{FrameView, GoroutineView}
use Rattle.golf_model_typing.specs.Types.{ValueType, FunctionTypes, Typing, HasType, ValueFits, ValuesFit, ObjectFits}
use Rattle.golf_model_typing.specs.Shapes.{slot_types}
use Rattle.golf_model_typing.specs.WellTyped.{gives, received_types, SlotFits, FrameStands, ResultFits, LeavingFits}
use Rattle.golf_model_typing.specs.WellTyped.{CallFits, DeferredFits, FrameBase, FramesFit, WaitFitsAt, WaitFits}
use Rattle.golf_model_typing.specs.WellTyped.{BlockedFits, ModeFits, GoroutineFits}

module _ (types : Typing) (known later : List (ℕ × ValueType))
    (grows : (o : ℕ) (t : ValueType) → HasType known o t → HasType later o t) where
  pub value-more : (v : Value) (t : ValueType) → ValueFits types.of known v t → ValueFits types.of later v t
  value-more (Value.Ref o) t h = (grows o.0 t h.0, h.1)
  value-more _ t h = h

  pub values-more : (vs : List Value) (ts : List ValueType) → ValuesFit types.of known vs ts
      → ValuesFit types.of later vs ts
  values-more [] [] h = tt
  values-more [] (t ∷ ts) h = h
  values-more (v ∷ vs) [] h = h
  values-more (v ∷ vs) (t ∷ ts) h = (value-more v t h.0, values-more vs ts h.1)

  each-more : (e : ValueType) (vs : List Value) → Every (λ v. ValueFits types.of known v e) vs
      → Every (λ v. ValueFits types.of later v e) vs
  each-more e vs h = Every-weaker (λ v. ValueFits types.of known v e) (λ v. ValueFits types.of later v e)
      (λ v i. value-more v e i) vs h

  pub object-more : (x : Object) (t : ValueType) → ObjectFits types.of known x t → ObjectFits types.of later x t
  object-more (Object.Struct fields) t h = (h.0, h.1, h.2, h.3, values-more fields h.1 h.4)
  object-more (Object.Slice elements) t h = (h.0, h.1, each-more h.0 elements h.2)
  object-more (Object.Chan c) t h = (
    h.0,
    h.1,
    record { buffer = each-more h.0 c.buffer h.2.buffer; zero = value-more c.zero h.0 h.2.zero },
  )
  object-more (Object.Cond m) t h = (h.0, value-more m ValueType.Mutex h.1)
  object-more _ t h = h

  stands-more : (ft : FunctionTypes) (ts : List ValueType) (at : ℕ) (vs slots : List Value)
      → FrameStands types known ft ts at vs slots → FrameStands types later ft ts at vs slots
  stands-more ft ts at vs slots h = record {
    shape = h.shape;
    here = h.here;
    rest = h.rest;
    lacks = h.lacks;
    held = values-more vs h.rest h.held;
    assigned = Every-weaker (SlotFits types known (slot_types ft) slots) (SlotFits types later (slot_types ft) slots)
        (λ i a. (a.0, a.1, a.2, a.3, value-more a.1 a.0 a.4)) h.shape.assigned h.assigned;
  }

  result-more : (v : Option Value) (t : Option ValueType) → ResultFits types known v t → ResultFits types later v t
  result-more None None h = tt
  result-more None (Some t) h = h
  result-more (Some v) None h = h
  result-more (Some v) (Some t) h = value-more v t h

  leaving-more : (ft : FunctionTypes) (ts : List ValueType) (at : ℕ) (vs slots : List Value) (l : Leaving)
      → LeavingFits types known ft ts at vs slots l → LeavingFits types later ft ts at vs slots l
  leaving-more ft ts at vs slots Leaving.No h = stands-more ft ts at vs slots h
  leaving-more ft ts at vs slots (Leaving.Returning v) h = result-more v ft.result h
  leaving-more ft ts at vs slots (Leaving.Unwinding x) h = tt

  pub call-more : (f : ℕ) (vs : List Value) → CallFits types known f vs → CallFits types later f vs
  call-more f vs h = (h.0, h.1, values-more vs h.0.params h.2)

  pub base-more : (ft : FunctionTypes) (f : ℕ) (slots : List Value) (ds : List Deferred)
      → FrameBase types known ft f slots ds → FrameBase types later ft f slots ds
  base-more ft f slots ds h = record {
    typed = h.typed;
    shaped = h.shaped;
    full = h.full;
    deferred_calls = Every-weaker (DeferredFits types known) (DeferredFits types later)
        (λ d i. call-more d.function d.arguments i) ds h.deferred_calls;
  }

  pub frames-more : (ts : List ValueType) (fs : List FrameView) → FramesFit types known ts fs
      → FramesFit types later ts fs
  frames-more ts [] h = tt
  frames-more ts (f ∷ fs) h = (
    h.0,
    (base-more h.0 f.function f.slots f.deferred h.1.0, leaving-more h.0 ts f.at f.operands f.slots f.leaving h.1.1),
    frames-more (gives f.discards h.0.result) fs h.2,
  )

  wait-more : (ft : FunctionTypes) (f : FrameView) (w : Wait) (side : Side) → WaitFitsAt types known ft f w side
      → WaitFitsAt types later ft f w side
  wait-more ft f w Side.Receive h = (
    h.0,
    grows w.object.0 (ValueType.Chan h.0) h.1,
    leaving-more ft (received_types w.with_ok h.0) (unwrap_or w.target f.at) f.operands f.slots f.leaving h.2,
  )
  wait-more ft f w Side.Send h = (
    h.0,
    grows w.object.0 (ValueType.Chan h.0) h.1,
    value-more w.value h.0 h.2,
    leaving-more ft [] (unwrap_or w.target f.at) f.operands f.slots f.leaving h.3,
  )
  wait-more ft f w _ h = (
    grows w.object.0 _ h.0,
    leaving-more ft [] f.at f.operands f.slots f.leaving h.1,
  )

  blocked-more : (waits : List Wait) (fs : List FrameView) → BlockedFits types known waits fs
      → BlockedFits types later waits fs
  blocked-more waits [] h = h
  blocked-more waits (f ∷ fs) h = (
    h.0,
    base-more h.0 f.function f.slots f.deferred h.1,
    Every-weaker (WaitFits types known h.0 f) (WaitFits types later h.0 f)
        (λ w i. wait-more h.0 f w w.side i) waits h.2,
    frames-more (gives f.discards h.0.result) fs h.3,
  )

  mode-more : (fs : List FrameView) (m : Mode) → ModeFits types known fs m → ModeFits types later fs m
  mode-more fs Mode.Running h = frames-more [] fs h
  mode-more fs (Mode.Blocked kind line waits ticket) h = (blocked-more waits fs h.0, h.1)

  pub goroutine-more : (g : ℕ) (r : GoroutineView) → GoroutineFits types known g r → GoroutineFits types later g r
  goroutine-more g r h = (mode-more r.frames r.mode h.0, h.1)
