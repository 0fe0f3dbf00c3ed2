-- In a well-typed state a goroutine stands at the shape of its place, and requeues as many arguments as the function
-- has parameters, and of their types.
-- For: `PassesOn`, Booking.antt.
-- By: cases of the instruction; induction over lists of values, and over the number of operands.
use Rattle.std.proofs.Common.{◌≡◌, ℕ, zero, suc, List, [], ◌∷◌, ◌++◌, length, Option, Some, None, ap, sym}
use Rattle.std.proofs.Common.{◌∙◌, subst, slice_get, arith, append-nil}
use Rattle.std.specs.Prelude.{option_and_then, unwrap_or}
use Rattle.golf_theory.specs.Maps.{Entry}
use Rattle.golf_theory.proofs.Lists.{Every-weaker}
use Rattle.golf_data.specs.declared.value.Value.{Value}
use Rattle.golf_data.specs.declared.code.Code.{Code}
use Rattle.golf_data.specs.declared.code.CodeLine.{CodeLine}
use Rattle.golf_data.specs.declared.code.Function.{Function}
use Rattle.golf_data.specs.declared.code.Instr.{Instr}
use Rattle.golf_data.specs.declared.goroutine.Deferred.{Deferred}
use Rattle.golf_data.specs.declared.goroutine.Mode.{Mode}
use Rattle.golf_data.specs.declared.goroutine.Queued.{Queued}
use Rattle.golf_model.specs.Views.{FrameView, GoroutineView}
use Rattle.golf_model.specs.State.{State}
use Rattle.golf_model.specs.Turn.{line_at}
use Rattle.golf_model_typing.specs.Types.{ValueType, Shape, Signature, FunctionTypes, signature, with_shapes, Types}
use Rattle.golf_model_typing.specs.Types.{Typing, ValuesFit}
use Rattle.golf_model_typing.specs.Grows.{Grows}
use Rattle.golf_model_typing.specs.Shapes.{pushed, InstructionFits, FunctionFits, HasShapes}
use Rattle.golf_model_typing.specs.WellTyped.{FrameStands, LeavingFits, CallFits, DeferredFits, FramesFit, ModeFits}
use Rattle.golf_model_typing.specs.WellTyped.{FinaliserFits, WellTyped}
use Rattle.golf_model_typing.proofs.Lengths.{values-length, pushed-append, pushed-pushed, pushed-length}
use Rattle.golf_model_typing.proofs.Growing.{values-more}
use Rattle.golf_meaning_flat.specs.Worlds.{Operation}
use Rattle.golf_meaning_runs.specs.VisibleOutcomes.{split_from, CalledBy}
use Rattle.golf_meaning_runs.specs.TurnsInLives.{operation, Asked, plain_shown, shows}
use Rattle.golf_meaning_runs.specs.Books.{RunTypes, CanBeCalledWith, HasParameters}
use Rattle.golf_meaning_runs.proofs.Others.{one-some}
use Rattle.golf_meaning_runs.proofs.Booking.{PassesOn}

-- those that are split off are of the types that were pushed last
split-fits : (types : Types) (known : List (ℕ × ValueType)) (ps qs rest : List ValueType) (n : ℕ)
    (acc os vs below : List Value) → n ≡ length qs → ValuesFit types known acc ps
    → ValuesFit types known os (qs ++ rest) → split_from n acc os ≡ Some (vs, below)
    → ValuesFit types known vs (pushed qs ps)
split-fits types known ps [] rest zero acc os vs below count h k e =
    subst (λ (x : List Value × List Value). ValuesFit types known x.0 ps) (one-some (acc, os) (vs, below) e) h
split-fits types known ps [] rest (suc n) acc os vs below count h k e = absurd (omega (arith, count))
split-fits types known ps (q ∷ qs) rest zero acc os vs below count h k e = absurd (omega (arith, count))
split-fits types known ps (q ∷ qs) rest (suc n) acc [] vs below count h k e = absurd k
split-fits types known ps (q ∷ qs) rest (suc n) acc (v ∷ os) vs below count h k e =
    split-fits types known (q ∷ ps) qs rest n (v ∷ acc) os vs below (omega (arith, count)) (k.0, h) k.1 e

-- so many operands, pushed in this order, are of these types
arguments-fit : (types : Types) (known : List (ℕ × ValueType)) (ps rest : List ValueType) (n : ℕ)
    (os vs below : List Value) → n ≡ length ps → ValuesFit types known os (pushed ps rest)
    → split_from n [] os ≡ Some (vs, below) → ValuesFit types known vs ps
arguments-fit types known ps rest n os vs below count h e =
    let back : pushed (pushed ps []) [] ≡ ps = pushed-pushed ps [] [] ∙ append-nil ps in
    let size : n ≡ length (pushed ps []) = (let l = pushed-length ps [] in omega (arith, l, count)) in
    subst (λ ts. ValuesFit types known vs ts) back
    (split-fits types known [] (pushed ps []) rest n [] os vs below size tt
    (subst (λ ts. ValuesFit types known os ts) (pushed-append ps [] rest) h) e)

-- the operands of an operation are those that were split off
shown-split : (i : Instr) (vs : List Value) (q : Asked) (m : Option (List Value × List Value))
    → plain_shown i m ≡ Some (operation i vs, q) → (rest : List Value) × (m ≡ Some (vs, rest))
shown-split i vs q None e = cc
shown-split i vs q (Some o) e = (
  o.1,
  ap (λ (us : List Value). Some (us, o.1))
      (ap (λ (x : Operation × Asked). x.0.operands) (one-some _ (operation i vs, q) e)),
)

module _ (code : Code) (types : Typing) (shapes : HasShapes code types) (parameters : HasParameters code types)
    (known later : List (ℕ × ValueType)) (grows : Grows known later) where
  -- what is known later
  abbrev run_types : RunTypes
  run_types = record { typing = types; known = later }

  -- a call that fits its types
  pub call-takes : (n : ℕ) (vs : List Value) → CallFits types known n vs → CanBeCalledWith code run_types n vs
  call-takes n vs h fn e = (
    values-length types.of known vs h.0.params h.2 ∙ sym (parameters n fn h.0 e h.1),
    (h.0, h.1, values-more types known later grows vs h.0.params h.2),
  )

  -- so many operands of the types of the function's parameters
  counted : (i : Instr) (f n : ℕ) (os vs : List Value) (q : Asked) (callee : Signature) (rest : List ValueType)
      → slice_get types.of.functions f ≡ Some callee → n ≡ length callee.params
      → ValuesFit types.of known os (pushed callee.params rest)
      → plain_shown i (split_from n [] os) ≡ Some (operation i vs, q) → (m : ℕ) → f ≡ m
      → CanBeCalledWith code run_types m vs
  counted i f n os vs q callee rest is count fit e m same =
      let split = shown-split i vs q (split_from n [] os) e in
      call-takes m vs (
        callee,
        ap (λ j. slice_get types.of.functions j) (sym same) ∙ is,
        arguments-fit types.of known callee.params rest n os vs split.0 count fit split.1,
      )

  instruction-takes : (ft : FunctionTypes) (k : ℕ) (sh : Shape) (os vs : List Value) (q : Asked) (i : Instr)
      → InstructionFits types.of ft k i sh → ValuesFit types.of known os sh.operands
      → shows i os ≡ Some (operation i vs, q) → (m : ℕ) → CalledBy i m → CanBeCalledWith code run_types m vs
  instruction-takes ft k sh os vs q (Instr.Call f n) h fit e m called =
      counted (Instr.Call f n) f n os vs q h.0 h.1 h.2 h.3
      (subst (λ ts. ValuesFit types.of known os ts) h.4 fit) e m called
  instruction-takes ft k sh os vs q (Instr.Go f n) h fit e m called =
      counted (Instr.Go f n) f n os vs q h.0 h.1 h.2 h.3
      (subst (λ ts. ValuesFit types.of known os ts) h.4 fit) e m called
  instruction-takes ft k sh os vs q i h fit e m called = absurd called

  module _ (s : State) (typed : WellTyped types known s) where
    -- a frame that stands at an instruction
    at-line : (ft : FunctionTypes) (f : FrameView) (l : CodeLine)
        → slice_get types.of.functions f.function ≡ Some (signature ft)
        → slice_get types.shapes f.function ≡ Some ft.shapes → FrameStands types known ft [] f.at f.operands f.slots
        → line_at code f.function f.at ≡ Some l
        → (vs : List Value) (q : Asked) → shows l.instr f.operands ≡ Some (operation l.instr vs, q) → (n : ℕ)
        → CalledBy l.instr n → CanBeCalledWith code run_types n vs
    at-line ft f l is shaped stands e vs q shown n called =
        let x = shapes.functions f.function (signature ft) is in
        let fn = x.1 in
        let own : x.0 ≡ ft.shapes = one-some x.0 ft.shapes (sym x.2 ∙ shaped) in
        let y = x.4.each f.at stands.shape (ap (λ (ss : List Shape). slice_get ss f.at) own ∙ stands.here) in
        let same : y.0 ≡ l = one-some y.0 l (sym y.1
        ∙ sym (ap (λ (m : Option Function). option_and_then (λ fn. slice_get fn.body f.at) m) x.3) ∙ e) in
        instruction-takes (with_shapes (signature ft) x.0) f.at stands.shape f.operands vs q l.instr
        (subst (λ (z : CodeLine). InstructionFits types.of
        (with_shapes (signature ft) x.0) f.at z.instr stands.shape) same y.2)
        (subst (λ ts. ValuesFit types.of known f.operands ts) (sym stands.lacks) stands.held) shown n called

    module _ (g : ℕ) (r : GoroutineView) (entry : Entry s.goroutines g r) (runs : r.mode ≡ Mode.Running) where
      frames-fit : (f : FrameView) (callers : List FrameView) → r.frames ≡ f ∷ callers
          → FramesFit types known [] (f ∷ callers)
      frames-fit f callers e = subst (λ fs. FramesFit types known [] fs) e
          (subst (λ m. ModeFits types known r.frames m) runs (typed.goroutines g r entry).0)

      pub passes-on : PassesOn code run_types s r.frames
      passes-on = record {
        stands = λ f callers e staying.
            let x = frames-fit f callers e in
            let stands = subst (λ left. LeavingFits types known x.0 [] f.at f.operands f.slots left) staying x.1.1 in (
              stands.shape,
              ap (λ (m : Option (List Shape)). slice_get (unwrap_or m []) f.at) x.1.0.shaped ∙ stands.here,
              values-more types known later grows f.operands stands.shape.operands
                  (subst (λ ts. ValuesFit types.of known f.operands ts) (sym stands.lacks) stands.held),
            );
        fitting = λ f callers e staying fn is.
            let x = frames-fit f callers e in
            let y = shapes.functions f.function (signature x.0) x.1.0.typed in
            let ft = with_shapes (signature x.0) y.0 in (
              ft,
              sym (ap (λ (m : Option (List Shape)). unwrap_or m []) y.2),
              subst (λ (z : Function). FunctionFits types.of z ft) (one-some y.1 fn (sym y.3 ∙ is)) y.4,
            );
        operands = λ f callers l e staying at vs q shown n called.
            let x = frames-fit f callers e in
            let ft = x.0 in
            at-line ft f l x.1.0.typed x.1.0.shaped
            (subst (λ left. LeavingFits types known ft [] f.at f.operands f.slots left) staying x.1.1) at vs q shown
            n called;
        deferred = λ f callers e. Every-weaker (DeferredFits types known)
            (λ (d : Deferred). CanBeCalledWith code run_types d.function d.arguments)
            (λ d h. call-takes d.function d.arguments h) f.deferred (frames-fit f callers e).1.0.deferred_calls;
        queue = Every-weaker (λ (q : Queued). FinaliserFits types known q.object.0 q.function)
            (λ (q : Queued). CanBeCalledWith code run_types q.function (Value.Ref q.object ∷ []))
            (λ q h. call-takes q.function (Value.Ref q.object ∷ []) h) s.queue typed.queue;
      }
