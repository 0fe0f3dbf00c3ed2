-- Calls, goroutines and returns: their turns have changes, and keep types.
-- For: `call_frame`, golf_model/specs/State.antt; `returns_to`, golf_model/specs/Calls.antt
-- By: induction over the types that a function takes, with the values for them
use Rattle.std.proofs.Common.{◌≡◌, ℕ, zero, suc, ◌+◌, ◌-◌, ◌<◌, Bool, true, false, List, [], ◌∷◌, ◌++◌, Option, Some}
use Rattle.std.proofs.Common.{None, ◌==◌, refl, sym, ap, ◌∙◌, subst, slice_get, arith, length, pos}
use Rattle.std.proofs.lemmas.List.{append-nil}
use Rattle.std.specs.Prelude.{option_to_list, replicate, option_map}
use Rattle.golf_theory.specs.Membership.{Every}
use Rattle.golf_theory.proofs.Lists.{Every-weaker}
use Rattle.golf_data.specs.declared.value.Value.{Value}
use Rattle.golf_data.specs.declared.code.Code.{Code}
use Rattle.golf_data.specs.declared.code.Instr.{Instr}
use Rattle.golf_data.specs.declared.goroutine.Deferred.{Deferred}
use Rattle.golf_data.specs.declared.goroutine.Ending.{Ending}
use Rattle.golf_data.specs.declared.goroutine.Fault.{Fault}
use Rattle.golf_data.specs.declared.goroutine.Leaving.{Leaving}
use Rattle.golf_data.specs.declared.goroutine.Mode.{Mode}
use Rattle.golf_data.specs.declared.goroutine.PanicKind.{PanicKind}
use Rattle.golf_data.specs.declared.goroutine.Queued.{Queued}
use Rattle.golf_data.specs.Masks.{stays_under}
use Rattle.golf_model.specs.Views.{FrameView, GoroutineView}
use Rattle.golf_model.specs.State.{State, not_empty, slots_of, opened, call_frame}
use Rattle.golf_model.specs.Changes.{Change}
use Rattle.golf_model.specs.Actors.{Actor, with_frames, next, taking_from, taking, choose}
use Rattle.golf_model.specs.Calls.{is_full, enters, calls, spawns, defers, handed_back, returns_to, unwinds_to}
use Rattle.golf_model.specs.Calls.{returns_by, returns, returns_value, begins_deferred, leaves_returning}
use Rattle.golf_model.specs.Calls.{leaves_unwinding}
use Rattle.golf_model.specs.Finalisers.{begins_queued}
use Rattle.golf_model_typing.specs.Types.{ValueType, Shape, Signature, FunctionTypes, Typing, with_shapes, ValuesFit}
use Rattle.golf_model_typing.specs.Shapes.{slot_types, pushed, InstructionFits, HasShapes}
use Rattle.golf_model_typing.specs.WellTyped.{gives, SlotFits, ResultFits, LeavingFits, DeferredFits, FrameBase}
use Rattle.golf_model_typing.specs.WellTyped.{FrameFits}
use Rattle.golf_model_typing.specs.WellTyped.{FramesFit, FinaliserFits, ModeFits}
use Rattle.golf_model_typing.proofs.Changing.{values-get, given-fits, or_true}
use Rattle.golf_model_typing.proofs.Gets.{slice_get-left}
use Rattle.golf_model_typing.proofs.Lengths.{values-length, pushed-append, pushed-pushed, pushed-length}
use Rattle.golf_model_typing.proofs.Clearing.{length-cleared, assigned-cleared}
use Rattle.golf_model_typing.proofs.Acting.{Proceeds, of-choose, of-some, of-taking_one, Holds, ActorFits}
use Rattle.golf_model_typing.proofs.Acting.{proceeds-stands, proceeds-dies, proceeds-goes, taken, on_no, lands}

pub slice_get-at : {X : Type 0} (xs : List X) (i : ℕ) → i < length xs → (x : X) × (slice_get xs i ≡ Some x)
slice_get-at [] i l = absurd (omega (arith, l))
slice_get-at (x ∷ xs) zero l = (x, refl)
slice_get-at (x ∷ xs) (suc i) l = slice_get-at xs i (omega (arith, l))

length-append : {X : Type 0} (xs ys : List X) → length (xs ++ ys) ≡ length xs + length ys
length-append [] ys = omega arith
length-append (x ∷ xs) ys = let e = length-append xs ys in omega (arith, e)

length-replicate : {X : Type 0} (n : ℕ) (x : X) → length (replicate n x) ≡ n
length-replicate zero x = refl
length-replicate (suc n) x = ap suc (length-replicate n x)

-- taking operands one by one
module _ (types : Typing) (known : List (ℕ × ValueType)) (P : List Change → Type 0) where
  -- qs are the types of what is to be taken, the top one first; ps of what was taken
  taking-pushed : (qs ps rest : List ValueType) (done vs : List Value) (act : List Value → List Value → List Change)
      → ValuesFit types.of known done ps → ValuesFit types.of known vs (qs ++ rest)
      → ((xs others : List Value) → ValuesFit types.of known xs (pushed qs ps) → ValuesFit types.of known others rest
      → P (act xs others)) → P (taking_from (length qs) done act vs)
  taking-pushed [] ps rest done vs act hd hv h = h done vs hd hv
  taking-pushed (q ∷ qs) ps rest done [] act hd hv h = absurd hv
  taking-pushed (q ∷ qs) ps rest done (v ∷ vs) act hd hv h =
      taking-pushed qs (q ∷ ps) rest (v ∷ done) vs act (hv.0, hd) hv.1 h

  -- the arguments of a call, in source order
  pub of-taking : (ps rest : List ValueType) (n : ℕ) (vs : List Value) (act : List Value → List Value → List Change)
      → n ≡ length ps → ValuesFit types.of known vs (pushed ps rest)
      → ((xs others : List Value) → ValuesFit types.of known xs ps → ValuesFit types.of known others rest
      → P (act xs others)) → P (taking n act vs)
  of-taking ps rest n vs act e hv h =
      let qs = pushed ps [] in
      let back : pushed qs [] ≡ ps = pushed-pushed ps [] [] ∙ append-nil ps in
      let size : length qs ≡ n = (let l = pushed-length ps [] in omega (arith, l, e)) in
      subst (λ k. P (taking_from k [] act vs)) size
      (taking-pushed qs [] rest [] vs act tt (subst (ValuesFit types.of known vs) (pushed-append ps [] rest) hv)
      (λ xs others hx ho. h xs others (subst (ValuesFit types.of known xs) back hx) ho))

module _ (code : Code) (types : Typing) (shapes : HasShapes code types) (known : List (ℕ × ValueType)) (s : State) where
  abbrev Goes : List Change → Type 0
  Goes cs = Proceeds types known s cs

  -- the first frame of a call: it is there, and lacks nothing
  pub record Opened (f : ℕ) (arguments : List Value) (discards : Bool) (callee : Signature) : Type 0 where
    pub own : List Shape
    pub frame : FrameView
    pub is : call_frame code f arguments discards ≡ Some frame
    pub ok : FrameFits types known (with_shapes callee own) [] frame
    pub discarding : frame.discards ≡ discards

  pub opens : (f : ℕ) (arguments : List Value) (discards : Bool) (callee : Signature)
      → slice_get types.of.functions f ≡ Some callee → ValuesFit types.of known arguments callee.params
      → Opened f arguments discards callee
  opens f arguments discards callee e h =
      let found = shapes.functions f callee e in
      let fn = found.1 in
      let ok = found.4 in
      let ft = with_shapes callee found.0 in
      let plain = arguments ++ replicate (fn.slots - length arguments) (Value.Int (pos 0)) in
      let stays = stays_under (slice_get fn.live 0) in
      let slots = slots_of fn arguments in
      let params = values-length types.of known arguments callee.params h in
      let both = length-append callee.params callee.locals in
      let full : length slots ≡ length (slot_types ft) = (
      let c = length-cleared stays 0 plain in
      let l = length-append arguments (replicate (fn.slots - length arguments) (Value.Int (pos 0))) in
      let r = length-replicate (fn.slots - length arguments) (Value.Int (pos 0)) in
      let z = ok.slots in
      omega (arith, c, l, r, z, both, params)) in
      let first = ok.begins in record {
        own = found.0;
        frame = opened f arguments discards fn;
        is = ap (option_map (opened f arguments discards)) found.3;
        ok = (
          record { typed = e; shaped = found.2; full = full; deferred_calls = tt },
          record {
            shape = first.0;
            here = first.1;
            rest = [];
            lacks = first.2;
            held = tt;
            assigned = assigned-cleared code types shapes known ft plain stays first.0.assigned
                (Every-weaker (λ i. i < length callee.params) (SlotFits types known (slot_types ft) plain) (λ i l.
                let t = slice_get-at callee.params i l in
                let v = values-get types known arguments callee.params i t.0 t.1 h in (
                  t.0,
                  v.0,
                  slice_get-left callee.params callee.locals i t.0 t.1,
                  slice_get-left arguments (replicate (fn.slots - length arguments) (Value.Int (pos 0))) i v.0 v.1,
                  v.2,
                )) first.0.assigned first.3) (found.5 0 first.0 first.1);
          },
        );
        discarding = refl;
      }

  module _ (a : Actor) (ft : FunctionTypes) where
    -- one frame more
    proceeds-enters : (frames : List FrameView) (f : FrameView) → FramesFit types known [] (f ∷ frames)
        → Goes (enters a frames f)
    proceeds-enters frames f h = of-choose types known s Goes (is_full frames) _ _
        (proceeds-dies types known s a ft PanicKind.StackOverflow)
        (record { moves = refl; keeps = ((h, or_true (a.number == 0)), tt) })

    -- a deferred call begins
    pub proceeds-begins : (d : Deferred) (ds : List Deferred) (h : Holds types known a ft) → DeferredFits types known d
        → FrameBase types known ft a.frame.function a.frame.slots ds
        → LeavingFits types known ft [] a.frame.at a.frame.operands a.frame.slots a.frame.leaving
        → Goes (begins_deferred code a d ds)
    proceeds-begins d ds h c b l =
        let o = opens d.function d.arguments true c.0 c.1 c.2 in
        of-some types known s Goes _ (call_frame code d.function d.arguments true) o.frame o.is
        (proceeds-enters (record a.frame { deferred = ds } ∷ a.callers) o.frame (
          with_shapes c.0 o.own,
          o.ok,
          subst (λ b. FramesFit types known (gives b c.0.result)
              (record a.frame { deferred = ds } ∷ a.callers)) (sym o.discarding) (ft, (b, l), h.callers),
        ))

    -- the innermost frame is gone by returning
    given-back : (discards : Bool) (v : Option Value) (f : FrameView) (cft : FunctionTypes)
        → ResultFits types known v ft.result → FrameFits types known cft (gives discards ft.result) f
        → FrameFits types known cft [] (handed_back discards v f)
    given-back true v f cft r h = h
    given-back false None f cft r h = none ft.result r h
      where
        none : (t : Option ValueType) → ResultFits types known None t → FrameFits types known cft (option_to_list t) f
            → FrameFits types known cft [] f
        none None r h = h
        none (Some t) r h = absurd r
    given-back false (Some v) f cft r h = (h.0, some ft.result r h.1)
      where
        some : (t : Option ValueType) → ResultFits types known (Some v) t
            → LeavingFits types known cft (option_to_list t) f.at f.operands f.slots f.leaving
            → LeavingFits types known cft [] f.at (v ∷ f.operands) f.slots f.leaving
        some None r h = absurd r
        some (Some t) r h = given-fits types known cft (t ∷ []) f.at (v ∷ []) f.operands f.slots f.leaving (r, tt) h

    -- a frame that discards its value keeps its own; the others keep theirs
    pub proceeds-returns_to : (v : Option Value) (fs : List FrameView) → ResultFits types known v ft.result
        → FramesFit types known (gives a.frame.discards ft.result) fs → Goes (returns_to a v fs)
    proceeds-returns_to v [] r h = ending (a.number == 0) (a.number == 1)
      where
        ending : (b c : Bool) → Goes (choose b (Change.Become 0 (with_frames a []) ∷ []) (Change.Leave a.number ∷ [])
            ++ choose c (Change.Finish Ending.Returned ∷ []) [])
        ending true true = record { moves = refl; keeps = ((tt, refl), (tt, tt)) }
        ending true false = record { moves = refl; keeps = ((tt, refl), tt) }
        ending false true = record { moves = refl; keeps = (tt, (tt, tt)) }
        ending false false = record { moves = refl; keeps = (tt, tt) }
    proceeds-returns_to v (f ∷ fs) r h = record {
      moves = refl;
      keeps = (
        ((h.0, given-back a.frame.discards v f h.0 r h.1, same a.frame.discards v), or_true (a.number == 0)),
        tt,
      );
    }
      where
        same : (b : Bool) (v : Option Value) → FramesFit types known (gives (handed_back b v f).discards h.0.result) fs
        same true v = h.2
        same false None = h.2
        same false (Some v) = h.2

    pub proceeds-unwinds_to : (x : Fault) (fs : List FrameView)
        → FramesFit types known (gives a.frame.discards ft.result) fs → Goes (unwinds_to a x fs)
    proceeds-unwinds_to x [] h = ending (a.number == 0)
      where
        ending : (b : Bool) → Goes (choose b (Change.Become 0 (with_frames a []) ∷ []) (Change.Leave a.number ∷ [])
            ++ (Change.Finish (Ending.Panicked x.kind (record { 0 = a.number }) x.line) ∷ []))
        ending true = record { moves = refl; keeps = ((tt, refl), (tt, tt)) }
        ending false = record { moves = refl; keeps = (tt, (tt, tt)) }
    proceeds-unwinds_to x (f ∷ fs) h = record {
      moves = refl;
      keeps = (((h.0, (h.1.0, tt), h.2), or_true (a.number == 0)), tt);
    }

    proceeds-returns_by : (v : Option Value) (rest : List Value) (ds : List Deferred) → Holds types known a ft
        → ResultFits types known v ft.result → Goes (returns_by a v rest ds)
    proceeds-returns_by v rest [] i r = proceeds-returns_to v a.callers r i.callers
    proceeds-returns_by v rest (d ∷ ds) i r =
        proceeds-stands types known s a ft (record
        a.frame { at = a.frame.at + 1; operands = rest; leaving = Leaving.Returning v }) i.base r i.callers

    -- the first deferred call begins, and the frame goes on leaving
    begins-first : (x : Leaving) (d : Deferred) (ds : List Deferred) (i : Holds types known a ft)
        → a.frame.deferred ≡ d ∷ ds → a.frame.leaving ≡ x
        → LeavingFits types known ft [] a.frame.at a.frame.operands a.frame.slots x → Goes (begins_deferred code a d ds)
    begins-first x d ds i e l fits =
        let all = subst (Every (DeferredFits types known)) e i.base.deferred_calls in
        proceeds-begins d ds i all.0 (record {
          typed = i.base.typed;
          shaped = i.base.shaped;
          full = i.base.full;
          deferred_calls = all.1;
        }) (subst (LeavingFits types known ft [] a.frame.at a.frame.operands a.frame.slots) (sym l) fits)

    pub proceeds-leaves_returning : (v : Option Value) (ds : List Deferred) (i : Holds types known a ft)
        → a.frame.deferred ≡ ds → ResultFits types known v ft.result → a.frame.leaving ≡ Leaving.Returning v
        → Goes (leaves_returning code a v ds)
    proceeds-leaves_returning v [] i e r l = proceeds-returns_to v a.callers r i.callers
    proceeds-leaves_returning v (d ∷ ds) i e r l = begins-first (Leaving.Returning v) d ds i e l r

    pub proceeds-leaves_unwinding : (x : Fault) (ds : List Deferred) (i : Holds types known a ft)
        → a.frame.deferred ≡ ds → a.frame.leaving ≡ Leaving.Unwinding x → Goes (leaves_unwinding code a x ds)
    proceeds-leaves_unwinding x [] i e l = proceeds-unwinds_to x a.callers i.callers
    proceeds-leaves_unwinding x (d ∷ ds) i e l = begins-first (Leaving.Unwinding x) d ds i e l tt

    module _ (sh : Shape) (i : ActorFits types known s a ft sh) where
      pub proceeds-returns : InstructionFits types.of ft a.frame.at Instr.Return sh → Goes (returns a)
      proceeds-returns r = proceeds-returns_by None a.frame.operands a.frame.deferred i.holds
          (subst (ResultFits types known None) (sym r) tt)

      pub proceeds-returns_value : InstructionFits types.of ft a.frame.at Instr.ReturnValue sh → Goes (returns_value a)
      proceeds-returns_value r = of-taking_one types known s Goes _ a.frame.operands r.0 r.1
          (taken types known s a ft sh i (r.0 ∷ r.1) r.3) i.present
          (λ v rest h hs p. proceeds-returns_by (Some v) rest a.frame.deferred i.holds
          (subst (ResultFits types known (Some v)) (sym r.2) h))

      pub proceeds-calls : (f n : ℕ) → InstructionFits types.of ft a.frame.at (Instr.Call f n) sh
          → Goes (calls code a f n)
      proceeds-calls f n r = of-taking types known Goes r.0.params r.1 n a.frame.operands _ r.3
          (taken types known s a ft sh i (pushed r.0.params r.1) r.4)
          (λ xs rest hx hs.
          let o = opens f xs false r.0 r.2 hx in
          of-some types known s Goes _ (call_frame code f xs false) o.frame o.is
          (proceeds-enters (next a.frame rest ∷ a.callers) o.frame (
            with_shapes r.0 o.own,
            o.ok,
            subst (λ b. FramesFit types known (gives b r.0.result) (next a.frame rest ∷ a.callers)) (sym o.discarding) (
              ft,
              (
                i.holds.base,
                on_no types known s a ft sh i (option_to_list r.0.result)
                    (a.frame.at + 1) rest a.frame.slots (lands r.1 sh.assigned r.5 hs i.assigned),
              ),
              i.holds.callers,
            ),
          )))

      pub proceeds-spawns : (f n : ℕ) → InstructionFits types.of ft a.frame.at (Instr.Go f n) sh
          → Goes (spawns code a f n)
      proceeds-spawns f n r = of-taking types known Goes r.0.params r.1 n a.frame.operands _ r.3
          (taken types known s a ft sh i (pushed r.0.params r.1) r.4)
          (λ xs rest hx hs.
          let o = opens f xs true r.0 r.2 hx in
          of-some types known s Goes _ (call_frame code f xs true) o.frame o.is
          (record {
            moves = refl;
            keeps = (
              ((with_shapes r.0 o.own, o.ok, tt), refl),
              (proceeds-goes types known s a ft sh i rest r.1 hs r.5).keeps,
            );
          }))

      pub proceeds-defers : (f n : ℕ) → InstructionFits types.of ft a.frame.at (Instr.Defer f n) sh
          → Goes (defers a f n)
      proceeds-defers f n r = of-taking types known Goes r.0.params r.1 n a.frame.operands _ r.3
          (taken types known s a ft sh i (pushed r.0.params r.1) r.4)
          (λ xs rest hx hs. proceeds-stands types known s a ft
          (record a.frame {
            at = a.frame.at + 1;
            operands = rest;
            deferred = record { function = f; arguments = xs }
                ∷ a.frame.deferred;
          })
          (record {
            typed = i.holds.base.typed;
            shaped = i.holds.base.shaped;
            full = i.holds.base.full;
            deferred_calls = ((r.0, r.2, hx), i.holds.base.deferred_calls);
          })
          (on_no types known s a ft sh i [] (a.frame.at + 1) rest a.frame.slots
          (lands r.1 sh.assigned r.5 hs i.assigned)) i.holds.callers)

  -- goroutine 0 begins with an entry of its queue
  pub proceeds-begins_queued : (r : GoroutineView) (qs : List Queued)
      → Every (λ (q : Queued). FinaliserFits types known q.object.0 q.function) qs → r.mode ≡ Mode.Running
      → not_empty qs ≡ true → Goes (begins_queued code r qs)
  proceeds-begins_queued r [] h e n = cc
  proceeds-begins_queued r (q ∷ qs) h e n =
      let c = h.0 in
      let o = opens q.function (Value.Ref q.object ∷ []) true c.0 c.1 c.2 in
      of-some types known s Goes _ (call_frame code q.function (Value.Ref q.object ∷ []) true) o.frame o.is
      (record {
        moves = refl;
        keeps = (
          tt,
          (
            (
              subst (ModeFits types known (o.frame ∷ [])) (sym e)
                  (with_shapes c.0 o.own, o.ok, tt),
              refl,
            ),
            tt,
          ),
        );
      })
