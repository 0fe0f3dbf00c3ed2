-- Lists of values, and goroutines that are served, released or unwound, stay of their types.
-- For: `resumed`, `released` and `unwound`, golf_model/specs/Wakes.antt.
-- By: cases of the side of the wait; induction over the list of values.
use Rattle.std.proofs.Common.{◌≡◌, ℕ, zero, suc, Bool, true, false, List, [], ◌∷◌, ◌++◌, Some, ◌==◌, ◌||◌, refl, ap}
use Rattle.std.proofs.Common.{subst, slice_get, slice_set}
use Rattle.std.specs.Prelude.{unwrap_or}
use Rattle.golf_theory.specs.Maps.{find}
use Rattle.golf_theory.specs.Membership.{In}
use Rattle.golf_theory.proofs.Lists.{Every-at}
use Rattle.golf_data.specs.declared.value.Value.{Value}
use Rattle.golf_data.specs.declared.goroutine.Fault.{Fault}
use Rattle.golf_data.specs.declared.goroutine.Leaving.{Leaving}
use Rattle.golf_data.specs.declared.goroutine.Side.{Side}
use Rattle.golf_data.specs.declared.goroutine.Wait.{Wait}
use Rattle.golf_model.specs.Views.{FrameView, GoroutineView}
use Rattle.golf_model.specs.State.{not_empty}
use Rattle.golf_model.specs.Wakes.{unwinding, resumed, resumed_frame, released, unwound, received, on_top}
use Rattle.golf_model_typing.specs.Types.{ValueType, FunctionTypes, Typing, HasType, ValueFits, ValuesFit}
use Rattle.golf_model_typing.specs.WellTyped.{received_types, LeavingFits, FramesFit, WaitFitsAt, WaitFits, BlockedFits}
use Rattle.golf_model_typing.specs.WellTyped.{GoroutineFits}

-- the lists of values
pub values-append : (types : Typing) (known : List (ℕ × ValueType)) (vs ws : List Value) (ts us : List ValueType)
    → ValuesFit types.of known vs ts → ValuesFit types.of known ws us → ValuesFit types.of known (vs ++ ws) (ts ++ us)
values-append types known [] ws [] us h k = k
values-append types known [] ws (t ∷ ts) us h k = absurd h
values-append types known (v ∷ vs) ws [] us h k = absurd h
values-append types known (v ∷ vs) ws (t ∷ ts) us h k = (h.0, values-append types known vs ws ts us h.1 k)

pub values-set : (types : Typing) (known : List (ℕ × ValueType)) (vs : List Value) (ts : List ValueType) (i : ℕ)
    (t : ValueType) (v : Value) → slice_get ts i ≡ Some t → ValueFits types.of known v t
    → ValuesFit types.of known vs ts → ValuesFit types.of known (slice_set vs i v) ts
values-set types known [] [] i t v e a h = tt
values-set types known [] (u ∷ us) i t v e a h = h
values-set types known (w ∷ vs) [] i t v e a h = absurd h
values-set types known (w ∷ vs) (u ∷ us) zero t v e a h =
    (let same : t ≡ u = cc in subst (ValueFits types.of known v) same a, h.1)
values-set types known (w ∷ vs) (u ∷ us) (suc i) t v e a h = (h.0, values-set types known vs us i t v e a h.1)

pub values-get : (types : Typing) (known : List (ℕ × ValueType)) (vs : List Value) (ts : List ValueType) (i : ℕ)
    (t : ValueType) → slice_get ts i ≡ Some t → ValuesFit types.of known vs ts → (v : Value) × (slice_get vs i ≡ Some v)
    × ValueFits types.of known v t
values-get types known [] [] i t e h = cc
values-get types known [] (u ∷ us) i t e h = absurd h
values-get types known (w ∷ vs) [] i t e h = absurd h
values-get types known (w ∷ vs) (u ∷ us) zero t e h =
    (w, refl, let same : u ≡ t = cc in subst (ValueFits types.of known w) same h.0)
values-get types known (w ∷ vs) (u ∷ us) (suc i) t e h = values-get types known vs us i t e h.1

pub or_true : (b : Bool) → (b || true) ≡ true
or_true true = refl
or_true false = refl

-- a goroutine that goes on
module _ (types : Typing) (known : List (ℕ × ValueType)) where
  pub given-fits : (ft : FunctionTypes) (ts : List ValueType) (at : ℕ) (vs ws slots : List Value) (l : Leaving)
      → ValuesFit types.of known vs ts → LeavingFits types known ft ts at ws slots l
      → LeavingFits types known ft [] at (vs ++ ws) slots l
  given-fits ft ts at vs ws slots Leaving.No a h =
      record {
        shape = h.shape;
        here = h.here;
        rest = ts ++ h.rest;
        lacks = h.lacks;
        held = values-append types known vs ws ts h.rest a h.held;
        assigned = h.assigned;
      }
  given-fits ft ts at vs ws slots (Leaving.Returning v) a h = h
  given-fits ft ts at vs ws slots (Leaving.Unwinding x) a h = tt

  pub received-fits : (with_ok : Bool) (v : Value) (sent : Bool) (e : ValueType) → ValueFits types.of known v e
      → ValuesFit types.of known (received with_ok v sent) (received_types with_ok e)
  received-fits true v sent e a = (refl, (a, tt))
  received-fits false v sent e a = (a, tt)

  pub unwound-fits : (x : Fault) (g : ℕ) (waits : List Wait) (r : GoroutineView)
      → BlockedFits types known waits r.frames → GoroutineFits types known g (unwound x r)
  unwound-fits x g waits r h = go r.frames h
    where
      go : (fs : List FrameView) → BlockedFits types known waits fs → FramesFit types known [] (on_top (unwinding x) fs)
          × ((g == 0) || not_empty (on_top (unwinding x) fs) ≡ true)
      go [] b = absurd b
      go (f ∷ fs) b = ((b.0, (b.1, tt), b.3), or_true (g == 0))

  -- a goroutine whose wait is served with what it lacks
  pub resumed-fits : (g : ℕ) (w : Wait) (ts : List ValueType) (vs : List Value) (waits : List Wait) (r : GoroutineView)
      → ValuesFit types.of known vs ts
      → ((ft : FunctionTypes) (f : FrameView) → WaitFits types known ft f w
      → LeavingFits types known ft ts (unwrap_or w.target f.at) f.operands f.slots f.leaving)
      → In w waits → BlockedFits types known waits r.frames → GoroutineFits types known g (resumed w vs r)
  resumed-fits g w ts vs waits r a h i k = go r.frames k
    where
      go : (fs : List FrameView) → BlockedFits types known waits fs
          → FramesFit types known [] (on_top (resumed_frame w vs) fs)
          × ((g == 0) || not_empty (on_top (resumed_frame w vs) fs) ≡ true)
      go [] b = absurd b
      go (f ∷ fs) b =
          let m = h b.0 f (Every-at (WaitFits types known b.0 f) waits w b.2 i) in (
            (b.0, (b.1, given-fits b.0 ts (unwrap_or w.target f.at) vs f.operands f.slots f.leaving a m), b.3),
            or_true (g == 0),
          )

  -- a goroutine that goes on where it stands, and is given nothing
  pub released-fits : (g : ℕ) (w : Wait) (waits : List Wait) (r : GoroutineView)
      → ((ft : FunctionTypes) (f : FrameView) → WaitFits types known ft f w
      → LeavingFits types known ft [] f.at f.operands f.slots f.leaving)
      → In w waits → BlockedFits types known waits r.frames → GoroutineFits types known g (released r)
  released-fits g w waits r h i k = go r.frames k
    where
      go : (fs : List FrameView) → BlockedFits types known waits fs → FramesFit types known [] fs
          × ((g == 0) || not_empty fs ≡ true)
      go [] b = absurd b
      go (f ∷ fs) b = (
        (b.0, (b.1, h b.0 f (Every-at (WaitFits types known b.0 f) waits w b.2 i)), b.3),
        or_true (g == 0),
      )

  pub lacks_none : (ft : FunctionTypes) (f : FrameView) (w : Wait) (side : Side) → (side ≡ Side.Receive → ⊥)
      → (side ≡ Side.Send → ⊥) → WaitFitsAt types known ft f w side
      → LeavingFits types known ft [] f.at f.operands f.slots f.leaving
  lacks_none ft f w Side.Receive n m h = absurd (n refl)
  lacks_none ft f w Side.Send n m h = absurd (m refl)
  lacks_none ft f w _ n m h = h.1

  -- a waiter on this side of an object lacks nothing, unless it receives or sends
  pub released-at : (g : ℕ) (w : Wait) (waits : List Wait) (r : GoroutineView) → (w.side ≡ Side.Receive → ⊥)
      → (w.side ≡ Side.Send → ⊥) → In w waits → BlockedFits types known waits r.frames
      → GoroutineFits types known g (released r)
  released-at g w waits r n m i k = released-fits g w waits r (λ ft f h. lacks_none ft f w w.side n m h) i k

  -- a waiting receiver gets a value of the channel's type
  receives_at : (o : ℕ) (e : ValueType) (ft : FunctionTypes) (f : FrameView) (w : Wait) (side : Side)
      → side ≡ Side.Receive → w.object.0 ≡ o → HasType known o (ValueType.Chan e) → WaitFitsAt types known ft f w side
      → LeavingFits types known ft (received_types w.with_ok e) (unwrap_or w.target f.at) f.operands f.slots f.leaving
  receives_at o e ft f w Side.Receive i q k h =
      let same : h.0 ≡ e = cc (ap (λ n. find n known) q, k, h.1) in
      subst (λ (t : ValueType). LeavingFits types known ft (received_types w.with_ok t)
      (unwrap_or w.target f.at) f.operands f.slots f.leaving) same h.2
  receives_at o e ft f w _ i q k h = cc

  sends_at : (ft : FunctionTypes) (f : FrameView) (w : Wait) (side : Side) → side ≡ Side.Send
      → WaitFitsAt types known ft f w side → LeavingFits types known ft []
      (unwrap_or w.target f.at) f.operands f.slots f.leaving
  sends_at ft f w Side.Send i h = h.3
  sends_at ft f w _ i h = cc

  sent_at : (o : ℕ) (e : ValueType) (ft : FunctionTypes) (f : FrameView) (w : Wait) (side : Side) → side ≡ Side.Send
      → w.object.0 ≡ o → HasType known o (ValueType.Chan e) → WaitFitsAt types known ft f w side
      → ValueFits types.of known w.value e
  sent_at o e ft f w Side.Send i q k h =
      let same : h.0 ≡ e = cc (ap (λ n. find n known) q, k, h.1) in
      subst (ValueFits types.of known w.value) same h.2
  sent_at o e ft f w _ i q k h = cc

  -- a goroutine is blocked, and one of its waits is on this side of this object
  pub record WaitsOn (o : ℕ) (side : Side) (w : Wait) (waits : List Wait) (r : GoroutineView) : Type 0 where
    pub blocked : BlockedFits types known waits r.frames
    pub in_waits : In w waits
    pub object : w.object.0 ≡ o
    pub side_is : w.side ≡ side

  -- a waiting receiver that is given a value of the channel's type, and a waiting sender that is served
  pub receiver-served : {o : ℕ} {w : Wait} {waits : List Wait} {r : GoroutineView} (g : ℕ) (e : ValueType) (v : Value)
      (sent : Bool) → WaitsOn o Side.Receive w waits r → HasType known o (ValueType.Chan e)
      → ValueFits types.of known v e
      → GoroutineFits types known g (resumed w (received w.with_ok v sent) r)
  receiver-served {o} {w} {waits} {r} g e v sent is k a =
      resumed-fits g w (received_types w.with_ok e) (received w.with_ok v sent) waits r
      (received-fits w.with_ok v sent e a)
      (λ ft f h. receives_at o e ft f w w.side is.side_is is.object k h) is.in_waits is.blocked

  pub sender-served : (g : ℕ) (w : Wait) (waits : List Wait) (r : GoroutineView) → w.side ≡ Side.Send → In w waits
      → BlockedFits types known waits r.frames → GoroutineFits types known g (resumed w [] r)
  sender-served g w waits r side i b = resumed-fits g w [] [] waits r tt (λ ft f h. sends_at ft f w w.side side h) i b

  pub value-sent : (o : ℕ) (e : ValueType) (w : Wait) (waits : List Wait) (fs : List FrameView) → w.side ≡ Side.Send
      → w.object.0 ≡ o → HasType known o (ValueType.Chan e) → In w waits → BlockedFits types known waits fs
      → ValueFits types.of known w.value e
  value-sent o e w waits [] side q k i b = absurd b
  value-sent o e w waits (f ∷ fs) side q k i b =
      sent_at o e b.0 f w w.side side q k (Every-at (WaitFits types known b.0 f) waits w b.2 i)
