-- Sends and receives: their turns have changes, and keep types.
-- For: `sends` and `receives`, golf_model/specs/Channels.antt; `turns_keep_types`, src/lib.rt
-- By: cases of the channel and of who waits first; no induction
use Rattle.std.proofs.Common.{◌≡◌, ℕ, ◌+◌, Bool, true, false, List, [], ◌∷◌, ◌++◌, Option, Some, None, refl, nat_lt}
use Rattle.std.proofs.Common.{length}
use Rattle.golf_theory.specs.Membership.{Every}
use Rattle.golf_theory.proofs.Lists.{Every-push, Every-append}
use Rattle.golf_data.specs.declared.value.Value.{Value}
use Rattle.golf_data.specs.declared.value.Channel.{Channel}
use Rattle.golf_data.specs.declared.goroutine.PanicKind.{PanicKind}
use Rattle.golf_data.specs.declared.goroutine.Side.{Side}
use Rattle.golf_data.specs.declared.goroutine.Wait.{Wait}
use Rattle.golf_data.specs.declared.goroutine.WaitKind.{WaitKind}
use Rattle.golf_data.specs.declared.code.Instr.{Instr}
use Rattle.golf_model.specs.Views.{FrameView}
use Rattle.golf_model.specs.State.{State}
use Rattle.golf_model.specs.Waiters.{Waiter, waits_of, first, send_wait}
use Rattle.golf_model.specs.Wakes.{received, resumed}
use Rattle.golf_model.specs.Changes.{Change}
use Rattle.golf_model.specs.Actors.{Actor, next, stands, blocks}
use Rattle.golf_model.specs.Presence.{Present}
use Rattle.golf_model.specs.Channels.{buffers, sends_to, sends_on, sends, given, sent_by, sender_served}
use Rattle.golf_model.specs.Channels.{receives_unbuffered, receives_from, receives_on, receives, closes}
use Rattle.golf_model_futures.proofs.WaitLaws.{first-is, wait_for-in}
use Rattle.golf_model_typing.specs.Types.{ValueType, Shape, FunctionTypes, Typing, HasType, ValueFits, ValuesFit}
use Rattle.golf_model_typing.specs.Types.{ChannelFits}
use Rattle.golf_model_typing.specs.Shapes.{LeadsToShape, Takes, InstructionFits}
use Rattle.golf_model_typing.specs.WellTyped.{gives, received_types, LeavingFits, FrameBase, FramesFit, WaitFits}
use Rattle.golf_model_typing.specs.WellTyped.{WaitsAlone, GoroutineFits, WellTyped, ChangesFit}
use Rattle.golf_model_typing.proofs.Changing.{received-fits, WaitsOn, receiver-served, sender-served as served-sender}
use Rattle.golf_model_typing.proofs.Changing.{value-sent, given-fits}
use Rattle.golf_model_typing.proofs.Waits.{wait_for-is}
use Rattle.golf_model_typing.proofs.Waking.{blocked-of}
use Rattle.golf_model_typing.proofs.Acting.{Proceeds, of-choose, of-taking_one, of-taking_two, of-reference_or}
use Rattle.golf_model_typing.proofs.Acting.{of-channel, Holds, ActorFits, proceeds-stands, proceeds-panics}
use Rattle.golf_model_typing.proofs.Acting.{proceeds-goes, proceeds-blocks, taken, on_no, lands}

module _ (types : Typing) (known : List (ℕ × ValueType)) (s : State) (w : WellTyped types known s) where
  -- the first waiter of a channel: it is blocked, on this channel and side
  abbrev pub FirstIs : ℕ → Side → Waiter → Type 0
  FirstIs o side u = WaitsOn types known o side u.wait (waits_of u.goroutine.mode) u.goroutine

  pub first-typed : (o : ℕ) (side : Side) (u : Waiter) → first o side s.goroutines ≡ Some u → FirstIs o side u
  first-typed o side u e =
      let is = first-is o side s.goroutines u e in
      let member = wait_for-in o side (waits_of u.goroutine.mode) u.wait is.found in
      let on = wait_for-is o side (waits_of u.goroutine.mode) u.wait is.found in
      record {
        blocked = blocked-of types known u.goroutine.frames u.goroutine.mode u.wait member
            (w.goroutines u.number u.goroutine is.entry).0;
        in_waits = member;
        object = on.0;
        side_is = on.1;
      }

  module _ (a : Actor) (ft : FunctionTypes) (h : Holds types known a ft) where
    abbrev Goes : List Change → Type 0
    Goes cs = Proceeds types known s cs

    -- the frame stands after its instruction, and lacks these
    pub record After (lacking : List ValueType) (f : FrameView) : Type 0 where
      pub base : FrameBase types known ft f.function f.slots f.deferred
      pub stands : LeavingFits types known ft lacking f.at f.operands f.slots f.leaving
      pub callers : FramesFit types known (gives f.discards ft.result) a.callers

    after-stands : (f : FrameView) → After [] f → Goes (stands a f)
    after-stands f b = proceeds-stands types known s a ft f b.base b.stands b.callers

    after-given : (f : FrameView) (ts : List ValueType) (vs : List Value) → ValuesFit types.of known vs ts → After ts f
        → After [] (given f vs)
    after-given f ts vs h b = record {
      base = b.base;
      stands = given-fits types known ft ts f.at vs f.operands f.slots f.leaving h b.stands;
      callers = b.callers;
    }

    proceeds-buffers : (f : FrameView) (o : ℕ) (v : Value) (c : Channel) (e : ValueType) → After [] f
        → HasType known o (ValueType.Chan e) → ValueFits types.of known v e → ChannelFits types.of known c e
        → Goes (buffers a f o v c)
    proceeds-buffers f o v c e b k hv hc = of-choose types known s Goes (nat_lt (length c.buffer) c.capacity) _ _
        (record {
          moves = refl;
          keeps = (
            (
              ValueType.Chan e,
              k,
              (
                e,
                refl,
                record {
                  buffer = Every-push (λ z. ValueFits types.of known z e) c.buffer v hc.buffer hv;
                  zero = hc.zero;
                },
              ),
            ),
            (after-stands f b).keeps,
          );
        })
        (proceeds-blocks' f WaitKind.Send (send_wait o v None ∷ []) b ((e, k, hv, b.stands), tt) ((λ e. cc), tt))
      where
        proceeds-blocks' : (f : FrameView) (kind : WaitKind) (waits : List Wait) → After [] f
            → Every (WaitFits types known ft f) waits → WaitsAlone types known waits → Goes (blocks a f kind waits)
        proceeds-blocks' f kind waits b ws l = record { moves = refl; keeps = (((ft, b.base, ws, b.callers), l), tt) }

    pub proceeds-sends_to : (f : FrameView) (o : ℕ) (v : Value) (c : Channel) (e : ValueType) (m : Option Waiter)
        → first o Side.Receive s.goroutines ≡ m → After [] f → HasType known o (ValueType.Chan e)
        → ValueFits types.of known v e → ChannelFits types.of known c e → Goes (sends_to a f o v c m)
    proceeds-sends_to f o v c e None q b k hv hc = proceeds-buffers f o v c e b k hv hc
    proceeds-sends_to f o v c e (Some u) q b k hv hc =
        let is = first-typed o Side.Receive u q in
        record {
          moves = refl;
          keeps = (
            (after-stands f b).keeps.0,
            (receiver-served types known u.number e v true is k hv, tt),
          );
        }

    pub proceeds-sends_on : (f : FrameView) (v : Value) (o : ℕ) (e : ValueType) → After [] f
        → HasType known o (ValueType.Chan e) → Present s o → ValueFits types.of known v e → Goes (sends_on a f v s o)
    proceeds-sends_on f v o e b k p hv = of-channel types known s Goes w o (ValueType.Chan e) k p _ e refl
        (λ c at hc. of-choose types known s Goes c.closed _ _
        (proceeds-panics types known s a ft PanicKind.SendClosed h)
        (proceeds-sends_to f o v c e (first o Side.Receive s.goroutines) refl b k hv hc))

    sent_by-fits : (o : ℕ) (e : ValueType) (m : Option Waiter) → first o Side.Send s.goroutines ≡ m
        → HasType known o (ValueType.Chan e) → Every (λ z. ValueFits types.of known z e) (sent_by m)
    sent_by-fits o e None q k = tt
    sent_by-fits o e (Some u) q k = let is =
        first-typed o Side.Send u q in (
          value-sent types known o e u.wait
              (waits_of u.goroutine.mode) u.goroutine.frames is.side_is is.object k is.in_waits is.blocked,
          tt,
        )

    served-fits : (o : ℕ) (u : Waiter) → first o Side.Send s.goroutines ≡ Some u
        → GoroutineFits types known u.number (resumed u.wait [] u.goroutine)
    served-fits o u q = let is = first-typed o Side.Send u q in served-sender types known u.number u.wait
        (waits_of u.goroutine.mode) u.goroutine is.side_is is.in_waits is.blocked

    -- a receive from a channel of this type, of which this is the first sender that waits
    record Receives (f : FrameView) (with_ok : Bool) (o : ℕ) (c : Channel) (e : ValueType)
        (m : Option Waiter) : Type 0 where
      sender : first o Side.Send s.goroutines ≡ m
      after : After (received_types with_ok e) f
      typed : HasType known o (ValueType.Chan e)
      fits : ChannelFits types.of known c e

    proceeds-unbuffered : {f : FrameView} {with_ok : Bool} {o : ℕ} {c : Channel} {e : ValueType} (m : Option Waiter)
        → Receives f with_ok o c e m → Goes (receives_unbuffered a f with_ok o c m)
    proceeds-unbuffered {f} {with_ok} {o} {c} {e} None is = of-choose types known s Goes c.closed _ _
        (after-stands (given f (received with_ok c.zero false))
        (after-given f (received_types with_ok e) (received with_ok c.zero false)
        (received-fits types known with_ok c.zero false e is.fits.zero) is.after))
        (record {
          moves = refl;
          keeps = (
            (
              (ft, is.after.base, ((e, is.typed, is.after.stands), tt), is.after.callers),
              ((λ e. cc), tt),
            ),
            tt,
          );
        })
    proceeds-unbuffered {f} {with_ok} {o} {c} {e} (Some u) is =
        let v = sent_by-fits o e (Some u) is.sender is.typed in
        record {
          moves = refl;
          keeps = (
            (after-stands (given f (received with_ok u.wait.value true))
                (after-given f (received_types with_ok e) (received with_ok u.wait.value true)
                (received-fits types known with_ok u.wait.value true e v.0) is.after)).keeps.0,
            (served-fits o u is.sender, tt),
          );
        }

    proceeds-receives_from : {f : FrameView} {with_ok : Bool} {o : ℕ} {c : Channel} {e : ValueType} (vs : List Value)
        (m : Option Waiter) → Receives f with_ok o c e m → Every (λ z. ValueFits types.of known z e) vs
        → Goes (receives_from a f with_ok o c vs m)
    proceeds-receives_from [] m is hv = proceeds-unbuffered m is
    proceeds-receives_from {f} {with_ok} {o} {c} {e} (v ∷ vs) m is hv =
        let buffer = Every-append (λ z. ValueFits types.of known z e) vs (sent_by m) hv.1
        (sent_by-fits o e m is.sender is.typed) in
        let goes = after-stands (given f (received with_ok v true))
        (after-given f (received_types with_ok e) (received with_ok v true)
        (received-fits types known with_ok v true e hv.0) is.after) in
        record {
          moves = refl;
          keeps = (
            (
              ValueType.Chan e,
              is.typed,
              (e, refl, record { buffer = buffer; zero = is.fits.zero }),
            ),
            (goes.keeps.0, sender _ m is.sender),
          );
        }
      where
        sender : (t : State) (m : Option Waiter) → first o Side.Send s.goroutines ≡ m
            → ChangesFit types known t (sender_served m)
        sender t None q = tt
        sender t (Some u) q = (served-fits o u q, tt)

    pub proceeds-receives_on : (f : FrameView) (with_ok : Bool) (o : ℕ) (e : ValueType)
        → After (received_types with_ok e) f → HasType known o (ValueType.Chan e) → Present s o
        → Goes (receives_on a f with_ok s o)
    proceeds-receives_on f with_ok o e b k p = of-channel types known s Goes w o (ValueType.Chan e) k p _ e refl
        (λ c at hc.
        let is : Receives f with_ok o c e (first o Side.Send s.goroutines) =
        record { sender = refl; after = b; typed = k; fits = hc } in
        proceeds-receives_from c.buffer (first o Side.Send s.goroutines) is hc.buffer)

  module _ (a : Actor) (ft : FunctionTypes) (sh : Shape) (i : ActorFits types known s a ft sh) where
    -- after the instruction, with these operands
    behind : (lacking ts : List ValueType) (vs : List Value) → ValuesFit types.of known vs ts
        → LeadsToShape ft (lacking ++ ts) sh.assigned (a.frame.at + 1) → After a ft i.holds lacking (next a.frame vs)
    behind lacking ts vs hs l = record {
      base = i.holds.base;
      stands = on_no types known s a ft sh i lacking (a.frame.at + 1) vs a.frame.slots
          (lands ts sh.assigned l hs i.assigned);
      callers = i.holds.callers;
    }

    pub proceeds-sends : InstructionFits types.of ft a.frame.at Instr.Send sh → Proceeds types known s (sends a s)
    proceeds-sends r = of-taking_two types known s (Proceeds types known s) _ a.frame.operands
        (ValueType.Chan r.0) r.0 r.1.0 (taken types known s a ft sh i (r.0 ∷ ValueType.Chan r.0 ∷ r.1.0) r.1.1)
        i.present
        (λ c v rest hc hv hs p. of-reference_or types known s (Proceeds types known s) _ _ c
        (ValueType.Chan r.0) tt hc p
        (proceeds-blocks types known s a ft sh i
        (next a.frame rest) WaitKind.SendNil [] i.holds.base tt tt i.holds.callers)
        (λ o k there. proceeds-sends_on a ft i.holds (next a.frame rest) v o r.0
        (behind [] r.1.0 rest hs r.1.2) k there hv))

    pub proceeds-receives : (with_ok : Bool) (e : ValueType)
        → Takes ft a.frame.at sh (ValueType.Chan e ∷ []) (received_types with_ok e)
        → Proceeds types known s (receives with_ok a s)
    proceeds-receives with_ok e r = of-taking_one types known s (Proceeds types known s) _ a.frame.operands
        (ValueType.Chan e) r.0 (taken types known s a ft sh i (ValueType.Chan e ∷ r.0) r.1) i.present
        (λ c rest hc hs p. of-reference_or types known s (Proceeds types known s) _ _ c (ValueType.Chan e) tt hc p
        (proceeds-blocks types known s a ft sh i
        (next a.frame rest) WaitKind.ReceiveNil [] i.holds.base tt tt i.holds.callers)
        (λ o k there. proceeds-receives_on a ft i.holds (next a.frame rest) with_ok o e
        (behind (received_types with_ok e) r.0 rest hs r.2) k there))

    pub proceeds-closes : InstructionFits types.of ft a.frame.at Instr.Close sh → Proceeds types known s (closes a s)
    proceeds-closes r = of-taking_one types known s (Proceeds types known s) _ a.frame.operands
        (ValueType.Chan r.0) r.1.0 (taken types known s a ft sh i (ValueType.Chan r.0 ∷ r.1.0) r.1.1) i.present
        (λ c rest hc hs p. of-reference_or types known s (Proceeds types known s) _ _ c (ValueType.Chan r.0) tt hc p
        (proceeds-panics types known s a ft PanicKind.CloseNil i.holds)
        (λ o k there. of-channel types known s (Proceeds types known s) w o (ValueType.Chan r.0) k there _ r.0 refl
        (λ d at hd.
        of-choose types known s (Proceeds types known s) d.closed _ _
        (proceeds-panics types known s a ft PanicKind.CloseClosed i.holds)
        (record {
          moves = refl;
          keeps = (
            (
              ValueType.Chan r.0,
              k,
              (r.0, refl, record { buffer = hd.buffer; zero = hd.zero }),
            ),
            ((proceeds-goes types known s a ft sh i rest r.1.0 hs r.1.2).keeps.0, ((r.0, k, hd.zero), tt)),
          );
        }))))
