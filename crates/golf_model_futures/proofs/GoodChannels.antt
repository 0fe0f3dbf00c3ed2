-- Channels and `select`: they move what their goroutine refers to.
-- For: `sends`, `receives`, golf_model/specs/Channels.antt; `selects`, golf_model/specs/Selects.antt
-- By: cases of the channel and its first waiter; induction over the offers of a `select`
use Rattle.std.proofs.Common.{◌≡◌, ℕ, ◌%◌, Bool, true, false, List, [], ◌∷◌, ◌++◌, length, Option, Some, None, refl}
use Rattle.std.proofs.Common.{nat_lt}
use Rattle.golf_theory.specs.Membership.{Every}
use Rattle.golf_theory.specs.Maps.{find}
use Rattle.golf_theory.proofs.Lists.{Every-append, Every-slice_get}
use Rattle.golf_data.specs.declared.value.Value.{Value}
use Rattle.golf_data.specs.declared.value.Channel.{Channel}
use Rattle.golf_data.specs.declared.code.SelectCase.{SelectCase}
use Rattle.golf_data.specs.declared.code.CaseKind.{CaseKind}
use Rattle.golf_data.specs.declared.goroutine.PanicKind.{PanicKind}
use Rattle.golf_data.specs.declared.goroutine.Side.{Side}
use Rattle.golf_data.specs.declared.goroutine.WaitKind.{WaitKind}
use Rattle.golf_model.specs.Views.{FrameView}
use Rattle.golf_model.specs.Values.{value_refs, refs}
use Rattle.golf_model.specs.State.{State}
use Rattle.golf_model.specs.Waiters.{Waiter, first, send_wait, receive_wait}
use Rattle.golf_model.specs.Wakes.{Waking, received}
use Rattle.golf_model.specs.Changes.{Change}
use Rattle.golf_model.specs.Actors.{Actor, next, stands, goes}
use Rattle.golf_model.specs.Channels.{served, buffers, sends_to, sends_on, sends, given, sent_by, sender_served}
use Rattle.golf_model.specs.Channels.{receives_unbuffered, receives_from, receives_on, receives, closes_open, closes}
use Rattle.golf_model.specs.Selects.{Offer, Taken, take_receive, take_send, take_case, and_case, offers_of}
use Rattle.golf_model.specs.Selects.{all_on_channels, is_ready, kept_if, ready, proceeds_by, proceeds, wait_of}
use Rattle.golf_model.specs.Selects.{case_waits, offered_waits, select_kind, selects_none, selects_one, chosen}
use Rattle.golf_model.specs.Selects.{selects_from, selects}
use Rattle.golf_model.specs.Refs.{wait_refs}
use Rattle.golf_model_futures.specs.Invariant.{AllGood, Good, Nothing, ActorIn, FrameIn}
use Rattle.golf_model_futures.proofs.RefLaws.{Val, Vals, vals-cons, vals-head, vals-tail, vals-append, waits-append}
use Rattle.golf_model_futures.proofs.Waking.{received-in, resumed-in}
use Rattle.golf_model_futures.proofs.Goodness.{all_good-append}
use Rattle.golf_model_futures.proofs.Acting.{Ground, WaiterIn, found-in, first-in, all-choose, all-taking_one}
use Rattle.golf_model_futures.proofs.Acting.{all-taking_two, all-at_reference_or, all-at_channel, good-stands}
use Rattle.golf_model_futures.proofs.Acting.{good-goes, good-jumps, good-panics, good-blocks, next-in}

module _ (O G : ℕ → Type 0) (s : State) (c : Ground s O G) (a : Actor) (i : ActorIn O G a) where
  ops : Vals O a.frame.operands
  ops = i.frame.operands

  pub good-served : (w : Waiter) (vs : List Value) → WaiterIn O G s c w → Vals O vs → Good O G Nothing (served w vs)
  good-served w vs k h = (k.number, resumed-in O w.wait vs w.goroutine h k.goroutine)

  send_wait-in : (o : ℕ) (v : Value) (target : Option ℕ) → O o → Val O v
      → Every O (wait_refs (send_wait o v target ∷ []))
  send_wait-in o v target m h = (m, vals-cons O v [] h tt)

  channel-in : (buffer : List Value) (zero : Value) → Vals O buffer → Val O zero
      → Every O (refs buffer ++ value_refs zero)
  channel-in buffer zero b z = Every-append O (refs buffer) (value_refs zero) b z

  good-buffers : (after : FrameView) (o : ℕ) (v : Value) (d : Channel) → FrameIn O after → O o → Val O v
      → Vals O d.buffer → Val O d.zero → AllGood O G (buffers a after o v d)
  good-buffers after o v d f m h b z = all-choose (AllGood O G) tt (nat_lt (length d.buffer) d.capacity) _ _ (
    (m, channel-in (d.buffer ++ v ∷ []) d.zero (vals-append O d.buffer (v ∷ []) b (vals-cons O v [] h tt)) z),
    good-stands O G a i after f,
  )
      (good-blocks O G a i after WaitKind.Send (send_wait o v None ∷ []) f (send_wait-in o v None m h))

  good-sends_to : (after : FrameView) (o : ℕ) (v : Value) (d : Channel) (w : Option Waiter)
      → first o Side.Receive s.goroutines ≡ w → FrameIn O after → O o → Val O v → Vals O d.buffer → Val O d.zero
      → AllGood O G (sends_to a after o v d w)
  good-sends_to after o v d None e f m h b z = good-buffers after o v d f m h b z
  good-sends_to after o v d (Some w) e f m h b z =
      all_good-append O G (stands a after) (served w (received w.wait.with_ok v true) ∷ [])
      (good-stands O G a i after f) (
        good-served w (received w.wait.with_ok v true) (first-in O G s c o Side.Receive w m e)
            (received-in O w.wait.with_ok v true h),
        tt,
      )

  pub good-sends_on : (after : FrameView) (v : Value) (o : ℕ) → FrameIn O after → Val O v → O o
      → AllGood O G (sends_on a after v s o)
  good-sends_on after v o f h m = all-at_channel (AllGood O G) tt O _ (find o s.objects) (found-in O G s c o m)
      (λ d b z. all-choose (AllGood O G) tt d.closed _ _ (good-panics O G a i PanicKind.SendClosed)
      (good-sends_to after o v d (first o Side.Receive s.goroutines) refl f m h b z))

  pub good-sends : AllGood O G (sends a s)
  good-sends = all-taking_two (AllGood O G) tt O _ a.frame.operands ops
      (λ x v rest h k r. all-at_reference_or (AllGood O G) tt O _ _ x h
      (good-blocks O G a i (next a.frame rest) WaitKind.SendNil [] (next-in O G a i rest r) tt)
      (λ o m. good-sends_on (next a.frame rest) v o (next-in O G a i rest r) k m))

  given-in : (after : FrameView) (vs : List Value) → FrameIn O after → Vals O vs → FrameIn O (given after vs)
  given-in after vs f h = record {
    slots = f.slots;
    operands = vals-append O vs after.operands h f.operands;
    deferred = f.deferred;
    leaving = f.leaving;
  }

  good-receives_unbuffered : (after : FrameView) (with_ok : Bool) (o : ℕ) (d : Channel) (w : Option Waiter)
      → first o Side.Send s.goroutines ≡ w → FrameIn O after → O o → Val O d.zero
      → AllGood O G (receives_unbuffered a after with_ok o d w)
  good-receives_unbuffered after with_ok o d None e f m z = all-choose (AllGood O G) tt d.closed _ _
      (good-stands O G a i (given after (received with_ok d.zero false))
      (given-in after (received with_ok d.zero false) f (received-in O with_ok d.zero false z)))
      (good-blocks O G a i after WaitKind.Receive (receive_wait o None with_ok ∷ []) f (m, tt))
  good-receives_unbuffered after with_ok o d (Some w) e f m z =
      let k = first-in O G s c o Side.Send w m e in
      all_good-append O G (stands a (given after (received with_ok w.wait.value true))) (served w [] ∷ [])
      (good-stands O G a i (given after (received with_ok w.wait.value true))
      (given-in after (received with_ok w.wait.value true) f (received-in O with_ok w.wait.value true k.value)))
      (good-served w [] k tt, tt)

  sent_by-in : (o : ℕ) (w : Option Waiter) → first o Side.Send s.goroutines ≡ w → O o → Vals O (sent_by w)
  sent_by-in o None e m = tt
  sent_by-in o (Some w) e m = vals-cons O w.wait.value [] (first-in O G s c o Side.Send w m e).value tt

  sender_served-in : (o : ℕ) (w : Option Waiter) → first o Side.Send s.goroutines ≡ w → O o
      → AllGood O G (sender_served w)
  sender_served-in o None e m = tt
  sender_served-in o (Some w) e m = (good-served w [] (first-in O G s c o Side.Send w m e) tt, tt)

  good-receives_from : (after : FrameView) (with_ok : Bool) (o : ℕ) (d : Channel) (buffer : List Value)
      (w : Option Waiter) → first o Side.Send s.goroutines ≡ w → FrameIn O after → O o → Vals O buffer → Val O d.zero
      → AllGood O G (receives_from a after with_ok o d buffer w)
  good-receives_from after with_ok o d [] w e f m b z = good-receives_unbuffered after with_ok o d w e f m z
  good-receives_from after with_ok o d (v ∷ vs) w e f m b z = (
    (m, channel-in (vs ++ sent_by w) d.zero (vals-append O vs (sent_by w) (vals-tail O v vs b) (sent_by-in o w e m)) z),
    all_good-append O G (stands a (given after (received with_ok v true))) (sender_served w)
        (good-stands O G a i (given after (received with_ok v true))
        (given-in after (received with_ok v true) f (received-in O with_ok v true (vals-head O v vs b))))
        (sender_served-in o w e m),
  )

  pub good-receives_on : (after : FrameView) (with_ok : Bool) (o : ℕ) → FrameIn O after → O o
      → AllGood O G (receives_on a after with_ok s o)
  good-receives_on after with_ok o f m = all-at_channel (AllGood O G) tt O _ (find o s.objects) (found-in O G s c o m)
      (λ d b z. good-receives_from after with_ok o d d.buffer (first o Side.Send s.goroutines) refl f m b z)

  pub good-receives : (with_ok : Bool) → AllGood O G (receives with_ok a s)
  good-receives with_ok = all-taking_one (AllGood O G) tt O _ a.frame.operands ops
      (λ x rest h r. all-at_reference_or (AllGood O G) tt O _ _ x h
      (good-blocks O G a i (next a.frame rest) WaitKind.ReceiveNil [] (next-in O G a i rest r) tt)
      (λ o m. good-receives_on (next a.frame rest) with_ok o (next-in O G a i rest r) m))

  good-closes_open : (rest : List Value) (o : ℕ) (d : Channel) → Vals O rest → O o → Vals O d.buffer → Val O d.zero
      → AllGood O G (closes_open a rest o d)
  good-closes_open rest o d r m b z = all-choose (AllGood O G) tt d.closed _ _
      (good-panics O G a i PanicKind.CloseClosed) (
        (m, channel-in d.buffer d.zero b z),
        all_good-append O G (goes a rest)
            (Change.WakeAll o (Waking.Closing d.zero) ∷ []) (good-goes O G a i rest r) ((m, z), tt),
      )

  pub good-closes : AllGood O G (closes a s)
  good-closes = all-taking_one (AllGood O G) tt O _ a.frame.operands ops
      (λ x rest h r. all-at_reference_or (AllGood O G) tt O _ _ x h (good-panics O G a i PanicKind.CloseNil)
      (λ o m. all-at_channel (AllGood O G) tt O _ (find o s.objects) (found-in O G s c o m)
      (λ d b z. good-closes_open rest o d r m b z)))

  -- the operands of the cases of a `select`
  abbrev pub OfferIn : Offer → Type 0
  OfferIn x = Val O x.channel × Val O x.value

  abbrev pub TakenIn : Taken → Type 0
  TakenIn t = Every OfferIn t.0 × Vals O t.1

  abbrev pub MaybeTaken : Option Taken → Type 0
  MaybeTaken None = Unit {0}
  MaybeTaken (Some t) = TakenIn t

  take_receive-in : (k : SelectCase) (t : Taken) → TakenIn t → MaybeTaken (take_receive k t)
  take_receive-in k (os, []) h = tt
  take_receive-in k (os, x ∷ rest) h = (((vals-head O x rest h.1, tt), h.0), vals-tail O x rest h.1)

  take_send-in : (k : SelectCase) (t : Taken) → TakenIn t → MaybeTaken (take_send k t)
  take_send-in k (os, []) h = tt
  take_send-in k (os, v ∷ []) h = tt
  take_send-in k (os, v ∷ x ∷ rest) h =
      let b = vals-tail O v (x ∷ rest) h.1 in
      (((vals-head O x rest b, vals-head O v (x ∷ rest) h.1), h.0), vals-tail O x rest b)

  take_case-in : (k : SelectCase) (kind : CaseKind) (t : Taken) → TakenIn t → MaybeTaken (take_case k kind t)
  take_case-in k CaseKind.Send t h = take_send-in k t h
  take_case-in k CaseKind.Take t h = take_receive-in k t h
  take_case-in k CaseKind.TakeOk t h = take_receive-in k t h

  and_case-in : (k : SelectCase) (m : Option Taken) → MaybeTaken m → MaybeTaken (and_case k m)
  and_case-in k None h = tt
  and_case-in k (Some t) h = take_case-in k k.kind t h

  pub offers-in : (ks : List SelectCase) (vs : List Value) → Vals O vs → MaybeTaken (offers_of ks vs)
  offers-in [] vs h = (tt, h)
  offers-in (k ∷ ks) vs h = and_case-in k (offers_of ks vs) (offers-in ks vs h)

  kept_if-in : (b : Bool) (x : Offer) (xs : List Offer) → OfferIn x → Every OfferIn xs → Every OfferIn (kept_if b x xs)
  kept_if-in true x xs h k = (h, k)
  kept_if-in false x xs h k = k

  pub ready-in : (xs : List Offer) → Every OfferIn xs → Every OfferIn (ready s xs)
  ready-in [] h = tt
  ready-in (x ∷ xs) h = kept_if-in (is_ready s x) x (ready s xs) h.0 (ready-in xs h.1)

  good-proceeds_by : (after : FrameView) (kind : CaseKind) (v : Value) (o : ℕ) → FrameIn O after → Val O v → O o
      → AllGood O G (proceeds_by a after kind v s o)
  good-proceeds_by after CaseKind.Send v o f h m = good-sends_on after v o f h m
  good-proceeds_by after CaseKind.Take v o f h m = good-receives_on after false o f m
  good-proceeds_by after CaseKind.TakeOk v o f h m = good-receives_on after true o f m

  good-proceeds : (rest : List Value) (x : Offer) → Vals O rest → OfferIn x → AllGood O G (proceeds a rest s x)
  good-proceeds rest x r h = all-at_reference_or (AllGood O G) tt O [] _ x.channel h.0 tt
      (λ o m. good-proceeds_by (record a.frame { at = x.target; operands = rest }) x.kind x.value o
      (record { slots = i.frame.slots; operands = r; deferred = i.frame.deferred; leaving = i.frame.leaving }) h.1
      m)

  wait_of-in : (x : Offer) (kind : CaseKind) (o : ℕ) → O o → Val O x.value → Every O (wait_refs (wait_of x kind o ∷ []))
  wait_of-in x CaseKind.Send o m h = (m, vals-cons O x.value [] h tt)
  wait_of-in x CaseKind.Take o m h = (m, tt)
  wait_of-in x CaseKind.TakeOk o m h = (m, tt)

  case_waits-in : (x : Offer) (v : Value) → Val O v → Val O x.value → Every O (wait_refs (case_waits x v))
  case_waits-in x (Value.Ref o) h k = wait_of-in x x.kind o.0 h.0 k
  case_waits-in x _ h k = tt

  offered_waits-in : (xs : List Offer) → Every OfferIn xs → Every O (wait_refs (offered_waits xs))
  offered_waits-in [] h = tt
  offered_waits-in (x ∷ xs) h = waits-append O (case_waits x x.channel) (offered_waits xs)
      (case_waits-in x x.channel h.0.0 h.0.1) (offered_waits-in xs h.1)

  good-selects_none : (rest : List Value) (xs : List Offer) (otherwise : Option ℕ) → Vals O rest → Every OfferIn xs
      → AllGood O G (selects_none a rest xs otherwise)
  good-selects_none rest xs None r h = good-blocks O G a i (next a.frame rest) (select_kind xs) (offered_waits xs)
      (next-in O G a i rest r) (offered_waits-in xs h)
  good-selects_none rest xs (Some target) r h = good-jumps O G a i target rest r

  good-selects_one : (rest : List Value) (xs : List Offer) (otherwise : Option ℕ) (m : Option Offer) → Vals O rest
      → Every OfferIn xs → ((x : Offer) → m ≡ Some x → OfferIn x) → AllGood O G (selects_one a rest s xs otherwise m)
  good-selects_one rest xs otherwise None r h k = good-selects_none rest xs otherwise r h
  good-selects_one rest xs otherwise (Some x) r h k = good-proceeds rest x r (k x refl)

  good-selects_from : (choice : ℕ) (otherwise : Option ℕ) (m : Option Taken) → MaybeTaken m
      → AllGood O G (selects_from a s choice otherwise m)
  good-selects_from choice otherwise None h = tt
  good-selects_from choice otherwise (Some t) h = all-choose (AllGood O G) tt (all_on_channels s t.0) _ _
      (good-selects_one t.1 t.0 otherwise (chosen choice (ready s t.0)) h.1 h.0
      (λ x e. Every-slice_get OfferIn (ready s t.0) (choice % length (ready s t.0)) x (ready-in t.0 h.0) e)) tt

  pub good-selects : (choice : ℕ) (cases : List SelectCase) (otherwise : Option ℕ)
      → AllGood O G (selects a s choice cases otherwise)
  good-selects choice cases otherwise = good-selects_from choice otherwise (offers_of cases a.frame.operands)
      (offers-in cases a.frame.operands ops)
