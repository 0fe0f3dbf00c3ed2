-- What the turn of a visible instruction comes to.
-- For: `VisibleTurns`, golf_meaning_runs/specs/TurnLaws.antt; the law `visible_turns_show`, src/lib.rt.
-- By: cases of the instruction, of its operands and of the object; induction over lists of waiters.
use Rattle.std.proofs.Common.{◌≡◌, ℕ, zero, suc, ◌+◌, Bool, true, false, List, [], ◌∷◌, ◌++◌, length, Option, Some}
use Rattle.std.proofs.Common.{None, inl, inr, refl, ap, sym, ◌∙◌, subst, slice_get, arith, map, ℤ, pos, negsuc, int_lt}
use Rattle.std.specs.Prelude.{option_map, nat_lt, ◌-ℤ◌}
use Rattle.golf_theory.specs.Maps.{find}
use Rattle.golf_theory.specs.Membership.{In, Every}
use Rattle.golf_data.specs.declared.value.Value.{Value}
use Rattle.golf_data.specs.declared.value.Object.{Object}
use Rattle.golf_data.specs.declared.value.Channel.{Channel}
use Rattle.golf_data.specs.declared.code.Code.{Code}
use Rattle.golf_data.specs.declared.code.Function.{Function}
use Rattle.golf_data.specs.declared.code.Instr.{Instr}
use Rattle.golf_data.specs.declared.code.SelectCase.{SelectCase}
use Rattle.golf_data.specs.declared.goroutine.PanicKind.{PanicKind}
use Rattle.golf_data.specs.declared.goroutine.Side.{Side}
use Rattle.golf_data.specs.declared.goroutine.Wait.{Wait}
use Rattle.golf_data.specs.declared.goroutine.WaitKind.{WaitKind}
use Rattle.golf_data.specs.declared.code.CaseKind.{CaseKind}
use Rattle.golf_data.specs.Effects.{taken, case_taken, cases_taken}
use Rattle.golf_model.specs.Values.{int_of, text_of, is_zero, is_minus_one, line_bytes, reference}
use Rattle.golf_model.specs.State.{State, opened}
use Rattle.golf_model.specs.Waiters.{Waiter, waiter_ticket, first, waiters, send_wait, receive_wait}
use Rattle.golf_model.specs.Wakes.{Waking, received}
use Rattle.golf_model.specs.Changes.{Change}
use Rattle.golf_model.specs.Laws.{head}
use Rattle.golf_model.proofs.Firsts.{first-head}
use Rattle.golf_model.specs.Actors.{Actor, next, stands, goes, leaves, blocks, on_some, taking_one, taking_two}
use Rattle.golf_model.specs.Actors.{taking_three, taking_from, choose, at_reference, at_reference_or, at_struct}
use Rattle.golf_model.specs.Actors.{at_slice, at_channel, at_mutex, at_group, at_rw, at_condition}
use Rattle.golf_model.specs.Arithmetic.{sum}
use Rattle.golf_model.specs.Structures.{makes, is_bad_size, element, within, length_of}
use Rattle.golf_model.specs.Channels.{served, buffers, sends_to, sends_on, given, sender_served, receives_unbuffered}
use Rattle.golf_model.specs.Channels.{receives_from, receives_on}
use Rattle.golf_model.specs.Mutexes.{runs, locks_by, hands_over, unlocks_by, counts, waits_by}
use Rattle.golf_model.specs.ReadersWriters.{to_readers, to_writer, serves_first, serves, write_locks_by}
use Rattle.golf_model.specs.ReadersWriters.{write_unlocks_by, read_locks_by, read_leaves, read_unlocks_by}
use Rattle.golf_model.specs.Conditions.{awaits_by, requeues, first_only, notifies}
use Rattle.golf_model.specs.Selects.{Offer, Taken, take_case, and_case, offers_of, all_on_channels, kept_if, is_ready}
use Rattle.golf_model.specs.Selects.{ready, proceeds_by, proceeds, wait_of, case_waits, offered_waits, select_kind}
use Rattle.golf_model.specs.Selects.{selects_none, selects_one, chosen, selects_from, selects}
use Rattle.golf_model.specs.Calls.{is_full, enters}
use Rattle.golf_model.specs.Finalisers.{finalises_by}
use Rattle.golf_model.specs.Turn.{changes}
use Rattle.golf_meaning_flat.specs.Worlds.{pushed}
use Rattle.golf_meaning_flat.specs.Flat.{targets}
use Rattle.golf_meaning_runs.specs.FlatSteps.{is_inner}
use Rattle.golf_meaning_runs.specs.VisibleOutcomes.{split_from, IsOfLock, IsOther, AreOthers, stood, started_on, DefersBy}
use Rattle.golf_meaning_runs.specs.VisibleOutcomes.{CalledBy}
use Rattle.golf_meaning_runs.specs.VisibleOutcomes.{ComesTo, ComesBy, ServedGoOn, Chooses, IsAwake}
use Rattle.golf_meaning_runs.specs.VisibleOutcomes.ComesTo.{NoRule, Answered, Waits, Calls, Starts, Defers, Panics}
use Rattle.golf_meaning_runs.specs.VisibleOutcomes.ComesTo.{Dies}
use Rattle.golf_meaning_runs.specs.TurnLaws.{After, WaitsAfter, WaitsFor, VisibleTurns, ChoosingTurns}

head-in : {X : Type 0} (xs : List X) (x : X) → head xs ≡ Some x → In x xs
head-in [] x e = cc
head-in (y ∷ xs) x e = inl (cc)

-- the operands of a choice

-- what lies below so many operands
below : ℕ → List Value → Option (List Value)
below zero os = Some os
below (suc n) [] = None
below (suc n) (v ∷ os) = below n os

abbrev below_of : ℕ → Option (List Value) → Option (List Value)
below_of m None = None
below_of m (Some os) = below m os

below-sum : (m n : ℕ) (os : List Value) → below (m + n) os ≡ below_of m (below n os)
unfolding below
below-sum m zero os = ap (λ k. below k os) (omega arith)
below-sum m (suc n) [] = ap (λ k. below k []) (let e : m + suc n ≡ suc (m + n) = omega arith in e)
below-sum m (suc n) (v ∷ os) = ap (λ k. below k (v ∷ os)) (let e : m + suc n ≡ suc (m + n) = omega arith in e)
    ∙ below-sum m n os

Every-each : {X : Type 0} (P Q : X → Type 0) (xs : List X) → ((x : X) → P x → Q x) → Every P xs → Every Q xs
Every-each P Q [] f h = tt
Every-each P Q (x ∷ xs) f h = (f x h.0, Every-each P Q xs f h.1)

case-target : (cs : List SelectCase) (o : Option ℕ) (t : ℕ) → In t (map (λ (c : SelectCase). c.target) cs)
    → In t (targets cs o)
case-target [] o t m = absurd m
case-target (c ∷ cs) o t (inl e) = inl e
case-target (c ∷ cs) o t (inr m) = inr (case-target cs o t m)

default-target : (cs : List SelectCase) (t : ℕ) → In t (targets cs (Some t))
default-target [] t = inl refl
default-target (c ∷ cs) t = inr (default-target cs t)

-- the offers have the targets of their cases, and what is left lies below the operands of all cases
abbrev Taking : List SelectCase → List Value → Option Taken → Type 0
Taking cs os None = below (cases_taken cs) os ≡ None
Taking cs os (Some t) = (below (cases_taken cs) os ≡ Some t.1)
    × Every (λ (x : Offer). In x.target (map (λ (c : SelectCase). c.target) cs)) t.0

below-kind : (k : SelectCase) (cs : List SelectCase) (os : List Value) {kind : CaseKind} → k.kind ≡ kind
    → below (cases_taken (k ∷ cs)) os ≡ below_of (case_taken kind) (below (cases_taken cs) os)
below-kind k cs os q = ap (λ z. below (case_taken z + cases_taken cs) os) q ∙ below-sum _ (cases_taken cs) os

taking-case : (k : SelectCase) (cs : List SelectCase) (os : List Value) (kind : CaseKind) (xs : List Offer)
    (rest : List Value) → k.kind ≡ kind → below (cases_taken cs) os ≡ Some rest
    → Every (λ (x : Offer). In x.target (map (λ (c : SelectCase). c.target) cs)) xs
    → Taking (k ∷ cs) os (take_case k kind (xs, rest))
unfolding below
taking-case k cs os CaseKind.Send xs [] q e h = below-kind k cs os q ∙ ap (below_of 2) e
taking-case k cs os CaseKind.Send xs (v ∷ []) q e h = below-kind k cs os q ∙ ap (below_of 2) e
taking-case k cs os CaseKind.Send xs (v ∷ (c ∷ rest)) q e h =
    (below-kind k cs os q ∙ ap (below_of 2) e, (inl refl, Every-each _ _ xs (λ x m. inr m) h))
taking-case k cs os CaseKind.Take xs [] q e h = below-kind k cs os q ∙ ap (below_of 1) e
taking-case k cs os CaseKind.Take xs (c ∷ rest) q e h =
    (below-kind k cs os q ∙ ap (below_of 1) e, (inl refl, Every-each _ _ xs (λ x m. inr m) h))
taking-case k cs os CaseKind.TakeOk xs [] q e h = below-kind k cs os q ∙ ap (below_of 1) e
taking-case k cs os CaseKind.TakeOk xs (c ∷ rest) q e h =
    (below-kind k cs os q ∙ ap (below_of 1) e, (inl refl, Every-each _ _ xs (λ x m. inr m) h))

taking-more : (k : SelectCase) (cs : List SelectCase) (os : List Value) (m : Option Taken) → Taking cs os m
    → Taking (k ∷ cs) os (and_case k m)
taking-more k cs os None e = below-sum (case_taken k.kind) (cases_taken cs) os ∙ ap (below_of (case_taken k.kind)) e
taking-more k cs os (Some t) h = taking-case k cs os k.kind t.0 t.1 refl h.0 h.1

offers-are : (cs : List SelectCase) (os : List Value) → Taking cs os (offers_of cs os)
unfolding below
offers-are [] os = (refl, tt)
offers-are (k ∷ cs) os = taking-more k cs os (offers_of cs os) (offers-are cs os)

module _ (code : Code) (i : Instr) (a : Actor) (choice : ℕ) (s : State) (awake : IsAwake s a.number) where
  abbrev Others : List Change → Type 0
  Others cs = AreOthers s a.number cs

  first-in : (o : ℕ) (side : Side) (w : Waiter) → first o side s.goroutines ≡ Some w
      → In w (waiters o side s.goroutines)
  first-in o side w e = head-in (waiters o side s.goroutines) w (sym (first-head o side s.goroutines) ∙ e)

  -- who is first in a queue is another
  first-other : (o : ℕ) (side : Side) (w : Waiter) → first o side s.goroutines ≡ Some w → w.number ≡ a.number → ⊥
  first-other o side w e = awake o side w (first-in o side w e)

  -- and is served, or released
  served-one : (o : ℕ) (side : Side) (w : Waiter) (vs : List Value) → first o side s.goroutines ≡ Some w
      → IsOther s a.number (served w vs)
  served-one o side w vs e = (first-other o side w e, (o, side, w, first-in o side w e, refl, inl (vs, refl)))

  released-one : (o : ℕ) (side : Side) (w : Waiter) → IsOfLock side → first o side s.goroutines ≡ Some w
      → IsOther s a.number (runs w)
  released-one o side w lock e = (first-other o side w e, (o, side, w, first-in o side w e, refl, inr (lock, refl)))

  -- an operation that leads to one place
  module _ (Q : ℕ → Type 0) (V : ℕ → List Wait → Type 0) (to : ℕ) (there : Q to)
      (queued : (ws : List Wait) → ServedGoOn ws → V to ws) where
    abbrev C : List Value → List Value → List Change → Type 0
    C os rest cs = ComesTo code s a i os rest Q V cs

    some : {X : Type 0} {os : List Value} (rest : List Value) (g : X → List Change) (m : Option X)
        → ((x : X) → C os rest (g x)) → C os rest (on_some g m)
    some rest g None h = NoRule refl
    some rest g (Some x) h = h x

    test : {os : List Value} (rest : List Value) (b : Bool) (p q : List Change) → C os rest p → C os rest q
        → C os rest (choose b p q)
    test rest true p q h k = h
    test rest false p q h k = k

    ref-or : {os : List Value} (rest : List Value) (nil : List Change) (act : ℕ → List Change) (v : Value)
        → C os rest nil → ((o : ℕ) → C os rest (act o)) → C os rest (at_reference_or nil act v)
    ref-or rest nil act Value.Nil h k = h
    ref-or rest nil act (Value.Ref o) h k = k o.0
    ref-or rest nil act _ h k = NoRule refl

    ref : {os : List Value} (rest : List Value) (act : ℕ → List Change) (v : Value) → ((o : ℕ) → C os rest (act o))
        → C os rest (at_reference a act v)
    ref rest act Value.Nil k = Panics PanicKind.NilPointer refl
    ref rest act (Value.Ref o) k = k o.0
    ref rest act _ k = NoRule refl

    struct : {os : List Value} (rest : List Value) (act : List Value → List Change) (m : Option Object)
        → ((xs : List Value) → C os rest (act xs)) → C os rest (at_struct act m)
    struct rest act (Some (Object.Struct fields)) h = h fields
    struct rest act _ h = NoRule refl

    slice : {os : List Value} (rest : List Value) (act : List Value → List Change) (m : Option Object)
        → ((xs : List Value) → C os rest (act xs)) → C os rest (at_slice act m)
    slice rest act (Some (Object.Slice elements)) h = h elements
    slice rest act _ h = NoRule refl

    channel : {os : List Value} (rest : List Value) (act : Channel → List Change) (m : Option Object)
        → ((c : Channel) → C os rest (act c)) → C os rest (at_channel act m)
    channel rest act (Some (Object.Chan c)) h = h c
    channel rest act _ h = NoRule refl

    mutex : {os : List Value} (rest : List Value) (act : Bool → List Change) (m : Option Object)
        → ((b : Bool) → C os rest (act b)) → C os rest (at_mutex act m)
    mutex rest act (Some (Object.Mutex locked)) h = h locked
    mutex rest act _ h = NoRule refl

    group : {os : List Value} (rest : List Value) (act : ℤ → List Change) (m : Option Object)
        → ((n : ℤ) → C os rest (act n)) → C os rest (at_group act m)
    group rest act (Some (Object.Group n)) h = h n
    group rest act _ h = NoRule refl

    rw_mutex : {os : List Value} (rest : List Value) (act : ℤ → List Change) (m : Option Object)
        → ((n : ℤ) → C os rest (act n)) → C os rest (at_rw act m)
    rw_mutex rest act (Some (Object.Rw n)) h = h n
    rw_mutex rest act _ h = NoRule refl

    condition : {os : List Value} (rest : List Value) (act : Value → List Change) (m : Option Object)
        → ((v : Value) → C os rest (act v)) → C os rest (at_condition act m)
    condition rest act (Some (Object.Cond v)) h = h v
    condition rest act _ h = NoRule refl

    -- it is answered with these values, after these changes and before those
    answered : {os : List Value} (rest values : List Value) (before later : List Change) → Others before → Others later
        → C os rest (before ++ (stands a (stood a to (pushed values rest)) ++ later))
    answered rest values before later h k = Answered to values before later there refl h k

    waits : {os : List Value} (rest : List Value) (kind : WaitKind) (ws : List Wait) (before : List Change)
        → ServedGoOn ws
        → Others before → C os rest (before ++ blocks a (stood a to rest) kind ws)
    waits rest kind ws before on h = Waits to kind ws before (queued ws on) refl h

    -- channels

    by-buffer : {os : List Value} (rest : List Value) (o : ℕ) (v : Value) (c : Channel)
        → C os rest (buffers a (stood a to rest) o v c)
    by-buffer rest o v c = test rest _ _ _ (answered rest [] (Change.Replace o _ ∷ []) [] (tt, tt) tt)
        (waits rest WaitKind.Send (send_wait o v None ∷ []) [] (refl, tt) tt)

    by-receiver : {os : List Value} (rest : List Value) (o : ℕ) (v : Value) (c : Channel) (m : Option Waiter)
        → first o Side.Receive s.goroutines ≡ m → C os rest (sends_to a (stood a to rest) o v c m)
    by-receiver rest o v c None e = by-buffer rest o v c
    by-receiver rest o v c (Some w) e = answered rest [] [] (served w (received w.wait.with_ok v true) ∷ []) tt
        (served-one o Side.Receive w (received w.wait.with_ok v true) e, tt)

    by-send : {os : List Value} (rest : List Value) (v : Value) (o : ℕ) → C os rest (sends_on a (stood a to rest) v s o)
    by-send rest v o = channel rest _ (find o s.objects)
        (λ c. test rest c.closed _ _ (Panics PanicKind.SendClosed refl)
        (by-receiver rest o v c (first o Side.Receive s.goroutines) refl))

    by-given : {os : List Value} (rest : List Value) (with_ok : Bool) (v : Value) (sent : Bool)
        (before later : List Change) → Others before → Others later
        → C os rest (before ++ (stands a (given (stood a to rest) (received with_ok v sent)) ++ later))
    by-given rest true v sent before later h k = answered rest (v ∷ (Value.Bool sent ∷ [])) before later h k
    by-given rest false v sent before later h k = answered rest (v ∷ []) before later h k

    by-sender : {os : List Value} (rest : List Value) (with_ok : Bool) (o : ℕ) (c : Channel) (m : Option Waiter)
        → first o Side.Send s.goroutines ≡ m → C os rest (receives_unbuffered a (stood a to rest) with_ok o c m)
    by-sender rest with_ok o c None e = test rest c.closed _ _ (by-given rest with_ok c.zero false [] [] tt tt)
        (waits rest WaitKind.Receive (receive_wait o None with_ok ∷ []) [] (refl, tt) tt)
    by-sender rest with_ok o c (Some w) e =
        by-given rest with_ok w.wait.value true [] (served w [] ∷ []) tt (served-one o Side.Send w [] e, tt)

    served-other : (o : ℕ) (m : Option Waiter) → first o Side.Send s.goroutines ≡ m → Others (sender_served m)
    served-other o None e = tt
    served-other o (Some w) e = (served-one o Side.Send w [] e, tt)

    by-buffered : {os : List Value} (rest : List Value) (with_ok : Bool) (o : ℕ) (c : Channel) (buffer : List Value)
        (m : Option Waiter) → first o Side.Send s.goroutines ≡ m
        → C os rest (receives_from a (stood a to rest) with_ok o c buffer m)
    by-buffered rest with_ok o c [] m e = by-sender rest with_ok o c m e
    by-buffered rest with_ok o c (v ∷ vs) m e =
        by-given rest with_ok v true (Change.Replace o _ ∷ []) (sender_served m) (tt, tt) (served-other o m e)

    by-receive : {os : List Value} (rest : List Value) (with_ok : Bool) (o : ℕ)
        → C os rest (receives_on a (stood a to rest) with_ok s o)
    by-receive rest with_ok o = channel rest _ (find o s.objects)
        (λ c. by-buffered rest with_ok o c c.buffer (first o Side.Send s.goroutines) refl)

  abbrev at1 : ℕ
  at1 = a.frame.at + 1

  after-queued : (ws : List Wait) → ServedGoOn ws → WaitsAfter a at1 ws
  after-queued ws on = (refl, on)

  abbrev K : List Value → List Value → List Change → Type 0
  K os rest cs = ComesTo code s a i os rest (After a) (WaitsAfter a) cs

  -- the next instruction follows
  on : {os : List Value} (rest values : List Value) (before later : List Change) → Others before → Others later
      → K os rest (before ++ (stands a (stood a at1 (pushed values rest)) ++ later))
  on rest values before later h k = answered (After a) (WaitsAfter a) at1 refl after-queued rest values before later h k

  wait : {os : List Value} (rest : List Value) (kind : WaitKind) (ws : List Wait) (before : List Change) → ServedGoOn ws
      → Others before → K os rest (before ++ blocks a (stood a at1 rest) kind ws)
  wait rest kind ws before on h = waits (After a) (WaitsAfter a) at1 refl after-queued rest kind ws before on h

  -- operands

  abbrev By : ℕ → List Value → List Change → Type 0
  By n os cs = ComesBy code s a i (After a) (WaitsAfter a) (split_from n [] os) cs

  by-one : (g : Value → List Value → List Change) (os : List Value)
      → ((x : Value) (rest : List Value) → K (x ∷ []) rest (g x rest)) → By 1 os (taking_one g os)
  by-one g [] h = refl
  by-one g (x ∷ rest) h = h x rest

  by-two : (g : Value → Value → List Value → List Change) (os : List Value)
      → ((x y : Value) (rest : List Value) → K (x ∷ (y ∷ [])) rest (g x y rest)) → By 2 os (taking_two g os)
  by-two g [] h = refl
  by-two g (y ∷ []) h = refl
  by-two g (y ∷ (x ∷ rest)) h = h x y rest

  by-three : (g : Value → Value → Value → List Value → List Change) (os : List Value)
      → ((x y z : Value) (rest : List Value) → K (x ∷ (y ∷ (z ∷ []))) rest (g x y z rest)) → By 3 os (taking_three g os)
  by-three g [] h = refl
  by-three g (z ∷ []) h = refl
  by-three g (z ∷ (y ∷ [])) h = refl
  by-three g (z ∷ (y ∷ (x ∷ rest))) h = h x y z rest

  by-many : (n : ℕ) (acc os : List Value) (g : List Value → List Value → List Change)
      → ((vs rest : List Value) → K vs rest (g vs rest))
      → ComesBy code s a i (After a) (WaitsAfter a) (split_from n acc os) (taking_from n acc g os)
  by-many zero acc os g h = h acc os
  by-many (suc n) acc [] g h = refl
  by-many (suc n) acc (v ∷ os) g h = by-many n (v ∷ acc) os g h

  -- structures

  by-leaves : {os : List Value} (rest : List Value) (m : Option Value) → K os rest (leaves a rest m)
  by-leaves rest None = NoRule refl
  by-leaves rest (Some v) = on rest (v ∷ []) [] [] tt tt

  by-within : {os : List Value} (rest : List Value) (i : ℤ) (n : ℕ) (act : Value → List Change) (m : Option Value)
      → ((v : Value) → K os rest (act v)) → K os rest (within a i n act m)
  by-within rest i n act None h = Panics (PanicKind.Index i n) refl
  by-within rest i n act (Some v) h = h v

  by-make : {os : List Value} (rest : List Value) (x : Object) → K os rest (makes a x rest s)
  by-make rest x = on rest (reference (s.last_object + 1) ∷ []) (Change.Make x ∷ []) [] (tt, tt) tt

  -- mutexes, groups and conditions

  handed : (o : ℕ) (m : Option Waiter) → first o Side.Lock s.goroutines ≡ m → Others (hands_over o m)
  handed o None e = (tt, tt)
  handed o (Some w) e = (released-one o Side.Lock w tt e, tt)

  by-lock : {os : List Value} (rest : List Value) (o : ℕ) (b : Bool) → K os rest (locks_by a rest o b)
  by-lock rest o false = on rest [] (Change.Replace o (Object.Mutex true) ∷ []) [] (tt, tt) tt
  by-lock rest o true = wait rest WaitKind.Lock _ [] (refl, tt) tt

  by-unlock : {os : List Value} (rest : List Value) (o : ℕ) (b : Bool) → K os rest (unlocks_by a rest s o b)
  by-unlock rest o false = Dies PanicKind.UnlockUnlocked refl
  by-unlock rest o true = on rest [] [] (hands_over o (first o Side.Lock s.goroutines)) tt
      (handed o (first o Side.Lock s.goroutines) refl)

  woken : (o : ℕ) (b : Bool) → Others (choose b (Change.WakeAll o Waking.AtZero ∷ []) [])
  woken o true = (tt, tt)
  woken o false = tt

  by-count : {os : List Value} (rest : List Value) (o : ℕ) (n : ℤ) → K os rest (counts a rest o n)
  by-count rest o n = test (After a) (WaitsAfter a) at1 refl after-queued rest (int_lt n (pos 0)) _ _
      (Panics PanicKind.NegativeGroup refl) (on rest [] (Change.Replace o (Object.Group n) ∷ []) _ (tt, tt)
      (woken o (is_zero n)))

  by-wait : {os : List Value} (rest : List Value) (o : ℕ) (n : ℤ) → K os rest (waits_by a rest o n)
  by-wait rest o n = test (After a) (WaitsAfter a) at1 refl after-queued rest (is_zero n) _ _ (on rest [] [] [] tt tt)
      (wait rest WaitKind.Group _ [] (refl, tt) tt)

  by-await : {os : List Value} (rest : List Value) (o m : ℕ) (b : Bool) → K os rest (awaits_by a rest s o m b)
  by-await rest o m false = Dies PanicKind.UnlockUnlocked refl
  by-await rest o m true = wait rest WaitKind.Condition _ (hands_over m (first m Side.Lock s.goroutines)) (refl, tt)
      (handed m (first m Side.Lock s.goroutines) refl)

  -- all of them wait on the condition
  abbrev On : ℕ → List Waiter → Type 0
  On o ws = (w : Waiter) → In w ws → In w (waiters o Side.Cond s.goroutines)

  passed : (m o : ℕ) (ws : List Waiter) → On o ws → Others (requeues m ws)
  passed m o [] h = tt
  passed m o (w ∷ ws) h = let i = h w (inl refl) in (
    (awake o Side.Cond w i, (o, w, i, refl)),
    passed m o ws (λ v j. h v (inr j)),
  )

  by-notify : {os : List Value} (rest : List Value) (o : ℕ) (ws : List Waiter) (m : Value) → On o ws
      → K os rest (notifies a rest s ws m)
  by-notify rest o [] m h = on rest [] [] [] tt tt
  by-notify rest o (w ∷ ws) m h = ref-or (After a) (WaitsAfter a) at1 refl after-queued rest [] _ m (NoRule refl)
      (λ p. mutex (After a) (WaitsAfter a) at1 refl after-queued rest _ (find p s.objects)
      (λ b. on rest [] [] (requeues p (w ∷ ws)) tt (passed p o (w ∷ ws) h)))

  only-on : (o : ℕ) (m : Option Waiter) → first o Side.Cond s.goroutines ≡ m → On o (first_only m)
  only-on o None e w i = absurd i
  only-on o (Some v) e w (inl same) = first-in o Side.Cond w (e ∙ ap (λ (x : Waiter). Some x) (sym same))
  only-on o (Some v) e w (inr i) = absurd i

  -- mutexes of readers and writers

  served-first : (o : ℕ) (m n : Option Waiter) → first o Side.Write s.goroutines ≡ m
      → Others (serves_first o s.goroutines m n)
  served-first o None n e = (tt, (tt, tt))
  served-first o (Some w) None e = (tt, (released-one o Side.Write w tt e, tt))
  served-first o (Some w) (Some r) e = either (nat_lt (waiter_ticket r) (waiter_ticket w))
    where
      either : (b : Bool) → Others (choose b (to_readers o (Some (waiter_ticket w)) s.goroutines) (to_writer o w))
      either true = (tt, (tt, tt))
      either false = (tt, (released-one o Side.Write w tt e, tt))

  rw-served : (o : ℕ) → Others (serves o s.goroutines)
  rw-served o = served-first o (first o Side.Write s.goroutines) (first o Side.Read s.goroutines) refl

  read-left : (o : ℕ) (n : ℤ) (b : Bool) → Others
      (choose b (serves o s.goroutines) (Change.Replace o (Object.Rw n) ∷ []))
  read-left o n true = rw-served o
  read-left o n false = (tt, tt)

  by-write-lock : {os : List Value} (rest : List Value) (o : ℕ) (n : ℤ) → K os rest (write_locks_by a rest o n)
  by-write-lock rest o n = test (After a) (WaitsAfter a) at1 refl after-queued rest (is_zero n) _ _
      (on rest [] (Change.Replace o (Object.Rw (negsuc 0)) ∷ []) [] (tt, tt) tt)
      (wait rest WaitKind.WriteLock _ [] (refl, tt) tt)

  by-write-unlock : {os : List Value} (rest : List Value) (o : ℕ) (n : ℤ) → K os rest (write_unlocks_by a rest s o n)
  by-write-unlock rest o n = test (After a) (WaitsAfter a) at1 refl after-queued rest (is_minus_one n) _ _
      (on rest [] [] (serves o s.goroutines) tt (rw-served o)) (Dies PanicKind.UnlockUnlockedRw refl)

  by-read-lock : {os : List Value} (rest : List Value) (o : ℕ) (n : ℤ) → K os rest (read_locks_by a rest s o n)
  by-read-lock rest o n = test (After a) (WaitsAfter a) at1 refl after-queued rest _ _ _
      (wait rest WaitKind.ReadLock _ [] (refl, tt) tt)
      (test (After a) (WaitsAfter a) at1 refl after-queued rest _ _ _ (Dies PanicKind.ReaderLimit refl)
      (on rest [] (Change.Replace o (Object.Rw _) ∷ []) [] (tt, tt) tt))

  by-read-unlock : {os : List Value} (rest : List Value) (o : ℕ) (n : ℤ) → K os rest (read_unlocks_by a rest s o n)
  by-read-unlock rest o n = test (After a) (WaitsAfter a) at1 refl after-queued rest (int_lt (pos 0) n) _ _
      (on rest [] [] (read_leaves o (n -ℤ pos 1) s) tt (read-left o (n -ℤ pos 1) (is_zero (n -ℤ pos 1))))
      (Dies PanicKind.RUnlockUnlocked refl)

  -- finalisers

  by-finalise : {os : List Value} (rest : List Value) (f o : ℕ) (m : Option ℕ) → K os rest (finalises_by a rest f o m)
  by-finalise rest f o None = on rest [] (Change.SetFinaliser o f ∷ []) [] (tt, tt) tt
  by-finalise rest f o (Some old) = Dies PanicKind.FinalizerSet refl

  -- calls

  by-enter : (rest : List Value) (g : ℕ) (vs : List Value) → CalledBy i g → (m : Option Function)
      → slice_get code.functions g ≡ m → K vs rest
      (on_some (enters a (next a.frame rest ∷ a.callers)) (option_map (opened g vs false) m))
  by-enter rest g vs called None e = NoRule refl
  by-enter rest g vs called (Some fn) e =
      test (After a) (WaitsAfter a) at1 refl after-queued rest (is_full (next a.frame rest ∷ a.callers)) _ _
      (Dies PanicKind.StackOverflow refl) (Calls at1 g fn refl called e refl)

  by-start : (rest : List Value) (g : ℕ) (vs : List Value) → CalledBy i g → (m : Option Function)
      → slice_get code.functions g ≡ m → K vs rest
      (on_some (λ x. Change.Spawn (started_on a x) ∷ goes a rest) (option_map (opened g vs true) m))
  by-start rest g vs called None e = NoRule refl
  by-start rest g vs called (Some fn) e = Starts at1 g fn refl called e refl

  abbrev S : {X : Type 0} {os : List Value} (rest : List Value) (g : X → List Change) (m : Option X)
      → ((x : X) → K os rest (g x)) → K os rest (on_some g m)
  S rest g m h = some (After a) (WaitsAfter a) at1 refl after-queued rest g m h

  abbrev R : {os : List Value} (rest : List Value) (act : ℕ → List Change) (v : Value) → ((o : ℕ) → K os rest (act o))
      → K os rest (at_reference a act v)
  R rest act v h = ref (After a) (WaitsAfter a) at1 refl after-queued rest act v h

  visible : (j : Instr) → j ≡ i → is_inner j ≡ false
      → ((cases : List SelectCase) (otherwise : Option ℕ) → j ≡ Instr.Select cases otherwise → ⊥)
      → By (taken j) a.frame.operands (changes code j a choice s)
  visible (Instr.Select cases otherwise) same e ns = absurd (ns cases otherwise refl)
  visible (Instr.LoadGlobal i) same e ns = by-leaves a.frame.operands (slice_get s.globals i)
  visible (Instr.StoreGlobal i) same e ns =
      by-one _ a.frame.operands (λ v rest. S rest _ (slice_get s.globals i)
      (λ old. on rest [] (Change.SetGlobal i v ∷ []) [] (tt, tt) tt))
  visible (Instr.NewStruct t) same e ns =
      S a.frame.operands _ (slice_get code.structs t) (λ row. by-make a.frame.operands _)
  visible Instr.NewMutex same e ns = by-make a.frame.operands (Object.Mutex false)
  visible Instr.NewGroup same e ns = by-make a.frame.operands (Object.Group (pos 0))
  visible Instr.NewRw same e ns = by-make a.frame.operands (Object.Rw (pos 0))
  visible Instr.NewCond same e ns = by-one _ a.frame.operands
      (λ m rest. ref-or (After a) (WaitsAfter a) at1 refl after-queued rest _ _ m (by-make rest (Object.Cond m))
      (λ o. mutex (After a) (WaitsAfter a) at1 refl after-queued rest _ (find o s.objects)
      (λ b. by-make rest (Object.Cond m))))
  visible (Instr.Field i) same e ns = by-one _ a.frame.operands
      (λ p rest. R rest _ p (λ o. struct (After a) (WaitsAfter a) at1 refl after-queued rest _ (find o s.objects)
      (λ fields. by-leaves rest (slice_get fields i))))
  visible (Instr.SetField i) same e ns = by-two _ a.frame.operands
      (λ p v rest. R rest _ p (λ o. struct (After a) (WaitsAfter a) at1 refl after-queued rest _ (find o s.objects)
      (λ fields. S rest _ (slice_get fields i) (λ old. on rest [] (Change.Replace o _ ∷ []) [] (tt, tt) tt))))
  visible (Instr.NewSlice z) same e ns = by-one _ a.frame.operands
      (λ x rest. S rest _ (int_of x) (λ n. test (After a) (WaitsAfter a) at1 refl after-queued rest (is_bad_size n) _ _
      (Panics PanicKind.SliceSize refl) (by-make rest _)))
  visible (Instr.NewChan z) same e ns = by-one _ a.frame.operands
      (λ x rest. S rest _ (int_of x) (λ n. test (After a) (WaitsAfter a) at1 refl after-queued rest (is_bad_size n) _ _
      (Panics PanicKind.ChanSize refl) (by-make rest _)))
  visible Instr.Index same e ns = by-two _ a.frame.operands
      (λ x y rest. S rest _ (int_of y) (λ i. ref-or (After a) (WaitsAfter a) at1 refl after-queued rest _ _ x
      (Panics (PanicKind.Index i 0) refl)
      (λ o. slice (After a) (WaitsAfter a) at1 refl after-queued rest _ (find o s.objects)
      (λ xs. by-within rest i (length xs) _ (element xs i) (λ v. on rest (v ∷ []) [] [] tt tt)))))
  visible Instr.SetIndex same e ns = by-three _ a.frame.operands
      (λ x y v rest. S rest _ (int_of y) (λ i. ref-or (After a) (WaitsAfter a) at1 refl after-queued rest _ _ x
      (Panics (PanicKind.Index i 0) refl)
      (λ o. slice (After a) (WaitsAfter a) at1 refl after-queued rest _ (find o s.objects)
      (λ xs. by-within rest i (length xs) _ (element xs i)
      (λ old. on rest [] (Change.Replace o _ ∷ []) [] (tt, tt) tt)))))
  visible Instr.Len same e ns = by-one _ a.frame.operands
      (λ x rest. ref-or (After a) (WaitsAfter a) at1 refl after-queued rest _ _ x
      (on rest (Value.Int (pos 0) ∷ []) [] [] tt tt)
      (λ o. S rest _ (find o s.objects) (λ y. S rest _ (length_of y)
      (λ n. on rest (Value.Int (pos n) ∷ []) [] [] tt tt))))
  visible Instr.Send same e ns = by-two _ a.frame.operands
      (λ c v rest. ref-or (After a) (WaitsAfter a) at1 refl after-queued rest _ _ c
      (wait rest WaitKind.SendNil [] [] tt tt) (λ o. by-send (After a) (WaitsAfter a) at1 refl after-queued rest v o))
  visible Instr.Receive same e ns = by-one _ a.frame.operands
      (λ c rest. ref-or (After a) (WaitsAfter a) at1 refl after-queued rest _ _ c
      (wait rest WaitKind.ReceiveNil [] [] tt tt)
      (λ o. by-receive (After a) (WaitsAfter a) at1 refl after-queued rest false o))
  visible Instr.ReceiveOk same e ns = by-one _ a.frame.operands
      (λ c rest. ref-or (After a) (WaitsAfter a) at1 refl after-queued rest _ _ c
      (wait rest WaitKind.ReceiveNil [] [] tt tt)
      (λ o. by-receive (After a) (WaitsAfter a) at1 refl after-queued rest true o))
  visible Instr.Close same e ns = by-one _ a.frame.operands
      (λ c rest. ref-or (After a) (WaitsAfter a) at1 refl after-queued rest _ _ c (Panics PanicKind.CloseNil refl)
      (λ o. channel (After a) (WaitsAfter a) at1 refl after-queued rest _ (find o s.objects)
      (λ x. test (After a) (WaitsAfter a) at1 refl after-queued rest x.closed _ _
      (Panics PanicKind.CloseClosed refl) (on rest [] (Change.Replace o _ ∷ []) (Change.WakeAll o _ ∷ []) (tt, tt)
      (tt, tt)))))
  visible Instr.Lock same e ns = by-one _ a.frame.operands
      (λ m rest. R rest _ m (λ o. mutex (After a) (WaitsAfter a) at1 refl after-queued rest _ (find o s.objects)
      (λ b. by-lock rest o b)))
  visible Instr.Unlock same e ns = by-one _ a.frame.operands
      (λ m rest. R rest _ m (λ o. mutex (After a) (WaitsAfter a) at1 refl after-queued rest _ (find o s.objects)
      (λ b. by-unlock rest o b)))
  visible Instr.GroupAdd same e ns = by-two _ a.frame.operands
      (λ w x rest. S rest _ (int_of x) (λ d. R rest _ w
      (λ o. group (After a) (WaitsAfter a) at1 refl after-queued rest _ (find o s.objects)
      (λ n. by-count rest o (sum n d)))))
  visible Instr.GroupWait same e ns = by-one _ a.frame.operands
      (λ w rest. R rest _ w (λ o. group (After a) (WaitsAfter a) at1 refl after-queued rest _ (find o s.objects)
      (λ n. by-wait rest o n)))
  visible Instr.RwLock same e ns = by-one _ a.frame.operands
      (λ m rest. R rest _ m (λ o. rw_mutex (After a) (WaitsAfter a) at1 refl after-queued rest _ (find o s.objects)
      (λ n. by-write-lock rest o n)))
  visible Instr.RwUnlock same e ns = by-one _ a.frame.operands
      (λ m rest. R rest _ m (λ o. rw_mutex (After a) (WaitsAfter a) at1 refl after-queued rest _ (find o s.objects)
      (λ n. by-write-unlock rest o n)))
  visible Instr.ReadLock same e ns = by-one _ a.frame.operands
      (λ m rest. R rest _ m (λ o. rw_mutex (After a) (WaitsAfter a) at1 refl after-queued rest _ (find o s.objects)
      (λ n. by-read-lock rest o n)))
  visible Instr.ReadUnlock same e ns = by-one _ a.frame.operands
      (λ m rest. R rest _ m (λ o. rw_mutex (After a) (WaitsAfter a) at1 refl after-queued rest _ (find o s.objects)
      (λ n. by-read-unlock rest o n)))
  visible Instr.CondMutex same e ns = by-one _ a.frame.operands
      (λ c rest. R rest _ c (λ o. condition (After a) (WaitsAfter a) at1 refl after-queued rest _ (find o s.objects)
      (λ m. on rest (m ∷ []) [] [] tt tt)))
  visible Instr.CondWait same e ns = by-one _ a.frame.operands
      (λ c rest. R rest _ c (λ o. condition (After a) (WaitsAfter a) at1 refl after-queued rest _ (find o s.objects)
      (λ m. R rest _ m (λ p. mutex (After a) (WaitsAfter a) at1 refl after-queued rest _ (find p s.objects)
      (λ b. by-await rest o p b)))))
  visible Instr.CondSignal same e ns = by-one _ a.frame.operands
      (λ c rest. R rest _ c (λ o. condition (After a) (WaitsAfter a) at1 refl after-queued rest _ (find o s.objects)
      (λ m. by-notify rest o (first_only (first o Side.Cond s.goroutines)) m
      (only-on o (first o Side.Cond s.goroutines) refl))))
  visible Instr.CondBroadcast same e ns =
      by-one _ a.frame.operands (λ c rest. R rest _ c
      (λ o. condition (After a) (WaitsAfter a) at1 refl after-queued rest _ (find o s.objects)
      (λ m. by-notify rest o (waiters o Side.Cond s.goroutines) m (λ w i. i))))
  visible (Instr.Call f n) same e ns = by-many n [] a.frame.operands _
      (λ vs rest. by-enter rest f vs (subst (λ z. CalledBy z f) same refl) (slice_get code.functions f) refl)
  visible (Instr.Go f n) same e ns = by-many n [] a.frame.operands _
      (λ vs rest. by-start rest f vs (subst (λ z. CalledBy z f) same refl) (slice_get code.functions f) refl)
  visible (Instr.Defer f n) same e ns = by-many n [] a.frame.operands _
      (λ vs rest. Defers at1 (record { function = f; arguments = vs }) refl (subst (λ z. DefersBy z) same tt) refl)
  visible (Instr.Print n) same e ns = by-many n [] a.frame.operands _
      (λ vs rest. S rest _ (line_bytes code.texts vs) (λ bytes. on rest [] (Change.Output bytes ∷ []) [] (tt, tt) tt))
  visible Instr.Collect same e ns = on a.frame.operands [] [] [] tt tt
  visible (Instr.SetFinalizer f) same e ns =
      by-one _ a.frame.operands (λ p rest. R rest _ p
      (λ o. struct (After a) (WaitsAfter a) at1 refl after-queued rest _ (find o s.objects)
      (λ fields. by-finalise rest f o (find o s.finalisers))))
  visible Instr.ClearFinalizer same e ns =
      by-one _ a.frame.operands (λ p rest. ref-or (After a) (WaitsAfter a) at1 refl after-queued rest _ _ p
      (on rest [] [] [] tt tt) (λ o. struct (After a) (WaitsAfter a) at1 refl after-queued rest _ (find o s.objects)
      (λ fields. on rest [] (Change.ClearFinaliser o ∷ []) [] (tt, tt) tt)))
  visible Instr.Panic same e ns = by-one _ a.frame.operands
      (λ x rest. S rest _ (text_of x) (λ k. Panics (PanicKind.Custom k) refl))
  visible _ same e ns = cc

  -- a choice

  module _ (cases : List SelectCase) (otherwise : Option ℕ) where
    abbrev ts : List ℕ
    ts = targets cases otherwise

    abbrev Z : List Value → List Value → List Change → Type 0
    Z os rest cs = ComesTo code s a i os rest (λ to. In to ts) (WaitsFor ts) cs

    abbrev Offered : List Offer → Type 0
    Offered xs = Every (λ (x : Offer). In x.target ts) xs

    module _ (x : Offer) (m : In x.target ts) (rest : List Value) where
      stays : (ws : List Wait) → ServedGoOn ws → WaitsFor ts x.target ws
      stays ws on = inl (m, on)

      by-kind : {os : List Value} (kind : CaseKind) (o : ℕ)
          → Z os rest (proceeds_by a (stood a x.target rest) kind x.value s o)
      by-kind CaseKind.Send o = by-send (λ to. In to ts) (WaitsFor ts) x.target m stays rest x.value o
      by-kind CaseKind.Take o = by-receive (λ to. In to ts) (WaitsFor ts) x.target m stays rest false o
      by-kind CaseKind.TakeOk o = by-receive (λ to. In to ts) (WaitsFor ts) x.target m stays rest true o

      by-proceed : {os : List Value} → Z os rest (proceeds a rest s x)
      by-proceed = ref-or (λ to. In to ts) (WaitsFor ts) x.target m stays rest [] _ x.channel (NoRule refl)
          (λ o. by-kind x.kind o)

    wait-chooses : (x : Offer) (kind : CaseKind) (o : ℕ) → In x.target ts → Chooses ts (wait_of x kind o ∷ [])
    wait-chooses x CaseKind.Send o m = ((x.target, refl, m, inl refl), tt)
    wait-chooses x CaseKind.Take o m = ((x.target, refl, m, inr refl), tt)
    wait-chooses x CaseKind.TakeOk o m = ((x.target, refl, m, inr refl), tt)

    case-chooses : (x : Offer) (v : Value) → In x.target ts → Chooses ts (case_waits x v)
    case-chooses x (Value.Ref o) m = wait-chooses x x.kind o.0 m
    case-chooses x _ m = tt

    choose-append : (xs ys : List Wait) → Chooses ts xs → Chooses ts ys → Chooses ts (xs ++ ys)
    choose-append [] ys h k = k
    choose-append (x ∷ xs) ys h k = (h.0, choose-append xs ys h.1 k)

    offers-choose : (xs : List Offer) → Offered xs → Chooses ts (offered_waits xs)
    offers-choose [] h = tt
    offers-choose (x ∷ xs) h = choose-append (case_waits x x.channel) (offered_waits xs) (case-chooses x x.channel h.0)
        (offers-choose xs h.1)

    kept-offered : (b : Bool) (x : Offer) (xs : List Offer) → In x.target ts → Offered xs → Offered (kept_if b x xs)
    kept-offered true x xs m h = (m, h)
    kept-offered false x xs m h = h

    ready-offered : (xs : List Offer) → Offered xs → Offered (ready s xs)
    ready-offered [] h = tt
    ready-offered (x ∷ xs) h = kept-offered (is_ready s x) x (ready s xs) h.0 (ready-offered xs h.1)

    got-offered : (xs : List Offer) (k : ℕ) (x : Offer) → slice_get xs k ≡ Some x → Offered xs → In x.target ts
    got-offered [] k x e h = cc
    got-offered (y ∷ xs) zero x e h = let same : y ≡ x = cc in subst (λ (z : Offer). In z.target ts) same h.0
    got-offered (y ∷ xs) (suc k) x e h = got-offered xs k x e h.1

    by-none : {os : List Value} (rest : List Value) (xs : List Offer) (o : Option ℕ) → otherwise ≡ o → Offered xs
        → Z os rest (selects_none a rest xs o)
    by-none rest xs None e h = Waits at1 (select_kind xs) (offered_waits xs) [] (inr (offers-choose xs h)) refl tt
    by-none rest xs (Some t) e h = Answered t [] [] []
        (subst (λ o. In t (targets cases o)) (sym e) (default-target cases t)) refl tt tt

    by-chosen : {os : List Value} (rest : List Value) (xs : List Offer) (m : Option Offer)
        → ((x : Offer) → m ≡ Some x → In x.target ts) → Offered xs → Z os rest (selects_one a rest s xs otherwise m)
    by-chosen rest xs None k h = by-none rest xs otherwise refl h
    by-chosen rest xs (Some x) k h = by-proceed x (k x refl) rest

    by-offers : {os : List Value} (rest : List Value) (b : Bool) (xs : List Offer) → Offered xs
        → Z os rest (choose b (selects_one a rest s xs otherwise (chosen choice (ready s xs))) [])
    by-offers rest true xs h = by-chosen rest xs (chosen choice (ready s xs))
        (λ x e. got-offered (ready s xs) _ x e (ready-offered xs h)) h
    by-offers rest false xs h = NoRule refl

    abbrev ByBelow : Option (List Value) → List Change → Type 0
    ByBelow None cs = cs ≡ []
    ByBelow (Some rest) cs = (vs : List Value) → Z vs rest cs

    by-split : (n : ℕ) (acc os : List Value) (cs : List Change) → ByBelow (below n os) cs
        → ComesBy code s a i (λ to. In to ts) (WaitsFor ts) (split_from n acc os) cs
    unfolding below
    by-split zero acc os cs h = h acc
    by-split (suc n) acc [] cs h = h
    by-split (suc n) acc (v ∷ os) cs h = by-split n (v ∷ acc) os cs h

    by-taken : (os : List Value) (m : Option Taken) → Taking cases os m
        → ByBelow (below (cases_taken cases) os) (selects_from a s choice otherwise m)
    by-taken os None e = subst (λ z. ByBelow z []) (sym e) refl
    by-taken os (Some t) h = subst (λ z. ByBelow z (selects_from a s choice otherwise (Some t))) (sym h.0)
        (λ vs. by-offers t.1 (all_on_channels s t.0) t.0
        (Every-each (λ (x : Offer). In x.target (map (λ (c : SelectCase). c.target) cases))
        (λ (x : Offer). In x.target ts) t.0 (λ x m. case-target cases otherwise x.target m) h.1))

    chooses-turn : ComesBy code s a i (λ to. In to ts) (WaitsFor ts)
        (split_from (cases_taken cases) [] a.frame.operands) (selects a s choice cases otherwise)
    chooses-turn = by-split (cases_taken cases) [] a.frame.operands _
        (by-taken a.frame.operands (offers_of cases a.frame.operands) (offers-are cases a.frame.operands))

pub visible-turns : VisibleTurns
visible-turns code i a choice s e ns awake = visible code i a choice s awake i refl e ns

pub choosing-turns : ChoosingTurns
choosing-turns code cases otherwise a choice s awake =
    chooses-turn code (Instr.Select cases otherwise) a choice s awake cases otherwise
