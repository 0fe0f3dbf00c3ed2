-- Each instruction, and each turn, starts one goroutine at most.
-- For: `take_turn`, src/execution.rt; `Few`, `Quiet`, specs/StartedGoroutines.antt
-- By: cases of the instruction; induction over the list of changes, and over the list of goroutines
use Rattle.std.proofs.Common.{◌≡◌, ℕ, suc, ◌+◌, ◌≤◌, ◌/◌, not, arith, length-append, Bool, true, false, cond, List, []}
use Rattle.std.proofs.Common.{◌∷◌, ◌++◌, length, Option, Some, None, refl, ap, ℤ, slice_get, ◌==◌, nat_lt}
use Rattle.std.specs.Prelude.{pos, ◌||◌, ◌-ℤ◌, is_some, int_lt, int_le}
use Rattle.golf_theory.specs.Maps.{find, put, only, map_values, keys_where}
use Rattle.golf_theory.specs.Membership.{is_in}
use Rattle.golf_data.specs.declared.value.Value.{Value}
use Rattle.golf_data.specs.declared.value.Object.{Object}
use Rattle.golf_data.specs.declared.value.Channel.{Channel}
use Rattle.golf_data.specs.declared.code.Code.{Code}
use Rattle.golf_data.specs.declared.code.Instr.{Instr}
use Rattle.golf_data.specs.declared.code.CodeLine.{CodeLine}
use Rattle.golf_data.specs.declared.code.CaseKind.{CaseKind}
use Rattle.golf_data.specs.declared.goroutine.Deferred.{Deferred}
use Rattle.golf_data.specs.declared.goroutine.Fault.{Fault}
use Rattle.golf_data.specs.declared.goroutine.Leaving.{Leaving}
use Rattle.golf_data.specs.declared.goroutine.PanicKind.{PanicKind}
use Rattle.golf_data.specs.declared.goroutine.Queued.{Queued}
use Rattle.golf_data.specs.declared.goroutine.Side.{Side}
use Rattle.golf_data.specs.declared.goroutine.WaitKind.{WaitKind}
use Rattle.golf_data.specs.declared.goroutine.Mode.{Mode}
use Rattle.golf_model.specs.Views.{FrameView, GoroutineView}
use Rattle.golf_model.specs.Values.{reference, int_of, bool_of, text_of, equality, is_zero, is_minus_one, line_bytes}
use Rattle.golf_model.specs.State.{State, can_run, runnable, call_frame}
use Rattle.golf_model.specs.Waiters.{Waiter, waiter_ticket, first, waiters, bare_wait, send_wait, receive_wait}
use Rattle.golf_model.specs.Changes.{Change, apply, apply_all, moved, requeue_by, requeue}
use Rattle.golf_model.specs.Wakes.{released, woken_by}
use Rattle.golf_model.specs.Collections.{removed, real_collect}
use Rattle.golf_model.specs.Actors.{Actor, with_frames, next, choose, at_reference, at_mutex}
use Rattle.golf_model.specs.Arithmetic.{stores, stores_global, computes, divides, compares, jumps_unless, sum}
use Rattle.golf_model.specs.Arithmetic.{difference, product, quotient, remainder}
use Rattle.golf_model.specs.Structures.{gets_field, sets_field, is_bad_size, makes_slice, makes_channel, within}
use Rattle.golf_model.specs.Structures.{element, gets_element, sets_element, length_of, measures}
use Rattle.golf_model.specs.Channels.{sends_to, sends_on, sends, sender_served, receives_unbuffered, receives_from}
use Rattle.golf_model.specs.Channels.{receives_on, receives, closes}
use Rattle.golf_model.specs.Selects.{Offer, Taken, offers_of, all_on_channels, ready, proceeds_by, offered_waits}
use Rattle.golf_model.specs.Selects.{select_kind, selects_none, selects_one, chosen, selects_from}
use Rattle.golf_model.specs.Mutexes.{blocks_on, locks_by, locks, hands_over, unlocks_by, unlocks, counts, adds, waits}
use Rattle.golf_model.specs.ReadersWriters.{serves_first, serves, write_locks, write_unlocks, most_readers, read_locks}
use Rattle.golf_model.specs.ReadersWriters.{read_leaves, read_unlocks}
use Rattle.golf_model.specs.Conditions.{makes_condition, gets_mutex, awaits_by, awaits, requeues, first_only, notifies}
use Rattle.golf_model.specs.Conditions.{signals, broadcasts}
use Rattle.golf_model.specs.Calls.{is_full, enters, calls, spawns, ends, returns_to, unwinds_to, returns_by}
use Rattle.golf_model.specs.Calls.{begins_deferred, leaves_returning, leaves_unwinding}
use Rattle.golf_model.specs.Finalisers.{finalises_by, finalises, unfinalises, begins_queued}
use Rattle.golf_model.specs.ClearedSlots.{clears_in, clears, clearing}
use Rattle.golf_model.specs.Turn.{turned, changes, line_at, return_line, acting, performs, frame_changes}
use Rattle.golf_model.specs.Turn.{goroutine_changes, turn_of, turn_changes, whose_turn, clears_nothing, cleared_after}
use Rattle.golf_model.specs.Turn.{step}
use Rattle.golf_world.specs.StartedGoroutines.{starts_one, Quiet_by, Quiet, Few_by, Few}
use Rattle.golf_world.proofs.SpawnWays.{on-some, on-choice, on-one, on-two, on-three, on-operands, on-ints}
use Rattle.golf_world.proofs.SpawnWays.{on-reference_or, on-struct, on-slice, on-channel, on-mutex, on-group, on-rw}
use Rattle.golf_world.proofs.SpawnWays.{on-condition, few-goes, few-jumps, few-leaves, few-panics, few-dies, few-blocks}
use Rattle.golf_world.proofs.SpawnWays.{on-reference}

both : (cs ds : List Change) → Quiet cs → Few ds → Few (cs ++ ds)
both [] ds p q = q
both (c ∷ cs) ds p q = elim (starts_one c) as (λ b. Quiet_by b (Quiet cs)
    → Few_by b (Quiet (cs ++ ds)) (Few (cs ++ ds))) [ true ↦ λ h. absurd h | false ↦ λ h. both cs ds h q ] p

few-quiet : (cs : List Change) → Quiet cs → Few cs
few-quiet [] p = tt
few-quiet (c ∷ cs) p = elim (starts_one c) as (λ b. Quiet_by b (Quiet cs)
    → Few_by b (Quiet cs) (Few cs)) [ true ↦ λ h. absurd h | false ↦ λ h. few-quiet cs h ] p

module _ (code : Code) (a : Actor) (s : State) where
  abbrev ops : List Value
  ops = a.frame.operands

  -- variables and arithmetic
  few-stores : (i : ℕ) → Few (stores a i)
  few-stores i = on-one _ ops (λ v rest. on-some _ (slice_get a.frame.slots i) (λ old. tt))

  few-stores_global : (i : ℕ) → Few (stores_global a i s)
  few-stores_global i = on-one _ ops (λ v rest. on-some _ (slice_get s.globals i) (λ old. (few-goes a rest)))

  few-computes : (op : ℤ → ℤ → ℤ) → Few (computes op a)
  few-computes op = on-ints _ ops (λ m n rest. tt)

  few-divides : (op : ℤ → ℤ → ℤ) → Few (divides op a)
  few-divides op = on-ints _ ops (λ m n rest. on-choice (is_zero n) _ _ (few-panics a PanicKind.DivideByZero)
      (few-goes a (Value.Int (op m n) ∷ rest)))

  few-compares : (test : ℤ → ℤ → Bool) → Few (compares test a)
  few-compares test = on-ints _ ops (λ m n rest. tt)

  few-jumps_unless : (target : ℕ) → Few (jumps_unless a target)
  few-jumps_unless target = on-one _ ops (λ x rest. on-some _ (bool_of x)
      (λ b. on-choice b _ _ (few-goes a rest) (few-jumps a target rest)))

  -- structs, slices and new objects
  few-gets_field : (i : ℕ) → Few (gets_field a i s)
  few-gets_field i = on-one _ ops (λ p rest. on-reference a _ p
      (λ o. on-struct _ (find o s.objects) (λ fields e. few-leaves a rest (slice_get fields i))))

  few-sets_field : (i : ℕ) → Few (sets_field a i s)
  few-sets_field i = on-two _ ops (λ p v rest. on-reference a _ p
      (λ o. on-struct _ (find o s.objects) (λ fields e. on-some _ (slice_get fields i) (λ old. tt))))

  few-makes_slice : (zero : Value) → Few (makes_slice a zero s)
  few-makes_slice zero = on-one _ ops (λ x rest. on-some _ (int_of x)
      (λ n. on-choice (is_bad_size n) _ _ (few-panics a PanicKind.SliceSize) tt))

  few-makes_channel : (zero : Value) → Few (makes_channel a zero s)
  few-makes_channel zero = on-one _ ops (λ x rest. on-some _ (int_of x)
      (λ n. on-choice (is_bad_size n) _ _ (few-panics a PanicKind.ChanSize) tt))

  few-within : (i : ℤ) (l : ℕ) (act : Value → List Change) (m : Option Value) → ((v : Value) → Few (act v))
      → Few (within a i l act m)
  few-within i l act None h = few-panics a (PanicKind.Index i l)
  few-within i l act (Some v) h = h v

  few-gets_element : Few (gets_element a s)
  few-gets_element = on-two _ ops (λ x y rest. on-some _ (int_of y)
      (λ i. on-reference_or _ _ x (few-panics a (PanicKind.Index i 0))
      (λ o. on-slice _ (find o s.objects) (λ xs e. few-within i (length xs) _ (element xs i)
      (λ v. few-goes a (v ∷ rest))))))

  few-sets_element : Few (sets_element a s)
  few-sets_element = on-three _ ops (λ x y v rest. on-some _ (int_of y)
      (λ i. on-reference_or _ _ x (few-panics a (PanicKind.Index i 0))
      (λ o. on-slice _ (find o s.objects) (λ xs e. few-within i (length xs) _ (element xs i) (λ old. tt)))))

  few-measures : Few (measures a s)
  few-measures = on-one _ ops (λ x rest. on-reference_or _ _ x tt
      (λ o. on-some _ (find o s.objects) (λ y. on-some _ (length_of y) (λ n. tt))))

  -- channels
  few-sends_to : (after : FrameView) (o : ℕ) (v : Value) (c : Channel) (m : Option Waiter)
      → find o s.objects ≡ Some (Object.Chan c) → Few (sends_to a after o v c m)
  few-sends_to after o v c None e = on-choice (nat_lt (length c.buffer) c.capacity) _ _ tt
      (few-blocks a after WaitKind.Send (send_wait o v None ∷ []))
  few-sends_to after o v c (Some w) e = tt

  few-sends_on : (after : FrameView) (v : Value) (o : ℕ) → Few (sends_on a after v s o)
  few-sends_on after v o = on-channel _ (find o s.objects)
      (λ c e. on-choice c.closed _ _ (few-panics a PanicKind.SendClosed)
      (few-sends_to after o v c (first o Side.Receive s.goroutines) e))

  few-sends : Few (sends a s)
  few-sends = on-two _ ops (λ c v rest. on-reference_or _ _ c tt (λ o. few-sends_on _ v o))

  few-receives_unbuffered : (after : FrameView) (with_ok : Bool) (o : ℕ) (c : Channel) (m : Option Waiter)
      → Few (receives_unbuffered a after with_ok o c m)
  few-receives_unbuffered after with_ok o c None =
      on-choice c.closed _ _ tt (few-blocks a after WaitKind.Receive (receive_wait o None with_ok ∷ []))
  few-receives_unbuffered after with_ok o c (Some w) = tt

  few-sender_served : (m : Option Waiter) → Few (sender_served m)
  few-sender_served None = tt
  few-sender_served (Some w) = tt

  few-receives_from : (after : FrameView) (with_ok : Bool) (o : ℕ) (c : Channel) (vs : List Value) (m : Option Waiter)
      → find o s.objects ≡ Some (Object.Chan c) → Few (receives_from a after with_ok o c vs m)
  few-receives_from after with_ok o c [] m e = few-receives_unbuffered after with_ok o c m
  few-receives_from after with_ok o c (v ∷ vs) m e = (few-sender_served m)

  few-receives_on : (after : FrameView) (with_ok : Bool) (o : ℕ) → Few (receives_on a after with_ok s o)
  few-receives_on after with_ok o = on-channel _ (find o s.objects)
      (λ c e. few-receives_from after with_ok o c c.buffer (first o Side.Send s.goroutines) e)

  few-receives : (with_ok : Bool) → Few (receives with_ok a s)
  few-receives with_ok = on-one _ ops (λ c rest. on-reference_or _ _ c tt (λ o. few-receives_on _ with_ok o))

  few-closes : Few (closes a s)
  few-closes = on-one _ ops (λ c rest. on-reference_or _ _ c (few-panics a PanicKind.CloseNil)
      (λ o. on-channel _ (find o s.objects) (λ d e. on-choice d.closed _ _ (few-panics a PanicKind.CloseClosed) tt)))

  -- `select`
  few-proceeds_by : (after : FrameView) (kind : CaseKind) (v : Value) (o : ℕ) → Few (proceeds_by a after kind v s o)
  few-proceeds_by after CaseKind.Send v o = few-sends_on after v o
  few-proceeds_by after CaseKind.Take v o = few-receives_on after false o
  few-proceeds_by after CaseKind.TakeOk v o = few-receives_on after true o

  few-selects_none : (rest : List Value) (xs : List Offer) (otherwise : Option ℕ)
      → Few (selects_none a rest xs otherwise)
  few-selects_none rest xs None = few-blocks a (next a.frame rest) (select_kind xs) (offered_waits xs)
  few-selects_none rest xs (Some target) = tt

  few-selects_one : (rest : List Value) (xs : List Offer) (otherwise : Option ℕ) (m : Option Offer)
      → Few (selects_one a rest s xs otherwise m)
  few-selects_one rest xs otherwise None = few-selects_none rest xs otherwise
  few-selects_one rest xs otherwise (Some x) =
      on-reference_or [] _ x.channel tt (λ o. few-proceeds_by _ x.kind x.value o)

  few-selects_from : (choice : ℕ) (otherwise : Option ℕ) (m : Option Taken) → Few (selects_from a s choice otherwise m)
  few-selects_from choice otherwise None = tt
  few-selects_from choice otherwise (Some t) =
      on-choice (all_on_channels s t.0) _ _ (few-selects_one t.1 t.0 otherwise (chosen choice (ready s t.0))) tt

  -- mutexes and wait groups
  -- blocks on what is no condition
  few-blocks_on : (rest : List Value) (kind : WaitKind) (o : ℕ) (side : Side) → Few (blocks_on a rest kind o side)
  few-blocks_on rest kind o side = few-blocks a (next a.frame rest) kind (bare_wait o side ∷ [])

  few-locks_by : (rest : List Value) (o : ℕ) (locked : Bool) → find o s.objects ≡ Some (Object.Mutex locked)
      → Few (locks_by a rest o locked)
  few-locks_by rest o false e = tt
  few-locks_by rest o true e = few-blocks_on rest WaitKind.Lock o Side.Lock

  few-locks : Few (locks a s)
  few-locks = on-one _ ops (λ m rest. on-reference a _ m (λ o. on-mutex _ (find o s.objects) (few-locks_by rest o)))

  quiet-hands_over : (o : ℕ) (m : Option Waiter) → Quiet (hands_over o m)
  quiet-hands_over o None = tt
  quiet-hands_over o (Some w) = tt

  few-unlocks_by : (rest : List Value) (o : ℕ) (locked : Bool) → find o s.objects ≡ Some (Object.Mutex locked)
      → Few (unlocks_by a rest s o locked)
  few-unlocks_by rest o false e = few-dies a PanicKind.UnlockUnlocked
  few-unlocks_by rest o true e = few-quiet (hands_over o (first o Side.Lock s.goroutines))
      (quiet-hands_over o (first o Side.Lock s.goroutines))

  few-unlocks : Few (unlocks a s)
  few-unlocks = on-one _ ops (λ m rest. on-reference a _ m (λ o. on-mutex _ (find o s.objects) (few-unlocks_by rest o)))

  few-counts : (rest : List Value) (o : ℕ) (old n : ℤ) → find o s.objects ≡ Some (Object.Group old)
      → Few (counts a rest o n)
  few-counts rest o old n e = on-choice (int_lt n (pos 0)) _ _ (few-panics a PanicKind.NegativeGroup)
      (on-choice (is_zero n) _ _ tt tt)

  few-adds : Few (adds a s)
  few-adds = on-two _ ops (λ w x rest. on-some _ (int_of x)
      (λ d. on-reference a _ w (λ o. on-group _ (find o s.objects) (λ n e. few-counts rest o n (sum n d) e))))

  few-waits : Few (waits a s)
  few-waits = on-one _ ops (λ w rest. on-reference a _ w
      (λ o. on-group _ (find o s.objects) (λ n e. on-choice (is_zero n) _ _ tt
      (few-blocks_on rest WaitKind.Group o Side.Group))))

  -- reader and writer mutexes
  few-serves_first : (o : ℕ) (k : ℤ) (m n : Option Waiter) → find o s.objects ≡ Some (Object.Rw k)
      → Few (serves_first o s.goroutines m n)
  few-serves_first o k None n e = tt
  few-serves_first o k (Some w) None e = tt
  few-serves_first o k (Some w) (Some r) e = on-choice (nat_lt (waiter_ticket r) (waiter_ticket w)) _ _ tt tt

  few-serves : (o : ℕ) (k : ℤ) → find o s.objects ≡ Some (Object.Rw k) → Few (serves o s.goroutines)
  few-serves o k e = few-serves_first o k (first o Side.Write s.goroutines) (first o Side.Read s.goroutines) e

  few-write_locks : Few (write_locks a s)
  few-write_locks = on-one _ ops (λ m rest. on-reference a _ m
      (λ o. on-rw _ (find o s.objects) (λ n e. on-choice (is_zero n) _ _ tt
      (few-blocks_on rest WaitKind.WriteLock o Side.Write))))

  few-write_unlocks : Few (write_unlocks a s)
  few-write_unlocks = on-one _ ops (λ m rest. on-reference a _ m
      (λ o. on-rw _ (find o s.objects) (λ n e. on-choice (is_minus_one n) _ _ (few-serves o n e)
      (few-dies a PanicKind.UnlockUnlockedRw))))

  few-read_locks : Few (read_locks a s)
  few-read_locks = on-one _ ops (λ m rest. on-reference a _ m (λ o. on-rw _ (find o s.objects)
      (λ n e. on-choice (is_minus_one n || is_some (first o Side.Write s.goroutines)) _ _
      (few-blocks_on rest WaitKind.ReadLock o Side.Read)
      (on-choice (int_le (pos most_readers) n) _ _ (few-dies a PanicKind.ReaderLimit) tt))))

  few-read_leaves : (o : ℕ) (k n : ℤ) → find o s.objects ≡ Some (Object.Rw k) → Few (read_leaves o n s)
  few-read_leaves o k n e = on-choice (is_zero n) _ _ (few-serves o k e) tt

  few-read_unlocks : Few (read_unlocks a s)
  few-read_unlocks = on-one _ ops (λ m rest. on-reference a _ m
      (λ o. on-rw _ (find o s.objects) (λ n e. on-choice (int_lt (pos 0) n) _ _ (few-read_leaves o n (n -ℤ pos 1) e)
      (few-dies a PanicKind.RUnlockUnlocked))))

  -- conditions
  few-makes_condition : Few (makes_condition a s)
  few-makes_condition = on-one _ ops (λ m rest. on-reference_or _ _ m tt
      (λ o. on-mutex _ (find o s.objects) (λ locked e. tt)))

  few-gets_mutex : Few (gets_mutex a s)
  few-gets_mutex = on-one _ ops (λ c rest. on-reference a _ c (λ o. on-condition _ (find o s.objects) (λ m e. tt)))

  -- who waits on a condition waits on one whose mutex is there
  few-awaits_by : (rest : List Value) (o m : ℕ) (locked : Bool) → find o s.objects ≡ Some (Object.Cond (reference m))
      → find m s.objects ≡ Some (Object.Mutex locked) → Few (awaits_by a rest s o m locked)
  few-awaits_by rest o m false c e = few-dies a PanicKind.UnlockUnlocked
  few-awaits_by rest o m true c e = both (hands_over m (first m Side.Lock s.goroutines)) _
      (quiet-hands_over m (first m Side.Lock s.goroutines))
      (few-blocks a (next a.frame rest) WaitKind.Condition (bare_wait o Side.Cond ∷ []))

  -- the mutex of a condition, or nil
  few-awaits_on : (rest : List Value) (o : ℕ) (v : Value) → find o s.objects ≡ Some (Object.Cond v)
      → Few (at_reference a (λ p. at_mutex (awaits_by a rest s o p) (find p s.objects)) v)
  few-awaits_on rest o Value.Nil c = tt
  few-awaits_on rest o (Value.Ref p) c = on-mutex _ (find p.0 s.objects)
      (λ locked e. few-awaits_by rest o p.0 locked c e)
  few-awaits_on rest o _ c = tt

  few-awaits : Few (awaits a s)
  few-awaits = on-one _ ops (λ c rest. on-reference a _ c
      (λ o. on-condition _ (find o s.objects) (λ m e. few-awaits_on rest o m e)))

  few-requeues : (m : ℕ) (ws : List Waiter) → Few (requeues m ws)
  few-requeues m [] = tt
  few-requeues m (w ∷ ws) = few-requeues m ws

  few-notifies : (rest : List Value) (ws : List Waiter) (m : Value) → Few (notifies a rest s ws m)
  few-notifies rest [] m = tt
  few-notifies rest (w ∷ ws) m = on-reference_or [] _ m tt
      (λ p. on-mutex _ (find p s.objects) (λ locked e. few-requeues p (w ∷ ws)))

  few-signals : Few (signals a s)
  few-signals = on-one _ ops (λ c rest. on-reference a _ c
      (λ o. on-condition _ (find o s.objects)
      (λ m e. few-notifies rest (first_only (first o Side.Cond s.goroutines)) m)))

  few-broadcasts : Few (broadcasts a s)
  few-broadcasts = on-one _ ops (λ c rest. on-reference a _ c
      (λ o. on-condition _ (find o s.objects) (λ m e. few-notifies rest (waiters o Side.Cond s.goroutines) m)))

  -- calls and returns
  few-enters : (fs : List FrameView) (f : FrameView) → Few (enters a fs f)
  few-enters fs f = on-choice (is_full fs) _ _ (few-dies a PanicKind.StackOverflow) tt

  few-calls : (f n : ℕ) → Few (calls code a f n)
  few-calls f n = on-operands n _ ops (λ vs rest. on-some _ (call_frame code f vs false)
      (few-enters (next a.frame rest ∷ a.callers)))

  few-spawns : (f n : ℕ) → Few (spawns code a f n)
  few-spawns f n = on-operands n _ ops (λ vs rest. on-some _ (call_frame code f vs true) (λ x. tt))

  quiet-ends : Quiet (ends a)
  quiet-ends = elim (a.number == 0) as (λ b. Quiet
      (choose b (Change.Become 0 (with_frames a []) ∷ []) (Change.Leave a.number ∷ []))) [ true ↦ tt | false ↦ tt ]

  few-returns_to : (v : Option Value) (fs : List FrameView) → Few (returns_to a v fs)
  few-returns_to v [] = both (ends a) _ quiet-ends (on-choice (a.number == 1) _ _ tt tt)
  few-returns_to v (f ∷ fs) = tt

  few-unwinds_to : (x : Fault) (fs : List FrameView) → Few (unwinds_to a x fs)
  few-unwinds_to x [] = both (ends a) _ quiet-ends tt
  few-unwinds_to x (f ∷ fs) = tt

  few-returns_by : (v : Option Value) (rest : List Value) (ds : List Deferred) → Few (returns_by a v rest ds)
  few-returns_by v rest [] = few-returns_to v a.callers
  few-returns_by v rest (d ∷ ds) = tt

  few-begins_deferred : (d : Deferred) (ds : List Deferred) → Few (begins_deferred code a d ds)
  few-begins_deferred d ds = on-some _ (call_frame code d.function d.arguments true)
      (few-enters (record a.frame { deferred = ds } ∷ a.callers))

  pub few-leaves_returning : (v : Option Value) (ds : List Deferred) → Few (leaves_returning code a v ds)
  few-leaves_returning v [] = few-returns_to v a.callers
  few-leaves_returning v (d ∷ ds) = few-begins_deferred d ds

  pub few-leaves_unwinding : (x : Fault) (ds : List Deferred) → Few (leaves_unwinding code a x ds)
  few-leaves_unwinding x [] = few-unwinds_to x a.callers
  few-leaves_unwinding x (d ∷ ds) = few-begins_deferred d ds

  -- finalisers
  few-finalises_by : (rest : List Value) (f o : ℕ) (m : Option ℕ) → Few (finalises_by a rest f o m)
  few-finalises_by rest f o None = tt
  few-finalises_by rest f o (Some old) = few-dies a PanicKind.FinalizerSet

  few-finalises : (f : ℕ) → Few (finalises a f s)
  few-finalises f = on-one _ ops (λ p rest. on-reference a _ p
      (λ o. on-struct _ (find o s.objects) (λ fields e. few-finalises_by rest f o (find o s.finalisers))))

  few-unfinalises : Few (unfinalises a s)
  few-unfinalises = on-one _ ops (λ p rest. on-reference_or _ _ p tt
      (λ o. on-struct _ (find o s.objects) (λ fields e. tt)))

  -- one line for each instruction
  pub few_changes : (i : Instr) (choice : ℕ) → Few (changes code i a choice s)
  few_changes (Instr.Int n) choice = tt
  few_changes (Instr.Bool b) choice = tt
  few_changes (Instr.Text k) choice = tt
  few_changes Instr.Unit choice = tt
  few_changes Instr.Nil choice = tt
  few_changes (Instr.Load i) choice = few-leaves a ops (slice_get a.frame.slots i)
  few_changes (Instr.Store i) choice = few-stores i
  few_changes (Instr.LoadGlobal i) choice = few-leaves a ops (slice_get s.globals i)
  few_changes (Instr.StoreGlobal i) choice = few-stores_global i
  few_changes Instr.Drop choice = on-one _ ops (λ v rest. tt)
  few_changes Instr.Dup choice = on-one _ ops (λ v rest. tt)
  few_changes Instr.Dup2 choice = on-two _ ops (λ x y rest. tt)
  few_changes Instr.Neg choice = on-one _ ops (λ x rest. on-some _ (int_of x) (λ n. tt))
  few_changes Instr.Not choice = on-one _ ops (λ x rest. on-some _ (bool_of x) (λ b. tt))
  few_changes Instr.Add choice = few-computes sum
  few_changes Instr.Sub choice = few-computes difference
  few_changes Instr.Mul choice = few-computes product
  few_changes Instr.Div choice = few-divides quotient
  few_changes Instr.Rem choice = few-divides remainder
  few_changes Instr.Eq choice = on-two _ ops (λ x y rest. on-some _ (equality x y) (λ b. tt))
  few_changes Instr.Less choice = few-compares int_lt
  few_changes Instr.AtMost choice = few-compares int_le
  few_changes (Instr.Jump target) choice = tt
  few_changes (Instr.JumpIfNot target) choice = few-jumps_unless target
  few_changes (Instr.NewStruct t) choice = on-some _ (slice_get code.structs t) (λ row. tt)
  few_changes Instr.NewMutex choice = tt
  few_changes Instr.NewGroup choice = tt
  few_changes Instr.NewRw choice = tt
  few_changes Instr.NewCond choice = few-makes_condition
  few_changes (Instr.Field i) choice = few-gets_field i
  few_changes (Instr.SetField i) choice = few-sets_field i
  few_changes (Instr.NewSlice zero) choice = few-makes_slice zero
  few_changes (Instr.NewChan zero) choice = few-makes_channel zero
  few_changes Instr.Index choice = few-gets_element
  few_changes Instr.SetIndex choice = few-sets_element
  few_changes Instr.Len choice = few-measures
  few_changes Instr.Send choice = few-sends
  few_changes Instr.Receive choice = few-receives false
  few_changes Instr.ReceiveOk choice = few-receives true
  few_changes Instr.Close choice = few-closes
  few_changes (Instr.Select cases otherwise) choice = few-selects_from choice otherwise (offers_of cases ops)
  few_changes Instr.Lock choice = few-locks
  few_changes Instr.Unlock choice = few-unlocks
  few_changes Instr.GroupAdd choice = few-adds
  few_changes Instr.GroupWait choice = few-waits
  few_changes Instr.RwLock choice = few-write_locks
  few_changes Instr.RwUnlock choice = few-write_unlocks
  few_changes Instr.ReadLock choice = few-read_locks
  few_changes Instr.ReadUnlock choice = few-read_unlocks
  few_changes Instr.CondMutex choice = few-gets_mutex
  few_changes Instr.CondWait choice = few-awaits
  few_changes Instr.CondSignal choice = few-signals
  few_changes Instr.CondBroadcast choice = few-broadcasts
  few_changes (Instr.Call f n) choice = few-calls f n
  few_changes (Instr.Go f n) choice = few-spawns f n
  few_changes (Instr.Defer f n) choice = on-operands n _ ops (λ vs rest. tt)
  few_changes Instr.Return choice = few-returns_by None ops a.frame.deferred
  few_changes Instr.ReturnValue choice = on-one _ ops (λ v rest. few-returns_by (Some v) rest a.frame.deferred)
  few_changes (Instr.Print n) choice = on-operands n _ ops
      (λ vs rest. on-some _ (line_bytes code.texts vs) (λ bytes. tt))
  few_changes Instr.Collect choice = tt
  few_changes (Instr.SetFinalizer f) choice = few-finalises f
  few_changes Instr.ClearFinalizer choice = few-unfinalises
  few_changes Instr.Panic choice = on-one _ ops
      (λ x rest. on-some _ (text_of x) (λ k. few-panics a (PanicKind.Custom k)))

-- goroutine 0 begins with the first entry of its queue
few-begins_queued : (code : Code) (r : GoroutineView) (queue : List Queued) → Few (begins_queued code r queue)
few-begins_queued code r [] = tt
few-begins_queued code r (q ∷ queue) = on-some _ (call_frame code q.function (Value.Ref q.object ∷ []) true) (λ x. tt)

module _ (code : Code) (g choice : ℕ) (s : State) where
  few-performs : (r : GoroutineView) (f : FrameView) (fs : List FrameView) (m : Option CodeLine)
      → Few (performs code g r f fs choice s m)
  few-performs r f fs None = tt
  few-performs r f fs (Some l) = few_changes code (acting g r f fs l.line) s l.instr choice

  few-frame : (r : GoroutineView) (f : FrameView) (fs : List FrameView) (leaving : Leaving)
      → Few (frame_changes code g r f fs choice s leaving)
  few-frame r f fs Leaving.No = few-performs r f fs (line_at code f.function f.at)
  few-frame r f fs (Leaving.Returning v) =
      few-leaves_returning code (acting g r f fs (return_line code f)) s v f.deferred
  few-frame r f fs (Leaving.Unwinding x) = few-leaves_unwinding code (acting g r f fs x.line) s x f.deferred

  few-idle : (b : Bool) (cs : List Change) → Few cs → Few (cond b cs [])
  few-idle true cs h = h
  few-idle false cs h = tt

  few-goroutine : (r : GoroutineView) (fs : List FrameView) → Few (goroutine_changes code g r choice s fs)
  few-goroutine r [] = few-idle (g == 0) (begins_queued code r s.queue) (few-begins_queued code r s.queue)
  few-goroutine r (f ∷ fs) = few-frame r f fs f.leaving

  few-turn_of : (m : Option GoroutineView) → Few (turn_of code g choice s m)
  few-turn_of None = tt
  few-turn_of (Some r) = few-goroutine r r.frames

-- a turn starts one goroutine at most
few_turn : (code : Code) (s : State) (choice : ℕ) (m : Option ℕ) → Few (turn_changes code choice s m)
few_turn code s choice None = tt
few_turn code s choice (Some g) = few-turn_of code g choice s (find g s.goroutines)

quiet-clears_in : (code : Code) (g : ℕ) (r : GoroutineView) (m : Mode) (fs : List FrameView)
    → Quiet (clears_in code g r m fs)
quiet-clears_in code g r Mode.Running [] = tt
quiet-clears_in code g r Mode.Running (f ∷ fs) = tt
quiet-clears_in code g r (Mode.Blocked kind line waits ticket) fs = tt

quiet-clears : (code : Code) (g : ℕ) (m : Option GoroutineView) → Quiet (clears code g m)
quiet-clears code g None = tt
quiet-clears code g (Some r) = quiet-clears_in code g r r.mode r.frames

quiet-clearing : (code : Code) (b : Bool) (m : Option ℕ) (s : State) → Quiet (clearing code b m s)
quiet-clearing code true m s = tt
quiet-clearing code false None s = tt
quiet-clearing code false (Some g) s = quiet-clears code g (find g s.goroutines)

-- ---- how many goroutines there are

length-put : {X : Type 0} (k : ℕ) (v : X) (es : List (ℕ × X)) → length (put k v es) ≡ length es
length-put k v [] = refl
length-put k v (e ∷ es) = ap suc (length-put k v es)

length-only : {X : Type 0} (p : ℕ → Bool) (es : List (ℕ × X)) → length (only p es) ≤ length es
length-only p [] = omega arith
length-only p (e ∷ es) =
    let rest : length (only p es) ≤ length es = length-only p es in
    elim (p e.0) as (λ (b : Bool). length (cond b (e ∷ only p es) (only p es)) ≤ length (e ∷ es)) [
      | true ↦
          omega arith
      | false ↦ omega arith
    ]

length-values : {X Y : Type 0} (f : ℕ → X → Y) (es : List (ℕ × X)) → length (map_values f es) ≡ length es
length-values f [] = refl
length-values f (e ∷ es) = ap suc (length-values f es)

requeue-by : (b : Bool) (g m : ℕ) (r : GoroutineView) (s : State)
    → length (requeue_by b g m r s).goroutines ≤ length s.goroutines
requeue-by false g m r s = omega (arith, length-put g (released r) s.goroutines)
requeue-by true g m r s = omega (arith, length-put g (record r { mode = moved m s.next_ticket r.mode }) s.goroutines)

requeue-at : (g m : ℕ) (o : Option GoroutineView) (x : Option Object) (s : State)
    → length (requeue g m o x s).goroutines ≤ length s.goroutines
requeue-at g m (Some r) (Some (Object.Mutex locked)) s = requeue-by locked g m r s
requeue-at g m None x s = omega arith
requeue-at g m (Some r) None s = omega arith
requeue-at g m (Some r) (Some (Object.Struct fields)) s = omega arith
requeue-at g m (Some r) (Some (Object.Slice elements)) s = omega arith
requeue-at g m (Some r) (Some (Object.Chan c)) s = omega arith
requeue-at g m (Some r) (Some (Object.Group n)) s = omega arith
requeue-at g m (Some r) (Some (Object.Rw n)) s = omega arith
requeue-at g m (Some r) (Some (Object.Cond v)) s = omega arith

abbrev size : State → ℕ
size s = length s.goroutines

steady : (c : Change) (s : State) → starts_one c ≡ false → size (apply c s) ≤ size s
steady (Change.Spawn r) s h = cc
steady (Change.Become g r) s h = omega (arith, length-put g r s.goroutines)
steady (Change.Block g kind line waits r) s h =
    omega (arith, length-put g (record r { mode = Mode.Blocked kind line waits s.next_ticket }) s.goroutines)
steady (Change.Leave g) s h = length-only (λ h. not (h == g)) s.goroutines
steady (Change.WakeAll o how) s h = omega (arith, length-values (λ (g : ℕ). woken_by how o) s.goroutines)
steady (Change.Requeue g m) s h = requeue-at g m (find g s.goroutines) (find m s.objects) s
steady _ s h = omega arith

grown : (c : Change) (s : State) → starts_one c ≡ true → size (apply c s) ≤ size s + 1
grown (Change.Spawn r) s h = omega (arith, length-append s.goroutines ((s.next_goroutine, r) ∷ []))
grown _ s h = cc

quiet-size : (cs : List Change) (s : State) → Quiet cs → size (apply_all cs s) ≤ size s
quiet-size [] s q = omega arith
quiet-size (c ∷ cs) s q = elim (starts_one c) as (λ b. starts_one c ≡ b → Quiet_by b (Quiet cs)
    → size (apply_all cs (apply c s)) ≤ size s) [
      | true ↦ λ e h. absurd h
      | false ↦ λ e h. let a = steady c s e in let b = quiet-size cs (apply c s) h in omega arith
    ] refl q

few-size : (cs : List Change) (s : State) → Few cs → size (apply_all cs s) ≤ size s + 1
few-size [] s q = omega arith
few-size (c ∷ cs) s q = elim (starts_one c) as (λ b. starts_one c ≡ b → Few_by b (Quiet cs) (Few cs)
    → size (apply_all cs (apply c s)) ≤ size s + 1) [
      | true ↦ λ e h. let a = grown c s e in let b = quiet-size cs (apply c s) h in omega arith
      | false ↦ λ e h. let a = steady c s e in let b = few-size cs (apply c s) h in omega arith
    ] refl q

length-keys_where : {X : Type 0} (p : ℕ → X → Bool) (es : List (ℕ × X)) → length (keys_where p es) ≤ length es
length-keys_where p [] = omega arith
length-keys_where p (e ∷ es) =
    let rest : length (keys_where p es) ≤ length es = length-keys_where p es in
    elim (p e.0 e.1) as (λ (b : Bool). length (cond b (e.0 ∷ keys_where p es) (keys_where p es)) ≤ length
    (e ∷ es)) [ true ↦ omega arith | false ↦ omega arith ]

pub runnable-size : (s : State) → length (runnable s) ≤ length s.goroutines
runnable-size s = length-keys_where (can_run s.queue) s.goroutines

-- a turn adds one goroutine at most, and a collection none
pub step-size : (code : Code) (s : State) (c : ℕ) → length (step code s c).goroutines ≤ length s.goroutines + 1
step-size code s c =
    let a = few-size (turn_changes code (c / length (runnable s)) s (whose_turn s c)) s
    (few_turn code s (c / length (runnable s)) (whose_turn s c)) in
    let b = quiet-size (cleared_after code s c) (turned code s c)
    (quiet-clearing code (clears_nothing code s c) (whose_turn s c) (turned code s c)) in
    omega arith

pub collect-size : (s : State) (recover sets_finalisers : Bool)
    → length (real_collect s recover sets_finalisers).goroutines ≤ length s.goroutines
collect-size s recover sets_finalisers =
    length-only (λ g. not (is_in g (removed s recover sets_finalisers))) s.goroutines
