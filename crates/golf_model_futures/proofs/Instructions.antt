-- Each instruction, and each turn, keeps goroutines in order.
-- For: `order_is_kept`, src/lib.rt; `turn_changes`, golf_model/specs/Turn.antt
-- By: cases of the instruction; induction over the lists of offers and of waiters
use Rattle.std.proofs.Common.{◌≡◌, ℕ, ◌/◌, Bool, true, false, cond, List, [], ◌∷◌, ◌++◌, length, Option, Some, None}
use Rattle.std.proofs.Common.{refl, sym, ap, subst, ℤ, slice_get, ◌==◌, nat_lt}
use Rattle.std.specs.Prelude.{pos, slice_set, unsigned_abs, ◌||◌, ◌-ℤ◌, is_some, int_lt, int_le}
use Rattle.std.proofs.lemmas.Bool.{eqb-false}
use Rattle.golf_theory.specs.Membership.{Every}
use Rattle.golf_theory.specs.Maps.{Entry, IsRising, find}
use Rattle.golf_theory.proofs.Lists.{Every-append}
use Rattle.golf_theory.proofs.MapEntries.{Entry-find}
use Rattle.golf_theory.proofs.MapFinds.{Entry-one}
use Rattle.golf_data.specs.declared.value.Value.{Value}
use Rattle.golf_data.specs.declared.value.Object.{Object}
use Rattle.golf_data.specs.declared.value.Channel.{Channel}
use Rattle.golf_data.specs.declared.code.Code.{Code}
use Rattle.golf_data.specs.declared.code.Instr.{Instr}
use Rattle.golf_data.specs.declared.code.CodeLine.{CodeLine}
use Rattle.golf_data.specs.declared.code.CaseKind.{CaseKind}
use Rattle.golf_data.specs.declared.goroutine.Deferred.{Deferred}
use Rattle.golf_data.specs.declared.goroutine.Fault.{Fault}
use Rattle.golf_data.specs.declared.goroutine.Leaving.{Leaving}
use Rattle.golf_data.specs.declared.goroutine.PanicKind.{PanicKind}
use Rattle.golf_data.specs.declared.goroutine.Queued.{Queued}
use Rattle.golf_data.specs.declared.goroutine.Side.{Side}
use Rattle.golf_data.specs.declared.goroutine.WaitKind.{WaitKind}
use Rattle.golf_data.specs.declared.goroutine.Mode.{Mode}
use Rattle.golf_model.specs.Views.{FrameView, GoroutineView}
use Rattle.golf_model.specs.Values.{reference, int_of, bool_of, text_of, equality, is_zero, is_minus_one, line_bytes}
use Rattle.golf_model.specs.State.{State, is_running, runnable, call_frame}
use Rattle.golf_model.specs.Waiters.{Waiter, waiter_ticket, first, waiters, bare_wait, send_wait, receive_wait}
use Rattle.golf_model.specs.Changes.{Change}
use Rattle.golf_model.specs.Actors.{Actor, with_frames, next, choose, at_reference, at_mutex}
use Rattle.golf_model.specs.Arithmetic.{stores, stores_global, computes, divides, compares, jumps_unless, sum}
use Rattle.golf_model.specs.Arithmetic.{difference, product, quotient, remainder}
use Rattle.golf_model.specs.Structures.{gets_field, sets_field, is_bad_size, makes_slice, makes_channel, within}
use Rattle.golf_model.specs.Structures.{element, gets_element, sets_element, length_of, measures}
use Rattle.golf_model.specs.Channels.{sends_to, sends_on, sends, sent_by, sender_served, receives_unbuffered}
use Rattle.golf_model.specs.Channels.{receives_from, receives_on, receives, closes}
use Rattle.golf_model.specs.Selects.{Offer, Taken, offers_of, all_on_channels, ready, proceeds_by, wait_of}
use Rattle.golf_model.specs.Selects.{case_waits, offered_waits, select_kind, selects_none, selects_one, chosen}
use Rattle.golf_model.specs.Selects.{selects_from}
use Rattle.golf_model.specs.Mutexes.{blocks_on, locks_by, locks, hands_over, unlocks_by, unlocks, counts, adds, waits}
use Rattle.golf_model.specs.ReadersWriters.{counted, serves_first, serves, write_locks, write_unlocks, most_readers}
use Rattle.golf_model.specs.ReadersWriters.{read_locks, read_leaves, read_unlocks}
use Rattle.golf_model.specs.Conditions.{makes_condition, gets_mutex, awaits_by, awaits, requeues, first_only, notifies}
use Rattle.golf_model.specs.Conditions.{signals, broadcasts}
use Rattle.golf_model.specs.Calls.{is_full, enters, calls, spawns, ends, returns_to, unwinds_to, returns_by}
use Rattle.golf_model.specs.Calls.{begins_deferred, leaves_returning, leaves_unwinding}
use Rattle.golf_model.specs.Finalisers.{finalises_by, finalises, unfinalises, begins_queued}
use Rattle.golf_model.specs.ClearedSlots.{clears_in, clears, clearing}
use Rattle.golf_model.specs.Turn.{changes, line_at, return_line, acting, performs, frame_changes, goroutine_changes}
use Rattle.golf_model.specs.Turn.{turn_of, turn_changes, whose_turn}
use Rattle.golf_model_futures.proofs.Staying.{turn-running}
use Rattle.golf_model_futures.specs.Orderly.{HasMutex, KeepsOrder, AllKeepOrder}
use Rattle.golf_model_futures.proofs.Ways.{on-some, on-choice, on-one, on-two, on-three, on-operands, on-ints}
use Rattle.golf_model_futures.proofs.Ways.{on-reference_or, on-struct, on-slice, on-channel, on-mutex, on-group, on-rw}
use Rattle.golf_model_futures.proofs.Ways.{on-condition, keep-goes, keep-jumps, keep-leaves, keep-panics, keep-dies}
use Rattle.golf_model_futures.proofs.Ways.{keep-blocks, on-reference}

both : (xs : List (ℕ × Object)) (cs ds : List Change) → AllKeepOrder xs cs → AllKeepOrder xs ds
    → AllKeepOrder xs (cs ++ ds)
both xs cs ds p q = Every-append (KeepsOrder xs) cs ds p q

module _ (code : Code) (a : Actor) (s : State) where
  abbrev ops : List Value
  ops = a.frame.operands

  -- variables and arithmetic
  keep-stores : (i : ℕ) → AllKeepOrder s.objects (stores a i)
  keep-stores i = on-one s.objects _ ops (λ v rest. on-some s.objects _ (slice_get a.frame.slots i) (λ old. (refl, tt)))

  keep-stores_global : (i : ℕ) → AllKeepOrder s.objects (stores_global a i s)
  keep-stores_global i = on-one s.objects _ ops
      (λ v rest. on-some s.objects _ (slice_get s.globals i) (λ old. (tt, keep-goes s.objects a rest)))

  keep-computes : (op : ℤ → ℤ → ℤ) → AllKeepOrder s.objects (computes op a)
  keep-computes op = on-ints s.objects _ ops (λ m n rest. (refl, tt))

  keep-divides : (op : ℤ → ℤ → ℤ) → AllKeepOrder s.objects (divides op a)
  keep-divides op = on-ints s.objects _ ops
      (λ m n rest. on-choice s.objects (is_zero n) _ _ (keep-panics s.objects a PanicKind.DivideByZero)
      (keep-goes s.objects a (Value.Int (op m n) ∷ rest)))

  keep-compares : (test : ℤ → ℤ → Bool) → AllKeepOrder s.objects (compares test a)
  keep-compares test = on-ints s.objects _ ops (λ m n rest. (refl, tt))

  keep-jumps_unless : (target : ℕ) → AllKeepOrder s.objects (jumps_unless a target)
  keep-jumps_unless target = on-one s.objects _ ops
      (λ x rest. on-some s.objects _ (bool_of x)
      (λ b. on-choice s.objects b _ _ (keep-goes s.objects a rest) (keep-jumps s.objects a target rest)))

  -- structs, slices and new objects
  keep-gets_field : (i : ℕ) → AllKeepOrder s.objects (gets_field a i s)
  keep-gets_field i = on-one s.objects _ ops
      (λ p rest. on-reference s.objects a _ p
      (λ o. on-struct s.objects _ (find o s.objects) (λ fields e. keep-leaves s.objects a rest (slice_get fields i))))

  keep-sets_field : (i : ℕ) → AllKeepOrder s.objects (sets_field a i s)
  keep-sets_field i = on-two s.objects _ ops
      (λ p v rest. on-reference s.objects a _ p
      (λ o. on-struct s.objects _ (find o s.objects)
      (λ fields e. on-some s.objects _ (slice_get fields i)
      (λ old. ((Object.Struct fields, e, (slice_set fields i v, refl)), (refl, tt))))))

  keep-makes_slice : (zero : Value) → AllKeepOrder s.objects (makes_slice a zero s)
  keep-makes_slice zero = on-one s.objects _ ops
      (λ x rest. on-some s.objects _ (int_of x)
      (λ n. on-choice s.objects (is_bad_size n) _ _ (keep-panics s.objects a PanicKind.SliceSize) (tt, (refl, tt))))

  keep-makes_channel : (zero : Value) → AllKeepOrder s.objects (makes_channel a zero s)
  keep-makes_channel zero = on-one s.objects _ ops
      (λ x rest. on-some s.objects _ (int_of x)
      (λ n. on-choice s.objects (is_bad_size n) _ _ (keep-panics s.objects a PanicKind.ChanSize) (tt, (refl, tt))))

  keep-within : (i : ℤ) (l : ℕ) (act : Value → List Change) (m : Option Value)
      → ((v : Value) → AllKeepOrder s.objects (act v)) → AllKeepOrder s.objects (within a i l act m)
  keep-within i l act None h = keep-panics s.objects a (PanicKind.Index i l)
  keep-within i l act (Some v) h = h v

  keep-gets_element : AllKeepOrder s.objects (gets_element a s)
  keep-gets_element = on-two s.objects _ ops
      (λ x y rest. on-some s.objects _ (int_of y)
      (λ i. on-reference_or s.objects _ _ x (keep-panics s.objects a (PanicKind.Index i 0))
      (λ o. on-slice s.objects _ (find o s.objects)
      (λ xs e. keep-within i (length xs) _ (element xs i) (λ v. keep-goes s.objects a (v ∷ rest))))))

  keep-sets_element : AllKeepOrder s.objects (sets_element a s)
  keep-sets_element = on-three s.objects _ ops
      (λ x y v rest. on-some s.objects _ (int_of y)
      (λ i. on-reference_or s.objects _ _ x (keep-panics s.objects a (PanicKind.Index i 0))
      (λ o. on-slice s.objects _ (find o s.objects)
      (λ xs e. keep-within i (length xs) _ (element xs i)
      (λ old. ((Object.Slice xs, e, (slice_set xs (unsigned_abs i) v, refl)), (refl, tt)))))))

  keep-measures : AllKeepOrder s.objects (measures a s)
  keep-measures = on-one s.objects _ ops (λ x rest. on-reference_or s.objects _ _ x (refl, tt)
      (λ o. on-some s.objects _ (find o s.objects) (λ y. on-some s.objects _ (length_of y) (λ n. (refl, tt)))))

  -- channels
  channel-stays : (o : ℕ) (c d : Channel) → find o s.objects ≡ Some (Object.Chan c)
      → KeepsOrder s.objects (Change.Replace o (Object.Chan d))
  channel-stays o c d e = (Object.Chan c, e, (d, refl))

  keep-sends_to : (after : FrameView) (o : ℕ) (v : Value) (c : Channel) (m : Option Waiter)
      → find o s.objects ≡ Some (Object.Chan c) → AllKeepOrder s.objects (sends_to a after o v c m)
  keep-sends_to after o v c None e = on-choice s.objects (nat_lt (length c.buffer) c.capacity) _ _
      (channel-stays o c (record c { buffer = c.buffer ++ v ∷ [] }) e, (refl, tt))
      (keep-blocks s.objects a after WaitKind.Send (send_wait o v None ∷ []) ((λ q. cc), tt))
  keep-sends_to after o v c (Some w) e = (refl, (refl, tt))

  keep-sends_on : (after : FrameView) (v : Value) (o : ℕ) → AllKeepOrder s.objects (sends_on a after v s o)
  keep-sends_on after v o = on-channel s.objects _ (find o s.objects)
      (λ c e. on-choice s.objects c.closed _ _ (keep-panics s.objects a PanicKind.SendClosed)
      (keep-sends_to after o v c (first o Side.Receive s.goroutines) e))

  keep-sends : AllKeepOrder s.objects (sends a s)
  keep-sends = on-two s.objects _ ops (λ c v rest. on-reference_or s.objects _ _ c ((refl, tt), tt)
      (λ o. keep-sends_on _ v o))

  keep-receives_unbuffered : (after : FrameView) (with_ok : Bool) (o : ℕ) (c : Channel) (m : Option Waiter)
      → AllKeepOrder s.objects (receives_unbuffered a after with_ok o c m)
  keep-receives_unbuffered after with_ok o c None =
      on-choice s.objects c.closed _ _ (refl, tt)
      (keep-blocks s.objects a after WaitKind.Receive (receive_wait o None with_ok ∷ []) ((λ q. cc), tt))
  keep-receives_unbuffered after with_ok o c (Some w) = (refl, (refl, tt))

  keep-sender_served : (m : Option Waiter) → AllKeepOrder s.objects (sender_served m)
  keep-sender_served None = tt
  keep-sender_served (Some w) = (refl, tt)

  keep-receives_from : (after : FrameView) (with_ok : Bool) (o : ℕ) (c : Channel) (vs : List Value) (m : Option Waiter)
      → find o s.objects ≡ Some (Object.Chan c) → AllKeepOrder s.objects (receives_from a after with_ok o c vs m)
  keep-receives_from after with_ok o c [] m e = keep-receives_unbuffered after with_ok o c m
  keep-receives_from after with_ok o c (v ∷ vs) m e =
      (channel-stays o c (record c { buffer = vs ++ sent_by m }) e, (refl, keep-sender_served m))

  keep-receives_on : (after : FrameView) (with_ok : Bool) (o : ℕ)
      → AllKeepOrder s.objects (receives_on a after with_ok s o)
  keep-receives_on after with_ok o = on-channel s.objects _ (find o s.objects)
      (λ c e. keep-receives_from after with_ok o c c.buffer (first o Side.Send s.goroutines) e)

  keep-receives : (with_ok : Bool) → AllKeepOrder s.objects (receives with_ok a s)
  keep-receives with_ok = on-one s.objects _ ops
      (λ c rest. on-reference_or s.objects _ _ c ((refl, tt), tt) (λ o. keep-receives_on _ with_ok o))

  keep-closes : AllKeepOrder s.objects (closes a s)
  keep-closes = on-one s.objects _ ops (λ c rest. on-reference_or s.objects _ _ c
      (keep-panics s.objects a PanicKind.CloseNil)
      (λ o. on-channel s.objects _ (find o s.objects)
      (λ d e. on-choice s.objects d.closed _ _ (keep-panics s.objects a PanicKind.CloseClosed)
      (channel-stays o d (record d { closed = true }) e, (refl, (tt, tt))))))

  -- `select`
  keep-proceeds_by : (after : FrameView) (kind : CaseKind) (v : Value) (o : ℕ)
      → AllKeepOrder s.objects (proceeds_by a after kind v s o)
  keep-proceeds_by after CaseKind.Send v o = keep-sends_on after v o
  keep-proceeds_by after CaseKind.Take v o = keep-receives_on after false o
  keep-proceeds_by after CaseKind.TakeOk v o = keep-receives_on after true o

  -- no case waits on a condition
  no-condition : (x : Offer) (kind : CaseKind) (o : ℕ) → HasMutex s.objects (wait_of x kind o)
  no-condition x CaseKind.Send o = λ e. cc
  no-condition x CaseKind.Take o = λ e. cc
  no-condition x CaseKind.TakeOk o = λ e. cc

  no-condition_at : (x : Offer) (v : Value) → Every (HasMutex s.objects) (case_waits x v)
  no-condition_at x (Value.Ref o) = (no-condition x x.kind o.0, tt)
  no-condition_at x _ = tt

  no-conditions : (xs : List Offer) → Every (HasMutex s.objects) (offered_waits xs)
  no-conditions [] = tt
  no-conditions (x ∷ xs) = Every-append (HasMutex s.objects) (case_waits x x.channel) (offered_waits xs)
      (no-condition_at x x.channel) (no-conditions xs)

  keep-selects_none : (rest : List Value) (xs : List Offer) (otherwise : Option ℕ)
      → AllKeepOrder s.objects (selects_none a rest xs otherwise)
  keep-selects_none rest xs None = keep-blocks s.objects a (next a.frame rest) (select_kind xs) (offered_waits xs)
      (no-conditions xs)
  keep-selects_none rest xs (Some target) = (refl, tt)

  keep-selects_one : (rest : List Value) (xs : List Offer) (otherwise : Option ℕ) (m : Option Offer)
      → AllKeepOrder s.objects (selects_one a rest s xs otherwise m)
  keep-selects_one rest xs otherwise None = keep-selects_none rest xs otherwise
  keep-selects_one rest xs otherwise (Some x) =
      on-reference_or s.objects [] _ x.channel tt (λ o. keep-proceeds_by _ x.kind x.value o)

  keep-selects_from : (choice : ℕ) (otherwise : Option ℕ) (m : Option Taken)
      → AllKeepOrder s.objects (selects_from a s choice otherwise m)
  keep-selects_from choice otherwise None = tt
  keep-selects_from choice otherwise (Some t) =
      on-choice s.objects (all_on_channels s t.0) _ _
      (keep-selects_one t.1 t.0 otherwise (chosen choice (ready s t.0))) tt

  -- mutexes and wait groups
  mutex-stays : (o : ℕ) (b d : Bool) → find o s.objects ≡ Some (Object.Mutex b)
      → KeepsOrder s.objects (Change.Replace o (Object.Mutex d))
  mutex-stays o b d e = (Object.Mutex b, e, (d, refl))

  -- blocks on what is no condition
  keep-blocks_on : (rest : List Value) (kind : WaitKind) (o : ℕ) (side : Side) → (side ≡ Side.Cond → ⊥)
      → AllKeepOrder s.objects (blocks_on a rest kind o side)
  keep-blocks_on rest kind o side n = keep-blocks s.objects a (next a.frame rest) kind (bare_wait o side ∷ [])
      ((λ e. absurd (n e)), tt)

  keep-locks_by : (rest : List Value) (o : ℕ) (locked : Bool) → find o s.objects ≡ Some (Object.Mutex locked)
      → AllKeepOrder s.objects (locks_by a rest o locked)
  keep-locks_by rest o false e = (mutex-stays o false true e, (refl, tt))
  keep-locks_by rest o true e = keep-blocks_on rest WaitKind.Lock o Side.Lock (λ q. cc)

  keep-locks : AllKeepOrder s.objects (locks a s)
  keep-locks = on-one s.objects _ ops (λ m rest. on-reference s.objects a _ m
      (λ o. on-mutex s.objects _ (find o s.objects) (keep-locks_by rest o)))

  keep-hands_over : (o : ℕ) (m : Option Waiter) → find o s.objects ≡ Some (Object.Mutex true)
      → AllKeepOrder s.objects (hands_over o m)
  keep-hands_over o None e = (mutex-stays o true false e, tt)
  keep-hands_over o (Some w) e = (refl, tt)

  keep-unlocks_by : (rest : List Value) (o : ℕ) (locked : Bool) → find o s.objects ≡ Some (Object.Mutex locked)
      → AllKeepOrder s.objects (unlocks_by a rest s o locked)
  keep-unlocks_by rest o false e = keep-dies s.objects a PanicKind.UnlockUnlocked
  keep-unlocks_by rest o true e = (refl, keep-hands_over o (first o Side.Lock s.goroutines) e)

  keep-unlocks : AllKeepOrder s.objects (unlocks a s)
  keep-unlocks = on-one s.objects _ ops (λ m rest. on-reference s.objects a _ m
      (λ o. on-mutex s.objects _ (find o s.objects) (keep-unlocks_by rest o)))

  keep-counts : (rest : List Value) (o : ℕ) (old n : ℤ) → find o s.objects ≡ Some (Object.Group old)
      → AllKeepOrder s.objects (counts a rest o n)
  keep-counts rest o old n e = on-choice s.objects (int_lt n (pos 0)) _ _
      (keep-panics s.objects a PanicKind.NegativeGroup)
      ((Object.Group old, e, (n, refl)), (refl, on-choice s.objects (is_zero n) _ _ (tt, tt) tt))

  keep-adds : AllKeepOrder s.objects (adds a s)
  keep-adds = on-two s.objects _ ops (λ w x rest. on-some s.objects _ (int_of x)
      (λ d. on-reference s.objects a _ w (λ o. on-group s.objects _ (find o s.objects)
      (λ n e. keep-counts rest o n (sum n d) e))))

  keep-waits : AllKeepOrder s.objects (waits a s)
  keep-waits = on-one s.objects _ ops (λ w rest. on-reference s.objects a _ w
      (λ o. on-group s.objects _ (find o s.objects)
      (λ n e. on-choice s.objects (is_zero n) _ _ (refl, tt)
      (keep-blocks_on rest WaitKind.Group o Side.Group (λ q. cc)))))

  -- reader and writer mutexes
  count-stays : (o : ℕ) (k n : ℤ) → find o s.objects ≡ Some (Object.Rw k) → KeepsOrder s.objects (counted o n)
  count-stays o k n e = (Object.Rw k, e, (n, refl))

  keep-serves_first : (o : ℕ) (k : ℤ) (m n : Option Waiter) → find o s.objects ≡ Some (Object.Rw k)
      → AllKeepOrder s.objects (serves_first o s.goroutines m n)
  keep-serves_first o k None n e = (count-stays o k _ e, (tt, tt))
  keep-serves_first o k (Some w) None e = (count-stays o k _ e, (refl, tt))
  keep-serves_first o k (Some w) (Some r) e =
      on-choice s.objects (nat_lt (waiter_ticket r) (waiter_ticket w)) _ _ (count-stays o k _ e, (tt, tt))
      (count-stays o k _ e, (refl, tt))

  keep-serves : (o : ℕ) (k : ℤ) → find o s.objects ≡ Some (Object.Rw k) → AllKeepOrder s.objects (serves o s.goroutines)
  keep-serves o k e = keep-serves_first o k (first o Side.Write s.goroutines) (first o Side.Read s.goroutines) e

  keep-write_locks : AllKeepOrder s.objects (write_locks a s)
  keep-write_locks = on-one s.objects _ ops
      (λ m rest. on-reference s.objects a _ m
      (λ o. on-rw s.objects _ (find o s.objects)
      (λ n e. on-choice s.objects (is_zero n) _ _ (count-stays o n _ e, (refl, tt))
      (keep-blocks_on rest WaitKind.WriteLock o Side.Write (λ q. cc)))))

  keep-write_unlocks : AllKeepOrder s.objects (write_unlocks a s)
  keep-write_unlocks = on-one s.objects _ ops
      (λ m rest. on-reference s.objects a _ m
      (λ o. on-rw s.objects _ (find o s.objects)
      (λ n e. on-choice s.objects (is_minus_one n) _ _ (refl, keep-serves o n e)
      (keep-dies s.objects a PanicKind.UnlockUnlockedRw))))

  keep-read_locks : AllKeepOrder s.objects (read_locks a s)
  keep-read_locks = on-one s.objects _ ops
      (λ m rest. on-reference s.objects a _ m (λ o. on-rw s.objects _ (find o s.objects)
      (λ n e. on-choice s.objects (is_minus_one n || is_some (first o Side.Write s.goroutines)) _ _
      (keep-blocks_on rest WaitKind.ReadLock o Side.Read (λ q. cc))
      (on-choice s.objects (int_le (pos most_readers) n) _ _ (keep-dies s.objects a PanicKind.ReaderLimit)
      (count-stays o n _ e, (refl, tt))))))

  keep-read_leaves : (o : ℕ) (k n : ℤ) → find o s.objects ≡ Some (Object.Rw k)
      → AllKeepOrder s.objects (read_leaves o n s)
  keep-read_leaves o k n e = on-choice s.objects (is_zero n) _ _ (keep-serves o k e) (count-stays o k n e, tt)

  keep-read_unlocks : AllKeepOrder s.objects (read_unlocks a s)
  keep-read_unlocks = on-one s.objects _ ops
      (λ m rest. on-reference s.objects a _ m
      (λ o. on-rw s.objects _ (find o s.objects)
      (λ n e. on-choice s.objects (int_lt (pos 0) n) _ _ (refl, keep-read_leaves o n (n -ℤ pos 1) e)
      (keep-dies s.objects a PanicKind.RUnlockUnlocked))))

  -- conditions
  keep-makes_condition : AllKeepOrder s.objects (makes_condition a s)
  keep-makes_condition = on-one s.objects _ ops
      (λ m rest. on-reference_or s.objects _ _ m (tt, (refl, tt))
      (λ o. on-mutex s.objects _ (find o s.objects) (λ locked e. (tt, (refl, tt)))))

  keep-gets_mutex : AllKeepOrder s.objects (gets_mutex a s)
  keep-gets_mutex = on-one s.objects _ ops
      (λ c rest. on-reference s.objects a _ c (λ o. on-condition s.objects _ (find o s.objects) (λ m e. (refl, tt))))

  -- who waits on a condition waits on one whose mutex is there
  keep-awaits_by : (rest : List Value) (o m : ℕ) (locked : Bool) → find o s.objects ≡ Some (Object.Cond (reference m))
      → find m s.objects ≡ Some (Object.Mutex locked) → AllKeepOrder s.objects (awaits_by a rest s o m locked)
  keep-awaits_by rest o m false c e = keep-dies s.objects a PanicKind.UnlockUnlocked
  keep-awaits_by rest o m true c e = both s.objects (hands_over m (first m Side.Lock s.goroutines)) _
      (keep-hands_over m (first m Side.Lock s.goroutines) e)
      (keep-blocks s.objects a (next a.frame rest) WaitKind.Condition (bare_wait o Side.Cond ∷ [])
      ((λ q. (m, true, c, e)), tt))

  -- the mutex of a condition, or nil
  keep-awaits_on : (rest : List Value) (o : ℕ) (v : Value) → find o s.objects ≡ Some (Object.Cond v)
      → AllKeepOrder s.objects (at_reference a (λ p. at_mutex (awaits_by a rest s o p) (find p s.objects)) v)
  keep-awaits_on rest o Value.Nil c = (refl, tt)
  keep-awaits_on rest o (Value.Ref p) c =
      on-mutex s.objects _ (find p.0 s.objects) (λ locked e. keep-awaits_by rest o p.0 locked c e)
  keep-awaits_on rest o _ c = tt

  keep-awaits : AllKeepOrder s.objects (awaits a s)
  keep-awaits = on-one s.objects _ ops (λ c rest. on-reference s.objects a _ c
      (λ o. on-condition s.objects _ (find o s.objects) (λ m e. keep-awaits_on rest o m e)))

  keep-requeues : (m : ℕ) (ws : List Waiter) → AllKeepOrder s.objects (requeues m ws)
  keep-requeues m [] = tt
  keep-requeues m (w ∷ ws) = (tt, keep-requeues m ws)

  keep-notifies : (rest : List Value) (ws : List Waiter) (m : Value) → AllKeepOrder s.objects (notifies a rest s ws m)
  keep-notifies rest [] m = (refl, tt)
  keep-notifies rest (w ∷ ws) m = on-reference_or s.objects [] _ m tt
      (λ p. on-mutex s.objects _ (find p s.objects) (λ locked e. (refl, keep-requeues p (w ∷ ws))))

  keep-signals : AllKeepOrder s.objects (signals a s)
  keep-signals = on-one s.objects _ ops (λ c rest. on-reference s.objects a _ c
      (λ o. on-condition s.objects _ (find o s.objects)
      (λ m e. keep-notifies rest (first_only (first o Side.Cond s.goroutines)) m)))

  keep-broadcasts : AllKeepOrder s.objects (broadcasts a s)
  keep-broadcasts = on-one s.objects _ ops
      (λ c rest. on-reference s.objects a _ c
      (λ o. on-condition s.objects _ (find o s.objects)
      (λ m e. keep-notifies rest (waiters o Side.Cond s.goroutines) m)))

  -- calls and returns
  keep-enters : (fs : List FrameView) (f : FrameView) → AllKeepOrder s.objects (enters a fs f)
  keep-enters fs f = on-choice s.objects (is_full fs) _ _ (keep-dies s.objects a PanicKind.StackOverflow) (refl, tt)

  keep-calls : (f n : ℕ) → AllKeepOrder s.objects (calls code a f n)
  keep-calls f n = on-operands s.objects n _ ops
      (λ vs rest. on-some s.objects _ (call_frame code f vs false) (keep-enters (next a.frame rest ∷ a.callers)))

  keep-spawns : (f n : ℕ) → AllKeepOrder s.objects (spawns code a f n)
  keep-spawns f n = on-operands s.objects n _ ops
      (λ vs rest. on-some s.objects _ (call_frame code f vs true) (λ x. (refl, (refl, tt))))

  -- goroutine 0 does not leave
  keep-ends : AllKeepOrder s.objects (ends a)
  keep-ends = elim (a.number == 0) as (λ b. a.number == 0 ≡ b
      → AllKeepOrder s.objects (choose b (Change.Become 0 (with_frames a []) ∷ []) (Change.Leave a.number ∷ []))) [
        | true ↦ λ t. (refl, tt)
        | false ↦ λ t. ((λ e. eqb-false a.number 0 t e), tt)
      ] refl

  keep-returns_to : (v : Option Value) (fs : List FrameView) → AllKeepOrder s.objects (returns_to a v fs)
  keep-returns_to v [] = both s.objects (ends a) _ keep-ends (on-choice s.objects (a.number == 1) _ _ (tt, tt) tt)
  keep-returns_to v (f ∷ fs) = (refl, tt)

  keep-unwinds_to : (x : Fault) (fs : List FrameView) → AllKeepOrder s.objects (unwinds_to a x fs)
  keep-unwinds_to x [] = both s.objects (ends a) _ keep-ends (tt, tt)
  keep-unwinds_to x (f ∷ fs) = (refl, tt)

  keep-returns_by : (v : Option Value) (rest : List Value) (ds : List Deferred)
      → AllKeepOrder s.objects (returns_by a v rest ds)
  keep-returns_by v rest [] = keep-returns_to v a.callers
  keep-returns_by v rest (d ∷ ds) = (refl, tt)

  keep-begins_deferred : (d : Deferred) (ds : List Deferred) → AllKeepOrder s.objects (begins_deferred code a d ds)
  keep-begins_deferred d ds = on-some s.objects _ (call_frame code d.function d.arguments true)
      (keep-enters (record a.frame { deferred = ds } ∷ a.callers))

  pub keep-leaves_returning : (v : Option Value) (ds : List Deferred)
      → AllKeepOrder s.objects (leaves_returning code a v ds)
  keep-leaves_returning v [] = keep-returns_to v a.callers
  keep-leaves_returning v (d ∷ ds) = keep-begins_deferred d ds

  pub keep-leaves_unwinding : (x : Fault) (ds : List Deferred) → AllKeepOrder s.objects (leaves_unwinding code a x ds)
  keep-leaves_unwinding x [] = keep-unwinds_to x a.callers
  keep-leaves_unwinding x (d ∷ ds) = keep-begins_deferred d ds

  -- finalisers
  keep-finalises_by : (rest : List Value) (f o : ℕ) (m : Option ℕ) → AllKeepOrder s.objects (finalises_by a rest f o m)
  keep-finalises_by rest f o None = (tt, (refl, tt))
  keep-finalises_by rest f o (Some old) = keep-dies s.objects a PanicKind.FinalizerSet

  keep-finalises : (f : ℕ) → AllKeepOrder s.objects (finalises a f s)
  keep-finalises f = on-one s.objects _ ops
      (λ p rest. on-reference s.objects a _ p
      (λ o. on-struct s.objects _ (find o s.objects) (λ fields e. keep-finalises_by rest f o (find o s.finalisers))))

  keep-unfinalises : AllKeepOrder s.objects (unfinalises a s)
  keep-unfinalises = on-one s.objects _ ops
      (λ p rest. on-reference_or s.objects _ _ p (refl, tt)
      (λ o. on-struct s.objects _ (find o s.objects) (λ fields e. (tt, (refl, tt)))))

  -- one line for each instruction
  pub keep_changes : (i : Instr) (choice : ℕ) → AllKeepOrder s.objects (changes code i a choice s)
  keep_changes (Instr.Load i) choice = keep-leaves s.objects a ops (slice_get a.frame.slots i)
  keep_changes (Instr.Store i) choice = keep-stores i
  keep_changes (Instr.LoadGlobal i) choice = keep-leaves s.objects a ops (slice_get s.globals i)
  keep_changes (Instr.StoreGlobal i) choice = keep-stores_global i
  keep_changes Instr.Drop choice = on-one s.objects _ ops (λ v rest. (refl, tt))
  keep_changes Instr.Dup choice = on-one s.objects _ ops (λ v rest. (refl, tt))
  keep_changes Instr.Dup2 choice = on-two s.objects _ ops (λ x y rest. (refl, tt))
  keep_changes Instr.Neg choice = on-one s.objects _ ops (λ x rest. on-some s.objects _ (int_of x) (λ n. (refl, tt)))
  keep_changes Instr.Not choice = on-one s.objects _ ops (λ x rest. on-some s.objects _ (bool_of x) (λ b. (refl, tt)))
  keep_changes Instr.Add choice = keep-computes sum
  keep_changes Instr.Sub choice = keep-computes difference
  keep_changes Instr.Mul choice = keep-computes product
  keep_changes Instr.Div choice = keep-divides quotient
  keep_changes Instr.Rem choice = keep-divides remainder
  keep_changes Instr.Eq choice = on-two s.objects _ ops
      (λ x y rest. on-some s.objects _ (equality x y) (λ b. (refl, tt)))
  keep_changes Instr.Less choice = keep-compares int_lt
  keep_changes Instr.AtMost choice = keep-compares int_le
  keep_changes (Instr.JumpIfNot target) choice = keep-jumps_unless target
  keep_changes (Instr.NewStruct t) choice = on-some s.objects _ (slice_get code.structs t) (λ row. (tt, (refl, tt)))
  keep_changes Instr.NewMutex choice = (tt, (refl, tt))
  keep_changes Instr.NewGroup choice = (tt, (refl, tt))
  keep_changes Instr.NewRw choice = (tt, (refl, tt))
  keep_changes Instr.NewCond choice = keep-makes_condition
  keep_changes (Instr.Field i) choice = keep-gets_field i
  keep_changes (Instr.SetField i) choice = keep-sets_field i
  keep_changes (Instr.NewSlice zero) choice = keep-makes_slice zero
  keep_changes (Instr.NewChan zero) choice = keep-makes_channel zero
  keep_changes Instr.Index choice = keep-gets_element
  keep_changes Instr.SetIndex choice = keep-sets_element
  keep_changes Instr.Len choice = keep-measures
  keep_changes Instr.Send choice = keep-sends
  keep_changes Instr.Receive choice = keep-receives false
  keep_changes Instr.ReceiveOk choice = keep-receives true
  keep_changes Instr.Close choice = keep-closes
  keep_changes (Instr.Select cases otherwise) choice = keep-selects_from choice otherwise (offers_of cases ops)
  keep_changes Instr.Lock choice = keep-locks
  keep_changes Instr.Unlock choice = keep-unlocks
  keep_changes Instr.GroupAdd choice = keep-adds
  keep_changes Instr.GroupWait choice = keep-waits
  keep_changes Instr.RwLock choice = keep-write_locks
  keep_changes Instr.RwUnlock choice = keep-write_unlocks
  keep_changes Instr.ReadLock choice = keep-read_locks
  keep_changes Instr.ReadUnlock choice = keep-read_unlocks
  keep_changes Instr.CondMutex choice = keep-gets_mutex
  keep_changes Instr.CondWait choice = keep-awaits
  keep_changes Instr.CondSignal choice = keep-signals
  keep_changes Instr.CondBroadcast choice = keep-broadcasts
  keep_changes (Instr.Call f n) choice = keep-calls f n
  keep_changes (Instr.Go f n) choice = keep-spawns f n
  keep_changes (Instr.Defer f n) choice = on-operands s.objects n _ ops (λ vs rest. (refl, tt))
  keep_changes Instr.Return choice = keep-returns_by None ops a.frame.deferred
  keep_changes Instr.ReturnValue choice =
      on-one s.objects _ ops (λ v rest. keep-returns_by (Some v) rest a.frame.deferred)
  keep_changes (Instr.Print n) choice = on-operands s.objects n _ ops
      (λ vs rest. on-some s.objects _ (line_bytes code.texts vs) (λ bytes. (tt, (refl, tt))))
  keep_changes (Instr.SetFinalizer f) choice = keep-finalises f
  keep_changes Instr.ClearFinalizer choice = keep-unfinalises
  keep_changes Instr.Panic choice = on-one s.objects _ ops
      (λ x rest. on-some s.objects _ (text_of x) (λ k. keep-panics s.objects a (PanicKind.Custom k)))
  keep_changes _ choice = (refl, tt)

-- goroutine 0 begins with the first entry of its queue
keep-begins_queued : (xs : List (ℕ × Object)) (code : Code) (r : GoroutineView) (queue : List Queued)
    → is_running r.mode ≡ true → AllKeepOrder xs (begins_queued code r queue)
keep-begins_queued xs code r [] h = tt
keep-begins_queued xs code r (q ∷ queue) h =
    on-some xs _ (call_frame code q.function (Value.Ref q.object ∷ []) true) (λ x. (tt, (h, tt)))

module _ (code : Code) (g choice : ℕ) (s : State) where
  keep-performs : (r : GoroutineView) (f : FrameView) (fs : List FrameView) (m : Option CodeLine)
      → AllKeepOrder s.objects (performs code g r f fs choice s m)
  keep-performs r f fs None = tt
  keep-performs r f fs (Some l) = keep_changes code (acting g r f fs l.line) s l.instr choice

  keep-frame : (r : GoroutineView) (f : FrameView) (fs : List FrameView) (leaving : Leaving)
      → AllKeepOrder s.objects (frame_changes code g r f fs choice s leaving)
  keep-frame r f fs Leaving.No = keep-performs r f fs (line_at code f.function f.at)
  keep-frame r f fs (Leaving.Returning v) =
      keep-leaves_returning code (acting g r f fs (return_line code f)) s v f.deferred
  keep-frame r f fs (Leaving.Unwinding x) = keep-leaves_unwinding code (acting g r f fs x.line) s x f.deferred

  keep-idle : (b : Bool) (cs : List Change) → AllKeepOrder s.objects cs → AllKeepOrder s.objects (cond b cs [])
  keep-idle true cs h = h
  keep-idle false cs h = tt

  keep-goroutine : (r : GoroutineView) (fs : List FrameView) → is_running r.mode ≡ true
      → AllKeepOrder s.objects (goroutine_changes code g r choice s fs)
  keep-goroutine r [] h = keep-idle (g == 0) (begins_queued code r s.queue)
      (keep-begins_queued s.objects code r s.queue h)
  keep-goroutine r (f ∷ fs) h = keep-frame r f fs f.leaving

  keep-turn_of : (m : Option GoroutineView) → ((r : GoroutineView) → m ≡ Some r → is_running r.mode ≡ true)
      → AllKeepOrder s.objects (turn_of code g choice s m)
  keep-turn_of None h = tt
  keep-turn_of (Some r) h = keep-goroutine r r.frames (h r refl)

  keep-found : IsRising s.goroutines → (r : GoroutineView) → Entry s.goroutines g r → is_running r.mode ≡ true
      → AllKeepOrder s.objects (turn_of code g choice s (find g s.goroutines))
  keep-found n r i h = keep-turn_of (find g s.goroutines)
      (λ q j. let same : q ≡ r = Entry-one s.goroutines g q r n (Entry-find g s.goroutines q j) i in subst
      (λ (z : GoroutineView). is_running z.mode ≡ true) (sym same) h)

-- a turn keeps goroutines in order
pub keep_turn : (code : Code) (s : State) (k : ℕ) → IsRising s.goroutines
    → AllKeepOrder s.objects (turn_changes code (k / length (runnable s)) s (whose_turn s k))
keep_turn code s k n = go (whose_turn s k) refl
  where
    go : (m : Option ℕ) → whose_turn s k ≡ m → AllKeepOrder s.objects (turn_changes code (k / length (runnable s)) s m)
    go None e = tt
    go (Some g) e = let r = turn-running s k g e in keep-found code g (k / length (runnable s)) s n r.0 r.1 r.2

-- and so does what is cleared after it
module _ (xs : List (ℕ × Object)) (code : Code) (g : ℕ) where
  keep-clears_in : (r : GoroutineView) (m : Mode) (fs : List FrameView) → r.mode ≡ m
      → AllKeepOrder xs (clears_in code g r m fs)
  keep-clears_in r Mode.Running [] e = tt
  keep-clears_in r Mode.Running (f ∷ fs) e = (ap is_running e, tt)
  keep-clears_in r (Mode.Blocked kind line waits ticket) fs e = tt

  keep-clears : (m : Option GoroutineView) → AllKeepOrder xs (clears code g m)
  keep-clears None = tt
  keep-clears (Some r) = keep-clears_in r r.mode r.frames refl

pub keep_clearing : (xs : List (ℕ × Object)) (code : Code) (b : Bool) (m : Option ℕ) (t : State)
    → AllKeepOrder xs (clearing code b m t)
keep_clearing xs code true m t = tt
keep_clearing xs code false None t = tt
keep_clearing xs code false (Some g) t = keep-clears xs code g (find g t.goroutines)
