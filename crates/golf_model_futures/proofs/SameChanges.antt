-- Each instruction has the same changes in a state that lacks what is cut.
-- For: `changes`, golf_model/specs/Turn.antt; `cut`, golf_model/specs/Collections.antt
-- By: cases of the instruction and its operands; induction over the offers of a `select`
use Rattle.std.proofs.Common.{◌≡◌, ℕ, ◌%◌, Bool, true, false, ◌&&◌, ◌||◌, List, [], ◌∷◌, ◌++◌, length, Option, Some}
use Rattle.std.proofs.Common.{None, refl, ap, ◌∙◌, slice_get, nat_lt, ℤ}
use Rattle.std.specs.Prelude.{pos, ◌+ℤ◌, ◌-ℤ◌, is_some, int_lt, int_le}
use Rattle.golf_theory.specs.Membership.{Every}
use Rattle.golf_theory.specs.Maps.{find, only}
use Rattle.golf_theory.proofs.Lists.{Every-slice_get}
use Rattle.golf_model_futures.specs.Invariant.{ActorIn}
use Rattle.golf_data.specs.declared.value.Value.{Value}
use Rattle.golf_data.specs.declared.value.Object.{Object}
use Rattle.golf_data.specs.declared.value.Channel.{Channel}
use Rattle.golf_data.specs.declared.code.Code.{Code}
use Rattle.golf_data.specs.declared.code.Instr.{Instr}
use Rattle.golf_data.specs.declared.code.SelectCase.{SelectCase}
use Rattle.golf_data.specs.declared.code.CaseKind.{CaseKind}
use Rattle.golf_data.specs.declared.goroutine.PanicKind.{PanicKind}
use Rattle.golf_data.specs.declared.goroutine.Side.{Side}
use Rattle.golf_data.specs.declared.goroutine.WaitKind.{WaitKind}
use Rattle.golf_model.specs.Views.{FrameView}
use Rattle.golf_model.specs.Values.{int_of, is_zero, is_minus_one}
use Rattle.golf_model.specs.State.{State, not_empty}
use Rattle.golf_model.specs.Waiters.{Waiter, waiter_ticket, first, waiters}
use Rattle.golf_model.specs.Wakes.{Waking}
use Rattle.golf_model.specs.Changes.{Change}
use Rattle.golf_model.specs.Actors.{Actor, next, goes, leaves, panics, dies, on_some, choose, at_reference, at_struct}
use Rattle.golf_model.specs.Actors.{at_slice, at_channel, at_mutex, at_group, at_rw, at_condition}
use Rattle.golf_model.specs.Arithmetic.{sum}
use Rattle.golf_model.specs.Structures.{makes, gets_field, sets_field, field_set, within, element, gets_element}
use Rattle.golf_model.specs.Structures.{element_set, sets_element, length_of, measures}
use Rattle.golf_model.specs.Channels.{sends_to, sends_on, sends, receives_from, receives_on, receives, closes_open}
use Rattle.golf_model.specs.Channels.{closes}
use Rattle.golf_model.specs.Selects.{Offer, Taken, offers_of, is_channel, is_nil_or_channel, all_on_channels}
use Rattle.golf_model.specs.Selects.{can_proceed, is_ready_at, is_ready_on, is_ready, kept_if, ready, proceeds_by}
use Rattle.golf_model.specs.Selects.{selects_one, chosen, selects_from, selects}
use Rattle.golf_model.specs.Mutexes.{blocks_on, locks_by, locks, hands_over, unlocks_by, unlocks, counts, adds}
use Rattle.golf_model.specs.Mutexes.{waits_by, waits}
use Rattle.golf_model.specs.ReadersWriters.{counted, to_readers, serves_first, serves, most_readers, write_locks_by}
use Rattle.golf_model.specs.ReadersWriters.{write_locks, write_unlocks_by, write_unlocks, read_locks_by, read_locks}
use Rattle.golf_model.specs.ReadersWriters.{read_leaves, read_unlocks_by, read_unlocks}
use Rattle.golf_model.specs.Conditions.{makes_condition, gets_mutex, awaits_by, awaits, requeues, first_only, notifies}
use Rattle.golf_model.specs.Conditions.{signals, broadcasts}
use Rattle.golf_model.specs.Finalisers.{finalises_by, finalises, unfinalises}
use Rattle.golf_model.specs.Collections.{cut}
use Rattle.golf_model.specs.Turn.{changes}
use Rattle.golf_model_futures.proofs.RefLaws.{Val, Vals}
use Rattle.golf_model_futures.proofs.Acting.{Ground, found-in}
use Rattle.golf_model_futures.proofs.GoodChannels.{OfferIn, MaybeTaken, offers-in, ready-in}
use Rattle.golf_model_futures.proofs.SameLookups.{same-find, same-first, same-waiters, same-readers_next, same-on_some}
use Rattle.golf_model_futures.proofs.SameLookups.{same-choose, same-taking_one, same-taking_two, same-taking_three}
use Rattle.golf_model_futures.proofs.SameLookups.{same-at_reference, same-at_reference_or, same-at_condition}

module _ (stays kept : ℕ → Bool) (O G : ℕ → Type 0) (s : State) (c : Ground s O G)
    (sub_o : (o : ℕ) → O o → kept o ≡ true) (sub_g : (g : ℕ) → G g → stays g ≡ true) (a : Actor)
    (i : ActorIn O G a) where
  ops : Vals O a.frame.operands
  ops = i.frame.operands

  -- an operation on the object of an operand
  at_object : (o : ℕ) → O o → (act : Option Object → List Change)
      → act (find o (only kept s.objects)) ≡ act (find o s.objects)
  at_object o m act = ap act (same-find stays kept O G s c sub_o sub_g o m)

  at_first : (o : ℕ) (side : Side) → O o → (act : Option Waiter → List Change)
      → act (first o side (only stays s.goroutines)) ≡ act (first o side s.goroutines)
  at_first o side m act = ap act (same-first stays kept O G s c sub_o sub_g o side m)

  same-gets_field : (k : ℕ) → gets_field a k (cut stays kept s) ≡ gets_field a k s
  same-gets_field k = same-taking_one O _ _ a.frame.operands ops
      (λ p rest h r. same-at_reference O a _ _ p h
      (λ o m. at_object o m (at_struct (λ fields. leaves a rest (slice_get fields k)))))

  same-sets_field : (k : ℕ) → sets_field a k (cut stays kept s) ≡ sets_field a k s
  same-sets_field k = same-taking_two O _ _ a.frame.operands ops
      (λ p v rest h w r. same-at_reference O a _ _ p h (λ o m. at_object o m (at_struct (field_set a k v rest o))))

  same-gets_element : gets_element a (cut stays kept s) ≡ gets_element a s
  same-gets_element = same-taking_two O _ _ a.frame.operands ops
      (λ x y rest h w r. same-on_some _ _ (int_of y)
      (λ n e. same-at_reference_or O _ _ _ x h
      (λ o m. at_object o m (at_slice (λ xs. within a n (length xs) (λ v. goes a (v ∷ rest)) (element xs n))))))

  same-sets_element : sets_element a (cut stays kept s) ≡ sets_element a s
  same-sets_element = same-taking_three O _ _ a.frame.operands ops
      (λ x y v rest h w u r. same-on_some _ _ (int_of y)
      (λ n e. same-at_reference_or O _ _ _ x h (λ o m. at_object o m (at_slice (element_set a n v rest o)))))

  same-measures : measures a (cut stays kept s) ≡ measures a s
  same-measures = same-taking_one O _ _ a.frame.operands ops
      (λ x rest h r. same-at_reference_or O _ _ _ x h
      (λ o m. at_object o m (on_some (λ y. on_some (λ n. goes a (Value.Int (pos n) ∷ rest)) (length_of y)))))

  same-sends_on : (after : FrameView) (v : Value) (o : ℕ) → O o
      → sends_on a after v (cut stays kept s) o ≡ sends_on a after v s o
  same-sends_on after v o m =
      at_object o m (at_channel (λ d. choose d.closed (panics a PanicKind.SendClosed)
      (sends_to a after o v d (first o Side.Receive (only stays s.goroutines)))))
      ∙ at_first o Side.Receive m (λ w. at_channel
      (λ d. choose d.closed (panics a PanicKind.SendClosed) (sends_to a after o v d w)) (find o s.objects))

  same-sends : sends a (cut stays kept s) ≡ sends a s
  same-sends = same-taking_two O _ _ a.frame.operands ops
      (λ x v rest h k r. same-at_reference_or O _ _ _ x h (λ o m. same-sends_on (next a.frame rest) v o m))

  same-receives_on : (after : FrameView) (with_ok : Bool) (o : ℕ) → O o
      → receives_on a after with_ok (cut stays kept s) o ≡ receives_on a after with_ok s o
  same-receives_on after with_ok o m =
      at_object o m (at_channel (λ d. receives_from a after with_ok o d d.buffer
      (first o Side.Send (only stays s.goroutines))))
      ∙ at_first o Side.Send m (λ w. at_channel (λ d. receives_from a after with_ok o d d.buffer w) (find o s.objects))

  same-receives : (with_ok : Bool) → receives with_ok a (cut stays kept s) ≡ receives with_ok a s
  same-receives with_ok = same-taking_one O _ _ a.frame.operands ops
      (λ x rest h r. same-at_reference_or O _ _ _ x h (λ o m. same-receives_on (next a.frame rest) with_ok o m))

  same-closes : closes a (cut stays kept s) ≡ closes a s
  same-closes = same-taking_one O _ _ a.frame.operands ops
      (λ x rest h r. same-at_reference_or O _ _ _ x h (λ o m. at_object o m (at_channel (closes_open a rest o))))

  -- the cases of a `select`
  same-is_nil_or_channel : (v : Value) → Val O v → is_nil_or_channel (cut stays kept s) v ≡ is_nil_or_channel s v
  same-is_nil_or_channel (Value.Ref o) h = ap is_channel (same-find stays kept O G s c sub_o sub_g o.0 h.0)
  same-is_nil_or_channel _ h = refl

  same-all_on_channels : (xs : List Offer) → Every (OfferIn O G s c a i) xs
      → all_on_channels (cut stays kept s) xs ≡ all_on_channels s xs
  same-all_on_channels [] h = refl
  same-all_on_channels (x ∷ xs) h =
      ap (λ b. b && all_on_channels (cut stays kept s) xs) (same-is_nil_or_channel x.channel h.0.0)
      ∙ ap (λ b. is_nil_or_channel s x.channel && b) (same-all_on_channels xs h.1)

  same-can_proceed : (kind : CaseKind) (o : ℕ) (d : Channel) → O o
      → can_proceed kind o (only stays s.goroutines) d ≡ can_proceed kind o s.goroutines d
  same-can_proceed CaseKind.Send o d m = ap
      (λ (w : Option Waiter). d.closed || (is_some w || nat_lt (length d.buffer) d.capacity))
      (same-first stays kept O G s c sub_o sub_g o Side.Receive m)
  same-can_proceed CaseKind.Take o d m = ap (λ (w : Option Waiter). not_empty d.buffer || (is_some w || d.closed))
      (same-first stays kept O G s c sub_o sub_g o Side.Send m)
  same-can_proceed CaseKind.TakeOk o d m =
      ap (λ (w : Option Waiter). not_empty d.buffer || (is_some w || d.closed))
      (same-first stays kept O G s c sub_o sub_g o Side.Send m)

  same-is_ready_at : (kind : CaseKind) (o : ℕ) → O o → (x : Option Object)
      → is_ready_at kind o (only stays s.goroutines) x ≡ is_ready_at kind o s.goroutines x
  same-is_ready_at kind o m (Some (Object.Chan d)) = same-can_proceed kind o d m
  same-is_ready_at kind o m _ = refl

  same-is_ready_on : (kind : CaseKind) (v : Value) → Val O v
      → is_ready_on kind (cut stays kept s) v ≡ is_ready_on kind s v
  same-is_ready_on kind (Value.Ref o) h =
      ap (is_ready_at kind o.0 (only stays s.goroutines)) (same-find stays kept O G s c sub_o sub_g o.0 h.0)
      ∙ same-is_ready_at kind o.0 h.0 (find o.0 s.objects)
  same-is_ready_on kind _ h = refl

  same-ready : (xs : List Offer) → Every (OfferIn O G s c a i) xs → ready (cut stays kept s) xs ≡ ready s xs
  same-ready [] h = refl
  same-ready (x ∷ xs) h =
      ap (λ b. kept_if b x (ready (cut stays kept s) xs)) (same-is_ready_on x.kind x.channel h.0.0)
      ∙ ap (kept_if (is_ready s x) x) (same-ready xs h.1)

  same-proceeds_by : (after : FrameView) (kind : CaseKind) (v : Value) (o : ℕ) → O o
      → proceeds_by a after kind v (cut stays kept s) o ≡ proceeds_by a after kind v s o
  same-proceeds_by after CaseKind.Send v o m = same-sends_on after v o m
  same-proceeds_by after CaseKind.Take v o m = same-receives_on after false o m
  same-proceeds_by after CaseKind.TakeOk v o m = same-receives_on after true o m

  same-selects_one : (rest : List Value) (xs : List Offer) (otherwise : Option ℕ) (m : Option Offer)
      → ((x : Offer) → m ≡ Some x → OfferIn O G s c a i x)
      → selects_one a rest (cut stays kept s) xs otherwise m ≡ selects_one a rest s xs otherwise m
  same-selects_one rest xs otherwise None h = refl
  same-selects_one rest xs otherwise (Some x) h =
      same-at_reference_or O [] _ _ x.channel (h x refl).0 (λ o m. same-proceeds_by _ x.kind x.value o m)

  same-selects_from : (choice : ℕ) (otherwise : Option ℕ) (m : Option Taken) → MaybeTaken O G s c a i m
      → selects_from a (cut stays kept s) choice otherwise m ≡ selects_from a s choice otherwise m
  same-selects_from choice otherwise None h = refl
  same-selects_from choice otherwise (Some t) h =
      ap (λ b. choose b (selects_one a t.1 (cut stays kept s) t.0 otherwise
      (chosen choice (ready (cut stays kept s) t.0))) []) (same-all_on_channels t.0 h.0)
      ∙ ap (λ (cs : List Change). choose (all_on_channels s t.0) cs [])
      (ap (λ (xs : List Offer). selects_one a t.1 (cut stays kept s) t.0 otherwise (chosen choice xs))
      (same-ready t.0 h.0)
      ∙ same-selects_one t.1 t.0 otherwise (chosen choice (ready s t.0))
      (λ x e. Every-slice_get (OfferIn O G s c a i) (ready s t.0) (choice % length (ready s t.0)) x
      (ready-in O G s c a i t.0 h.0) e))

  same-selects : (choice : ℕ) (cases : List SelectCase) (otherwise : Option ℕ)
      → selects a (cut stays kept s) choice cases otherwise ≡ selects a s choice cases otherwise
  same-selects choice cases otherwise = same-selects_from choice otherwise (offers_of cases a.frame.operands)
      (offers-in O G s c a i cases a.frame.operands ops)

  -- mutexes and wait groups
  same-locks : locks a (cut stays kept s) ≡ locks a s
  same-locks = same-taking_one O _ _ a.frame.operands ops
      (λ x rest h r. same-at_reference O a _ _ x h (λ o m. at_object o m (at_mutex (locks_by a rest o))))

  same-unlocks_by : (rest : List Value) (o : ℕ) → O o → (locked : Bool)
      → unlocks_by a rest (cut stays kept s) o locked ≡ unlocks_by a rest s o locked
  same-unlocks_by rest o m false = refl
  same-unlocks_by rest o m true = at_first o Side.Lock m (λ w. goes a rest ++ hands_over o w)

  same-at_mutex : (act other : Bool → List Change) (x : Option Object) → ((b : Bool) → act b ≡ other b)
      → at_mutex act x ≡ at_mutex other x
  same-at_mutex act other (Some (Object.Mutex locked)) h = h locked
  same-at_mutex act other _ h = refl

  same-at_rw : (act other : ℤ → List Change) (x : Option Object) → ((n : ℤ) → act n ≡ other n)
      → at_rw act x ≡ at_rw other x
  same-at_rw act other (Some (Object.Rw n)) h = h n
  same-at_rw act other _ h = refl

  same-unlocks : unlocks a (cut stays kept s) ≡ unlocks a s
  same-unlocks = same-taking_one O _ _ a.frame.operands ops
      (λ x rest h r. same-at_reference O a _ _ x h
      (λ o m. at_object o m (at_mutex (unlocks_by a rest (cut stays kept s) o))
      ∙ same-at_mutex _ _ (find o s.objects) (same-unlocks_by rest o m)))

  same-adds : adds a (cut stays kept s) ≡ adds a s
  same-adds = same-taking_two O _ _ a.frame.operands ops
      (λ w x rest h k r. same-on_some _ _ (int_of x)
      (λ d e. same-at_reference O a _ _ w h (λ o m. at_object o m (at_group (λ n. counts a rest o (sum n d))))))

  same-waits : waits a (cut stays kept s) ≡ waits a s
  same-waits = same-taking_one O _ _ a.frame.operands ops
      (λ w rest h r. same-at_reference O a _ _ w h (λ o m. at_object o m (at_group (waits_by a rest o))))

  -- reader and writer mutexes
  same-to_readers : (o : ℕ) (below : Option ℕ) → O o
      → to_readers o below (only stays s.goroutines) ≡ to_readers o below s.goroutines
  same-to_readers o below m = ap (λ n. counted o (pos n) ∷ Change.WakeAll o (Waking.ToReaders below) ∷ [])
      (same-readers_next stays kept O G s c sub_o sub_g below o m)

  same-serves_first : (o : ℕ) (w r : Option Waiter) → O o
      → serves_first o (only stays s.goroutines) w r ≡ serves_first o s.goroutines w r
  same-serves_first o None r m = same-to_readers o None m
  same-serves_first o (Some w) None m = refl
  same-serves_first o (Some w) (Some r) m =
      same-choose (nat_lt (waiter_ticket r) (waiter_ticket w)) _ _ _ _
      (same-to_readers o (Some (waiter_ticket w)) m) refl

  same-serves : (o : ℕ) → O o → serves o (only stays s.goroutines) ≡ serves o s.goroutines
  same-serves o m =
      at_first o Side.Write m (λ w. serves_first o (only stays s.goroutines) w
      (first o Side.Read (only stays s.goroutines)))
      ∙ at_first o Side.Read m (λ r. serves_first o (only stays s.goroutines) (first o Side.Write s.goroutines) r)
      ∙ same-serves_first o (first o Side.Write s.goroutines) (first o Side.Read s.goroutines) m

  same-write_locks : write_locks a (cut stays kept s) ≡ write_locks a s
  same-write_locks = same-taking_one O _ _ a.frame.operands ops
      (λ x rest h r. same-at_reference O a _ _ x h (λ o m. at_object o m (at_rw (write_locks_by a rest o))))

  same-write_unlocks : write_unlocks a (cut stays kept s) ≡ write_unlocks a s
  same-write_unlocks = same-taking_one O _ _ a.frame.operands ops
      (λ x rest h r. same-at_reference O a _ _ x h
      (λ o m. at_object o m (at_rw (write_unlocks_by a rest (cut stays kept s) o))
      ∙ same-at_rw _ _ (find o s.objects) (λ n. same-choose (is_minus_one n) _ _ _ _
      (ap (λ (cs : List Change). goes a rest ++ cs) (same-serves o m)) refl)))

  same-read_locks : read_locks a (cut stays kept s) ≡ read_locks a s
  same-read_locks = same-taking_one O _ _ a.frame.operands ops
      (λ x rest h r. same-at_reference O a _ _ x h
      (λ o m. at_object o m (at_rw (read_locks_by a rest (cut stays kept s) o))
      ∙ same-at_rw _ _ (find o s.objects)
      (λ n. ap (λ (w : Option Waiter). choose (is_minus_one n || is_some w)
      (blocks_on a rest WaitKind.ReadLock o Side.Read)
      (choose (int_le (pos most_readers) n) (dies a PanicKind.ReaderLimit) (counted o (n +ℤ pos 1) ∷ goes a rest)))
      (same-first stays kept O G s c sub_o sub_g o Side.Write m))))

  same-read_leaves : (o : ℕ) (n : ℤ) → O o → read_leaves o n (cut stays kept s) ≡ read_leaves o n s
  same-read_leaves o n m = same-choose (is_zero n) _ _ _ _ (same-serves o m) refl

  same-read_unlocks : read_unlocks a (cut stays kept s) ≡ read_unlocks a s
  same-read_unlocks = same-taking_one O _ _ a.frame.operands ops
      (λ x rest h r. same-at_reference O a _ _ x h
      (λ o m. at_object o m (at_rw (read_unlocks_by a rest (cut stays kept s) o))
      ∙ same-at_rw _ _ (find o s.objects) (λ n. same-choose (int_lt (pos 0) n) _ _ _ _
      (ap (λ (cs : List Change). goes a rest ++ cs) (same-read_leaves o (n -ℤ pos 1) m)) refl)))

  -- conditions
  same-makes_condition : makes_condition a (cut stays kept s) ≡ makes_condition a s
  same-makes_condition = same-taking_one O _ _ a.frame.operands ops
      (λ m rest h r. same-at_reference_or O _ _ _ m h
      (λ o k. at_object o k (at_mutex (λ locked. makes a (Object.Cond m) rest s))))

  same-gets_mutex : gets_mutex a (cut stays kept s) ≡ gets_mutex a s
  same-gets_mutex = same-taking_one O _ _ a.frame.operands ops
      (λ x rest h r. same-at_reference O a _ _ x h (λ o m. at_object o m (at_condition (λ v. goes a (v ∷ rest)))))

  same-awaits_by : (rest : List Value) (o p : ℕ) → O p → (locked : Bool)
      → awaits_by a rest (cut stays kept s) o p locked ≡ awaits_by a rest s o p locked
  same-awaits_by rest o p m false = refl
  same-awaits_by rest o p m true = at_first p Side.Lock m
      (λ w. hands_over p w ++ blocks_on a rest WaitKind.Condition o Side.Cond)

  same-awaits : awaits a (cut stays kept s) ≡ awaits a s
  same-awaits = same-taking_one O _ _ a.frame.operands ops
      (λ x rest h r. same-at_reference O a _ _ x h
      (λ o m. at_object o m (at_condition (λ v. at_reference a
      (λ p. at_mutex (awaits_by a rest (cut stays kept s) o p) (find p (only kept s.objects))) v))
      ∙ same-at_condition O _ _ (find o s.objects) (found-in O G s c o m)
      (λ v k. same-at_reference O a _ _ v k
      (λ p n. at_object p n (at_mutex (awaits_by a rest (cut stays kept s) o p))
      ∙ same-at_mutex _ _ (find p s.objects) (same-awaits_by rest o p n)))))

  same-notifies : (rest : List Value) (ws : List Waiter) (v : Value) → Val O v
      → notifies a rest (cut stays kept s) ws v ≡ notifies a rest s ws v
  same-notifies rest [] v h = refl
  same-notifies rest (w ∷ ws) v h = same-at_reference_or O [] _ _ v h
      (λ p m. at_object p m (at_mutex (λ locked. goes a rest ++ requeues p (w ∷ ws))))

  same-signals : signals a (cut stays kept s) ≡ signals a s
  same-signals = same-taking_one O _ _ a.frame.operands ops
      (λ x rest h r. same-at_reference O a _ _ x h
      (λ o m. at_object o m (at_condition (notifies a rest (cut stays kept s)
      (first_only (first o Side.Cond (only stays s.goroutines)))))
      ∙ at_first o Side.Cond m (λ w. at_condition (notifies a rest (cut stays kept s) (first_only w))
      (find o s.objects))
      ∙ same-at_condition O _ _ (find o s.objects) (found-in O G s c o m)
      (same-notifies rest (first_only (first o Side.Cond s.goroutines)))))

  same-broadcasts : broadcasts a (cut stays kept s) ≡ broadcasts a s
  same-broadcasts = same-taking_one O _ _ a.frame.operands ops
      (λ x rest h r. same-at_reference O a _ _ x h
      (λ o m. at_object o m (at_condition (notifies a rest (cut stays kept s)
      (waiters o Side.Cond (only stays s.goroutines))))
      ∙ ap (λ (ws : List Waiter). at_condition (notifies a rest (cut stays kept s) ws) (find o s.objects))
      (same-waiters stays kept O G s c sub_o sub_g o Side.Cond m)
      ∙ same-at_condition O _ _ (find o s.objects) (found-in O G s c o m)
      (same-notifies rest (waiters o Side.Cond s.goroutines))))

  -- finalisers
  same-finalises : (f : ℕ) → finalises a f (cut stays kept s) ≡ finalises a f s
  same-finalises f = same-taking_one O _ _ a.frame.operands ops
      (λ p rest h r. same-at_reference O a _ _ p h
      (λ o m. at_object o m (at_struct (λ fields. finalises_by a rest f o (find o s.finalisers)))))

  same-unfinalises : unfinalises a (cut stays kept s) ≡ unfinalises a s
  same-unfinalises = same-taking_one O _ _ a.frame.operands ops
      (λ p rest h r. same-at_reference_or O _ _ _ p h
      (λ o m. at_object o m (at_struct (λ fields. Change.ClearFinaliser o ∷ goes a rest))))

  -- one line for each instruction that looks at the state
  pub same_changes : (code : Code) (k : Instr) (choice : ℕ)
      → changes code k a choice (cut stays kept s) ≡ changes code k a choice s
  same_changes code Instr.NewCond choice = same-makes_condition
  same_changes code (Instr.Field k) choice = same-gets_field k
  same_changes code (Instr.SetField k) choice = same-sets_field k
  same_changes code Instr.Index choice = same-gets_element
  same_changes code Instr.SetIndex choice = same-sets_element
  same_changes code Instr.Len choice = same-measures
  same_changes code Instr.Send choice = same-sends
  same_changes code Instr.Receive choice = same-receives false
  same_changes code Instr.ReceiveOk choice = same-receives true
  same_changes code Instr.Close choice = same-closes
  same_changes code (Instr.Select cases otherwise) choice = same-selects choice cases otherwise
  same_changes code Instr.Lock choice = same-locks
  same_changes code Instr.Unlock choice = same-unlocks
  same_changes code Instr.GroupAdd choice = same-adds
  same_changes code Instr.GroupWait choice = same-waits
  same_changes code Instr.RwLock choice = same-write_locks
  same_changes code Instr.RwUnlock choice = same-write_unlocks
  same_changes code Instr.ReadLock choice = same-read_locks
  same_changes code Instr.ReadUnlock choice = same-read_unlocks
  same_changes code Instr.CondMutex choice = same-gets_mutex
  same_changes code Instr.CondWait choice = same-awaits
  same_changes code Instr.CondSignal choice = same-signals
  same_changes code Instr.CondBroadcast choice = same-broadcasts
  same_changes code (Instr.SetFinalizer f) choice = same-finalises f
  same_changes code Instr.ClearFinalizer choice = same-unfinalises
  same_changes code _ choice = refl
