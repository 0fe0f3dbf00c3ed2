-- A goroutine and its partner do the same, up to the pairs.
-- For: `IsAlike`, specs/Alike.antt; `changes`, golf_model/specs/Turn.antt
-- By: cases of the instruction and its operands
use Rattle.std.proofs.Common.{◌≡◌, ℕ, ◌+◌, ◌==◌, Bool, true, false, List, [], ◌∷◌, ◌++◌, length, Option, Some, None}
use Rattle.std.proofs.Common.{inl, inr, refl, sym, ap, ◌∙◌, subst, slice_get, ℤ}
use Rattle.std.specs.Prelude.{pos, negsuc, int_lt, int_le, slice_set, unsigned_abs, replicate, not, is_some, nat_lt}
use Rattle.std.specs.Prelude.{◌||◌, ◌+ℤ◌, ◌-ℤ◌, ◌&&◌}
use Rattle.std.specs.Int.{w64, int_wrapping_neg}
use Rattle.std.proofs.lemmas.Bool.{eqb-true}
use Rattle.golf_theory.specs.Membership.{In}
use Rattle.golf_theory.specs.Maps.{find, IsRising}
use Rattle.golf_data.specs.declared.value.Value.{Value}
use Rattle.golf_data.specs.declared.value.Object.{Object}
use Rattle.golf_data.specs.declared.code.Code.{Code}
use Rattle.golf_data.specs.declared.code.Instr.{Instr}
use Rattle.golf_data.specs.declared.goroutine.Deferred.{Deferred}
use Rattle.golf_data.specs.declared.goroutine.Ending.{Ending}
use Rattle.golf_data.specs.declared.goroutine.Fault.{Fault}
use Rattle.golf_data.specs.declared.goroutine.Leaving.{Leaving}
use Rattle.golf_data.specs.declared.goroutine.Mode.{Mode}
use Rattle.golf_data.specs.declared.goroutine.PanicKind.{PanicKind}
use Rattle.golf_data.specs.declared.goroutine.Side.{Side}
use Rattle.golf_data.specs.declared.goroutine.Wait.{Wait}
use Rattle.golf_data.specs.declared.goroutine.WaitKind.{WaitKind}
use Rattle.golf_data.specs.declared.value.Channel.{Channel}
use Rattle.golf_data.specs.declared.code.SelectCase.{SelectCase}
use Rattle.golf_data.specs.declared.code.CaseKind.{CaseKind}
use Rattle.golf_model.specs.Values.{zero_of, zeros_of, int_of, bool_of, text_of, is_zero, equality, line_bytes}
use Rattle.golf_model.specs.Values.{is_minus_one}
use Rattle.golf_model.specs.Structures.{new_channel, makes, makes_struct, gets_field, sets_field, makes_slice}
use Rattle.golf_model.specs.Structures.{makes_channel, within, element, gets_element, sets_element, length_of, measures}
use Rattle.golf_model.specs.Structures.{is_bad_size}
use Rattle.golf_model.specs.Actors.{with_frames, Actor, next, stands, goes, leaves, panics, dies, blocks, on_some}
use Rattle.golf_model.specs.Actors.{choose}
use Rattle.golf_model.specs.Calls.{handed_back, calls, spawns, defers, enters, is_full, ends, ends_returning}
use Rattle.golf_model.specs.Calls.{returns_to, unwinds_to, returns_by, begins_deferred, leaves_returning}
use Rattle.golf_model.specs.Calls.{leaves_unwinding}
use Rattle.golf_model.specs.Wakes.{unwinding, received, resumed, released, Waking, woken_by}
use Rattle.golf_model.specs.Arithmetic.{sum, difference, product, quotient, remainder, stores, loads_global}
use Rattle.golf_model.specs.Arithmetic.{stores_global, two_ints}
use Rattle.golf_model.specs.Waiters.{bare_wait, Waiter, first, send_wait, receive_wait, waiters}
use Rattle.golf_model.specs.Views.{FrameView, GoroutineView}
use Rattle.golf_model.specs.State.{State, call_frame, not_empty}
use Rattle.golf_model.specs.Changes.{Change}
use Rattle.golf_model.specs.Mutexes.{locks, locks_by, waits, runs, hands_over, unlocks_by, unlocks, adds, counts}
use Rattle.golf_model.specs.ReadersWriters.{write_locks, read_locks, read_locks_by, most_readers, counted, serves}
use Rattle.golf_model.specs.ReadersWriters.{write_unlocks, read_unlocks, read_leaves}
use Rattle.golf_model.specs.Conditions.{makes_condition, gets_mutex, awaits, awaits_by, broadcasts, requeues, notifies}
use Rattle.golf_model.specs.Conditions.{signals, first_only}
use Rattle.golf_model.specs.Finalisers.{finalises, finalises_by, unfinalises}
use Rattle.golf_model.specs.Turn.{prints, panics_with, changes}
use Rattle.golf_model.specs.Channels.{served, buffers, sends_to, sends_on, sends, given, receives_unbuffered}
use Rattle.golf_model.specs.Channels.{receives_from, receives, closes}
use Rattle.golf_model.specs.Selects.{Offer, Taken, offers_of, is_channel, is_nil_or_channel, all_on_channels}
use Rattle.golf_model.specs.Selects.{can_proceed, is_ready_at, is_ready_on, is_ready, kept_if, ready, proceeds_by}
use Rattle.golf_model.specs.Selects.{selects_none, selects_one, chosen, selects_from, selects, select_kind}
use Rattle.golf_model.specs.Selects.{offered_waits}
use Rattle.golf_model_futures.specs.Orderly.{IsOrderly}
use Rattle.golf_explore_laws.specs.Alike.{nameless, blank, AlikeBy}
use Rattle.golf_explore_laws.proofs.Alike.Waking.{woken-closing, woken-at_zero}
use Rattle.golf_explore_laws.proofs.Alike.Firsts.{Partners, first-alike}
use Rattle.golf_explore_laws.proofs.Alike.Waiters.{ArePaired, WaitTogether, waiters-paired}
use Rattle.golf_explore_laws.proofs.Alike.Served.{serves-same, requeues-same}
use Rattle.golf_explore_laws.proofs.Alike.Ways.{by-on_some, by-choose, by-taking_one, by-taking_two, by-taking_three}
use Rattle.golf_explore_laws.proofs.Alike.Ways.{by-taking_from, by-reference_or, by-reference, by-struct, by-slice}
use Rattle.golf_explore_laws.proofs.Alike.Ways.{by-channel, by-mutex, by-group, by-rw, by-condition}
use Rattle.golf_explore_laws.proofs.Alike.ChangeLists.{Simple, AllSimple, simple-append, AllSame, all-simple}

-- ---- instructions

module _ (ps : List (ℕ × ℕ)) (s t : State) (al : AlikeBy ps s t) (g h : ℕ) (i : In (g, h) ps) (f : FrameView)
    (callers : List FrameView) (started line : ℕ) where
  abbrev pub a : Actor
  a = record { number = g; frame = f; callers = callers; started = started; line = line }

  abbrev pub b : Actor
  b = record { number = h; frame = f; callers = callers; started = started; line = line }

  pub R : List Change → List Change → Type 0
  R = AllSimple ps

  none : R [] []
  unfolding R
  none = refl

  pub shown : (cs ds : List Change) → R cs ds → AllSimple ps cs ds
  unfolding R
  shown cs ds r = r

  objects-same : s.objects ≡ t.objects
  objects-same = ap (λ (u : State). u.objects) al.others

  at-object : (o : ℕ) (act other : Option Object → List Change) → ((m : Option Object) → R (act m) (other m))
      → R (act (find o s.objects)) (other (find o t.objects))
  at-object o act other k = subst (λ os. R (act (find o s.objects)) (other (find o os))) objects-same
      (k (find o s.objects))

  pub stands-same : (k : FrameView) → R (stands a k) (stands b k)
  unfolding R
  stands-same k = (_, [], refl, (h, i, refl, refl), refl)

  pub goes-same : (vs : List Value) → R (goes a vs) (goes b vs)
  goes-same vs = stands-same (next f vs)

  pub panics-same : (kind : PanicKind) → R (panics a kind) (panics b kind)
  panics-same kind = stands-same _

  pub dies-same : (kind : PanicKind) → R (dies a kind) (dies b kind)
  unfolding R
  dies-same kind = (_, [], refl, (_, refl, refl), refl)

  pub blocks-same : (k : FrameView) (kind : WaitKind) (ws : List Wait) → R (blocks a k kind ws) (blocks b k kind ws)
  unfolding R
  blocks-same k kind ws = (_, [], refl, (h, i, refl), refl)

  leaves-same : (vs : List Value) (m : Option Value) → R (leaves a vs m) (leaves b vs m)
  leaves-same vs None = none
  leaves-same vs (Some v) = goes-same (v ∷ vs)

  replaces : (o : ℕ) (x : Object) (cs ds : List Change) → R cs ds → R (Change.Replace o x ∷ cs) (Change.Replace o x ∷ ds)
  unfolding R
  replaces o x cs ds r = (_, ds, refl, refl, r)

  makes-same : (x : Object) (vs : List Value) → R (makes a x vs s) (makes b x vs t)
  unfolding R
  makes-same x vs = subst (λ n. R (makes a x vs s) (Change.Make x ∷ goes b (Value.Ref (record { 0 = n + 1 }) ∷ vs)))
      (ap (λ (u : State). u.last_object) al.others)
      (_, _, refl, refl, goes-same (Value.Ref (record { 0 = s.last_object + 1 }) ∷ vs))

  stores-same : (k : ℕ) → R (stores a k) (stores b k)
  stores-same k = by-taking_one R none _ _ f.operands
      (λ v r. by-on_some R none _ _ (slice_get f.slots k) (λ old. stands-same _))

  two_ints-same : (act other : ℤ → ℤ → List Value → List Change)
      → ((m n : ℤ) (r : List Value) → R (act m n r) (other m n r))
      → R (two_ints act f.operands) (two_ints other f.operands)
  two_ints-same act other k = by-taking_two R none _ _ f.operands
      (λ x y r. by-on_some R none _ _ (int_of x) (λ m. by-on_some R none _ _ (int_of y) (λ n. k m n r)))

  loads_global-same : (k : ℕ) → R (loads_global a k s) (loads_global b k t)
  loads_global-same k = subst (λ gs. R (loads_global a k s) (leaves b f.operands (slice_get gs k)))
      (ap (λ (u : State). u.globals) al.others) (leaves-same f.operands (slice_get s.globals k))

  stores_global-same : (k : ℕ) → R (stores_global a k s) (stores_global b k t)
  unfolding R
  stores_global-same k = by-taking_one R none _ _ f.operands
      (λ v r. subst (λ gs. R (on_some (λ old. Change.SetGlobal k v ∷ goes a r) (slice_get s.globals k))
      (on_some (λ old. Change.SetGlobal k v ∷ goes b r) (slice_get gs k))) (ap (λ (u : State). u.globals) al.others)
      (by-on_some R none _ _ (slice_get s.globals k) (λ old. (_, _, refl, refl, goes-same r))))

  gets_field-same : (k : ℕ) → R (gets_field a k s) (gets_field b k t)
  gets_field-same k = by-taking_one R none _ _ f.operands
      (λ p r. by-reference R none a b _ _ p (panics-same PanicKind.NilPointer)
      (λ o. at-object o _ _ (λ m. by-struct R none _ _ m (λ fields. leaves-same r (slice_get fields k)))))

  sets_field-same : (k : ℕ) → R (sets_field a k s) (sets_field b k t)
  sets_field-same k = by-taking_two R none _ _ f.operands
      (λ p v r. by-reference R none a b _ _ p (panics-same PanicKind.NilPointer)
      (λ o. at-object o _ _ (λ m. by-struct R none _ _ m
      (λ fields. by-on_some R none _ _ (slice_get fields k)
      (λ old. replaces o (Object.Struct (slice_set fields k v)) _ _ (goes-same r))))))

  within-same : (n : ℤ) (len : ℕ) (act other : Value → List Change) (m : Option Value)
      → ((v : Value) → R (act v) (other v)) → R (within a n len act m) (within b n len other m)
  within-same n len act other None k = panics-same _
  within-same n len act other (Some v) k = k v

  gets_element-same : R (gets_element a s) (gets_element b t)
  gets_element-same = by-taking_two R none _ _ f.operands
      (λ x y r. by-on_some R none _ _ (int_of y) (λ n. by-reference_or R none _ _ _ _ x (panics-same _)
      (λ o. at-object o _ _ (λ m. by-slice R none _ _ m
      (λ xs. within-same n (length xs) _ _ (element xs n) (λ v. goes-same (v ∷ r)))))))

  sets_element-same : R (sets_element a s) (sets_element b t)
  sets_element-same = by-taking_three R none _ _ f.operands
      (λ x y v r. by-on_some R none _ _ (int_of y) (λ n. by-reference_or R none _ _ _ _ x (panics-same _)
      (λ o. at-object o _ _ (λ m. by-slice R none _ _ m
      (λ xs. within-same n (length xs) _ _ (element xs n)
      (λ old. replaces o (Object.Slice (slice_set xs (unsigned_abs n) v)) _ _ (goes-same r)))))))

  measures-same : R (measures a s) (measures b t)
  measures-same = by-taking_one R none _ _ f.operands
      (λ x r. by-reference_or R none _ _ _ _ x (goes-same _)
      (λ o. at-object o _ _ (λ m. by-on_some R none _ _ m
      (λ y. by-on_some R none _ _ (length_of y) (λ n. goes-same (Value.Int (pos n) ∷ r))))))

  locks_by-same : (r : List Value) (o : ℕ) (l : Bool) → R (locks_by a r o l) (locks_by b r o l)
  locks_by-same r o true = blocks-same _ _ _
  locks_by-same r o false = replaces o _ _ _ (goes-same r)

  locks-same : R (locks a s) (locks b t)
  locks-same = by-taking_one R none _ _ f.operands
      (λ x r. by-reference R none a b _ _ x (panics-same PanicKind.NilPointer)
      (λ o. at-object o _ _ (λ m. by-mutex R none _ _ m (locks_by-same r o))))

  waits-same : R (waits a s) (waits b t)
  waits-same = by-taking_one R none _ _ f.operands
      (λ x r. by-reference R none a b _ _ x (panics-same PanicKind.NilPointer)
      (λ o. at-object o _ _ (λ m. by-group R none _ _ m
      (λ n. by-choose R none (is_zero n) _ _ _ _ (goes-same r)
      (blocks-same (next f r) WaitKind.Group (bare_wait o Side.Group ∷ []))))))

  write_locks-same : R (write_locks a s) (write_locks b t)
  write_locks-same = by-taking_one R none _ _ f.operands
      (λ x r. by-reference R none a b _ _ x (panics-same PanicKind.NilPointer)
      (λ o. at-object o _ _ (λ m. by-rw R none _ _ m
      (λ n. by-choose R none (is_zero n) _ _ _ _ (replaces o (Object.Rw (negsuc 0)) _ _ (goes-same r))
      (blocks-same (next f r) WaitKind.WriteLock (bare_wait o Side.Write ∷ []))))))

  makes_condition-same : R (makes_condition a s) (makes_condition b t)
  makes_condition-same = by-taking_one R none _ _ f.operands
      (λ x r. by-reference_or R none _ _ _ _ x (makes-same (Object.Cond x) r)
      (λ o. at-object o _ _ (λ m. by-mutex R none _ _ m (λ l. makes-same (Object.Cond x) r))))

  gets_mutex-same : R (gets_mutex a s) (gets_mutex b t)
  gets_mutex-same = by-taking_one R none _ _ f.operands
      (λ x r. by-reference R none a b _ _ x (panics-same PanicKind.NilPointer)
      (λ o. at-object o _ _ (λ m. by-condition R none _ _ m (λ v. goes-same (v ∷ r)))))

  makes_slice-same : (z : Value) → R (makes_slice a z s) (makes_slice b z t)
  makes_slice-same z = by-taking_one R none _ _ f.operands
      (λ x r. by-on_some R none _ _ (int_of x)
      (λ n. by-choose R none (is_bad_size n) _ _ _ _ (panics-same PanicKind.SliceSize)
      (makes-same (Object.Slice (replicate (unsigned_abs n) (zero_of z))) r)))

  makes_channel-same : (z : Value) → R (makes_channel a z s) (makes_channel b z t)
  makes_channel-same z = by-taking_one R none _ _ f.operands
      (λ x r. by-on_some R none _ _ (int_of x)
      (λ n. by-choose R none (is_bad_size n) _ _ _ _ (panics-same PanicKind.ChanSize)
      (makes-same (Object.Chan (new_channel (unsigned_abs n) z)) r)))

  makes_struct-same : (code : Code) (k : ℕ) → R (makes_struct code a k s) (makes_struct code b k t)
  makes_struct-same code k = by-on_some R none _ _ (slice_get code.structs k)
      (λ row. makes-same (Object.Struct (zeros_of row)) f.operands)

  -- ---- calls and returns

  becomes : (fs : List FrameView) → R (Change.Become g (with_frames a fs) ∷ []) (Change.Become h (with_frames b fs) ∷ [])
  unfolding R
  becomes fs = (_, [], refl, (h, i, refl, refl), refl)

  enters-same : (fs : List FrameView) (k : FrameView) → R (enters a fs k) (enters b fs k)
  enters-same fs k = by-choose R none (is_full fs) _ _ _ _ (dies-same PanicKind.StackOverflow) (becomes (k ∷ fs))

  calls-same : (code : Code) (k n : ℕ) → R (calls code a k n) (calls code b k n)
  calls-same code k n = by-taking_from R none n [] f.operands _ _
      (λ xs r. by-on_some R none _ _ (call_frame code k xs false) (λ x. enters-same (next f r ∷ callers) x))

  spawned : (x : GoroutineView) → x.mode ≡ Mode.Running → (cs ds : List Change) → R cs ds
      → R (Change.Spawn x ∷ cs) (Change.Spawn x ∷ ds)
  unfolding R
  spawned x on cs ds r = (_, ds, refl, (on, refl), r)

  spawns-same : (code : Code) (k n : ℕ) → R (spawns code a k n) (spawns code b k n)
  spawns-same code k n = by-taking_from R none n [] f.operands _ _
      (λ xs r. by-on_some R none _ _ (call_frame code k xs true)
      (λ x. spawned (record { frames = x ∷ []; mode = Mode.Running; started = line }) refl _ _ (goes-same r)))

  defers-same : (k n : ℕ) → R (defers a k n) (defers b k n)
  defers-same k n = by-taking_from R none n [] f.operands _ _ (λ xs r. stands-same (record
      f { at = f.at + 1; operands = r; deferred = record { function = k; arguments = xs } ∷ f.deferred }))

  -- goroutine 0 stays, and any other leaves
  ends-same : R (ends a) (ends b)
  unfolding R
  ends-same = elim (g == 0) as (λ c. g == 0 ≡ c → (h == 0) ≡ c → AllSimple ps (ends a) (ends b)) [
    | true ↦ λ x y. let zg = eqb-true g 0 x in let zh = eqb-true h 0 y in
        let both : In (0, 0) ps = subst (λ k. In (k, 0) ps) zg (subst (λ k. In (g, k) ps) zh i) in
        subst (λ c. AllSimple ps (choose c (Change.Become 0 (with_frames a []) ∷ []) (Change.Leave g ∷ [])) (ends b))
        (sym x) (subst (λ c. AllSimple ps (Change.Become 0 (with_frames a []) ∷ [])
        (choose c (Change.Become 0 (with_frames b []) ∷ []) (Change.Leave h ∷ []))) (sym y)
        (_, [], refl, (0, both, refl, refl), refl))
    | false ↦ λ x y.
        subst (λ c. AllSimple ps (choose c (Change.Become 0 (with_frames a []) ∷ []) (Change.Leave g ∷ [])) (ends b))
        (sym x) (subst (λ c. AllSimple ps (Change.Leave g ∷ [])
        (choose c (Change.Become 0 (with_frames b []) ∷ []) (Change.Leave h ∷ []))) (sym y)
        (_, [], refl, (h, i, refl), refl))
  ] refl (sym (al.zero_one g h i).0)

  appended : (cs ds es fs : List Change) → R cs ds → R es fs → R (cs ++ es) (ds ++ fs)
  unfolding R
  appended cs ds es fs p q = simple-append ps cs ds es fs p q

  finished : (e k : Ending) → nameless (Some e) ≡ nameless (Some k) → R (Change.Finish e ∷ []) (Change.Finish k ∷ [])
  unfolding R
  finished e k same = (_, [], refl, (k, same, refl), refl)

  ends_returning-same : R (ends_returning a) (ends_returning b)
  ends_returning-same = subst (λ c. R (ends_returning a) (ends b ++ choose c (Change.Finish Ending.Returned ∷ []) []))
      (al.zero_one g h i).1
      (appended (ends a) (ends b) _ _ ends-same
      (by-choose R none (g == 1) _ _ _ _ (finished Ending.Returned Ending.Returned refl) none))

  returns_to-same : (v : Option Value) (fs : List FrameView) → R (returns_to a v fs) (returns_to b v fs)
  returns_to-same v [] = ends_returning-same
  returns_to-same v (k ∷ fs) = becomes (handed_back f.discards v k ∷ fs)

  unwinds_to-same : (x : Fault) (fs : List FrameView) → R (unwinds_to a x fs) (unwinds_to b x fs)
  unwinds_to-same x [] = appended (ends a) (ends b) _ _ ends-same
      (finished (Ending.Panicked x.kind (record { 0 = g }) x.line) (Ending.Panicked x.kind (record { 0 = h }) x.line)
      refl)
  unwinds_to-same x (k ∷ fs) = becomes (unwinding x k ∷ fs)

  returns_by-same : (v : Option Value) (r : List Value) (ds : List Deferred) → R (returns_by a v r ds) (returns_by b v r ds)
  returns_by-same v r [] = returns_to-same v callers
  returns_by-same v r (d ∷ ds) = stands-same (record f { at = f.at + 1; operands = r; leaving = Leaving.Returning v })

  begins_deferred-same : (code : Code) (d : Deferred) (ds : List Deferred)
      → R (begins_deferred code a d ds) (begins_deferred code b d ds)
  begins_deferred-same code d ds = by-on_some R none _ _ (call_frame code d.function d.arguments true)
      (λ x. enters-same (record f { deferred = ds } ∷ callers) x)

  pub leaves_returning-same : (code : Code) (v : Option Value) (ds : List Deferred)
      → R (leaves_returning code a v ds) (leaves_returning code b v ds)
  leaves_returning-same code v [] = returns_to-same v callers
  leaves_returning-same code v (d ∷ ds) = begins_deferred-same code d ds

  pub leaves_unwinding-same : (code : Code) (x : Fault) (ds : List Deferred)
      → R (leaves_unwinding code a x ds) (leaves_unwinding code b x ds)
  leaves_unwinding-same code x [] = unwinds_to-same x callers
  leaves_unwinding-same code x (d ∷ ds) = begins_deferred-same code d ds

  -- ---- finalisers and prints

  plus : (c : Change) (cs ds : List Change) → Simple ps c c → R cs ds → R (c ∷ cs) (c ∷ ds)
  unfolding R
  plus c cs ds e r = (c, ds, refl, e, r)

  prints-same : (code : Code) (n : ℕ) → R (prints code a n) (prints code b n)
  prints-same code n = by-taking_from R none n [] f.operands _ _
      (λ vs r. by-on_some R none _ _ (line_bytes code.texts vs)
      (λ bytes. plus (Change.Output bytes) _ _ refl (goes-same r)))

  panics_with-same : R (panics_with a) (panics_with b)
  panics_with-same = by-taking_one R none _ _ f.operands
      (λ x r. by-on_some R none _ _ (text_of x) (λ k. panics-same (PanicKind.Custom k)))

  finalises_by-same : (r : List Value) (k o : ℕ) (m : Option ℕ) → R (finalises_by a r k o m) (finalises_by b r k o m)
  finalises_by-same r k o None = plus (Change.SetFinaliser o k) _ _ refl (goes-same r)
  finalises_by-same r k o (Some old) = dies-same PanicKind.FinalizerSet

  finalises-same : (k : ℕ) → R (finalises a k s) (finalises b k t)
  finalises-same k = by-taking_one R none _ _ f.operands
      (λ p r. by-reference R none a b _ _ p (panics-same PanicKind.NilPointer)
      (λ o. at-object o _ _ (λ m. by-struct R none _ _ m
      (λ fields. subst (λ fs. R (finalises_by a r k o (find o s.finalisers)) (finalises_by b r k o (find o fs)))
      (ap (λ (u : State). u.finalisers) al.others) (finalises_by-same r k o (find o s.finalisers))))))

  unfinalises-same : R (unfinalises a s) (unfinalises b t)
  unfinalises-same = by-taking_one R none _ _ f.operands
      (λ p r. by-reference_or R none _ _ _ _ p (goes-same r)
      (λ o. at-object o _ _ (λ m. by-struct R none _ _ m
      (λ fields. plus (Change.ClearFinaliser o) _ _ refl (goes-same r)))))

  -- ---- the instructions that look up no waiter

  -- the instruction looks up no waiter, and wakes nobody
  abbrev pub looks_up_none : Instr → Bool
  looks_up_none Instr.Send = false
  looks_up_none Instr.Receive = false
  looks_up_none Instr.ReceiveOk = false
  looks_up_none Instr.Close = false
  looks_up_none (Instr.Select cases otherwise) = false
  looks_up_none Instr.Unlock = false
  looks_up_none Instr.GroupAdd = false
  looks_up_none Instr.RwUnlock = false
  looks_up_none Instr.ReadLock = false
  looks_up_none Instr.ReadUnlock = false
  looks_up_none Instr.CondWait = false
  looks_up_none Instr.CondSignal = false
  looks_up_none Instr.CondBroadcast = false
  looks_up_none _ = true

  pub simple-instructions : (code : Code) (x : Instr) (choice : ℕ) → looks_up_none x ≡ true
      → R (changes code x a choice s) (changes code x b choice t)
  simple-instructions code (Instr.Int n) choice p = goes-same _
  simple-instructions code (Instr.Bool n) choice p = goes-same _
  simple-instructions code (Instr.Text n) choice p = goes-same _
  simple-instructions code Instr.Unit choice p = goes-same _
  simple-instructions code Instr.Nil choice p = goes-same _
  simple-instructions code (Instr.Load k) choice p = leaves-same f.operands (slice_get f.slots k)
  simple-instructions code (Instr.Store k) choice p = stores-same k
  simple-instructions code (Instr.LoadGlobal k) choice p = loads_global-same k
  simple-instructions code (Instr.StoreGlobal k) choice p = stores_global-same k
  simple-instructions code Instr.Drop choice p = by-taking_one R none _ _ f.operands (λ v r. goes-same r)
  simple-instructions code Instr.Dup choice p = by-taking_one R none _ _ f.operands (λ v r. goes-same (v ∷ v ∷ r))
  simple-instructions code Instr.Dup2 choice p =
      by-taking_two R none _ _ f.operands (λ x y r. goes-same (y ∷ x ∷ y ∷ x ∷ r))
  simple-instructions code (Instr.Jump target) choice p = stands-same _
  simple-instructions code (Instr.NewStruct k) choice p = makes_struct-same code k
  simple-instructions code Instr.NewMutex choice p = makes-same (Object.Mutex false) f.operands
  simple-instructions code Instr.NewGroup choice p = makes-same (Object.Group (pos 0)) f.operands
  simple-instructions code Instr.NewRw choice p = makes-same (Object.Rw (pos 0)) f.operands
  simple-instructions code Instr.NewCond choice p = makes_condition-same
  simple-instructions code (Instr.Field k) choice p = gets_field-same k
  simple-instructions code (Instr.SetField k) choice p = sets_field-same k
  simple-instructions code (Instr.NewSlice z) choice p = makes_slice-same z
  simple-instructions code (Instr.NewChan z) choice p = makes_channel-same z
  simple-instructions code Instr.Index choice p = gets_element-same
  simple-instructions code Instr.SetIndex choice p = sets_element-same
  simple-instructions code Instr.Len choice p = measures-same
  simple-instructions code Instr.Lock choice p = locks-same
  simple-instructions code Instr.GroupWait choice p = waits-same
  simple-instructions code Instr.RwLock choice p = write_locks-same
  simple-instructions code Instr.CondMutex choice p = gets_mutex-same
  simple-instructions code (Instr.Call k n) choice p = calls-same code k n
  simple-instructions code (Instr.Go k n) choice p = spawns-same code k n
  simple-instructions code (Instr.Defer k n) choice p = defers-same k n
  simple-instructions code Instr.Return choice p = returns_by-same None f.operands f.deferred
  simple-instructions code Instr.ReturnValue choice p =
      by-taking_one R none _ _ f.operands (λ v r. returns_by-same (Some v) r f.deferred)
  simple-instructions code (Instr.Print n) choice p = prints-same code n
  simple-instructions code Instr.Collect choice p = goes-same f.operands
  simple-instructions code (Instr.SetFinalizer k) choice p = finalises-same k
  simple-instructions code Instr.ClearFinalizer choice p = unfinalises-same
  simple-instructions code Instr.Panic choice p = panics_with-same
  simple-instructions code Instr.Neg choice p = by-taking_one R none _ _ f.operands
      (λ x r. by-on_some R none _ _ (int_of x) (λ n. goes-same (Value.Int (int_wrapping_neg w64 n) ∷ r)))
  simple-instructions code Instr.Not choice p = by-taking_one R none _ _ f.operands
      (λ x r. by-on_some R none _ _ (bool_of x) (λ c. goes-same (Value.Bool (not c) ∷ r)))
  simple-instructions code Instr.Add choice p = two_ints-same _ _ (λ m n r. goes-same (Value.Int (sum m n) ∷ r))
  simple-instructions code Instr.Sub choice p = two_ints-same _ _ (λ m n r. goes-same (Value.Int (difference m n) ∷ r))
  simple-instructions code Instr.Mul choice p = two_ints-same _ _ (λ m n r. goes-same (Value.Int (product m n) ∷ r))
  simple-instructions code Instr.Div choice p = two_ints-same _ _ (λ m n r. by-choose R none (is_zero n) _ _ _ _
      (panics-same PanicKind.DivideByZero) (goes-same (Value.Int (quotient m n) ∷ r)))
  simple-instructions code Instr.Rem choice p = two_ints-same _ _ (λ m n r. by-choose R none (is_zero n) _ _ _ _
      (panics-same PanicKind.DivideByZero) (goes-same (Value.Int (remainder m n) ∷ r)))
  simple-instructions code Instr.Less choice p = two_ints-same _ _ (λ m n r. goes-same (Value.Bool (int_lt m n) ∷ r))
  simple-instructions code Instr.AtMost choice p = two_ints-same _ _ (λ m n r. goes-same (Value.Bool (int_le m n) ∷ r))
  simple-instructions code Instr.Eq choice p = by-taking_two R none _ _ f.operands
      (λ x y r. by-on_some R none _ _ (equality x y) (λ c. goes-same (Value.Bool c ∷ r)))
  simple-instructions code (Instr.JumpIfNot target) choice p = by-taking_one R none _ _ f.operands
      (λ x r. by-on_some R none _ _ (bool_of x) (λ c. by-choose R none c _ _ _ _ (goes-same r)
      (stands-same (record f { at = target; operands = r }))))
  simple-instructions code _ choice p = cc

  -- ---- the instructions that look up the first waiter

  module _ (rs : IsRising s.goroutines) (rt : IsRising t.goroutines) (os : IsOrderly s) (ot : IsOrderly t) where
    by-first : (o : ℕ) (side : Side) (act other : Option Waiter → List Change) → R (act None) (other None)
        → ((w v : Waiter) → Partners ps s t al rs rt os ot o side w v → R (act (Some w)) (other (Some v)))
        → R (act (first o side s.goroutines)) (other (first o side t.goroutines))
    by-first o side act other n k = elim (first-alike ps s t al rs rt os ot o side) [
      | inl e ↦ subst (λ m. R (act m) (other (first o side t.goroutines))) (sym e.0)
          (subst (λ m. R (act None) (other m)) (sym e.1) n)
      | inr e ↦ subst (λ m. R (act m) (other (first o side t.goroutines))) (sym e.2)
          (subst (λ m. R (act (Some e.0)) (other m)) (sym e.3) (k e.0 e.1 e.4))
    ]

    module _ (o : ℕ) (side : Side) (w v : Waiter) (p : Partners ps s t al rs rt os ot o side w v) where
      served-same : (F : Wait → List Value) → R (served w (F w.wait) ∷ []) (served v (F v.wait) ∷ [])
      unfolding R
      served-same F = (
        _,
        [],
        refl,
        (
          v.number,
          p.pair,
          refl,
          ap (λ x. Change.Become v.number (resumed x (F x) v.goroutine)) p.wait
              ∙ ap (λ (r : GoroutineView). Change.Become v.number (resumed w.wait (F w.wait) r)) (sym p.view),
        ),
        refl,
      )

      runs-same : R (runs w ∷ []) (runs v ∷ [])
      unfolding R
      runs-same = (
        _,
        [],
        refl,
        (
          v.number,
          p.pair,
          refl,
          ap (λ (r : GoroutineView). Change.Become v.number (released r)) (sym p.view),
        ),
        refl,
      )

      passes-same : (m : ℕ) → R (Change.Requeue w.number m ∷ []) (Change.Requeue v.number m ∷ [])
      unfolding R
      passes-same m = (_, [], refl, (v.number, p.pair, refl), refl)

    buffers-same : (k : FrameView) (o : ℕ) (x : Value) (c : Channel) → R (buffers a k o x c) (buffers b k o x c)
    buffers-same k o x c = by-choose R none (nat_lt (length c.buffer) c.capacity) _ _ _ _
        (replaces o (Object.Chan (record c { buffer = c.buffer ++ x ∷ [] })) _ _ (stands-same k))
        (blocks-same k WaitKind.Send (send_wait o x None ∷ []))

    sends_on-same : (k : FrameView) (x : Value) (o : ℕ) → R (sends_on a k x s o) (sends_on b k x t o)
    sends_on-same k x o = at-object o _ _ (λ m. by-channel R none _ _ m
        (λ c. by-choose R none c.closed _ _ _ _ (panics-same PanicKind.SendClosed)
        (by-first o Side.Receive (sends_to a k o x c) (sends_to b k o x c) (buffers-same k o x c)
        (λ w v p. appended (stands a k) (stands b k) _ _ (stands-same k)
        (served-same o Side.Receive w v p (λ y. received y.with_ok x true))))))

    pub sends-same : R (sends a s) (sends b t)
    sends-same = by-taking_two R none _ _ f.operands
        (λ c x r. by-reference_or R none _ _ _ _ c (blocks-same (next f r) WaitKind.SendNil [])
        (λ o. sends_on-same (next f r) x o))

    replaces-eq : (o : ℕ) (x y : Object) (cs ds : List Change) → x ≡ y → R cs ds
        → R (Change.Replace o x ∷ cs) (Change.Replace o y ∷ ds)
    replaces-eq o x y cs ds e r =
        subst (λ z. R (Change.Replace o x ∷ cs) (Change.Replace o z ∷ ds)) e (replaces o x cs ds r)

    unbuffered-same : (k : FrameView) (ok : Bool) (o : ℕ) (c : Channel)
        → R (receives_unbuffered a k ok o c (first o Side.Send s.goroutines))
        (receives_unbuffered b k ok o c (first o Side.Send t.goroutines))
    unbuffered-same k ok o c = by-first o Side.Send (receives_unbuffered a k ok o c) (receives_unbuffered b k ok o c)
        (by-choose R none c.closed _ _ _ _ (stands-same (given k (received ok c.zero false)))
        (blocks-same k WaitKind.Receive (receive_wait o None ok ∷ [])))
        (λ w v p. subst (λ (y : Wait). R (receives_unbuffered a k ok o c (Some w))
        (stands b (given k (received ok y.value true)) ++ (served v [] ∷ []))) (sym p.wait)
        (appended _ _ _ _ (stands-same (given k (received ok w.wait.value true)))
        (served-same o Side.Send w v p (λ y. []))))

    receives_from-same : (k : FrameView) (ok : Bool) (o : ℕ) (c : Channel) (xs : List Value)
        → R (receives_from a k ok o c xs (first o Side.Send s.goroutines))
        (receives_from b k ok o c xs (first o Side.Send t.goroutines))
    receives_from-same k ok o c [] = unbuffered-same k ok o c
    receives_from-same k ok o c (x ∷ xs) =
        by-first o Side.Send (receives_from a k ok o c (x ∷ xs)) (receives_from b k ok o c (x ∷ xs))
        (replaces o (Object.Chan (record c { buffer = xs ++ [] })) _ _
        (appended _ _ [] [] (stands-same (given k (received ok x true))) none))
        (λ w v p. replaces-eq o _ _ _ _
        (ap (λ (y : Wait). Object.Chan (record c { buffer = xs ++ y.value ∷ [] })) (sym p.wait))
        (appended _ _ _ _ (stands-same (given k (received ok x true))) (served-same o Side.Send w v p (λ y. []))))

    pub receives-same : (ok : Bool) → R (receives ok a s) (receives ok b t)
    receives-same ok = by-taking_one R none _ _ f.operands
        (λ c r. by-reference_or R none _ _ _ _ c (blocks-same (next f r) WaitKind.ReceiveNil [])
        (λ o. at-object o _ _ (λ m. by-channel R none _ _ m (λ d. receives_from-same (next f r) ok o d d.buffer))))

    hands_over-same : (o : ℕ) → R (hands_over o (first o Side.Lock s.goroutines))
        (hands_over o (first o Side.Lock t.goroutines))
    hands_over-same o = by-first o Side.Lock (hands_over o) (hands_over o)
        (replaces o (Object.Mutex false) [] [] none) (λ w v p. runs-same o Side.Lock w v p)

    unlocks_by-same : (r : List Value) (o : ℕ) (l : Bool) → R (unlocks_by a r s o l) (unlocks_by b r t o l)
    unlocks_by-same r o true = appended _ _ _ _ (goes-same r) (hands_over-same o)
    unlocks_by-same r o false = dies-same PanicKind.UnlockUnlocked

    pub unlocks-same : R (unlocks a s) (unlocks b t)
    unlocks-same = by-taking_one R none _ _ f.operands
        (λ x r. by-reference R none a b _ _ x (panics-same PanicKind.NilPointer)
        (λ o. at-object o _ _ (λ m. by-mutex R none _ _ m (unlocks_by-same r o))))

    awaits_by-same : (r : List Value) (o m : ℕ) (l : Bool) → R (awaits_by a r s o m l) (awaits_by b r t o m l)
    awaits_by-same r o m true = appended _ _ _ _ (hands_over-same m)
        (blocks-same (next f r) WaitKind.Condition (bare_wait o Side.Cond ∷ []))
    awaits_by-same r o m false = dies-same PanicKind.UnlockUnlocked

    pub awaits-same : R (awaits a s) (awaits b t)
    awaits-same = by-taking_one R none _ _ f.operands
        (λ x r. by-reference R none a b _ _ x (panics-same PanicKind.NilPointer)
        (λ o. at-object o _ _ (λ m. by-condition R none _ _ m
        (λ y. by-reference R none a b _ _ y (panics-same PanicKind.NilPointer)
        (λ p. at-object p _ _ (λ z. by-mutex R none _ _ z (awaits_by-same r o p)))))))

    read_locks_by-same : (r : List Value) (o : ℕ) (n : ℤ) → R (read_locks_by a r s o n) (read_locks_by b r t o n)
    read_locks_by-same r o n = by-first o Side.Write
        (λ m. choose (is_minus_one n || is_some m) (blocks a (next f r) WaitKind.ReadLock (bare_wait o Side.Read ∷ []))
        (choose (int_le (pos most_readers) n) (dies a PanicKind.ReaderLimit)
        (Change.Replace o (Object.Rw (n +ℤ pos 1)) ∷ goes a r)))
        (λ m. choose (is_minus_one n || is_some m) (blocks b (next f r) WaitKind.ReadLock (bare_wait o Side.Read ∷ []))
        (choose (int_le (pos most_readers) n) (dies b PanicKind.ReaderLimit)
        (Change.Replace o (Object.Rw (n +ℤ pos 1)) ∷ goes b r)))
        (by-choose R none (is_minus_one n || false) _ _ _ _
        (blocks-same (next f r) WaitKind.ReadLock (bare_wait o Side.Read ∷ [])) inner)
        (λ w v p. by-choose R none (is_minus_one n || true) _ _ _ _
        (blocks-same (next f r) WaitKind.ReadLock (bare_wait o Side.Read ∷ [])) inner) where
          inner : R (choose (int_le (pos most_readers) n) (dies a PanicKind.ReaderLimit)
              (Change.Replace o (Object.Rw (n +ℤ pos 1)) ∷ goes a r))
              (choose (int_le (pos most_readers) n) (dies b PanicKind.ReaderLimit)
              (Change.Replace o (Object.Rw (n +ℤ pos 1)) ∷ goes b r))
          inner = by-choose R none (int_le (pos most_readers) n) _ _ _ _ (dies-same PanicKind.ReaderLimit)
              (replaces o (Object.Rw (n +ℤ pos 1)) _ _ (goes-same r))

    pub read_locks-same : R (read_locks a s) (read_locks b t)
    read_locks-same = by-taking_one R none _ _ f.operands
        (λ x r. by-reference R none a b _ _ x (panics-same PanicKind.NilPointer)
        (λ o. at-object o _ _ (λ m. by-rw R none _ _ m (read_locks_by-same r o))))

  -- ---- the instructions that wake all who wait, where no ticket is asked for

  pub Q : List Change → List Change → Type 0
  Q = AllSame ps s t

  calm : Q [] []
  unfolding Q
  calm = refl

  pub simple : (cs ds : List Change) → R cs ds → Q cs ds
  unfolding Q R
  simple cs ds r = all-simple ps s t cs ds r

  at-object-all : (o : ℕ) (act other : Option Object → List Change) → ((m : Option Object) → Q (act m) (other m))
      → Q (act (find o s.objects)) (other (find o t.objects))
  at-object-all o act other k = subst (λ os. Q (act (find o s.objects)) (other (find o os))) objects-same
      (k (find o s.objects))

  wakes : (o : ℕ) (how : Waking)
      → ((r q : GoroutineView) → blank r ≡ blank q → blank (woken_by how o r) ≡ blank (woken_by how o q))
      → (x : Object) (vs : List Value) → Q (Change.Replace o x ∷ (goes a vs ++ (Change.WakeAll o how ∷ [])))
      (Change.Replace o x ∷ (goes b vs ++ (Change.WakeAll o how ∷ [])))
  unfolding Q
  wakes o how same x vs = (
    _,
    _,
    refl,
    refl,
    (
      _,
      _,
      refl,
      (h, i, refl, refl),
      (_, [], refl, (how, (λ k l j r q fr fq e. same r q e), refl), refl),
    ),
  )

  pub closes-same : Q (closes a s) (closes b t)
  closes-same = by-taking_one Q calm _ _ f.operands
      (λ c r. by-reference_or Q calm _ _ _ _ c (simple _ _ (panics-same PanicKind.CloseNil))
      (λ o. at-object-all o _ _ (λ m. by-channel Q calm _ _ m
      (λ d. by-choose Q calm d.closed _ _ _ _ (simple _ _ (panics-same PanicKind.CloseClosed))
      (wakes o (Waking.Closing d.zero) (woken-closing d.zero o) (Object.Chan (record d { closed = true })) r)))))

  counts-same : (r : List Value) (o : ℕ) (n : ℤ) → Q (counts a r o n) (counts b r o n)
  counts-same r o n = by-choose Q calm (int_lt n (pos 0)) _ _ _ _ (simple _ _ (panics-same PanicKind.NegativeGroup))
      (elim (is_zero n) as (λ z. Q (Change.Replace o (Object.Group n)
      ∷ (goes a r ++ choose z (Change.WakeAll o Waking.AtZero ∷ []) []))
      (Change.Replace o (Object.Group n) ∷ (goes b r ++ choose z (Change.WakeAll o Waking.AtZero ∷ []) []))) [
        | true ↦ wakes o Waking.AtZero (woken-at_zero o) (Object.Group n) r
        | false ↦ simple _ _ (replaces o (Object.Group n) _ _ (appended _ _ [] [] (goes-same r) none))
      ])

  pub adds-same : Q (adds a s) (adds b t)
  adds-same = by-taking_two Q calm _ _ f.operands
      (λ w x r. by-on_some Q calm _ _ (int_of x)
      (λ d. by-reference Q calm a b _ _ w (simple _ _ (panics-same PanicKind.NilPointer))
      (λ o. at-object-all o _ _ (λ m. by-group Q calm _ _ m (λ n. counts-same r o (sum n d))))))

  -- ---- signals and `select`

  module _ (rs : IsRising s.goroutines) (rt : IsRising t.goroutines) (os : IsOrderly s) (ot : IsOrderly t) where
    pub signals-same : R (signals a s) (signals b t)
    signals-same = by-taking_one R none _ _ f.operands
        (λ x r. by-reference R none a b _ _ x (panics-same PanicKind.NilPointer)
        (λ o. at-object o _ _ (λ m. by-condition R none _ _ m
        (λ y. by-first rs rt os ot o Side.Cond (λ w. notifies a r s (first_only w) y)
        (λ w. notifies b r t (first_only w) y) (goes-same r)
        (λ w v p. by-reference_or R none _ _ _ _ y none
        (λ k. at-object k _ _ (λ z. by-mutex R none _ _ z
        (λ l. appended _ _ _ _ (goes-same r) (passes-same rs rt os ot o Side.Cond w v p k)))))))))

    some-first : (o : ℕ) (side : Side) → is_some (first o side s.goroutines) ≡ is_some (first o side t.goroutines)
    some-first o side = elim (first-alike ps s t al rs rt os ot o side) [
      | inl e ↦ ap is_some e.0 ∙ sym (ap is_some e.1)
      | inr e ↦ ap is_some e.2 ∙ sym (ap is_some e.3)
    ]

    nil_or_channel-same : (v : Value) → is_nil_or_channel s v ≡ is_nil_or_channel t v
    nil_or_channel-same (Value.Ref o) = ap (λ xs. is_channel (find o.0 xs)) objects-same
    nil_or_channel-same _ = refl

    all_on_channels-same : (xs : List Offer) → all_on_channels s xs ≡ all_on_channels t xs
    all_on_channels-same [] = refl
    all_on_channels-same (x ∷ xs) = ap (λ c. c && all_on_channels s xs) (nil_or_channel-same x.channel)
        ∙ ap (λ c. is_nil_or_channel t x.channel && c) (all_on_channels-same xs)

    can_proceed-same : (kind : CaseKind) (o : ℕ) (d : Channel)
        → can_proceed kind o s.goroutines d ≡ can_proceed kind o t.goroutines d
    can_proceed-same CaseKind.Send o d =
        ap (λ c. d.closed || (c || nat_lt (length d.buffer) d.capacity)) (some-first o Side.Receive)
    can_proceed-same CaseKind.Take o d = ap (λ c. not_empty d.buffer || (c || d.closed)) (some-first o Side.Send)
    can_proceed-same CaseKind.TakeOk o d = ap (λ c. not_empty d.buffer || (c || d.closed)) (some-first o Side.Send)

    ready_at-same : (kind : CaseKind) (o : ℕ) (x : Option Object)
        → is_ready_at kind o s.goroutines x ≡ is_ready_at kind o t.goroutines x
    ready_at-same kind o (Some (Object.Chan d)) = can_proceed-same kind o d
    ready_at-same kind o _ = refl

    ready_on-same : (kind : CaseKind) (v : Value) → is_ready_on kind s v ≡ is_ready_on kind t v
    ready_on-same kind (Value.Ref o) = ready_at-same kind o.0 (find o.0 s.objects)
        ∙ ap (λ xs. is_ready_at kind o.0 t.goroutines (find o.0 xs)) objects-same
    ready_on-same kind _ = refl

    ready-same : (xs : List Offer) → ready s xs ≡ ready t xs
    ready-same [] = refl
    ready-same (x ∷ xs) = ap (λ c. kept_if c x (ready s xs)) (ready_on-same x.kind x.channel)
        ∙ ap (kept_if (is_ready t x) x) (ready-same xs)

    proceeds_by-same : (k : FrameView) (kind : CaseKind) (v : Value) (o : ℕ)
        → R (proceeds_by a k kind v s o) (proceeds_by b k kind v t o)
    proceeds_by-same k CaseKind.Send v o = sends_on-same rs rt os ot k v o
    proceeds_by-same k CaseKind.Take v o = at-object o _ _
        (λ m. by-channel R none _ _ m (λ d. receives_from-same rs rt os ot k false o d d.buffer))
    proceeds_by-same k CaseKind.TakeOk v o = at-object o _ _
        (λ m. by-channel R none _ _ m (λ d. receives_from-same rs rt os ot k true o d d.buffer))

    selects_none-same : (r : List Value) (xs : List Offer) (m : Option ℕ)
        → R (selects_none a r xs m) (selects_none b r xs m)
    selects_none-same r xs None = blocks-same (next f r) (select_kind xs) (offered_waits xs)
    selects_none-same r xs (Some target) = stands-same (record f { at = target; operands = r })

    selects_one-same : (r : List Value) (xs : List Offer) (m : Option ℕ) (x : Option Offer)
        → R (selects_one a r s xs m x) (selects_one b r t xs m x)
    selects_one-same r xs m None = selects_none-same r xs m
    selects_one-same r xs m (Some x) = by-reference_or R none _ _ _ _ x.channel none
        (λ o. proceeds_by-same (record f { at = x.target; operands = r }) x.kind x.value o)

    selects_from-same : (choice : ℕ) (m : Option ℕ) (k : Option Taken)
        → R (selects_from a s choice m k) (selects_from b t choice m k)
    selects_from-same choice m None = none
    selects_from-same choice m (Some k) =
        subst (λ c. R (selects_from a s choice m (Some k))
        (choose c (selects_one b k.1 t k.0 m (chosen choice (ready t k.0))) [])) (all_on_channels-same k.0)
        (subst (λ (xs : List Offer). R (selects_from a s choice m (Some k))
        (choose (all_on_channels s k.0) (selects_one b k.1 t k.0 m (chosen choice xs)) [])) (ready-same k.0)
        (by-choose R none (all_on_channels s k.0) _ _ _ _
        (selects_one-same k.1 k.0 m (chosen choice (ready s k.0))) none))

    pub selects-same : (choice : ℕ) (cases : List SelectCase) (m : Option ℕ)
        → R (selects a s choice cases m) (selects b t choice cases m)
    selects-same choice cases m = selects_from-same choice m (offers_of cases f.operands)

    -- ---- readers and writers, and all who wait on a condition

    all : (cs ds : List Change) → AllSame ps s t cs ds → Q cs ds
    unfolding Q
    all cs ds r = r

    taken : (cs ds : List Change) → AllSimple ps cs ds → R cs ds
    unfolding R
    taken cs ds r = r

    served-all : (vs : List Value) (o : ℕ) → Q (goes a vs ++ serves o s.goroutines) (goes b vs ++ serves o t.goroutines)
    served-all vs o = all _ _ (serves-same ps s t al rs rt os ot o g h i (with_frames a (next f vs ∷ callers)) refl)

    pub write_unlocks-same : Q (write_unlocks a s) (write_unlocks b t)
    write_unlocks-same = by-taking_one Q calm _ _ f.operands
        (λ x r. by-reference Q calm a b _ _ x (simple _ _ (panics-same PanicKind.NilPointer))
        (λ o. at-object-all o _ _ (λ m. by-rw Q calm _ _ m
        (λ n. by-choose Q calm (is_minus_one n) _ _ _ _ (served-all r o)
        (simple _ _ (dies-same PanicKind.UnlockUnlockedRw))))))

    leaves_read-same : (vs : List Value) (o : ℕ) (n : ℤ)
        → Q (goes a vs ++ read_leaves o n s) (goes b vs ++ read_leaves o n t)
    leaves_read-same vs o n = elim (is_zero n) as (λ z. Q (goes a vs ++ choose z (serves o s.goroutines)
        (counted o n ∷ [])) (goes b vs ++ choose z (serves o t.goroutines) (counted o n ∷ []))) [
          | true ↦ served-all vs o
          | false ↦ simple _ _ (appended _ _ _ _ (goes-same vs) (replaces o (Object.Rw n) [] [] none))
        ]

    pub read_unlocks-same : Q (read_unlocks a s) (read_unlocks b t)
    read_unlocks-same = by-taking_one Q calm _ _ f.operands
        (λ x r. by-reference Q calm a b _ _ x (simple _ _ (panics-same PanicKind.NilPointer))
        (λ o. at-object-all o _ _ (λ m. by-rw Q calm _ _ m
        (λ n. by-choose Q calm (int_lt (pos 0) n) _ _ _ _ (leaves_read-same r o (n -ℤ pos 1))
        (simple _ _ (dies-same PanicKind.RUnlockUnlocked))))))

    notifies-same : (o : ℕ) (r : List Value) (y : Value) (ws vs : List Waiter)
        → ArePaired (WaitTogether ps s t al rs rt os ot o) ws vs → R (notifies a r s ws y) (notifies b r t vs y)
    notifies-same o r y [] vs p = subst (λ us. R (goes a r) (notifies b r t us y)) (sym p) (goes-same r)
    notifies-same o r y (w ∷ ws) vs p = subst (λ us. R (notifies a r s (w ∷ ws) y) (notifies b r t us y)) (sym p.2)
        (by-reference_or R none _ _ _ _ y none
        (λ k. at-object k _ _ (λ z. by-mutex R none _ _ z
        (λ l. appended (goes a r) (goes b r) (requeues k (w ∷ ws)) (requeues k (p.0 ∷ p.1)) (goes-same r)
        (taken _ _ (requeues-same ps s t al rs rt os ot o k (w ∷ ws) (p.0 ∷ p.1) (p.0, p.1, refl, p.3, p.4)))))))

    pub broadcasts-same : R (broadcasts a s) (broadcasts b t)
    broadcasts-same = by-taking_one R none _ _ f.operands
        (λ x r. by-reference R none a b _ _ x (panics-same PanicKind.NilPointer)
        (λ o. at-object o _ _ (λ m. by-condition R none _ _ m
        (λ y. notifies-same o r y (waiters o Side.Cond s.goroutines) (waiters o Side.Cond t.goroutines)
        (waiters-paired ps s t al rs rt os ot o Side.Cond)))))

    pub instructions-same : (code : Code) (x : Instr) (choice : ℕ)
        → Q (changes code x a choice s) (changes code x b choice t)
    instructions-same code Instr.Send choice = simple _ _ (sends-same rs rt os ot)
    instructions-same code Instr.Receive choice = simple _ _ (receives-same rs rt os ot false)
    instructions-same code Instr.ReceiveOk choice = simple _ _ (receives-same rs rt os ot true)
    instructions-same code Instr.Close choice = closes-same
    instructions-same code (Instr.Select cases otherwise) choice = simple _ _ (selects-same choice cases otherwise)
    instructions-same code Instr.Unlock choice = simple _ _ (unlocks-same rs rt os ot)
    instructions-same code Instr.GroupAdd choice = adds-same
    instructions-same code Instr.RwUnlock choice = write_unlocks-same
    instructions-same code Instr.ReadLock choice = simple _ _ (read_locks-same rs rt os ot)
    instructions-same code Instr.ReadUnlock choice = read_unlocks-same
    instructions-same code Instr.CondWait choice = simple _ _ (awaits-same rs rt os ot)
    instructions-same code Instr.CondSignal choice = simple _ _ signals-same
    instructions-same code Instr.CondBroadcast choice = simple _ _ broadcasts-same
    instructions-same code x choice = simple _ _ (simple-instructions code x choice refl)

    pub all-same : (cs ds : List Change) → Q cs ds → AllSame ps s t cs ds
    unfolding Q
    all-same cs ds r = r
