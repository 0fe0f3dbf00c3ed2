-- Mutexes, wait groups, reader and writer mutexes and conditions: they move what their goroutine refers to.
-- For: `locks`, golf_model/specs/Mutexes.antt; `awaits`, golf_model/specs/Conditions.antt
-- By: cases of the object and its first waiter; induction over the list of waiters
use Rattle.std.proofs.Common.{◌≡◌, ℕ, Bool, true, false, ◌||◌, List, [], ◌∷◌, Option, Some, None, inl, inr, refl, sym}
use Rattle.std.proofs.Common.{subst, nat_lt, ℤ}
use Rattle.std.specs.Prelude.{pos, ◌-ℤ◌, is_some, int_lt, int_le}
use Rattle.golf_theory.specs.Membership.{In}
use Rattle.golf_theory.specs.Maps.{find}
use Rattle.golf_data.specs.declared.value.Value.{Value}
use Rattle.golf_data.specs.declared.goroutine.PanicKind.{PanicKind}
use Rattle.golf_data.specs.declared.goroutine.Side.{Side}
use Rattle.golf_data.specs.declared.goroutine.WaitKind.{WaitKind}
use Rattle.golf_model.specs.Values.{int_of, is_zero, is_minus_one}
use Rattle.golf_model.specs.State.{State}
use Rattle.golf_model.specs.Waiters.{Waiter, waiter_ticket, first, waiters, bare_wait}
use Rattle.golf_model.specs.Wakes.{Waking}
use Rattle.golf_model.specs.Changes.{Change}
use Rattle.golf_model.specs.Actors.{Actor, next, goes, choose}
use Rattle.golf_model.specs.Arithmetic.{sum}
use Rattle.golf_model.specs.Mutexes.{runs, blocks_on, locks_by, locks, hands_over, unlocks_by, unlocks, counts, adds}
use Rattle.golf_model.specs.Mutexes.{waits}
use Rattle.golf_model.specs.ReadersWriters.{serves_first, serves, write_locks, write_unlocks_by, write_unlocks}
use Rattle.golf_model.specs.ReadersWriters.{most_readers, read_locks_by, read_locks, read_leaves, read_unlocks_by}
use Rattle.golf_model.specs.ReadersWriters.{read_unlocks}
use Rattle.golf_model.specs.Conditions.{gets_mutex, awaits_by, awaits, requeues, first_only, notifies, signals}
use Rattle.golf_model.specs.Conditions.{broadcasts}
use Rattle.golf_model_futures.specs.Invariant.{AllGood, Good, Nothing, ActorIn}
use Rattle.golf_model_futures.proofs.RefLaws.{Val, Vals, vals-cons}
use Rattle.golf_model_futures.proofs.WaitLaws.{waiters-are}
use Rattle.golf_model_futures.proofs.Waking.{released-in}
use Rattle.golf_model_futures.proofs.Goodness.{all_good-append}
use Rattle.golf_model_futures.proofs.Acting.{Ground, WaiterIn, found-in, first-in, waiter-in, all-on_some, all-choose}
use Rattle.golf_model_futures.proofs.Acting.{all-taking_one, all-taking_two, all-at_reference_or, all-at_mutex}
use Rattle.golf_model_futures.proofs.Acting.{all-at_group, all-at_rw, all-at_condition, good-goes, good-panics}
use Rattle.golf_model_futures.proofs.Acting.{good-dies, good-blocks, good-at_reference, next-in}

module _ (O G : ℕ → Type 0) (s : State) (c : Ground s O G) (a : Actor) (i : ActorIn O G a) where
  ops : Vals O a.frame.operands
  ops = i.frame.operands

  good-runs : (w : Waiter) → WaiterIn O G s c w → Good O G Nothing (runs w)
  good-runs w k = (k.number, released-in O w.goroutine k.goroutine)

  good-blocks_on : (rest : List Value) (kind : WaitKind) (o : ℕ) (side : Side) → Vals O rest → O o
      → AllGood O G (blocks_on a rest kind o side)
  good-blocks_on rest kind o side r m = good-blocks O G a i (next a.frame rest) kind (bare_wait o side ∷ [])
      (next-in O G a i rest r) (m, tt)

  good-locks_by : (rest : List Value) (o : ℕ) (locked : Bool) → Vals O rest → O o
      → AllGood O G (locks_by a rest o locked)
  good-locks_by rest o false r m = ((m, tt), good-goes O G a i rest r)
  good-locks_by rest o true r m = good-blocks_on rest WaitKind.Lock o Side.Lock r m

  pub good-locks : AllGood O G (locks a s)
  good-locks = all-taking_one (AllGood O G) tt O _ a.frame.operands ops
      (λ x rest h r. good-at_reference O G a i _ x h
      (λ o m. all-at_mutex (AllGood O G) tt _ (find o s.objects) (λ b. good-locks_by rest o b r m)))

  good-hands_over : (o : ℕ) (side : Side) (w : Option Waiter) → first o side s.goroutines ≡ w → O o
      → AllGood O G (hands_over o w)
  good-hands_over o side None e m = ((m, tt), tt)
  good-hands_over o side (Some w) e m = (good-runs w (first-in O G s c o side w m e), tt)

  good-unlocks_by : (rest : List Value) (o : ℕ) (locked : Bool) → Vals O rest → O o
      → AllGood O G (unlocks_by a rest s o locked)
  good-unlocks_by rest o false r m = good-dies O G a i PanicKind.UnlockUnlocked
  good-unlocks_by rest o true r m = all_good-append O G (goes a rest) (hands_over o (first o Side.Lock s.goroutines))
      (good-goes O G a i rest r) (good-hands_over o Side.Lock (first o Side.Lock s.goroutines) refl m)

  pub good-unlocks : AllGood O G (unlocks a s)
  good-unlocks = all-taking_one (AllGood O G) tt O _ a.frame.operands ops
      (λ x rest h r. good-at_reference O G a i _ x h
      (λ o m. all-at_mutex (AllGood O G) tt _ (find o s.objects) (λ b. good-unlocks_by rest o b r m)))

  good-counts : (rest : List Value) (o : ℕ) (n : ℤ) → Vals O rest → O o → AllGood O G (counts a rest o n)
  good-counts rest o n r m = all-choose (AllGood O G) tt (int_lt n (pos 0)) _ _
      (good-panics O G a i PanicKind.NegativeGroup) (
        (m, tt),
        all_good-append O G (goes a rest) (choose (is_zero n) (Change.WakeAll o Waking.AtZero ∷ []) [])
            (good-goes O G a i rest r)
            (all-choose (AllGood O G) tt (is_zero n) (Change.WakeAll o Waking.AtZero ∷ []) [] ((m, tt), tt) tt),
      )

  pub good-adds : AllGood O G (adds a s)
  good-adds = all-taking_two (AllGood O G) tt O _ a.frame.operands ops
      (λ w x rest h k r. all-on_some (AllGood O G) tt _ (int_of x)
      (λ d e. good-at_reference O G a i _ w h
      (λ o m. all-at_group (AllGood O G) tt _ (find o s.objects) (λ n. good-counts rest o (sum n d) r m))))

  pub good-waits : AllGood O G (waits a s)
  good-waits = all-taking_one (AllGood O G) tt O _ a.frame.operands ops
      (λ w rest h r. good-at_reference O G a i _ w h
      (λ o m. all-at_group (AllGood O G) tt _ (find o s.objects)
      (λ n. all-choose (AllGood O G) tt (is_zero n) _ _ (good-goes O G a i rest r)
      (good-blocks_on rest WaitKind.Group o Side.Group r m))))

  -- reader and writer mutexes
  good-serves_first : (o : ℕ) (w r : Option Waiter) → first o Side.Write s.goroutines ≡ w → O o
      → AllGood O G (serves_first o s.goroutines w r)
  good-serves_first o None r e m = ((m, tt), ((m, tt), tt))
  good-serves_first o (Some w) None e m = ((m, tt), (good-runs w (first-in O G s c o Side.Write w m e), tt))
  good-serves_first o (Some w) (Some r) e m =
      all-choose (AllGood O G) tt (nat_lt (waiter_ticket r) (waiter_ticket w)) _ _
      ((m, tt), ((m, tt), tt)) ((m, tt), (good-runs w (first-in O G s c o Side.Write w m e), tt))

  good-serves : (o : ℕ) → O o → AllGood O G (serves o s.goroutines)
  good-serves o m = good-serves_first o (first o Side.Write s.goroutines) (first o Side.Read s.goroutines) refl m

  pub good-write_locks : AllGood O G (write_locks a s)
  good-write_locks = all-taking_one (AllGood O G) tt O _ a.frame.operands ops
      (λ x rest h r. good-at_reference O G a i _ x h
      (λ o m. all-at_rw (AllGood O G) tt _ (find o s.objects)
      (λ n. all-choose (AllGood O G) tt (is_zero n) _ _ ((m, tt), good-goes O G a i rest r)
      (good-blocks_on rest WaitKind.WriteLock o Side.Write r m))))

  good-write_unlocks_by : (rest : List Value) (o : ℕ) (n : ℤ) → Vals O rest → O o
      → AllGood O G (write_unlocks_by a rest s o n)
  good-write_unlocks_by rest o n r m = all-choose (AllGood O G) tt (is_minus_one n) _ _
      (all_good-append O G (goes a rest) (serves o s.goroutines) (good-goes O G a i rest r) (good-serves o m))
      (good-dies O G a i PanicKind.UnlockUnlockedRw)

  pub good-write_unlocks : AllGood O G (write_unlocks a s)
  good-write_unlocks = all-taking_one (AllGood O G) tt O _ a.frame.operands ops
      (λ x rest h r. good-at_reference O G a i _ x h
      (λ o m. all-at_rw (AllGood O G) tt _ (find o s.objects) (λ n. good-write_unlocks_by rest o n r m)))

  good-read_locks_by : (rest : List Value) (o : ℕ) (n : ℤ) → Vals O rest → O o
      → AllGood O G (read_locks_by a rest s o n)
  good-read_locks_by rest o n r m = all-choose (AllGood O G) tt
      (is_minus_one n || is_some (first o Side.Write s.goroutines)) _ _
      (good-blocks_on rest WaitKind.ReadLock o Side.Read r m)
      (all-choose (AllGood O G) tt (int_le (pos most_readers) n) _ _ (good-dies O G a i PanicKind.ReaderLimit)
      ((m, tt), good-goes O G a i rest r))

  pub good-read_locks : AllGood O G (read_locks a s)
  good-read_locks = all-taking_one (AllGood O G) tt O _ a.frame.operands ops
      (λ x rest h r. good-at_reference O G a i _ x h
      (λ o m. all-at_rw (AllGood O G) tt _ (find o s.objects) (λ n. good-read_locks_by rest o n r m)))

  good-read_leaves : (o : ℕ) (n : ℤ) → O o → AllGood O G (read_leaves o n s)
  good-read_leaves o n m = all-choose (AllGood O G) tt (is_zero n) _ _ (good-serves o m) ((m, tt), tt)

  good-read_unlocks_by : (rest : List Value) (o : ℕ) (n : ℤ) → Vals O rest → O o
      → AllGood O G (read_unlocks_by a rest s o n)
  good-read_unlocks_by rest o n r m = all-choose (AllGood O G) tt (int_lt (pos 0) n) _ _
      (all_good-append O G (goes a rest) (read_leaves o (n -ℤ pos 1) s) (good-goes O G a i rest r)
      (good-read_leaves o (n -ℤ pos 1) m)) (good-dies O G a i PanicKind.RUnlockUnlocked)

  pub good-read_unlocks : AllGood O G (read_unlocks a s)
  good-read_unlocks = all-taking_one (AllGood O G) tt O _ a.frame.operands ops
      (λ x rest h r. good-at_reference O G a i _ x h
      (λ o m. all-at_rw (AllGood O G) tt _ (find o s.objects) (λ n. good-read_unlocks_by rest o n r m)))

  -- conditions
  pub good-gets_mutex : AllGood O G (gets_mutex a s)
  good-gets_mutex = all-taking_one (AllGood O G) tt O _ a.frame.operands ops
      (λ x rest h r. good-at_reference O G a i _ x h
      (λ o m. all-at_condition (AllGood O G) tt O _ (find o s.objects) (found-in O G s c o m)
      (λ v k. good-goes O G a i (v ∷ rest) (vals-cons O v rest k r))))

  good-awaits_by : (rest : List Value) (o m : ℕ) (locked : Bool) → Vals O rest → O o → O m
      → AllGood O G (awaits_by a rest s o m locked)
  good-awaits_by rest o m false r i' j = good-dies O G a i PanicKind.UnlockUnlocked
  good-awaits_by rest o m true r i' j =
      all_good-append O G (hands_over m (first m Side.Lock s.goroutines))
      (blocks_on a rest WaitKind.Condition o Side.Cond)
      (good-hands_over m Side.Lock (first m Side.Lock s.goroutines) refl j)
      (good-blocks_on rest WaitKind.Condition o Side.Cond r i')

  pub good-awaits : AllGood O G (awaits a s)
  good-awaits = all-taking_one (AllGood O G) tt O _ a.frame.operands ops
      (λ x rest h r. good-at_reference O G a i _ x h
      (λ o m. all-at_condition (AllGood O G) tt O _ (find o s.objects) (found-in O G s c o m)
      (λ v k. good-at_reference O G a i _ v k
      (λ p n. all-at_mutex (AllGood O G) tt _ (find p s.objects) (λ b. good-awaits_by rest o p b r m n)))))

  good-requeues : (p : ℕ) (ws : List Waiter) → O p → ((w : Waiter) → In w ws → G w.number)
      → AllGood O G (requeues p ws)
  good-requeues p [] m h = tt
  good-requeues p (w ∷ ws) m h = ((h w (inl refl), m), good-requeues p ws m (λ v j. h v (inr j)))

  good-notifies : (rest : List Value) (ws : List Waiter) (v : Value) → Vals O rest → Val O v
      → ((w : Waiter) → In w ws → G w.number) → AllGood O G (notifies a rest s ws v)
  good-notifies rest [] v r k h = good-goes O G a i rest r
  good-notifies rest (w ∷ ws) v r k h = all-at_reference_or (AllGood O G) tt O [] _ v k tt
      (λ p m. all-at_mutex (AllGood O G) tt _ (find p s.objects)
      (λ locked. all_good-append O G (goes a rest) (requeues p (w ∷ ws)) (good-goes O G a i rest r)
      (good-requeues p (w ∷ ws) m h)))

  first_only-in : (o : ℕ) (m : Option Waiter) → first o Side.Cond s.goroutines ≡ m → O o → (w : Waiter)
      → In w (first_only m) → G w.number
  first_only-in o None e j w h = absurd h
  first_only-in o (Some v) e j w (inl h) =
      subst (λ (z : Waiter). G z.number) (sym h) (first-in O G s c o Side.Cond v j e).number
  first_only-in o (Some v) e j w (inr h) = absurd h

  pub good-signals : AllGood O G (signals a s)
  good-signals = all-taking_one (AllGood O G) tt O _ a.frame.operands ops
      (λ x rest h r. good-at_reference O G a i _ x h
      (λ o m. all-at_condition (AllGood O G) tt O _ (find o s.objects) (found-in O G s c o m)
      (λ v k. good-notifies rest (first_only (first o Side.Cond s.goroutines)) v r k
      (first_only-in o (first o Side.Cond s.goroutines) refl m))))

  pub good-broadcasts : AllGood O G (broadcasts a s)
  good-broadcasts = all-taking_one (AllGood O G) tt O _ a.frame.operands ops
      (λ x rest h r. good-at_reference O G a i _ x h
      (λ o m. all-at_condition (AllGood O G) tt O _ (find o s.objects) (found-in O G s c o m)
      (λ v k. good-notifies rest (waiters o Side.Cond s.goroutines) v r k
      (λ w j. (waiter-in O G s c o Side.Cond w m (waiters-are o Side.Cond s.goroutines w j)).number))))
