-- Reader and writer mutexes (package sync, `RWMutex`).
use Rattle.std.specs.Prelude.{ℕ, ◌+◌, ◌||◌, ℤ, pos, negsuc, ◌+ℤ◌, ◌-ℤ◌, List, [], ◌∷◌, ◌++◌, Option, Some, None}
use Rattle.std.specs.Prelude.{is_some, nat_lt, int_lt, int_le}
use Rattle.golf_theory.specs.Maps.{find}
use Rattle.golf_data.specs.declared.value.Value.{Value}
use Rattle.golf_data.specs.declared.value.Object.{Object}
use Rattle.golf_data.specs.declared.goroutine.PanicKind.{PanicKind}
use Rattle.golf_data.specs.declared.goroutine.Side.{Side}
use Rattle.golf_data.specs.declared.goroutine.WaitKind.{WaitKind}
use Rattle.golf_model.specs.Views.{GoroutineView}
use Rattle.golf_model.specs.Values.{is_zero, is_minus_one}
use Rattle.golf_model.specs.State.{State}
use Rattle.golf_model.specs.Waiters.{Waiter, waiter_ticket, first}
use Rattle.golf_model.specs.Wakes.{Waking, reads_next}
use Rattle.golf_model.specs.Changes.{Change}
use Rattle.golf_model.specs.Actors.{Actor, goes, dies, taking_one, choose, at_reference, at_rw}
use Rattle.golf_model.specs.Mutexes.{runs, blocks_on}

-- the count becomes n
abbrev pub counted : ℕ → ℤ → Change
counted o n = Change.Replace o (Object.Rw n)

abbrev pub one_if : {X : Type 0} → Option X → ℕ
one_if None = 0
one_if (Some x) = 1

-- how many readers are served
abbrev pub readers_next : Option ℕ → ℕ → List (ℕ × GoroutineView) → ℕ
readers_next below o [] = 0
readers_next below o (e ∷ es) = one_if (reads_next below o e.1) + readers_next below o es

-- each reader with a ticket below that of every writer runs, and the count is the number of these readers
abbrev pub to_readers : ℕ → Option ℕ → List (ℕ × GoroutineView) → List Change
to_readers o below gs = counted o (pos (readers_next below o gs)) ∷ Change.WakeAll o (Waking.ToReaders below) ∷ []

-- the writer runs, and the count is -1
abbrev pub to_writer : ℕ → Waiter → List Change
to_writer o w = counted o (negsuc 0) ∷ runs w ∷ []

-- the earliest waiter is served, a writer or all readers before the first writer (this runtime's rule)
abbrev pub serves_first : ℕ → List (ℕ × GoroutineView) → Option Waiter → Option Waiter → List Change
serves_first o gs None r = to_readers o None gs
serves_first o gs (Some w) None = to_writer o w
serves_first o gs (Some w) (Some r) = choose (nat_lt (waiter_ticket r) (waiter_ticket w))
    (to_readers o (Some (waiter_ticket w)) gs) (to_writer o w)

-- a free mutex is handed on; without waiters the count becomes 0
abbrev pub serves : ℕ → List (ℕ × GoroutineView) → List Change
serves o gs = serves_first o gs (first o Side.Write gs) (first o Side.Read gs)

abbrev pub write_locks_by : Actor → List Value → ℕ → ℤ → List Change
write_locks_by a rest o n = choose (is_zero n) (counted o (negsuc 0) ∷ goes a rest)
    (blocks_on a rest WaitKind.WriteLock o Side.Write)

-- `rw ->`; a count of 0 becomes -1, else it blocks
abbrev pub write_locks : Actor → State → List Change
write_locks a s = taking_one (λ m rest. at_reference a (λ o. at_rw (write_locks_by a rest o) (find o s.objects)) m)
    a.frame.operands

abbrev pub write_unlocks_by : Actor → List Value → State → ℕ → ℤ → List Change
write_unlocks_by a rest s o n = choose (is_minus_one n) (goes a rest ++ serves o s.goroutines)
    (dies a PanicKind.UnlockUnlockedRw)

-- `rw ->`; it is a fatal error if no writer holds the mutex; else the next waiters are served
abbrev pub write_unlocks : Actor → State → List Change
write_unlocks a s = taking_one (λ m rest. at_reference a
    (λ o. at_rw (write_unlocks_by a rest s o) (find o s.objects)) m) a.frame.operands

-- the most readers that can hold the mutex at the same time (this runtime's rule)
abbrev pub most_readers : ℕ
most_readers = 1073741823

-- a reader blocks if a writer holds the mutex or waits for it; past the limit of readers it is a fatal error; else the
-- count rises by 1
abbrev pub read_locks_by : Actor → List Value → State → ℕ → ℤ → List Change
read_locks_by a rest s o n =
    choose (is_minus_one n || is_some (first o Side.Write s.goroutines))
    (blocks_on a rest WaitKind.ReadLock o Side.Read)
    (choose (int_le (pos most_readers) n) (dies a PanicKind.ReaderLimit) (counted o (n +ℤ pos 1) ∷ goes a rest))

-- `rw ->`
abbrev pub read_locks : Actor → State → List Change
read_locks a s = taking_one (λ m rest. at_reference a (λ o. at_rw (read_locks_by a rest s o) (find o s.objects)) m)
    a.frame.operands

-- when the last reader unlocks, the next waiters are served
abbrev pub read_leaves : ℕ → ℤ → State → List Change
read_leaves o n s = choose (is_zero n) (serves o s.goroutines) (counted o n ∷ [])

abbrev pub read_unlocks_by : Actor → List Value → State → ℕ → ℤ → List Change
read_unlocks_by a rest s o n = choose (int_lt (pos 0) n) (goes a rest ++ read_leaves o (n -ℤ pos 1) s)
    (dies a PanicKind.RUnlockUnlocked)

-- `rw ->`; it is a fatal error if no reader holds the mutex
abbrev pub read_unlocks : Actor → State → List Change
read_unlocks a s = taking_one (λ m rest. at_reference a (λ o. at_rw (read_unlocks_by a rest s o) (find o s.objects)) m)
    a.frame.operands
