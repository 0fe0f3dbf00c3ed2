-- Mutexes, reader and writer mutexes, conditions and wait groups.
use Rattle.std.specs.Prelude.{map, replicate}
use Rattle.golf_data.specs.declared.goroutine.Mode.{Mode}
use Rattle.golf_data.specs.declared.goroutine.Side.{Side}
use Rattle.golf_data.specs.declared.goroutine.WaitKind.{WaitKind}
use Rattle.golf_model.specs.Waiters.{bare_wait}
use Rattle.std.specs.Prelude.{◌≡◌, ℕ, true, false, List, [], ◌∷◌, ◌++◌, Some, refl, pos, negsuc}
use Rattle.std.specs.Fmt.{digits}
use Rattle.golf_theory.specs.Maps.{find}
use Rattle.golf_data.specs.declared.value.Object.{Object}
use Rattle.golf_data.specs.declared.code.Code.{Code}
use Rattle.golf_data.specs.declared.code.Instr.{Instr}
use Rattle.golf_data.specs.declared.goroutine.Ending.{Ending}
use Rattle.golf_data.specs.declared.goroutine.PanicKind.{PanicKind}
use Rattle.golf_model.specs.State.{runnable, ending}
use Rattle.golf_model.proofs.Examples.Writing.{function, push, code_with, straight, lowest, second, third, after}
use Rattle.golf_model.proofs.Examples.Writing.{panicked, mode_of}

-- function 1 takes the mutex, prints its number and gives it back
abbrev handing : Code
handing =
    code_with []
    (function 0 1 1 (Instr.NewMutex ∷ Instr.Store 0 ∷ Instr.Load 0 ∷ Instr.Lock ∷ Instr.Load 0 ∷ push 2 ∷ Instr.Go 1 2
    ∷ Instr.Load 0 ∷ push 3 ∷ Instr.Go 1 2 ∷ Instr.Load 0 ∷ Instr.Unlock ∷ Instr.Return ∷ [])
    ∷ function 2 2 21 (Instr.Load 0 ∷ Instr.Lock ∷ Instr.Load 1 ∷ Instr.Print 1 ∷ Instr.Load 0 ∷ Instr.Unlock
    ∷ Instr.Return ∷ [])
    ∷ [])

-- goroutine 3 waits first, and then goroutine 2
abbrev both_wait : List ℕ
both_wait = lowest 10 ++ (third 2 ++ (second 2 ++ lowest 2))

-- the mutex is handed to the first waiter and stays locked
pub stays_locked : find 1 (after handing both_wait).objects ≡ Some (Object.Mutex true)
stays_locked = refl

pub handed_in_order : (after handing (both_wait ++ (second 4 ++ second 2))).output ≡ 51 ∷ 10 ∷ 50 ∷ 10 ∷ []
unfolding digits
handed_in_order = refl

-- nobody holds it in the end
pub unlocked_in_the_end : find 1 (after handing (both_wait ++ (second 4 ++ second 4))).objects ≡ Some
    (Object.Mutex false)
unlocked_in_the_end = refl

-- an unlock of an unlocked mutex is a fatal error, which runs no deferred call
abbrev unlocking : Code
unlocking = code_with [] (function 0 0 1 (Instr.Defer 0 0 ∷ Instr.NewMutex ∷ Instr.Unlock ∷ []) ∷ [])

pub unlock_of_unlocked : ending (after unlocking (lowest 3)) ≡ Some (panicked PanicKind.UnlockUnlocked 1 3)
unlock_of_unlocked = refl

-- function 1 waits on the condition with its mutex, prints its number and unlocks
abbrev conditional : List Instr → Code
conditional end =
    code_with []
    (function 0 1 1 (Instr.NewMutex ∷ Instr.NewCond ∷ Instr.Store 0 ∷ Instr.Load 0 ∷ push 2 ∷ Instr.Go 1 2
    ∷ Instr.Load 0 ∷ push 3 ∷ Instr.Go 1 2 ∷ end)
    ∷ function 2 2 31 (Instr.Load 0 ∷ Instr.CondMutex ∷ Instr.Lock ∷ Instr.Load 0 ∷ Instr.CondWait ∷ Instr.Load 1
    ∷ Instr.Print 1 ∷ Instr.Load 0 ∷ Instr.CondMutex ∷ Instr.Unlock ∷ Instr.Return ∷ [])
    ∷ [])

-- goroutine 3 waits on the condition first, and then goroutine 2
abbrev both_await : List ℕ
both_await = lowest 9 ++ (third 5 ++ second 5)

-- under the mutex, each waiter is requeued on it, and the mutex is handed to them in that order
abbrev under_mutex : Code
under_mutex = conditional (Instr.Load 0 ∷ Instr.CondMutex ∷ Instr.Lock ∷ Instr.Load 0 ∷ Instr.CondBroadcast
    ∷ Instr.Load 0 ∷ Instr.CondMutex ∷ Instr.Unlock ∷ Instr.Return ∷ [])

pub nobody_runs_yet : runnable (after under_mutex (both_await ++ lowest 5)) ≡ 1 ∷ []
nobody_runs_yet = refl

pub requeued_in_order : (after under_mutex (both_await ++ (lowest 8 ++ (second 5 ++ second 2)))).output ≡ 51 ∷ 10 ∷ 50
    ∷ 10 ∷ []
unfolding digits
requeued_in_order = refl

-- without it, the first waiter gets the mutex at once and the second waits for it
abbrev without_mutex : Code
without_mutex = conditional (Instr.Load 0 ∷ Instr.CondBroadcast ∷ Instr.Return ∷ [])

pub first_gets_the_mutex : runnable (after without_mutex (both_await ++ lowest 2)) ≡ 1 ∷ 3 ∷ []
first_gets_the_mutex = refl

-- it keeps what it is reported as and its line, and has the next ticket
pub requeued_keeps_its_kind : mode_of 2 (after without_mutex (both_await ++ lowest 2))
    ≡ Some (Mode.Blocked WaitKind.Condition 35 (bare_wait 1 Side.Lock ∷ []) 2)
requeued_keeps_its_kind = refl

pub second_waits_for_it : (after without_mutex (both_await ++ (lowest 2 ++ (second 5 ++ second 2)))).output ≡ 51 ∷ 10
    ∷ 50 ∷ 10 ∷ []
unfolding digits
second_waits_for_it = refl

-- goroutine 2 waits on the condition while goroutine 3 waits for the mutex: the mutex is handed to goroutine 3
abbrev waiting_for_mutex : Code
waiting_for_mutex =
    code_with []
    (function 0 1 1 (Instr.NewMutex ∷ Instr.NewCond ∷ Instr.Store 0 ∷ Instr.Load 0 ∷ Instr.Go 1 1 ∷ Instr.Load 0
    ∷ Instr.Go 2 1 ∷ Instr.Return ∷ [])
    ∷ function 1 1 21 (Instr.Load 0 ∷ Instr.CondMutex ∷ Instr.Lock ∷ Instr.Load 0 ∷ Instr.CondWait ∷ Instr.Return ∷ [])
    ∷ function 1 1 31 (Instr.Load 0 ∷ Instr.CondMutex ∷ Instr.Lock ∷ Instr.Return ∷ [])
    ∷ [])

abbrev waits_meanwhile : List ℕ
waits_meanwhile = lowest 7 ++ (second 3 ++ (third 3 ++ second 2))

pub mutex_goes_to_the_other : runnable (after waiting_for_mutex waits_meanwhile) ≡ 1 ∷ 3 ∷ []
mutex_goes_to_the_other = refl

pub mutex_stays_locked : find 1 (after waiting_for_mutex waits_meanwhile).objects ≡ Some (Object.Mutex true)
mutex_stays_locked = refl

pub waits_on_the_condition : mode_of 2 (after waiting_for_mutex waits_meanwhile) ≡ Some
    (Mode.Blocked WaitKind.Condition 25 (bare_wait 2 Side.Cond ∷ []) 1)
waits_on_the_condition = refl

-- to wait with an unlocked mutex is a fatal error, and with nil it panics
pub wait_without_lock : ending (after (straight (Instr.NewMutex ∷ Instr.NewCond ∷ Instr.CondWait ∷ [])) (lowest 3))
    ≡ Some (panicked PanicKind.UnlockUnlocked 1 3)
wait_without_lock = refl

pub wait_without_mutex : ending (after (straight (Instr.Nil ∷ Instr.NewCond ∷ Instr.CondWait ∷ [])) (lowest 4)) ≡ Some
    (panicked PanicKind.NilPointer 1 3)
wait_without_mutex = refl

-- if nobody waits a signal does nothing, with a mutex or without
pub nobody_to_signal : map (λ i. ending (after (straight (Instr.Nil ∷ Instr.NewCond ∷ i ∷ Instr.Return ∷ []))
    (lowest 4))) (Instr.CondSignal ∷ Instr.CondBroadcast ∷ []) ≡ replicate 2 (Some Ending.Returned)
nobody_to_signal = refl

-- a signal passes the first waiter on, and no other
abbrev signalling : Code
signalling = conditional (Instr.Load 0 ∷ Instr.CondSignal ∷ Instr.Return ∷ [])

pub signal_wakes_one : (after signalling (both_await ++ (lowest 2 ++ second 6))).output ≡ 51 ∷ 10 ∷ []
unfolding digits
signal_wakes_one = refl

pub other_still_waits : runnable (after signalling (both_await ++ (lowest 2 ++ second 6))) ≡ 1 ∷ []
other_still_waits = refl

-- function 1 reads and function 2 writes, each under the mutex that function 0 holds
abbrev shared : Code
shared =
    code_with []
    (function 0 1 1 (Instr.NewRw ∷ Instr.Store 0 ∷ Instr.Load 0 ∷ Instr.RwLock ∷ Instr.Load 0 ∷ push 2 ∷ Instr.Go 1 2
    ∷ Instr.Load 0 ∷ push 3 ∷ Instr.Go 2 2 ∷ Instr.Load 0 ∷ push 4 ∷ Instr.Go 1 2 ∷ Instr.Load 0 ∷ Instr.RwUnlock
    ∷ Instr.Return ∷ [])
    ∷ function 2 2 21 (Instr.Load 0 ∷ Instr.ReadLock ∷ Instr.Load 1 ∷ Instr.Print 1 ∷ Instr.Load 0 ∷ Instr.ReadUnlock
    ∷ Instr.Return ∷ [])
    ∷ function 2 2 31 (Instr.Load 0 ∷ Instr.RwLock ∷ Instr.Load 1 ∷ Instr.Print 1 ∷ Instr.Load 0 ∷ Instr.RwUnlock
    ∷ Instr.Return ∷ [])
    ∷ [])

-- a reader, a writer and a reader wait, in this order
abbrev three_wait : List ℕ
three_wait = lowest 13 ++ (second 2 ++ (second 2 ++ (second 2 ++ lowest 2)))

-- the reader before the writer is served, and the one after it is not
pub reader_before_writer : find 1 (after shared three_wait).objects ≡ Some (Object.Rw (pos 1))
reader_before_writer = refl

pub one_reader_runs : runnable (after shared three_wait) ≡ 1 ∷ 2 ∷ []
one_reader_runs = refl

-- then the writer, and then the last reader
pub writer_holds_it : find 1 (after shared (three_wait ++ second 4)).objects ≡ Some (Object.Rw (negsuc 0))
writer_holds_it = refl

pub served_in_turn : (after shared (three_wait ++ (second 4 ++ (third 4 ++ (3 ∷ 3 ∷ []))))).output ≡ 50 ∷ 10 ∷ 51 ∷ 10
    ∷ 52 ∷ 10 ∷ []
unfolding digits
served_in_turn = refl

-- function 0 reads; a writer waits, and then a reader
abbrev reading : Code
reading =
    code_with []
    (function 0 1 1 (Instr.NewRw ∷ Instr.Store 0 ∷ Instr.Load 0 ∷ Instr.ReadLock ∷ Instr.Load 0 ∷ push 2 ∷ Instr.Go 2 2
    ∷ Instr.Load 0 ∷ push 3 ∷ Instr.Go 1 2 ∷ Instr.Load 0 ∷ Instr.ReadUnlock ∷ Instr.Return ∷ [])
    ∷ function 2 2 21 (Instr.Load 0 ∷ Instr.ReadLock ∷ Instr.Load 1 ∷ Instr.Print 1 ∷ Instr.Load 0 ∷ Instr.ReadUnlock
    ∷ Instr.Return ∷ [])
    ∷ function 2 2 31 (Instr.Load 0 ∷ Instr.RwLock ∷ Instr.Load 1 ∷ Instr.Print 1 ∷ Instr.Load 0 ∷ Instr.RwUnlock
    ∷ Instr.Return ∷ [])
    ∷ [])

-- the reader waits its turn after the writer, although the mutex is held by a reader
pub reader_after_writer : runnable (after reading (lowest 10 ++ (second 2 ++ second 2))) ≡ 1 ∷ []
reader_after_writer = refl

pub writer_is_next : runnable (after reading (lowest 10 ++ (second 2 ++ (second 2 ++ lowest 2)))) ≡ 1 ∷ 2 ∷ []
writer_is_next = refl

-- two readers hold it at a time
pub readers_share : find 1 (after reading (lowest 10 ++ (third 2 ++ []))).objects ≡ Some (Object.Rw (pos 2))
readers_share = refl

-- of two readers one unlocks: the other one still holds it, and the writer waits; then the writer has it
abbrev one_unlocks : List ℕ
one_unlocks = lowest 10 ++ (third 2 ++ (second 2 ++ second 4))

pub other_reader_holds_it : find 1 (after reading one_unlocks).objects ≡ Some (Object.Rw (pos 1))
other_reader_holds_it = refl

pub writer_still_waits : runnable (after reading one_unlocks) ≡ 1 ∷ 3 ∷ []
writer_still_waits = refl

pub last_reader_hands_it_on : find 1 (after reading (one_unlocks ++ lowest 2)).objects ≡ Some (Object.Rw (negsuc 0))
last_reader_hands_it_on = refl

-- if no writer waits, all readers are served; if nobody waits, it is free
pub all_readers_are_served : find 1 (after shared (lowest 13 ++ (second 2 ++ (third 2 ++ lowest 2)))).objects ≡ Some
    (Object.Rw (pos 2))
all_readers_are_served = refl

pub they_run : runnable (after shared (lowest 13 ++ (second 2 ++ (third 2 ++ lowest 2)))) ≡ 1 ∷ 2 ∷ 3 ∷ 4 ∷ []
they_run = refl

pub free_again : find 1 (after (straight (Instr.NewRw ∷ Instr.Dup ∷ Instr.RwLock ∷ Instr.RwUnlock ∷ []))
    (lowest 4)).objects ≡ Some (Object.Rw (pos 0))
free_again = refl

pub free_of_readers : find 1 (after (straight (Instr.NewRw ∷ Instr.Dup ∷ Instr.ReadLock ∷ Instr.ReadUnlock ∷ []))
    (lowest 4)).objects ≡ Some (Object.Rw (pos 0))
free_of_readers = refl

-- a writer's unlock without a writer is a fatal error, also if readers hold it
pub writer_unlock_of_unlocked : ending (after (straight (Instr.NewRw ∷ Instr.RwUnlock ∷ [])) (lowest 2)) ≡ Some
    (panicked PanicKind.UnlockUnlockedRw 1 2)
writer_unlock_of_unlocked = refl

pub writer_unlock_of_readers : ending (after (straight (Instr.NewRw ∷ Instr.Dup ∷ Instr.ReadLock ∷ Instr.RwUnlock ∷ []))
    (lowest 4)) ≡ Some (panicked PanicKind.UnlockUnlockedRw 1 4)
writer_unlock_of_readers = refl

pub reader_unlock_of_writer : ending (after (straight (Instr.NewRw ∷ Instr.Dup ∷ Instr.RwLock ∷ Instr.ReadUnlock ∷ []))
    (lowest 4)) ≡ Some (panicked PanicKind.RUnlockUnlocked 1 4)
reader_unlock_of_writer = refl

-- a reader's unlock without a reader is a fatal error
pub reader_unlock_of_unlocked : ending (after (code_with [] (function 0 0 1 (Instr.NewRw ∷ Instr.ReadUnlock ∷ []) ∷ []))
    (lowest 2)) ≡ Some (panicked PanicKind.RUnlockUnlocked 1 2)
reader_unlock_of_unlocked = refl

-- function 1 counts down by one
abbrev grouped : Code
grouped =
    code_with []
    (function 0 1 1 (Instr.NewGroup ∷ Instr.Store 0 ∷ Instr.Load 0 ∷ push 2 ∷ Instr.GroupAdd ∷ Instr.Load 0
    ∷ Instr.Go 1 1 ∷ Instr.Load 0 ∷ Instr.Go 1 1 ∷ Instr.Load 0 ∷ Instr.GroupWait ∷ push 9 ∷ Instr.Print 1
    ∷ Instr.Return ∷ [])
    ∷ function 1 1 21 (Instr.Load 0 ∷ Instr.Int (negsuc 0) ∷ Instr.GroupAdd ∷ Instr.Return ∷ [])
    ∷ [])

-- at 1 the group still waits
pub waits_above_zero : runnable (after grouped (lowest 11 ++ lowest 3)) ≡ 2 ∷ 3 ∷ []
waits_above_zero = refl

-- at 0 it goes on
pub goes_on_at_zero : (after grouped (lowest 11 ++ (lowest 3 ++ (second 3 ++ lowest 2)))).output ≡ 57 ∷ 10 ∷ []
unfolding digits
goes_on_at_zero = refl

pub nothing_to_wait_for : ending (after (straight (Instr.NewGroup ∷ Instr.GroupWait ∷ Instr.Return ∷ [])) (lowest 3))
    ≡ Some Ending.Returned
nothing_to_wait_for = refl

-- below 0 it panics, and the counter stays
abbrev negative : Code
negative = code_with [] (function 0 0 1 (Instr.NewGroup ∷ Instr.Int (negsuc 0) ∷ Instr.GroupAdd ∷ []) ∷ [])

pub negative_counter : ending (after negative (lowest 4)) ≡ Some (panicked PanicKind.NegativeGroup 1 3)
negative_counter = refl

pub counter_stays : find 1 (after negative (lowest 4)).objects ≡ Some (Object.Group (pos 0))
counter_stays = refl
