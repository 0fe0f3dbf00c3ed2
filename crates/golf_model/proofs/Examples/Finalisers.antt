-- Finalisers: queued, run and cleared.
use Rattle.golf_data.specs.declared.value.Value.{Value}
use Rattle.std.specs.Prelude.{◌++◌}
use Rattle.std.specs.Prelude.{◌≡◌, false, List, [], ◌∷◌, Some, refl}
use Rattle.std.specs.Fmt.{digits}
use Rattle.golf_data.specs.declared.code.Code.{Code}
use Rattle.golf_data.specs.declared.code.Instr.{Instr}
use Rattle.golf_data.specs.declared.goroutine.Ending.{Ending}
use Rattle.golf_data.specs.declared.goroutine.Mode.{Mode}
use Rattle.golf_data.specs.declared.goroutine.PanicKind.{PanicKind}
use Rattle.golf_data.specs.declared.goroutine.WaitKind.{WaitKind}
use Rattle.golf_model.specs.State.{runnable, ending, start}
use Rattle.golf_model.specs.Reach.{reach}
use Rattle.golf_model.specs.LiveSet.{live_list, dead}
use Rattle.golf_model.specs.Runs.{finaliser_calls}
use Rattle.golf_model.proofs.Examples.Writing.{second, function, push, code_with, straight, turns, lowest, after}
use Rattle.golf_model.proofs.Examples.Writing.{panicked, mode_of, reports, quiet}

-- function 0 makes a struct, gives it function 1 as its finaliser, drops it and collects
abbrev dropping : List Instr → Code
dropping more =
    code_with []
    (function 0 0 1 (Instr.NewStruct 0 ∷ Instr.Dup ∷ Instr.SetFinalizer 1 ∷ more)
    ∷ function 1 1 11 (push 7 ∷ Instr.Print 1 ∷ Instr.Return ∷ [])
    ∷ [])

abbrev dropped : Code
dropped = dropping (Instr.Drop ∷ Instr.Collect ∷ Instr.Collect ∷ Instr.Return ∷ [])

-- the collection queues it, and goroutine 0 can run
pub queued : (after dropped (lowest 5)).queue ≡ record { object = record { 0 = 1 }; function = 1 } ∷ []
unfolding reach
queued = refl

pub goroutine_0_can_run : runnable (after dropped (lowest 5)) ≡ 0 ∷ 1 ∷ []
unfolding reach
goroutine_0_can_run = refl

-- it takes the entry and prints; then it waits for its queue
pub finaliser_runs : (after dropped (lowest 8)).output ≡ 55 ∷ 10 ∷ []
unfolding reach digits
finaliser_runs = refl

pub goroutine_0_waits : runnable (after dropped (lowest 9)) ≡ 1 ∷ []
unfolding reach
goroutine_0_waits = refl

-- the call is seen
pub call_is_seen : finaliser_calls dropped (start dropped) (turns (lowest 9))
    ≡ record { object = record { 0 = 1 }; function = 1 } ∷ []
unfolding reach
call_is_seen = refl

-- the object stays for its finaliser, and is freed by the next collection
pub freed_at_last : reports dropped (lowest 10) false ≡ quiet 1 0 1 ∷ quiet 2 0 0 ∷ []
unfolding reach live_list
freed_at_last = refl

-- an object that is still held is not queued, and its finaliser stays
abbrev held : Code
held = dropping (Instr.Collect ∷ Instr.Return ∷ [])

pub held_stays : (after held (lowest 4)).finalisers ≡ (1, 1) ∷ []
unfolding reach
held_stays = refl

pub held_is_not_queued : (after held (lowest 4)).queue ≡ []
unfolding reach
held_is_not_queued = refl

-- finalisers join the queue by rising number of their objects, whichever was set first
abbrev two : Code
two =
    code_with []
    (function 0 0 1 (Instr.NewStruct 0 ∷ Instr.NewStruct 0 ∷ Instr.SetFinalizer 1 ∷ Instr.SetFinalizer 2 ∷ Instr.Collect
    ∷ Instr.Return ∷ [])
    ∷ function 1 1 11 (Instr.Return ∷ [])
    ∷ function 1 1 21 (Instr.Return ∷ [])
    ∷ [])

pub by_rising_number : (after two (lowest 5)).queue ≡ record { object = record { 0 = 1 }; function = 2 }
    ∷ record { object = record { 0 = 2 }; function = 1 } ∷ []
unfolding reach
by_rising_number = refl

-- a cleared finaliser never runs
abbrev cleared : Code
cleared = dropping (Instr.ClearFinalizer ∷ Instr.Collect ∷ Instr.Return ∷ [])

pub cleared_is_not_queued : (after cleared (lowest 5)).queue ≡ []
unfolding reach
cleared_is_not_queued = refl

-- nil has none to clear, and cannot be given one
pub nil_is_cleared : ending (after (code_with []
    (function 0 0 1 (Instr.Nil ∷ Instr.ClearFinalizer ∷ Instr.Return ∷ []) ∷ [])) (lowest 3)) ≡ Some Ending.Returned
nil_is_cleared = refl

pub set_on_nil : ending (after (straight (Instr.Nil ∷ Instr.SetFinalizer 0 ∷ [])) (lowest 3)) ≡ Some
    (panicked PanicKind.NilPointer 1 2)
set_on_nil = refl

-- a second finaliser is a fatal error, but not if the first was cleared
abbrev twice : List Instr → Code
twice more = straight (Instr.NewStruct 0 ∷ Instr.Dup ∷ Instr.SetFinalizer 0 ∷ more)

pub set_twice : ending (after (twice (Instr.Dup ∷ Instr.SetFinalizer 0 ∷ [])) (lowest 5)) ≡ Some
    (panicked PanicKind.FinalizerSet 1 5)
set_twice = refl

pub set_after_clearing : (after (twice (Instr.Dup ∷ Instr.ClearFinalizer ∷ Instr.Dup ∷ Instr.SetFinalizer 0 ∷ []))
    (lowest 7)).finalisers ≡ (1, 0) ∷ []
set_after_clearing = refl

-- a finaliser that panics ends the program, and one that blocks for ever holds the next one up; goroutine 0 is never
-- dead
abbrev doing : List Instr → Code
doing finaliser =
    code_with []
    (function 0 0 1 (Instr.NewStruct 0 ∷ Instr.SetFinalizer 1 ∷ Instr.NewStruct 0 ∷ Instr.SetFinalizer 1 ∷ Instr.Collect
    ∷ Instr.Return ∷ []) ∷ function 1 1 11 finaliser ∷ [])

pub finaliser_panics : ending (after (doing (Instr.Nil ∷ Instr.Lock ∷ [])) (lowest 9)) ≡ Some
    (panicked PanicKind.NilPointer 0 12)
unfolding reach
finaliser_panics = refl

pub finaliser_blocks : mode_of 0 (after (doing (Instr.Nil ∷ Instr.Receive ∷ Instr.Return ∷ [])) (lowest 8)) ≡ Some
    (Mode.Blocked WaitKind.ReceiveNil 12 [] 0)
unfolding reach
finaliser_blocks = refl

pub next_one_waits : (after (doing (Instr.Nil ∷ Instr.Receive ∷ Instr.Return ∷ [])) (lowest 8)).queue
    ≡ record { object = record { 0 = 2 }; function = 1 } ∷ []
unfolding reach
next_one_waits = refl

pub goroutine_0_is_live : dead (after (doing (Instr.Nil ∷ Instr.Receive ∷ Instr.Return ∷ [])) (lowest 8)) ≡ []
unfolding reach live_list
goroutine_0_is_live = refl

-- an object in a global stays
abbrev in_global : Code
in_global =
    code_with (Value.Nil ∷ [])
    (function 0 0 1 (Instr.NewStruct 0 ∷ Instr.Dup ∷ Instr.StoreGlobal 0 ∷ Instr.SetFinalizer 1 ∷ Instr.Collect
    ∷ Instr.Return ∷ [])
    ∷ function 1 1 11 (Instr.Return ∷ [])
    ∷ [])

pub in_global_stays : (after in_global (lowest 5)).queue ≡ []
unfolding reach
in_global_stays = refl

-- one finalised object refers to another: the other one waits until the first one's finaliser has run
abbrev chained : Code
chained =
    code_with []
    (function 0 0 1 (Instr.NewStruct 0 ∷ Instr.Dup ∷ Instr.SetFinalizer 1 ∷ Instr.NewStruct 0 ∷ Instr.Dup
    ∷ Instr.SetFinalizer 1 ∷ Instr.SetField 0 ∷ Instr.Collect ∷ Instr.Collect ∷ Instr.Return ∷ [])
    ∷ function 1 1 11 (Instr.Return ∷ [])
    ∷ [])

pub first_of_the_chain : (after chained (lowest 8)).queue ≡ record { object = record { 0 = 1 }; function = 1 } ∷ []
unfolding reach
first_of_the_chain = refl

-- so while the first one is in the queue
pub queued_holds_the_next : (after chained (lowest 8 ++ second 1)).queue
    ≡ record { object = record { 0 = 1 }; function = 1 } ∷ []
unfolding reach
queued_holds_the_next = refl

pub nothing_taken_yet : finaliser_calls chained (start chained) (turns (lowest 8 ++ second 1)) ≡ []
unfolding reach
nothing_taken_yet = refl

-- and then it is its turn
pub next_of_the_chain : (after chained (lowest 10 ++ lowest 1)).queue
    ≡ record { object = record { 0 = 2 }; function = 1 } ∷ []
unfolding reach
next_of_the_chain = refl
