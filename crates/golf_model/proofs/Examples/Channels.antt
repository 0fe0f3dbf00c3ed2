-- Buffers, closing, and who is served first.
use Rattle.std.specs.Prelude.{◌≡◌, List, [], ◌∷◌, ◌++◌, Some, None, refl}
use Rattle.std.specs.Fmt.{digits}
use Rattle.golf_data.specs.declared.code.Code.{Code}
use Rattle.golf_data.specs.declared.code.Instr.{Instr}
use Rattle.golf_data.specs.declared.code.CaseKind.{CaseKind}
use Rattle.golf_data.specs.declared.goroutine.Ending.{Ending}
use Rattle.golf_data.specs.declared.goroutine.PanicKind.{PanicKind}
use Rattle.golf_model.specs.State.{runnable, ending}
use Rattle.golf_model.proofs.Examples.Writing.{function, push, new_channel, code_with, lowest, second, third, after}
use Rattle.golf_model.proofs.Examples.Writing.{case, panicked}

-- function 1 receives from its channel and prints the value with its own number
abbrev racing : Code
racing =
    code_with []
    (function 0 1 1 (new_channel 0 ++ (Instr.Store 0 ∷ Instr.Load 0 ∷ push 2 ∷ Instr.Go 1 2 ∷ Instr.Load 0 ∷ push 3
    ∷ Instr.Go 1 2 ∷ Instr.Load 0 ∷ push 7 ∷ Instr.Send ∷ Instr.Return ∷ []))
    ∷ function 2 2 21 (Instr.Load 0 ∷ Instr.Receive ∷ Instr.Load 1 ∷ Instr.Print 2 ∷ Instr.Return ∷ [])
    ∷ [])

-- goroutine 3 waited first, so it gets the value
pub first_waiter_first : (after racing (lowest 9 ++ (third 2 ++ (second 2 ++ (lowest 3 ++ second 2))))).output ≡ 55 ∷ 32
    ∷ 51 ∷ 10 ∷ []
unfolding digits
first_waiter_first = refl

-- function 1 sends 1 and 2 into a channel with room for one
abbrev buffered : Code
buffered =
    code_with []
    (function 0 1 1 (new_channel 1 ++ (Instr.Store 0 ∷ Instr.Load 0 ∷ Instr.Go 1 1 ∷ Instr.Load 0 ∷ Instr.Receive
    ∷ Instr.Print 1 ∷ Instr.Load 0 ∷ Instr.Receive ∷ Instr.Print 1 ∷ Instr.Return ∷ []))
    ∷ function 1 1 21 (Instr.Load 0 ∷ push 1 ∷ Instr.Send ∷ Instr.Load 0 ∷ push 2 ∷ Instr.Send ∷ Instr.Return ∷ [])
    ∷ [])

-- the blocked sender's value takes the free place
pub values_in_order : (after buffered (lowest 5 ++ (second 6 ++ lowest 6))).output ≡ 49 ∷ 10 ∷ 50 ∷ 10 ∷ []
unfolding digits
values_in_order = refl

-- a buffer gives the oldest value first
pub oldest_first : (after (code_with [] (function 0 0 1
    (new_channel 2 ++ (Instr.Dup ∷ push 1 ∷ Instr.Send ∷ Instr.Dup ∷ push 2 ∷ Instr.Send ∷ Instr.Dup ∷ Instr.Receive
    ∷ Instr.Print 1 ∷ Instr.Len ∷ Instr.Print 1 ∷ [])) ∷ [])) (lowest 13)).output ≡ 49 ∷ 10 ∷ 49 ∷ 10 ∷ []
unfolding digits
oldest_first = refl

-- function 1 sends its number
abbrev offering : Code
offering =
    code_with []
    (function 0 1 1 (new_channel 0 ++ (Instr.Store 0 ∷ Instr.Load 0 ∷ push 2 ∷ Instr.Go 1 2 ∷ Instr.Load 0 ∷ push 3
    ∷ Instr.Go 1 2 ∷ Instr.Load 0 ∷ Instr.Receive ∷ Instr.Print 1 ∷ Instr.Return ∷ []))
    ∷ function 2 2 21 (Instr.Load 0 ∷ Instr.Load 1 ∷ Instr.Send ∷ Instr.Return ∷ [])
    ∷ [])

-- goroutine 3 was the first to wait, so its value is received
pub first_sender_first : (after offering (lowest 9 ++ (third 3 ++ (second 3 ++ lowest 3)))).output ≡ 51 ∷ 10 ∷ []
unfolding digits
first_sender_first = refl

-- what a blocked sender hands over was sent
pub handed_over_was_sent : (after (code_with []
    (function 0 0 1 (new_channel 0 ++ (Instr.Dup ∷ Instr.Go 1 1 ∷ Instr.ReceiveOk ∷ Instr.Print 2 ∷ Instr.Return ∷ []))
    ∷ function 1 1 11 (Instr.Load 0 ∷ push 5 ∷ Instr.Send ∷ Instr.Return ∷ []) ∷ []))
    (lowest 4 ++ (second 3 ++ lowest 2))).output ≡ 53 ∷ 32 ∷ 116 ∷ 114 ∷ 117 ∷ 101 ∷ 10 ∷ []
unfolding digits
handed_over_was_sent = refl

-- what was sent before the close is received, and then the zero value with false
abbrev closed : Code
closed =
    code_with []
    (function 0 0 1 (new_channel 2 ++ (Instr.Dup ∷ push 5 ∷ Instr.Send ∷ Instr.Dup ∷ Instr.Close ∷ Instr.Dup
    ∷ Instr.ReceiveOk ∷ Instr.Print 2 ∷ Instr.ReceiveOk ∷ Instr.Print 2 ∷ Instr.Return ∷ []))
    ∷ [])

pub buffer_outlives_close : (after closed (lowest 12)).output ≡ 53 ∷ 32 ∷ 116 ∷ 114 ∷ 117 ∷ 101 ∷ 10 ∷ 48 ∷ 32 ∷ 102
    ∷ 97 ∷ 108 ∷ 115 ∷ 101 ∷ 10 ∷ []
unfolding digits
buffer_outlives_close = refl

-- function 1 is blocked when function 0 closes its channel
abbrev closing : List Instr → Code
closing body = code_with [] (function 0 0 1
    (new_channel 0 ++ (Instr.Dup ∷ Instr.Go 1 1 ∷ Instr.Close ∷ Instr.Return ∷ [])) ∷ function 1 1 11 body ∷ [])

-- a receiver gets the zero value and false
pub closed_on_receiver : (after (closing (Instr.Load 0 ∷ Instr.ReceiveOk ∷ Instr.Print 2 ∷ Instr.Return ∷ []))
    (lowest 4 ++ (second 2 ++ (lowest 1 ++ second 1)))).output ≡ 48 ∷ 32 ∷ 102 ∷ 97 ∷ 108 ∷ 115 ∷ 101 ∷ 10 ∷ []
unfolding digits
closed_on_receiver = refl

-- a close wakes all who wait
pub closed_on_both : runnable (after (code_with []
    (function 0 1 1 (new_channel 0 ++ (Instr.Store 0 ∷ Instr.Load 0 ∷ Instr.Go 1 1 ∷ Instr.Load 0 ∷ Instr.Go 1 1
    ∷ Instr.Load 0 ∷ Instr.Close ∷ Instr.Return ∷ []))
    ∷ function 1 1 11 (Instr.Load 0 ∷ Instr.Receive ∷ Instr.Return ∷ []) ∷ []))
    (lowest 7 ++ (second 2 ++ (second 2 ++ lowest 2)))) ≡ 1 ∷ 2 ∷ 3 ∷ []
closed_on_both = refl

-- a sender panics at its own line
pub closed_on_sender : ending (after (closing (Instr.Load 0 ∷ push 5 ∷ Instr.Send ∷ Instr.Return ∷ []))
    (lowest 4 ++ (second 3 ++ (lowest 1 ++ second 1)))) ≡ Some (panicked PanicKind.SendClosed 2 13)
closed_on_sender = refl

-- a `select` that both sends and receives there goes by its first case: as a sender
pub closed_on_send_first : ending (after
    (closing (Instr.Load 0 ∷ push 5 ∷ Instr.Load 0
    ∷ Instr.Select (case CaseKind.Send 4 ∷ case CaseKind.Take 5 ∷ []) None ∷ Instr.Return ∷ Instr.Print 1 ∷ Instr.Return
    ∷ [])) (lowest 4 ++ (second 4 ++ (lowest 1 ++ second 1)))) ≡ Some (panicked PanicKind.SendClosed 2 14)
closed_on_send_first = refl

-- or as a receiver
pub closed_on_receive_first : (after (closing
    (Instr.Load 0 ∷ Instr.Load 0 ∷ push 5 ∷ Instr.Select (case CaseKind.Take 4 ∷ case CaseKind.Send 6 ∷ []) None
    ∷ Instr.Print 1 ∷ Instr.Return ∷ Instr.Return ∷ [])) (lowest 4 ++ (second 4 ++ (lowest 1 ++ second 1)))).output ≡ 48
    ∷ 10 ∷ []
unfolding digits
closed_on_receive_first = refl

-- a send on a closed channel panics, in a `select` too
pub send_on_closed : ending (after (code_with []
    (function 0 0 1 (new_channel 1 ++ (Instr.Dup ∷ Instr.Close ∷ push 1 ∷ Instr.Send ∷ [])) ∷ [])) (lowest 7)) ≡ Some
    (panicked PanicKind.SendClosed 1 6)
send_on_closed = refl

pub select_on_closed : ending (after (code_with []
    (function 0 0 1 (new_channel 0 ++ (Instr.Dup ∷ Instr.Close ∷ push 1
    ∷ Instr.Select (case CaseKind.Send 6 ∷ []) (Some 6) ∷ Instr.Return ∷ [])) ∷ [])) (lowest 7)) ≡ Some
    (panicked PanicKind.SendClosed 1 6)
select_on_closed = refl

-- a channel cannot be closed twice, and nil not at all
pub closed_twice : ending (after (code_with []
    (function 0 0 1 (new_channel 0 ++ (Instr.Dup ∷ Instr.Close ∷ Instr.Close ∷ [])) ∷ [])) (lowest 6)) ≡ Some
    (panicked PanicKind.CloseClosed 1 5)
closed_twice = refl

pub closed_nil : ending (after (code_with [] (function 0 0 1 (Instr.Nil ∷ Instr.Close ∷ []) ∷ [])) (lowest 3)) ≡ Some
    (panicked PanicKind.CloseNil 1 2)
closed_nil = refl

-- a receive from nil blocks for ever
pub asleep : ending (after (code_with [] (function 0 0 1 (Instr.Nil ∷ Instr.Receive ∷ []) ∷ [])) (lowest 2))
    ≡ Some Ending.Asleep
asleep = refl
