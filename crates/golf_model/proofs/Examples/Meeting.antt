-- A send and a receive meet.
use Rattle.std.specs.Prelude.{◌≡◌, [], ◌∷◌, ◌++◌, Some, refl}
use Rattle.std.specs.Fmt.{digits}
use Rattle.golf_data.specs.declared.code.Code.{Code}
use Rattle.golf_data.specs.declared.code.Instr.{Instr}
use Rattle.golf_data.specs.declared.goroutine.Ending.{Ending}
use Rattle.golf_model.specs.State.{ending}
use Rattle.golf_model.proofs.Examples.Writing.{function, push, new_channel, code_with, lowest, second, after}

-- function 0 makes a channel, starts function 1 on it, sends 7 and returns; function 1 receives and prints
abbrev code : Code
code =
    code_with []
    (function 0 0 1 (new_channel 0 ++ (Instr.Dup ∷ Instr.Go 1 1 ∷ push 7 ∷ Instr.Send ∷ Instr.Return ∷ []))
    ∷ function 1 1 11 (Instr.Load 0 ∷ Instr.Receive ∷ Instr.Print 1 ∷ Instr.Return ∷ [])
    ∷ [])

-- a receiver that waits gets the value
pub receiver_first : (after code (lowest 4 ++ (second 2 ++ (lowest 2 ++ second 1)))).output ≡ 55 ∷ 10 ∷ []
unfolding digits
receiver_first = refl

-- a sender that waits hands its value over
pub sender_first : (after code (lowest 6 ++ (lowest 2 ++ second 1))).output ≡ 55 ∷ 10 ∷ []
unfolding digits
sender_first = refl

-- the program ends when goroutine 1 does
pub returns : ending (after code (lowest 4 ++ (second 2 ++ lowest 3))) ≡ Some Ending.Returned
returns = refl

-- nothing happens after that, although goroutine 2 could still run
pub nothing_happens_after : (after code (lowest 4 ++ (second 2 ++ (lowest 3 ++ lowest 5)))).output ≡ []
nothing_happens_after = refl

-- what a blocked receiver is given lies on top of what it had
pub received_on_top : (after (code_with []
    (function 0 0 1 (new_channel 0 ++ (Instr.Dup ∷ Instr.Go 1 1 ∷ push 7 ∷ Instr.Send ∷ Instr.Return ∷ []))
    ∷ function 1 1 11 (push 9 ∷ Instr.Load 0 ∷ Instr.ReceiveOk ∷ Instr.Print 3 ∷ Instr.Return ∷ []) ∷ []))
    (lowest 4 ++ (second 3 ++ (lowest 2 ++ second 1)))).output ≡ 57 ∷ 32 ∷ 55 ∷ 32 ∷ 116 ∷ 114 ∷ 117 ∷ 101 ∷ 10 ∷ []
unfolding digits
received_on_top = refl
