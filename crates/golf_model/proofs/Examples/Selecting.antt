-- The choice of a `select`.
use Rattle.std.specs.Prelude.{option_map}
use Rattle.golf_theory.specs.Maps.{find}
use Rattle.golf_model.specs.Waiters.{waits_of, send_wait}
use Rattle.golf_model.proofs.Examples.Writing.{number}
use Rattle.std.specs.Prelude.{◌≡◌, ℕ, List, [], ◌∷◌, ◌++◌, Some, None, refl}
use Rattle.std.specs.Fmt.{digits}
use Rattle.golf_data.specs.declared.code.Code.{Code}
use Rattle.golf_data.specs.declared.code.Instr.{Instr}
use Rattle.golf_data.specs.declared.code.CaseKind.{CaseKind}
use Rattle.golf_data.specs.declared.goroutine.Ending.{Ending}
use Rattle.golf_model.specs.State.{runnable, ending}
use Rattle.golf_model.proofs.Examples.Writing.{function, push, new_channel, code_with, lowest, second, after, case}

-- both cases are ready, and print 10 and 20
abbrev both : Code
both =
    code_with []
    (function 0 1 1 (new_channel 1 ++ (Instr.Store 0 ∷ Instr.Load 0 ∷ push 1 ∷ Instr.Send ∷ Instr.Load 0 ∷ Instr.Load 0
    ∷ Instr.Select (case CaseKind.Take 9 ∷ case CaseKind.Take 12 ∷ []) None ∷ Instr.Drop ∷ push 10 ∷ Instr.Jump 14
    ∷ Instr.Drop ∷ push 20 ∷ Instr.Print 1 ∷ Instr.Return ∷ []))
    ∷ [])

-- with one goroutine the turn's number is the choice, counted round
pub first_case : (after both (lowest 8 ++ (0 ∷ lowest 4))).output ≡ 49 ∷ 48 ∷ 10 ∷ []
unfolding digits
first_case = refl

pub second_case : (after both (lowest 8 ++ (1 ∷ lowest 3))).output ≡ 50 ∷ 48 ∷ 10 ∷ []
unfolding digits
second_case = refl

pub counted_round : (after both (lowest 8 ++ (6 ∷ lowest 4))).output ≡ 49 ∷ 48 ∷ 10 ∷ []
unfolding digits
counted_round = refl

-- the first case is on an empty channel, the third on nil; the second alone is ready
abbrev one : Code
one =
    code_with []
    (function 0 1 1 (new_channel 1 ++ (Instr.Store 0 ∷ Instr.Load 0 ∷ push 1 ∷ Instr.Send
    ∷ (new_channel 0 ++ (Instr.Load 0 ∷ Instr.Nil
    ∷ Instr.Select (case CaseKind.Take 11 ∷ case CaseKind.TakeOk 12 ∷ case CaseKind.Take 14 ∷ []) None
    ∷ Instr.Return ∷ Instr.Print 2 ∷ Instr.Return ∷ Instr.Return ∷ []))))
    ∷ [])

pub ready_cases_alone : (after one (lowest 10 ++ (1 ∷ lowest 1))).output ≡ 49 ∷ 32 ∷ 116 ∷ 114 ∷ 117 ∷ 101 ∷ 10 ∷ []
unfolding digits
ready_cases_alone = refl

-- `default` runs if no case is ready
abbrev default : Code
default = code_with [] (function 0 0 1 (Instr.Nil ∷ push 5 ∷ Instr.Select (case CaseKind.Send 3 ∷ []) (Some 4)
    ∷ Instr.Return ∷ push 3 ∷ Instr.Print 1 ∷ Instr.Return ∷ []) ∷ [])

pub default_runs : (after default (lowest 5)).output ≡ 51 ∷ 10 ∷ []
unfolding digits
default_runs = refl

-- a case that waits is served like a send, and the goroutine goes on at its target
abbrev waiting : Code
waiting =
    code_with []
    (function 0 0 1 (new_channel 0 ++ (Instr.Dup ∷ Instr.Go 1 1 ∷ Instr.Receive ∷ Instr.Print 1 ∷ Instr.Return ∷ []))
    ∷ function 1 1 11 (Instr.Nil ∷ Instr.Load 0 ∷ push 8
    ∷ Instr.Select (case CaseKind.Take 4 ∷ case CaseKind.Send 5 ∷ []) None ∷ Instr.Return ∷ push 6 ∷ Instr.Print 1
    ∷ Instr.Return ∷ [])
    ∷ [])

pub select_is_served : (after waiting (lowest 4 ++ (second 4 ++ (lowest 2 ++ second 2)))).output ≡ 56 ∷ 10 ∷ 54 ∷ 10
    ∷ []
unfolding digits
select_is_served = refl

-- goroutine 2 is blocked sending 8, goroutine 3 is blocked receiving, and goroutine 4 can run beside goroutine 1, which
-- selects
abbrev meeting : Code
meeting =
    code_with []
    (function 0 2 1 (new_channel 0 ++ (Instr.Store 0
    ∷ (new_channel 0 ++ (Instr.Store 1 ∷ Instr.Load 0 ∷ Instr.Go 1 1 ∷ Instr.Load 1 ∷ Instr.Go 2 1 ∷ Instr.Go 3 0
    ∷ Instr.Load 0 ∷ Instr.Load 1 ∷ push 5 ∷ Instr.Select (case CaseKind.Take 15 ∷ case CaseKind.Send 17 ∷ []) None
    ∷ Instr.Print 1 ∷ Instr.Return ∷ push 3 ∷ Instr.Print 1 ∷ Instr.Return ∷ []))))
    ∷ function 1 1 31 (Instr.Load 0 ∷ push 8 ∷ Instr.Send ∷ Instr.Return ∷ [])
    ∷ function 1 1 41 (Instr.Load 0 ∷ Instr.Receive ∷ Instr.Print 1 ∷ Instr.Return ∷ [])
    ∷ function 0 0 51 (Instr.Return ∷ [])
    ∷ [])

abbrev both_blocked : List ℕ
both_blocked = lowest 11 ++ (second 3 ++ (second 2 ++ lowest 3))

-- of turns that are goroutine 1's, the next number takes the next ready case
pub meets_blocked_sender : (after meeting (both_blocked ++ (0 ∷ lowest 1))).output ≡ 56 ∷ 10 ∷ []
unfolding digits
meets_blocked_sender = refl

pub meets_blocked_receiver : (after meeting (both_blocked ++ (2 ∷ second 1))).output ≡ 53 ∷ 10 ∷ []
unfolding digits
meets_blocked_receiver = refl

pub round_with_two : (after meeting (both_blocked ++ (4 ∷ lowest 1))).output ≡ 56 ∷ 10 ∷ []
unfolding digits
round_with_two = refl

-- the numbers between are those of goroutine 4
pub turn_of_the_other : runnable (after meeting (both_blocked ++ (3 ∷ []))) ≡ 1 ∷ []
turn_of_the_other = refl

-- a blocked `v, ok := <-c` is given what is sent and true, and the zero value and false by a close
abbrev asking : Code
asking =
    code_with []
    (function 0 1 1 (new_channel 0 ++ (Instr.Store 0 ∷ Instr.Load 0 ∷ Instr.Go 1 1 ∷ Instr.Load 0 ∷ push 7 ∷ Instr.Send
    ∷ Instr.Load 0 ∷ Instr.Close ∷ Instr.Return ∷ []))
    ∷ function 1 1 21 (Instr.Load 0 ∷ Instr.Select (case CaseKind.TakeOk 3 ∷ []) None ∷ Instr.Return ∷ Instr.Print 2
    ∷ Instr.Jump 0 ∷ [])
    ∷ [])

pub value_and_ok : (after asking (lowest 5 ++ (second 2 ++ (lowest 3 ++ (second 4 ++ (lowest 2 ++ second 1)))))).output
    ≡ 55 ∷ 32 ∷ 116 ∷ 114 ∷ 117 ∷ 101 ∷ 10 ∷ 48 ∷ 32 ∷ 102 ∷ 97 ∷ 108 ∷ 115 ∷ 101 ∷ 10 ∷ []
unfolding digits
value_and_ok = refl

-- a `select` without cases blocks for ever
pub no_cases : ending (after (code_with [] (function 0 0 1 (Instr.Select [] None ∷ []) ∷ [])) (lowest 1))
    ≡ Some Ending.Asleep
no_cases = refl

-- a ready case comes before `default`
pub ready_before_default : (after (code_with []
    (function 0 0 1 (new_channel 1 ++ (push 5 ∷ Instr.Select (case CaseKind.Send 4 ∷ []) (Some 6) ∷ push 1
    ∷ Instr.Print 1 ∷ Instr.Return ∷ [])) ∷ [])) (lowest 6)).output ≡ 49 ∷ 10 ∷ []
unfolding digits
ready_before_default = refl

-- a receive from a closed channel is ready
pub closed_is_ready : (after (code_with []
    (function 0 0 1 (new_channel 0 ++ (Instr.Dup ∷ Instr.Close ∷ Instr.Select (case CaseKind.TakeOk 5 ∷ []) (Some 7)
    ∷ Instr.Print 2 ∷ Instr.Return ∷ Instr.Return ∷ [])) ∷ [])) (lowest 6)).output
    ≡ 48 ∷ 32 ∷ 102 ∷ 97 ∷ 108 ∷ 115 ∷ 101 ∷ 10 ∷ []
unfolding digits
closed_is_ready = refl

-- a blocked `select` waits with each case whose channel is not nil, in source order
pub nil_is_not_waited_for : option_map (λ r. waits_of r.mode) (find 2 (after waiting (lowest 4 ++ second 4)).goroutines)
    ≡ Some (send_wait 1 (number 8) (Some 5) ∷ [])
nil_is_not_waited_for = refl
