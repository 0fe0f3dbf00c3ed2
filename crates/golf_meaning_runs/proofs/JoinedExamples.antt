-- The book of a small program with deferred calls, a `go` of two arguments, two calls that return and one that panics,
-- against what was worked out by hand.
use Rattle.std.specs.Prelude.{◌≡◌, ℕ, true, List, [], ◌∷◌, ◌++◌, map, None, Some}
use Rattle.std.proofs.Common.{refl}
use Rattle.golf_data.specs.declared.value.Value.{Value}
use Rattle.golf_data.specs.declared.code.Code.{Code}
use Rattle.golf_data.specs.declared.code.Instr.{Instr}
use Rattle.golf_model.proofs.Examples.Writing.{function, number, push, code_with, turns, lowest}
use Rattle.golf_meaning_flat.specs.Worlds.{Operation, Answer, Halt}
use Rattle.golf_meaning_runs.specs.TurnsInLives.{operation, answer}
use Rattle.golf_meaning_runs.specs.CallRecords.{Standing, Child, Origin, StartedCall, Call, fresh, as_seen, deferrals}
use Rattle.golf_meaning_runs.specs.Joins.{deferred_of}
use Rattle.golf_meaning_runs.specs.Books.{book_of, left_of}

-- Function 0 calls `main`. There x is 1, `show(x)` is deferred, x is 2, and `show(x)` is deferred again. `main` starts
-- `pair(3, 4)`, calls `first(5, 6)` and `second(7, 8)`, and then `fails`, which defers `show(9)` and panics.
abbrev code : Code
code =
    code_with []
    (function 0 0 1 (Instr.Call 1 0 ∷ Instr.Return ∷ [])
    ∷ function 0 1 11 (push 1 ∷ Instr.Store 0 ∷ Instr.Load 0 ∷ Instr.Defer 2 1
    ∷ push 2 ∷ Instr.Store 0 ∷ Instr.Load 0 ∷ Instr.Defer 2 1
    ∷ push 3 ∷ push 4 ∷ Instr.Go 3 2
    ∷ push 5 ∷ push 6 ∷ Instr.Call 4 2 ∷ Instr.Store 0
    ∷ push 7 ∷ push 8 ∷ Instr.Call 5 2 ∷ Instr.Store 0
    ∷ Instr.Call 6 0 ∷ Instr.Return ∷ [])
    ∷ function 1 1 41 (Instr.Return ∷ [])
    ∷ function 2 2 51 (Instr.Return ∷ [])
    ∷ function 2 2 61 (Instr.Load 0 ∷ Instr.ReturnValue ∷ [])
    ∷ function 2 2 71 (Instr.Load 1 ∷ Instr.ReturnValue ∷ [])
    ∷ function 0 0 81 (push 9 ∷ Instr.Defer 2 1 ∷ Instr.Text 0 ∷ Instr.Panic ∷ [])
    ∷ [])

-- goroutine 1 takes all turns
abbrev book : ℕ → ℕ → List Call
book n g = book_of code (turns (lowest n)) g

abbrev left : ℕ → List Call
left n = left_of code (turns (lowest n))

-- ---- the operations and the answers

abbrev shows_one : Operation
shows_one = operation (Instr.Defer 2 1) (number 1 ∷ [])

abbrev shows_two : Operation
shows_two = operation (Instr.Defer 2 1) (number 2 ∷ [])

abbrev starts : Operation
starts = operation (Instr.Go 3 2) (number 3 ∷ number 4 ∷ [])

abbrev calls_first : Operation
calls_first = operation (Instr.Call 4 2) (number 5 ∷ number 6 ∷ [])

abbrev calls_second : Operation
calls_second = operation (Instr.Call 5 2) (number 7 ∷ number 8 ∷ [])

abbrev calls_fails : Operation
calls_fails = operation (Instr.Call 6 0) []

abbrev shows_nine : Operation
shows_nine = operation (Instr.Defer 2 1) (number 9 ∷ [])

abbrev panics : Operation
panics = operation Instr.Panic (Value.Text 0 ∷ [])

abbrev nothing : Answer
nothing = answer 0 []

abbrev value : Value → Answer
value v = answer 0 (v ∷ [])

abbrev asks : Standing
asks = Standing.Asks (record { ranks = []; rest = [] })

abbrev returned : Standing
returned = Standing.Ended (Halt.Returned None)

-- ---- the calls

-- a call of which no call has left
abbrev call : Origin → ℕ → List Value → List Operation → List Answer → Standing → Call
call o f vs shown got standing = record (fresh o f vs) { shown = shown; got = got; standing = standing }

abbrev noted_by : Call → Call → Child
noted_by by k = record { one = as_seen k; panicked = k.panicked; after = as_seen by }

abbrev outermost : Call
outermost = call Origin.Opening 0 [] (operation (Instr.Call 1 0) [] ∷ []) [] asks

-- `main` with these operations and answers
abbrev main_with : List Operation → List Answer → Standing → Call
main_with shown got standing = call (Origin.Calling (as_seen outermost)) 1 [] shown got standing

-- the goroutine that it has started
abbrev pair : StartedCall
pair = record { number = 2; function = 3; arguments = number 3 ∷ number 4 ∷ [] }

-- what it has shown before the first call
abbrev before : List Operation
before = shows_one ∷ shows_two ∷ starts ∷ []

-- ---- a goroutine gets the operands of `go`, in their order

abbrev main_starts : Call
main_starts = main_with before (nothing ∷ nothing ∷ []) asks

pair_begins : book 12 2 ≡ fresh (Origin.Starting (as_seen main_starts)) 3 (number 3 ∷ number 4 ∷ []) ∷ []
pair_begins = refl

main_has_started : book 12 1 ≡ record main_starts { spawned = pair ∷ [] } ∷ outermost ∷ []
main_has_started = refl

-- ---- a caller gets what its call has returned

abbrev main_calls_first : Call
main_calls_first = record (main_with (before ++ calls_first ∷ []) (nothing ∷ nothing ∷ nothing ∷ []) asks) {
  spawned = pair ∷ [];
}

abbrev by_first : Origin
by_first = Origin.Calling (as_seen main_calls_first)

first_begins : book 15 1 ≡ fresh by_first 4 (number 5 ∷ number 6 ∷ []) ∷ main_calls_first ∷ outermost ∷ []
first_begins = refl

abbrev first_left : Call
first_left = call by_first 4 (number 5 ∷ number 6 ∷ []) [] [] (Standing.Ended (Halt.Returned (Some (number 5))))

first_has_left : left 17 ≡ first_left ∷ []
first_has_left = refl

abbrev main_calls_second : Call
main_calls_second = record (main_with (before ++ (calls_first ∷ calls_second ∷ []))
    (nothing ∷ nothing ∷ nothing ∷ value (number 5) ∷ []) asks) { made = noted_by main_calls_first first_left ∷ []; spawned = pair ∷ [] }

abbrev by_second : Origin
by_second = Origin.Calling (as_seen main_calls_second)

second_begins : book 21 1 ≡ fresh by_second 5 (number 7 ∷ number 8 ∷ []) ∷ main_calls_second ∷ outermost ∷ []
second_begins = refl

abbrev second_left : Call
second_left = call by_second 5 (number 7 ∷ number 8 ∷ []) [] [] (Standing.Ended (Halt.Returned (Some (number 8))))

-- `main` notes it at once, and the answer before its next turn
second_has_left : book 23 1 ≡ record main_calls_second {
  made = noted_by main_calls_first first_left ∷ noted_by main_calls_second second_left ∷ [];
} ∷ outermost ∷ []
second_has_left = refl

abbrev main_calls_fails : Call
main_calls_fails = record (main_with (before ++ (calls_first ∷ calls_second ∷ calls_fails ∷ []))
    (nothing ∷ nothing ∷ nothing ∷ value (number 5) ∷ value (number 8) ∷ []) asks) {
      made = noted_by main_calls_first first_left ∷ noted_by main_calls_second second_left ∷ [];
      spawned = pair ∷ [];
    }

abbrev by_fails : Origin
by_fails = Origin.Calling (as_seen main_calls_fails)

fails_begins : book 25 1 ≡ fresh by_fails 6 [] ∷ main_calls_fails ∷ outermost ∷ []
fails_begins = refl

-- ---- a panic: the call runs its deferred call, and leaves

abbrev fails_panics : Call
fails_panics = call by_fails 6 [] (shows_nine ∷ panics ∷ []) (nothing ∷ []) asks

abbrev by_panic : Origin
by_panic = Origin.Deferring (as_seen fails_panics)

nine_begins : book 30 1 ≡ fresh by_panic 2 (number 9 ∷ []) ∷ fails_panics ∷ main_calls_fails ∷ outermost ∷ []
nine_begins = refl

abbrev nine_left : Call
nine_left = call by_panic 2 (number 9 ∷ []) [] [] returned

nine_has_left : book 31 1 ≡ record fails_panics { late = noted_by fails_panics nine_left ∷ [] } ∷ main_calls_fails
    ∷ outermost ∷ []
nine_has_left = refl

abbrev fails_left : Call
fails_left = record fails_panics { late = noted_by fails_panics nine_left ∷ []; panicked = true }

-- ---- its caller gets no answer, and runs its deferred calls, the latest first, each before the next

abbrev main_unwinds : List Child → Call
main_unwinds late = record main_calls_fails {
  made = noted_by main_calls_first first_left ∷ noted_by main_calls_second second_left
      ∷ noted_by main_calls_fails fails_left ∷ [];
  late = late;
}

fails_has_left : book 32 1 ≡ main_unwinds [] ∷ outermost ∷ []
fails_has_left = refl

abbrev by_unwinding : Origin
by_unwinding = Origin.Deferring (as_seen main_calls_fails)

two_begins : book 33 1 ≡ fresh by_unwinding 2 (number 2 ∷ []) ∷ main_unwinds [] ∷ outermost ∷ []
two_begins = refl

-- a deferred call that has left
abbrev shown_left : ℕ → Call
shown_left n = call by_unwinding 2 (number n ∷ []) [] [] returned

two_has_left : book 34 1 ≡ main_unwinds (noted_by main_calls_fails (shown_left 2) ∷ []) ∷ outermost ∷ []
two_has_left = refl

one_begins : book 35 1 ≡ fresh by_unwinding 2 (number 1 ∷ [])
    ∷ main_unwinds (noted_by main_calls_fails (shown_left 2) ∷ []) ∷ outermost ∷ []
one_begins = refl

-- after the last of them it leaves
abbrev main_left : Call
main_left = record (main_unwinds (noted_by main_calls_fails (shown_left 2)
    ∷ noted_by main_calls_fails (shown_left 1) ∷ [])) { panicked = true }

main_has_left : left 37 ≡ first_left ∷ second_left ∷ nine_left ∷ fails_left ∷ shown_left 2 ∷ shown_left 1
    ∷ main_left ∷ []
main_has_left = refl

-- those that have run are those that were deferred
all_have_run : map deferred_of main_left.late ≡ deferrals main_left.shown
all_have_run = refl

outermost_is_unwound : book 37 1 ≡ record outermost { made = noted_by outermost main_left ∷ [] } ∷ []
outermost_is_unwound = refl

the_program_has_ended : book 38 1 ≡ []
the_program_has_ended = refl
