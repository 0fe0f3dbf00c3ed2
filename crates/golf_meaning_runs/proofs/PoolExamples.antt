-- The book of `examples/worker_pool.go` with a deferred call, from its first turn to its last, against what was worked
-- out by hand.
use Rattle.std.specs.Prelude.{◌≡◌, ℕ, ◌*◌, true, List, [], ◌∷◌, ◌++◌, flat_map, take, None, Some, codes}
use Rattle.std.proofs.Common.{refl}
use Rattle.golf_data.specs.declared.value.Value.{Value}
use Rattle.golf_data.specs.declared.code.Code.{Code}
use Rattle.golf_data.specs.declared.code.Instr.{Instr}
use Rattle.golf_model.proofs.Examples.Writing.{function, number, push, new_channel, code_with, turns, lowest, second}
use Rattle.golf_model.proofs.Examples.Writing.{third}
use Rattle.golf_meaning_flat.specs.Worlds.{Operation, Answer, Halt}
use Rattle.golf_meaning_runs.specs.TurnsInLives.{operation, answer}
use Rattle.golf_meaning_runs.specs.CallRecords.{Standing, Child, Origin, StartedCall, Call, fresh, as_seen}
use Rattle.golf_meaning_runs.specs.Books.{book_of, left_of}

-- ---- the code: `squares` is function 1, `sum` 2, `done` 3 and `main` 4

-- for n := range jobs { results <- n * n }
abbrev squares : List Instr
squares = Instr.Load 0 ∷ Instr.Store 2 ∷ Instr.Load 2 ∷ Instr.ReceiveOk ∷ Instr.JumpIfNot 12 ∷ Instr.Store 3
    ∷ Instr.Load 1 ∷ Instr.Load 3 ∷ Instr.Load 3 ∷ Instr.Mul ∷ Instr.Send ∷ Instr.Jump 2 ∷ Instr.Drop ∷ Instr.Return
    ∷ []

-- two channels; for w := 0; w < 2; w++ { go squares(jobs, results) }
-- s := 0; for n := 1; n <= count; n++ { jobs <- n; s += <-results }; return s
abbrev sum : List Instr
sum = new_channel 0 ++ (Instr.Store 1 ∷ []) ++ new_channel 0
    ++ (Instr.Store 2 ∷ push 0 ∷ Instr.Store 3 ∷ Instr.Load 3 ∷ push 2 ∷ Instr.Less ∷ Instr.JumpIfNot 20 ∷ Instr.Load 1
    ∷ Instr.Load 2 ∷ Instr.Go 1 2 ∷ Instr.Load 3 ∷ push 1 ∷ Instr.Add ∷ Instr.Store 3 ∷ Instr.Jump 8
    ∷ push 0 ∷ Instr.Store 4 ∷ push 1 ∷ Instr.Store 5 ∷ Instr.Load 5 ∷ Instr.Load 0 ∷ Instr.AtMost ∷ Instr.JumpIfNot 41
    ∷ Instr.Load 1 ∷ Instr.Load 5 ∷ Instr.Send ∷ Instr.Load 4 ∷ Instr.Load 2 ∷ Instr.Receive ∷ Instr.Add ∷ Instr.Store 4
    ∷ Instr.Load 5 ∷ push 1 ∷ Instr.Add ∷ Instr.Store 5 ∷ Instr.Jump 24
    ∷ Instr.Load 4 ∷ Instr.ReturnValue ∷ push 0 ∷ Instr.ReturnValue ∷ [])

-- n := 7; defer done(n); n = 8; fmt.Println("sum", sum(10)); runtime.GC()
abbrev main : List Instr
main = push 7 ∷ Instr.Store 0 ∷ Instr.Load 0 ∷ Instr.Defer 3 1 ∷ push 8 ∷ Instr.Store 0
    ∷ Instr.Text 1 ∷ push 10 ∷ Instr.Call 2 1 ∷ Instr.Print 2 ∷ Instr.Collect ∷ Instr.Return ∷ []

abbrev code : Code
code = record (code_with [] (function 0 0 1 (Instr.Call 4 0 ∷ Instr.Return ∷ []) ∷ function 2 4 11 squares
    ∷ function 1 6 31 sum ∷ function 1 1 81 (Instr.Return ∷ []) ∷ function 0 1 91 main ∷ [])) {
      texts = [] ∷ codes "sum" ∷ [];
    }

-- ---- the schedule: the two goroutines come to wait for a job, goroutine 3 first; from then on they take turns

-- the turns of one job: `sum` sends it and waits; a goroutine sends its square and waits for a job; `sum` adds it
abbrev one_job : List ℕ
one_job = lowest 17 ++ (second 3 ++ lowest 7)

abbrev schedule : List ℕ
schedule = lowest 50 ++ (third 4 ++ (second 4 ++ (one_job ++ (one_job ++ (one_job ++ (one_job ++ (one_job
    ++ (one_job ++ (one_job ++ (one_job ++ (one_job ++ (one_job ++ lowest 13))))))))))))

-- the calls of a goroutine after so many turns, and those that have left
abbrev book : ℕ → ℕ → List Call
book n g = book_of code (turns (take n schedule)) g

abbrev left : ℕ → List Call
left n = left_of code (turns (take n schedule))

-- ---- the operations and the answers

abbrev jobs : Value
jobs = Value.Ref (record { 0 = 1 })

abbrev results : Value
results = Value.Ref (record { 0 = 2 })

abbrev calls_main : Operation
calls_main = operation (Instr.Call 4 0) []

abbrev defers : Operation
defers = operation (Instr.Defer 3 1) (number 7 ∷ [])

abbrev calls_sum : Operation
calls_sum = operation (Instr.Call 2 1) (number 10 ∷ [])

abbrev prints : Operation
prints = operation (Instr.Print 2) (Value.Text 1 ∷ number 385 ∷ [])

abbrev collects : Operation
collects = operation Instr.Collect []

abbrev makes : Operation
makes = operation (Instr.NewChan (number 0)) (number 0 ∷ [])

abbrev starts : Operation
starts = operation (Instr.Go 1 2) (jobs ∷ results ∷ [])

abbrev sends : Value → ℕ → Operation
sends channel n = operation Instr.Send (channel ∷ number n ∷ [])

abbrev receives : Operation
receives = operation Instr.Receive (results ∷ [])

abbrev waits_for_a_job : Operation
waits_for_a_job = operation Instr.ReceiveOk (jobs ∷ [])

abbrev nothing : Answer
nothing = answer 0 []

abbrev value : Value → Answer
value v = answer 0 (v ∷ [])

abbrev job : ℕ → Answer
job n = answer 0 (number n ∷ Value.Bool true ∷ [])

abbrev asks : Standing
asks = Standing.Asks (record { ranks = []; rest = [] })

abbrev returned : Standing
returned = Standing.Ended (Halt.Returned None)

-- ---- the calls

-- a call of which no call has left
abbrev call : Origin → ℕ → List Value → List Operation → List Answer → Standing → Call
call o f vs shown got standing = record (fresh o f vs) { shown = shown; got = got; standing = standing }

abbrev noted_by : Call → Call → Child
noted_by by k = record { one = as_seen k; panicked = k.panicked; after = as_seen by }

abbrev outermost : Call
outermost = call Origin.Opening 0 [] (calls_main ∷ []) [] asks

abbrev main_with : List Operation → List Answer → Standing → Call
main_with shown got standing = call (Origin.Calling (as_seen outermost)) 4 [] shown got standing

-- `main` while `sum` runs; the text that it prints is below the operand of its call
abbrev main_calls_sum : Call
main_calls_sum = main_with (defers ∷ calls_sum ∷ []) (nothing ∷ [])
    (Standing.Asks (record { ranks = []; rest = Value.Text 1 ∷ [] }))

abbrev sum_with : List Operation → List Answer → Standing → Call
sum_with shown got standing = call (Origin.Calling (as_seen main_calls_sum)) 2 (number 10 ∷ []) shown got standing

-- a goroutine that has done these jobs, and waits for one more; `sum` stood like this when it started the goroutine
abbrev worker : Call → List ℕ → Call
worker by ns = call (Origin.Starting (as_seen by)) 1 (jobs ∷ results ∷ [])
    (flat_map (λ (n : ℕ). waits_for_a_job ∷ sends results (n * n) ∷ []) ns ++ waits_for_a_job ∷ [])
    (flat_map (λ (n : ℕ). job n ∷ nothing ∷ []) ns) asks

-- ---- `main` defers `done`, and calls `sum`

seven_is_deferred : book 5 1 ≡ main_with (defers ∷ []) [] asks ∷ outermost ∷ []
seven_is_deferred = refl

sum_begins : book 10 1 ≡ sum_with [] [] Standing.Goes ∷ main_calls_sum ∷ outermost ∷ []
sum_begins = refl

-- ---- `sum` starts two goroutines

abbrev sum_starts_one : Call
sum_starts_one = sum_with (makes ∷ makes ∷ starts ∷ []) (value jobs ∷ value results ∷ []) asks

abbrev sum_starts_two : Call
sum_starts_two = sum_with (makes ∷ makes ∷ starts ∷ starts ∷ []) (value jobs ∷ value results ∷ nothing ∷ []) asks

two_begins : book 25 2 ≡ fresh (Origin.Starting (as_seen sum_starts_one)) 1 (jobs ∷ results ∷ []) ∷ []
two_begins = refl

three_begins : book 37 3 ≡ fresh (Origin.Starting (as_seen sum_starts_two)) 1 (jobs ∷ results ∷ []) ∷ []
three_begins = refl

both_wait : book 58 2 ++ book 58 3 ≡ worker sum_starts_one [] ∷ worker sum_starts_two [] ∷ []
both_wait = refl

-- ---- after the first job: the square is the answer to the receive

one_job_is_done : book 85 3 ≡ worker sum_starts_two (1 ∷ []) ∷ []
one_job_is_done = refl

-- ---- `sum` returns 385

abbrev given : List ℕ
given = 1 ∷ 2 ∷ 3 ∷ 4 ∷ 5 ∷ 6 ∷ 7 ∷ 8 ∷ 9 ∷ 10 ∷ []

abbrev worker_of : ℕ → StartedCall
worker_of g = record { number = g; function = 1; arguments = jobs ∷ results ∷ [] }

abbrev sum_left : Call
sum_left = record (sum_with (makes ∷ makes ∷ starts ∷ starts
    ∷ flat_map (λ (n : ℕ). sends jobs n ∷ receives ∷ []) given)
    (value jobs ∷ value results ∷ nothing ∷ nothing
    ∷ flat_map (λ (n : ℕ). nothing ∷ value (number (n * n)) ∷ []) given)
    (Standing.Ended (Halt.Returned (Some (number 385))))) { spawned = worker_of 2 ∷ worker_of 3 ∷ [] }

sum_has_left : left 334 ≡ sum_left ∷ []
sum_has_left = refl

-- ---- 385 is the answer that `main` gets; it prints, collects and returns

abbrev main_returns : Call
main_returns = record (main_with (defers ∷ calls_sum ∷ prints ∷ collects ∷ [])
    (nothing ∷ value (number 385) ∷ nothing ∷ nothing ∷ []) returned) { made = noted_by main_calls_sum sum_left ∷ [] }

main_has_returned : book 337 1 ≡ main_returns ∷ outermost ∷ []
main_has_returned = refl

-- the two goroutines wait for one more job
both_wait_for_ever : book 337 2 ++ book 337 3 ≡ worker sum_starts_one (2 ∷ 4 ∷ 6 ∷ 8 ∷ 10 ∷ [])
    ∷ worker sum_starts_two (1 ∷ 3 ∷ 5 ∷ 7 ∷ 9 ∷ []) ∷ []
both_wait_for_ever = refl

-- ---- then `done` begins, with the 7 that the statement showed

abbrev by_end : Origin
by_end = Origin.Deferring (as_seen main_returns)

done_begins : book 338 1 ≡ fresh by_end 3 (number 7 ∷ []) ∷ main_returns ∷ outermost ∷ []
done_begins = refl

abbrev done_left : Call
done_left = call by_end 3 (number 7 ∷ []) [] [] returned

-- after it `main` leaves, and then function 0
abbrev main_left : Call
main_left = record main_returns { late = noted_by main_returns done_left ∷ [] }

abbrev outermost_left : Call
outermost_left = record outermost { got = nothing ∷ []; standing = returned; made = noted_by outermost main_left ∷ [] }

all_but_two_have_left : left 341 ≡ sum_left ∷ done_left ∷ main_left ∷ outermost_left ∷ []
all_but_two_have_left = refl
