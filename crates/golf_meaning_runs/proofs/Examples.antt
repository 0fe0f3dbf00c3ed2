-- The book of a small program, turn by turn, against what was worked out by hand.
use Rattle.std.specs.Prelude.{◌≡◌, ℕ, false, List, [], ◌∷◌, ◌++◌, None, Some, take}
use Rattle.std.proofs.Common.{refl}
use Rattle.golf_data.specs.declared.value.Value.{Value}
use Rattle.golf_data.specs.declared.code.Code.{Code}
use Rattle.golf_data.specs.declared.code.Instr.{Instr}
use Rattle.golf_model.proofs.Examples.Writing.{function, number, push, new_channel, code_with, turns, lowest, second}
use Rattle.golf_meaning_flat.specs.Worlds.{Operation, Answer, Halt}
use Rattle.golf_meaning_runs.specs.TurnsInLives.{operation, answer}
use Rattle.golf_meaning_runs.specs.Books.{book_of, left_of}
use Rattle.golf_meaning_runs.specs.CallRecords.{Standing, Child, Origin, Call, fresh, as_seen}

-- Function 0 calls `main`, which makes a channel, defers its close, starts `give` with it, and calls `get`. `give`
-- sends 4, `get` receives it and returns it; the close has a function of its own.
abbrev code : Code
code =
    code_with []
    (function 0 0 1 (Instr.Call 1 0 ∷ Instr.Return ∷ [])
    ∷ function 0 1 11 (new_channel 0 ++ (Instr.Store 0 ∷ Instr.Load 0 ∷ Instr.Defer 3 1 ∷ Instr.Load 0 ∷ Instr.Go 2 1
    ∷ Instr.Load 0 ∷ Instr.Call 4 1 ∷ Instr.Drop ∷ Instr.Return ∷ []))
    ∷ function 1 1 31 (Instr.Load 0 ∷ push 4 ∷ Instr.Send ∷ Instr.Return ∷ [])
    ∷ function 1 1 41 (Instr.Load 0 ∷ Instr.Close ∷ Instr.Return ∷ [])
    ∷ function 1 1 51 (Instr.Load 0 ∷ Instr.Receive ∷ Instr.ReturnValue ∷ [])
    ∷ [])

-- `give` ends before `get` goes on
abbrev schedule : List ℕ
schedule = lowest 15 ++ (second 1 ++ lowest 9)

-- the calls of a goroutine after so many turns, and those that have left
abbrev book : ℕ → ℕ → List Call
book n g = book_of code (turns (take n schedule)) g

abbrev left : ℕ → List Call
left n = left_of code (turns (take n schedule))

-- ---- the operations and the answers

abbrev channel : Value
channel = Value.Ref (record { 0 = 1 })

abbrev calls_main : Operation
calls_main = operation (Instr.Call 1 0) []

abbrev makes : Operation
makes = operation (Instr.NewChan (number 0)) (number 0 ∷ [])

abbrev defers : Operation
defers = operation (Instr.Defer 3 1) (channel ∷ [])

abbrev starts : Operation
starts = operation (Instr.Go 2 1) (channel ∷ [])

abbrev calls_get : Operation
calls_get = operation (Instr.Call 4 1) (channel ∷ [])

abbrev sends : Operation
sends = operation Instr.Send (channel ∷ number 4 ∷ [])

abbrev receives : Operation
receives = operation Instr.Receive (channel ∷ [])

abbrev closes : Operation
closes = operation Instr.Close (channel ∷ [])

abbrev nothing : Answer
nothing = answer 0 []

abbrev value : Value → Answer
value v = answer 0 (v ∷ [])

-- a call waits for its answer, or has returned nothing
abbrev asks : Standing
asks = Standing.Asks (record { ranks = []; rest = [] })

abbrev returned : Standing
returned = Standing.Ended (Halt.Returned None)

-- a call of which no call has left
abbrev call : Origin → ℕ → List Value → List Operation → List Answer → Standing → Call
call o f vs shown got standing = record {
  function = f;
  arguments = vs;
  shown = shown;
  got = got;
  standing = standing;
  origin = o;
  made = [];
  late = [];
  spawned = [];
  panicked = false;
}

-- a call that has left, as it is noted by the one that began it
abbrev noted_by : Call → Call → Child
noted_by by k = record { one = as_seen k; panicked = false; after = as_seen by }

-- function 0 while `main` runs
abbrev first : Call
first = call Origin.Opening 0 [] (calls_main ∷ []) [] asks

abbrev by_first : Origin
by_first = Origin.Calling (as_seen first)

-- `main` when it has shown `go`
abbrev main_starts : Call
main_starts = call by_first 1 [] (makes ∷ defers ∷ starts ∷ []) (value channel ∷ nothing ∷ []) asks

abbrev by_go : Origin
by_go = Origin.Starting (as_seen main_starts)

-- `main` while `get` runs
abbrev main_waits : Call
main_waits = record (call by_first 1 [] (makes ∷ defers ∷ starts ∷ calls_get ∷ [])
    (value channel ∷ nothing ∷ nothing ∷ []) asks) {
      spawned = record { number = 2; function = 2; arguments = channel ∷ [] } ∷ [];
    }

abbrev by_main : Origin
by_main = Origin.Calling (as_seen main_waits)

-- ---- turn by turn

at_first : book 0 1 ≡ fresh Origin.Opening 0 [] ∷ []
at_first = refl

-- a call is shown, and begun
main_is_called : book 1 1 ≡ fresh by_first 1 [] ∷ first ∷ []
main_is_called = refl

a_channel_is_made : book 3 1 ≡ call by_first 1 [] (makes ∷ []) [] asks ∷ first ∷ []
a_channel_is_made = refl

-- the answer is noted before the next turn of the call
the_channel_is_noted : book 4 1 ≡ call by_first 1 [] (makes ∷ []) (value channel ∷ []) Standing.Goes ∷ first ∷ []
the_channel_is_noted = refl

-- what is deferred is not begun
the_close_is_deferred : book 7 1 ≡ call by_first 1 [] (makes ∷ defers ∷ []) (value channel ∷ nothing ∷ []) Standing.Goes ∷ first
    ∷ []
the_close_is_deferred = refl

a_goroutine_is_started : book 8 2 ≡ fresh by_go 2 (channel ∷ []) ∷ []
a_goroutine_is_started = refl

get_is_called : book 10 1 ≡ fresh by_main 4 (channel ∷ []) ∷ main_waits ∷ first ∷ []
get_is_called = refl

get_waits : book 12 1 ≡ call by_main 4 (channel ∷ []) (receives ∷ []) [] asks ∷ main_waits ∷ first ∷ []
get_waits = refl

-- the send is shown by the sender; whoever it serves has shown its receive, and shows nothing again
four_is_sent : book 15 2 ≡ call by_go 2 (channel ∷ []) (sends ∷ []) [] asks ∷ []
four_is_sent = refl

get_is_served : book 15 1 ≡ book 12 1
get_is_served = refl

-- with its frame a call leaves the book
give_has_left : book 16 2 ≡ []
give_has_left = refl

abbrev give_left : Call
give_left = call by_go 2 (channel ∷ []) (sends ∷ []) (nothing ∷ []) returned

give_is_written_down : left 16 ≡ give_left ∷ []
give_is_written_down = refl

abbrev get_left : Call
get_left = call by_main 4 (channel ∷ []) (receives ∷ []) (value (number 4) ∷ [])
    (Standing.Ended (Halt.Returned (Some (number 4))))

get_has_returned : left 17 ≡ give_left ∷ get_left ∷ []
get_has_returned = refl

-- the caller notes who has left: `get` has returned 4
abbrev main_returned_to : Call
main_returned_to = record main_waits { made = noted_by main_waits get_left ∷ [] }

main_still_waits : book 17 1 ≡ main_returned_to ∷ first ∷ []
main_still_waits = refl

-- and 4 is the answer that it gets
abbrev main_with : Standing → Call
main_with standing = record main_returned_to {
  got = value channel ∷ nothing ∷ nothing ∷ value (number 4) ∷ [];
  standing = standing;
}

main_is_answered : book 18 1 ≡ main_with Standing.Goes ∷ first ∷ []
main_is_answered = refl

-- it has returned, and its deferred call is to run
main_has_returned : book 19 1 ≡ main_with returned ∷ first ∷ []
main_has_returned = refl

abbrev by_end : Origin
by_end = Origin.Deferring (as_seen (main_with returned))

the_deferred_call_begins : book 20 1 ≡ fresh by_end 3 (channel ∷ []) ∷ main_with returned ∷ first ∷ []
the_deferred_call_begins = refl

the_channel_is_closed : book 22 1 ≡ call by_end 3 (channel ∷ []) (closes ∷ []) [] asks ∷ main_with returned ∷ first ∷ []
the_channel_is_closed = refl

abbrev close_left : Call
close_left = call by_end 3 (channel ∷ []) (closes ∷ []) (nothing ∷ []) returned

the_close_has_left : left 23 ≡ give_left ∷ get_left ∷ close_left ∷ []
the_close_has_left = refl

-- `main` notes its deferred call, and leaves after it
abbrev main_left : Call
main_left = record (main_with returned) { late = noted_by (main_with returned) close_left ∷ [] }

the_close_is_noted : book 23 1 ≡ main_left ∷ first ∷ []
the_close_is_noted = refl

main_has_left : left 24 ≡ give_left ∷ get_left ∷ close_left ∷ main_left ∷ []
main_has_left = refl

the_program_has_ended : book 25 1 ≡ []
the_program_has_ended = refl

abbrev first_left : Call
first_left = record first { got = nothing ∷ []; standing = returned; made = noted_by first main_left ∷ [] }

all_have_left : left 25 ≡ give_left ∷ get_left ∷ close_left ∷ main_left ∷ first_left ∷ []
all_have_left = refl

-- turns that show nothing, and before which nothing is noted, leave the book as it was

two_is_quiet : book 2 1 ≡ fresh by_first 1 [] ∷ first ∷ []
two_is_quiet = refl

five_is_quiet : book 5 1 ≡ call by_first 1 [] (makes ∷ []) (value channel ∷ []) Standing.Goes ∷ first ∷ []
five_is_quiet = refl

eleven_is_quiet : book 11 1 ≡ fresh by_main 4 (channel ∷ []) ∷ main_waits ∷ first ∷ []
eleven_is_quiet = refl

fourteen_is_quiet : book 14 2 ≡ fresh by_go 2 (channel ∷ []) ∷ []
fourteen_is_quiet = refl
