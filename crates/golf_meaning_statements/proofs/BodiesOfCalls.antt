-- Bodies with calls, `go` and `defer`, worked out by hand; function f has number 1, and method m number 2.
-- For: `step`, golf_meaning_statements/specs/Statements.antt
-- By: computing
use Rattle.std.specs.Prelude.{negsuc, true, [], ◌∷◌, Some, codes}
use Rattle.std.proofs.Common.{refl}
use Rattle.golf_syntax_trees.specs.declared.expressions.BinaryOperator.TheVariants as binary
use Rattle.golf_data.specs.declared.value.Value.{Value}
use Rattle.golf_data.specs.declared.code.Instr.{Instr}
use Rattle.golf_data.specs.declared.code.CaseKind.{CaseKind}
use Rattle.golf_meaning_flat.specs.Worlds.{Misfit, Halt, End}
use Rattle.golf_meaning_statements.proofs.OnLiterals.{on_literals}
use Rattle.golf_meaning_statements.proofs.Samples as s
use Rattle.golf_meaning_statements.proofs.Samples.{Sample, name, integer, index, binary_of, does, returns}
use Rattle.golf_meaning_statements.proofs.Bodies.{ref, int, Tells, works_out, c, x, n, receive, shown, answer, ends}
use Rattle.golf_meaning_statements.proofs.Bodies.{gives, case_to}

abbrev f : Sample
f = name (codes "f")

abbrev close : Sample
close = name (codes "close")

abbrev pub t : Sample
t = name (codes "t")

abbrev m : Sample
m = s.dot t (codes "m")

abbrev b : Sample
b = name (codes "b")

-- n = f(1); return n: function f has number 1
pub assigns_a_result : Tells (does (s.assign n (s.call f (integer (codes "1") ∷ []))) ∷ returns n ∷ [])
    (answer (int 9 ∷ []) ∷ []) 1 (gives (shown (Instr.Call 1 1) (int 1 ∷ []) ∷ []) (int 9))
unfolding on_literals
assigns_a_result = works_out refl

-- f(1); return n: a result that is not used is dropped
pub drops_a_result : Tells (does (s.expression (s.call f (integer (codes "1") ∷ []))) ∷ returns n ∷ [])
    (answer (int 9 ∷ []) ∷ []) 1 (gives (shown (Instr.Call 1 1) (int 1 ∷ []) ∷ []) (int 5))
unfolding on_literals
drops_a_result = works_out refl

-- f(1), with a truth value for a result
pub refuses_a_result : Tells (does (s.expression (s.call f (integer (codes "1") ∷ []))) ∷ [])
    (answer (Value.Bool true ∷ []) ∷ []) 1
    (ends (shown (Instr.Call 1 1) (int 1 ∷ []) ∷ []) (End.Halts (Halt.Unfit Misfit.OfAnswer)))
unfolding on_literals
refuses_a_result = works_out refl

-- f(1); n++; return n, with no answer: the call does not come back
pub call_does_not_come_back : Tells (does (s.expression (s.call f (integer (codes "1") ∷ []))) ∷ does (s.increment n)
    ∷ returns n ∷ []) [] 1 (ends (shown (Instr.Call 1 1) (int 1 ∷ []) ∷ []) (End.Halts Halt.Waits))
unfolding on_literals
call_does_not_come_back = works_out refl

-- t.m(2); return n: the receiver is the first argument, and nothing is given
pub calls_a_method : Tells (does (s.expression (s.call m (integer (codes "2") ∷ []))) ∷ returns n ∷ [])
    (answer [] ∷ []) 1 (gives (shown (Instr.Call 2 2) (ref 4 ∷ int 2 ∷ []) ∷ []) (int 5))
unfolding on_literals
calls_a_method = works_out refl

-- n = f(f(n)); return n: the inner call is made first
pub calls_from_inside : Tells (does (s.assign n (s.call f (s.call f (n ∷ []) ∷ []))) ∷ returns n ∷ [])
    (answer (int 6 ∷ []) ∷ answer (int 7 ∷ []) ∷ []) 1
    (gives (shown (Instr.Call 1 1) (int 5 ∷ []) ∷ shown (Instr.Call 1 1) (int 6 ∷ []) ∷ []) (int 7))
unfolding on_literals
calls_from_inside = works_out refl

-- n = f(<-c) - f(n); return n: calls and receives are made from left to right
pub calls_from_left_to_right : Tells (does
    (s.assign n (binary_of binary.Subtract (s.call f (receive ∷ [])) (s.call f (n ∷ [])))) ∷ returns n ∷ [])
    (answer (int 3 ∷ []) ∷ answer (int 20 ∷ []) ∷ answer (int 8 ∷ []) ∷ []) 1
    (gives (shown Instr.Receive (ref 0 ∷ []) ∷ shown (Instr.Call 1 1) (int 3 ∷ []) ∷ shown (Instr.Call 1 1) (int 5 ∷ [])
    ∷ []) (int 12))
unfolding on_literals
calls_from_left_to_right = works_out refl

-- x[f(1)] = f(2); return n: the index is evaluated before the value, and both before the assignment
pub assigns_after_both_calls : Tells (does
    (s.assign (index x (s.call f (integer (codes "1") ∷ []))) (s.call f (integer (codes "2") ∷ []))) ∷ returns n ∷ [])
    (answer (int 0 ∷ []) ∷ answer (int 9 ∷ []) ∷ answer [] ∷ []) 1
    (gives (shown (Instr.Call 1 1) (int 1 ∷ []) ∷ shown (Instr.Call 1 1) (int 2 ∷ [])
    ∷ shown Instr.SetIndex (ref 1 ∷ int 0 ∷ int 9 ∷ []) ∷ []) (int 5))
unfolding on_literals
assigns_after_both_calls = works_out refl

-- t.m(f(n)); return n: the argument is evaluated before the method is called
pub evaluates_the_argument_first : Tells (does (s.expression (s.call m (s.call f (n ∷ []) ∷ []))) ∷ returns n ∷ [])
    (answer (int 6 ∷ []) ∷ answer [] ∷ []) 1
    (gives (shown (Instr.Call 1 1) (int 5 ∷ []) ∷ shown (Instr.Call 2 2) (ref 4 ∷ int 6 ∷ []) ∷ []) (int 5))
unfolding on_literals
evaluates_the_argument_first = works_out refl

-- f(1) < 2
abbrev below_two : Sample
below_two = binary_of binary.Less (s.call f (integer (codes "1") ∷ [])) (integer (codes "2"))

-- if n < 5 && f(1) < 2 { return 0 }; return n: the second operand is not evaluated
pub passes_over_a_call_in_and : Tells (s.if_then
    (binary_of binary.And (binary_of binary.Less n (integer (codes "5"))) below_two)
    (returns (integer (codes "0")) ∷ []) ∷ returns n ∷ []) [] 1 (gives [] (int 5))
unfolding on_literals
passes_over_a_call_in_and = works_out refl

-- if n < 6 || f(1) < 2 { return 0 }; return n: nor is it evaluated here
pub passes_over_a_call_in_or : Tells (s.if_then
    (binary_of binary.Or (binary_of binary.Less n (integer (codes "6"))) below_two)
    (returns (integer (codes "0")) ∷ []) ∷ returns n ∷ []) [] 1 (gives [] (int 0))
unfolding on_literals
passes_over_a_call_in_or = works_out refl

-- for n < 7 { n = f(n) }; return n: one call in each turn
pub calls_in_each_turn : Tells (s.while (binary_of binary.Less n (integer (codes "7")))
    (does (s.assign n (s.call f (n ∷ []))) ∷ []) ∷ returns n ∷ []) (answer (int 6 ∷ []) ∷ answer (int 7 ∷ []) ∷ []) 3
    (gives (shown (Instr.Call 1 1) (int 5 ∷ []) ∷ shown (Instr.Call 1 1) (int 6 ∷ []) ∷ []) (int 7))
unfolding on_literals
calls_in_each_turn = works_out refl

-- Built-in calls.

-- fmt.Println(n, "hi", b); fmt.Println(); return n
pub prints : Tells (does (s.expression (s.call (s.dot (name (codes "fmt")) (codes "Println"))
    (n ∷ s.text (codes "hi") ∷ b ∷ []))) ∷ does
    (s.expression (s.call (s.dot (name (codes "fmt")) (codes "Println")) [])) ∷ returns n ∷ [])
    (answer [] ∷ answer [] ∷ []) 1 (gives (shown (Instr.Print 3) (int 5 ∷ Value.Text 2 ∷ Value.Bool true ∷ [])
    ∷ shown (Instr.Print 0) [] ∷ []) (int 5))
unfolding on_literals
prints = works_out refl

-- panic("a"); n++; return n: it does not go on
pub panics : Tells (does (s.expression (s.call (name (codes "panic")) (s.text (codes "a") ∷ []))) ∷ does (s.increment n)
    ∷ returns n ∷ []) [] 1 (ends (shown Instr.Panic (Value.Text 1 ∷ []) ∷ []) (End.Halts Halt.Waits))
unfolding on_literals
panics = works_out refl

-- panic("a"), with an answer: it has none
pub refuses_an_answer_of_panic : Tells (does (s.expression (s.call (name (codes "panic")) (s.text (codes "a") ∷ [])))
    ∷ []) (answer [] ∷ []) 1 (ends (shown Instr.Panic (Value.Text 1 ∷ []) ∷ []) (End.Halts (Halt.Unfit Misfit.OfCount)))
unfolding on_literals
refuses_an_answer_of_panic = works_out refl

-- close(c); runtime.GC(); runtime.SetFinalizer(t, nil); return len(x)
pub closes_collects_and_counts : Tells (does (s.expression (s.call close (c ∷ [])))
    ∷ does (s.expression (s.call (s.dot (name (codes "runtime")) (codes "GC")) []))
    ∷ does (s.expression (s.call (s.dot (name (codes "runtime")) (codes "SetFinalizer")) (t ∷ name (codes "nil") ∷ [])))
    ∷ returns (s.call (name (codes "len")) (x ∷ [])) ∷ [])
    (answer [] ∷ answer [] ∷ answer [] ∷ answer (int 2 ∷ []) ∷ []) 1
    (gives (shown Instr.Close (ref 0 ∷ []) ∷ shown Instr.Collect [] ∷ shown Instr.ClearFinalizer (ref 4 ∷ [])
    ∷ shown Instr.Len (ref 1 ∷ []) ∷ []) (int 2))
unfolding on_literals
closes_collects_and_counts = works_out refl

-- mu.Lock(); mu.Unlock(); wg.Add(n); wg.Done(); wg.Wait(); return n: `Done` adds -1
pub locks_and_waits : Tells (does (s.expression (s.call (s.dot (name (codes "mu")) (codes "Lock")) []))
    ∷ does (s.expression (s.call (s.dot (name (codes "mu")) (codes "Unlock")) []))
    ∷ does (s.expression (s.call (s.dot (name (codes "wg")) (codes "Add")) (n ∷ [])))
    ∷ does (s.expression (s.call (s.dot (name (codes "wg")) (codes "Done")) []))
    ∷ does (s.expression (s.call (s.dot (name (codes "wg")) (codes "Wait")) [])) ∷ returns n ∷ [])
    (answer [] ∷ answer [] ∷ answer [] ∷ answer [] ∷ answer [] ∷ []) 1
    (gives (shown Instr.Lock (ref 5 ∷ []) ∷ shown Instr.Unlock (ref 5 ∷ []) ∷ shown Instr.GroupAdd (ref 6 ∷ int 5 ∷ [])
    ∷ shown Instr.GroupAdd (ref 6 ∷ Value.Int (negsuc 0) ∷ []) ∷ shown Instr.GroupWait (ref 6 ∷ []) ∷ []) (int 5))
unfolding on_literals
locks_and_waits = works_out refl

-- rw.Lock(); rw.Unlock(); rw.RLock(); rw.RUnlock(); return n
pub reads_and_writes : Tells (does (s.expression (s.call (s.dot (name (codes "rw")) (codes "Lock")) []))
    ∷ does (s.expression (s.call (s.dot (name (codes "rw")) (codes "Unlock")) []))
    ∷ does (s.expression (s.call (s.dot (name (codes "rw")) (codes "RLock")) []))
    ∷ does (s.expression (s.call (s.dot (name (codes "rw")) (codes "RUnlock")) [])) ∷ returns n ∷ [])
    (answer [] ∷ answer [] ∷ answer [] ∷ answer [] ∷ []) 1
    (gives (shown Instr.RwLock (ref 7 ∷ []) ∷ shown Instr.RwUnlock (ref 7 ∷ []) ∷ shown Instr.ReadLock (ref 7 ∷ [])
    ∷ shown Instr.ReadUnlock (ref 7 ∷ []) ∷ []) (int 5))
unfolding on_literals
reads_and_writes = works_out refl

-- q.L.Lock(); q.Wait(); q.Signal(); q.Broadcast(); return n: the mutex of a condition is asked for
pub waits_for_a_condition : Tells (does (s.expression
    (s.call (s.dot (s.dot (name (codes "q")) (codes "L")) (codes "Lock")) []))
    ∷ does (s.expression (s.call (s.dot (name (codes "q")) (codes "Wait")) []))
    ∷ does (s.expression (s.call (s.dot (name (codes "q")) (codes "Signal")) []))
    ∷ does (s.expression (s.call (s.dot (name (codes "q")) (codes "Broadcast")) [])) ∷ returns n ∷ [])
    (answer (ref 9 ∷ []) ∷ answer [] ∷ answer [] ∷ answer [] ∷ answer [] ∷ []) 1
    (gives (shown Instr.CondMutex (ref 8 ∷ []) ∷ shown Instr.Lock (ref 9 ∷ []) ∷ shown Instr.CondWait (ref 8 ∷ [])
    ∷ shown Instr.CondSignal (ref 8 ∷ []) ∷ shown Instr.CondBroadcast (ref 8 ∷ []) ∷ []) (int 5))
unfolding on_literals
waits_for_a_condition = works_out refl

-- `go` and `defer`: receiver and arguments are evaluated at once. For a built-in call a function is made, which has a
-- number of its own.

-- go f(n); n++; return n: with the argument as it is now
pub goes_with_its_argument : Tells (s.go f n ∷ does (s.increment n) ∷ returns n ∷ []) (answer [] ∷ []) 1
    (gives (shown (Instr.Go 1 1) (int 5 ∷ []) ∷ []) (int 6))
unfolding on_literals
goes_with_its_argument = works_out refl

-- go t.m(2); return n
pub goes_with_a_receiver : Tells (s.go m (integer (codes "2")) ∷ returns n ∷ []) (answer [] ∷ []) 1
    (gives (shown (Instr.Go 2 2) (ref 4 ∷ int 2 ∷ []) ∷ []) (int 5))
unfolding on_literals
goes_with_a_receiver = works_out refl

-- go t.m(<-c); return n: the argument is received before it begins
pub receives_before_it_goes : Tells (s.go m receive ∷ returns n ∷ []) (answer (int 8 ∷ []) ∷ answer [] ∷ []) 1
    (gives (shown Instr.Receive (ref 0 ∷ []) ∷ shown (Instr.Go 2 2) (ref 4 ∷ int 8 ∷ []) ∷ []) (int 5))
unfolding on_literals
receives_before_it_goes = works_out refl

-- go f(1), with a value for an answer: it leaves none
pub refuses_an_answer_of_go : Tells (s.go f (integer (codes "1")) ∷ []) (answer (int 1 ∷ []) ∷ []) 1
    (ends (shown (Instr.Go 1 1) (int 1 ∷ []) ∷ []) (End.Halts (Halt.Unfit Misfit.OfCount)))
unfolding on_literals
refuses_an_answer_of_go = works_out refl

-- go close(c); go close(c); return n: three functions stand before the first one that is made
pub goes_with_made_functions : Tells (s.go close c ∷ s.go close c ∷ returns n ∷ []) (answer [] ∷ answer [] ∷ []) 1
    (gives (shown (Instr.Go 3 1) (ref 0 ∷ []) ∷ shown (Instr.Go 4 1) (ref 0 ∷ []) ∷ []) (int 5))
unfolding on_literals
goes_with_made_functions = works_out refl

-- go mu.Unlock(); go wg.Add(2); return n
pub goes_with_methods_of_sync : Tells (s.go_alone (s.dot (name (codes "mu")) (codes "Unlock"))
    ∷ s.go (s.dot (name (codes "wg")) (codes "Add")) (integer (codes "2")) ∷ returns n ∷ [])
    (answer [] ∷ answer [] ∷ []) 1 (gives (shown (Instr.Go 3 1) (ref 5 ∷ []) ∷ shown (Instr.Go 4 2) (ref 6 ∷ int 2 ∷ [])
    ∷ []) (int 5))
unfolding on_literals
goes_with_methods_of_sync = works_out refl

-- for n < 7 { go close(c); n++ }; go close(c); return n: one function is made for a statement, whatever the number of
-- turns
pub makes_one_for_a_statement : Tells (s.while (binary_of binary.Less n (integer (codes "7")))
    (s.go close c ∷ does (s.increment n) ∷ []) ∷ s.go close c ∷ returns n ∷ [])
    (answer [] ∷ answer [] ∷ answer [] ∷ []) 3
    (gives (shown (Instr.Go 3 1) (ref 0 ∷ []) ∷ shown (Instr.Go 3 1) (ref 0 ∷ []) ∷ shown (Instr.Go 4 1) (ref 0 ∷ [])
    ∷ []) (int 7))
unfolding on_literals
makes_one_for_a_statement = works_out refl

-- if b { go close(c) } else { go close(c) }; go close(c); return n: one is made for what is passed over, too
pub makes_one_for_what_is_passed_over : Tells
    (s.if_else b (s.go close c ∷ []) (s.block_of (s.go close c ∷ [])) ∷ s.go close c ∷ returns n ∷ [])
    (answer [] ∷ answer [] ∷ []) 1 (gives (shown (Instr.Go 3 1) (ref 0 ∷ []) ∷ shown (Instr.Go 5 1) (ref 0 ∷ []) ∷ [])
    (int 5))
unfolding on_literals
makes_one_for_what_is_passed_over = works_out refl

-- if n < 5 { go close(c) } else { go close(c) }; return n
pub makes_one_for_the_other_branch : Tells
    (s.if_else (binary_of binary.Less n (integer (codes "5"))) (s.go close c ∷ []) (s.block_of (s.go close c ∷ []))
    ∷ returns n ∷ []) (answer [] ∷ []) 1 (gives (shown (Instr.Go 4 1) (ref 0 ∷ []) ∷ []) (int 5))
unfolding on_literals
makes_one_for_the_other_branch = works_out refl

-- select { default: go close(c); case <-c: go close(c) }; return n: the clauses in their order
pub makes_one_for_each_clause : Tells (s.selects
    (s.default (s.go close c ∷ []) ∷ s.case_receive c (s.go close c ∷ []) ∷ []) ∷ returns n ∷ [])
    (record { clause = 1; values = int 8 ∷ [] } ∷ answer [] ∷ []) 1
    (gives (shown (Instr.Select (case_to CaseKind.Take 1 ∷ []) (Some 0)) (ref 0 ∷ [])
    ∷ shown (Instr.Go 4 1) (ref 0 ∷ []) ∷ []) (int 5))
unfolding on_literals
makes_one_for_each_clause = works_out refl

-- defer t.m(n); n++; return n: with the argument as it is now
pub defers_with_its_argument : Tells (s.defer m n ∷ does (s.increment n) ∷ returns n ∷ []) (answer [] ∷ []) 1
    (gives (shown (Instr.Defer 2 2) (ref 4 ∷ int 5 ∷ []) ∷ []) (int 6))
unfolding on_literals
defers_with_its_argument = works_out refl

-- defer f(f(n)); return n: the argument is called for, and the call is deferred
pub defers_after_its_argument : Tells (s.defer f (s.call f (n ∷ [])) ∷ returns n ∷ [])
    (answer (int 6 ∷ []) ∷ answer [] ∷ []) 1
    (gives (shown (Instr.Call 1 1) (int 5 ∷ []) ∷ shown (Instr.Defer 1 1) (int 6 ∷ []) ∷ []) (int 5))
unfolding on_literals
defers_after_its_argument = works_out refl

-- defer mu.Unlock(); defer wg.Done(); go close(c); return n: functions are made for both words
pub defers_made_functions : Tells (s.defer_alone (s.dot (name (codes "mu")) (codes "Unlock"))
    ∷ s.defer_alone (s.dot (name (codes "wg")) (codes "Done")) ∷ s.go close c ∷ returns n ∷ [])
    (answer [] ∷ answer [] ∷ answer [] ∷ []) 1
    (gives (shown (Instr.Defer 3 1) (ref 5 ∷ []) ∷ shown (Instr.Defer 4 1) (ref 6 ∷ [])
    ∷ shown (Instr.Go 5 1) (ref 0 ∷ []) ∷ []) (int 5))
unfolding on_literals
defers_made_functions = works_out refl
