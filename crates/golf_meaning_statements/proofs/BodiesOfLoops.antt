-- Bodies with loops and `select`, worked out by hand.
-- For: `step`, golf_meaning_statements/specs/Statements.antt
-- By: computing
use Rattle.std.specs.Prelude.{true, false, List, [], ◌∷◌, Some, None, codes}
use Rattle.std.proofs.Common.{refl}
use Rattle.golf_syntax_trees.specs.declared.expressions.BinaryOperator.TheVariants as binary
use Rattle.golf_syntax_trees.specs.declared.statements.UpdateOperator.TheVariants as update
use Rattle.golf_syntax_trees.specs.declared.statements.RangeNames.TheVariants as range
use Rattle.golf_data.specs.declared.value.Value.{Value}
use Rattle.golf_data.specs.declared.code.Instr.{Instr}
use Rattle.golf_data.specs.declared.code.CaseKind.{CaseKind}
use Rattle.golf_meaning_flat.specs.Worlds.{Operation, Misfit, Halt, End}
use Rattle.golf_meaning_statements.proofs.OnLiterals.{on_literals}
use Rattle.golf_meaning_statements.proofs.Samples as s
use Rattle.golf_meaning_statements.proofs.Samples.{StmtSample, name, integer, binary_of, does, returns}
use Rattle.golf_meaning_statements.proofs.Bodies.{ref, int, Tells, works_out, c, x, n, receive, shown, answer, ends}
use Rattle.golf_meaning_statements.proofs.Bodies.{gives, case_to}

-- Loops.

-- for n < 7 { n++; if b { continue }; <-c }; return n
pub continues_to_the_condition : Tells (s.while (binary_of binary.Less n (integer (codes "7")))
    (does (s.increment n) ∷ s.if_then (name (codes "b")) (s.continues ∷ []) ∷ does (s.expression receive) ∷ [])
    ∷ returns n ∷ []) [] 3 (gives [] (int 7))
unfolding on_literals
continues_to_the_condition = works_out refl

-- for ; ; { if n < 7 { n++; continue }; break }; return n
pub steps_without_a_header : Tells (s.stepping_alone
    (s.if_then (binary_of binary.Less n (integer (codes "7"))) (does (s.increment n) ∷ s.continues ∷ []) ∷ s.breaks
    ∷ []) ∷ returns n ∷ []) [] 3 (gives [] (int 7))
unfolding on_literals
steps_without_a_header = works_out refl

-- for ; n < 7; n++ { continue }; return n
pub steps_from_the_condition_on : Tells (s.stepping_on (binary_of binary.Less n (integer (codes "7"))) (s.increment n)
    (s.continues ∷ []) ∷ returns n ∷ []) [] 3 (gives [] (int 7))
unfolding on_literals
steps_from_the_condition_on = works_out refl

-- for i := 1; ; i++ { n += i; if n > 10 { return n } }: 6, 8, 11
pub steps_without_a_condition : Tells (s.stepping_untested (s.define (codes "i") (integer (codes "1")))
    (s.increment (name (codes "i"))) (does (s.update_by update.Add n (name (codes "i")))
    ∷ s.if_then (binary_of binary.Greater n (integer (codes "10"))) (returns n ∷ []) ∷ []) ∷ []) [] 3
    (gives [] (int 11))
unfolding on_literals
steps_without_a_condition = works_out refl

-- for { <-c; return n }
pub returns_from_a_loop : Tells (s.forever (does (s.expression receive) ∷ returns n ∷ []) ∷ [])
    (answer (int 8 ∷ []) ∷ []) 1 (gives (shown Instr.Receive (ref 0 ∷ []) ∷ []) (int 5))
unfolding on_literals
returns_from_a_loop = works_out refl

-- for i := 0; i < 2; i++ { for { n++; break } }; return n: `break` leaves the inner loop
pub breaks_out_of_the_inner_loop : Tells
    (s.stepping (s.define (codes "i") (integer (codes "0")))
    (binary_of binary.Less (name (codes "i")) (integer (codes "2"))) (s.increment (name (codes "i")))
    (s.forever (does (s.increment n) ∷ s.breaks ∷ []) ∷ []) ∷ returns n ∷ []) [] 3 (gives [] (int 7))
unfolding on_literals
breaks_out_of_the_inner_loop = works_out refl

-- for range x { n++ }; return n
pub ranges_without_a_name : Tells (s.ranges_over range.Neither x (does (s.increment n) ∷ []) ∷ returns n ∷ [])
    (answer (int 2 ∷ []) ∷ []) 3 (gives (shown Instr.Len (ref 1 ∷ []) ∷ []) (int 7))
unfolding on_literals
ranges_without_a_name = works_out refl

-- for i := range x { n += i; i = 9 }; return n: an index does not depend on the one before
pub ranges_over_indices : Tells (s.ranges_over (range.One (codes "i")) x
    (does (s.update_by update.Add n (name (codes "i"))) ∷ does (s.assign (name (codes "i")) (integer (codes "9"))) ∷ [])
    ∷ returns n ∷ []) (answer (int 3 ∷ []) ∷ []) 4 (gives (shown Instr.Len (ref 1 ∷ []) ∷ []) (int 8))
unfolding on_literals
ranges_over_indices = works_out refl

-- for _, v := range x { x = nil; n += v }; return n: the slice is evaluated once
pub ranges_over_the_slice_of_before : Tells
    (s.ranges_over (range.Two (codes "_") (codes "v")) x
    (does (s.assign x (name (codes "nil"))) ∷ does (s.update_by update.Add n (name (codes "v"))) ∷ []) ∷ returns n ∷ [])
    (answer (int 2 ∷ []) ∷ answer (int 10 ∷ []) ∷ answer (int 20 ∷ []) ∷ []) 3
    (gives (shown Instr.Len (ref 1 ∷ []) ∷ shown Instr.Index (ref 1 ∷ int 0 ∷ [])
    ∷ shown Instr.Index (ref 1 ∷ int 1 ∷ []) ∷ []) (int 35))
unfolding on_literals
ranges_over_the_slice_of_before = works_out refl

-- for range x { n++ }; return n: looked at twice, which is not enough
pub ranges_too_often : Tells (s.ranges_over range.Neither x (does (s.increment n) ∷ []) ∷ returns n ∷ [])
    (answer (int 2 ∷ []) ∷ []) 2 (ends (shown Instr.Len (ref 1 ∷ []) ∷ []) End.Short)
unfolding on_literals
ranges_too_often = works_out refl

-- for range c { n++ }; return n
pub receives_without_a_name : Tells (s.ranges_over range.Neither c (does (s.increment n) ∷ []) ∷ returns n ∷ [])
    (answer (int 3 ∷ Value.Bool true ∷ []) ∷ answer (int 0 ∷ Value.Bool false ∷ []) ∷ []) 2
    (gives (shown Instr.ReceiveOk (ref 0 ∷ []) ∷ shown Instr.ReceiveOk (ref 0 ∷ []) ∷ []) (int 6))
unfolding on_literals
receives_without_a_name = works_out refl

-- for v := range c { if v < 4 { break } }; return n
pub breaks_out_of_a_range : Tells (s.ranges_over (range.One (codes "v")) c
    (s.if_then (binary_of binary.Less (name (codes "v")) (integer (codes "4"))) (s.breaks ∷ []) ∷ []) ∷ returns n ∷ [])
    (answer (int 3 ∷ Value.Bool true ∷ []) ∷ []) 1 (gives (shown Instr.ReceiveOk (ref 0 ∷ []) ∷ []) (int 5))
unfolding on_literals
breaks_out_of_a_range = works_out refl

-- Clauses of `select`.

-- select { case n = <-c: case v, ok := <-c: if ok { n += v }; case <-c: n = 0 }; return n
abbrev three_clauses : List StmtSample
three_clauses = s.selects (s.case_assign (codes "n") c []
    ∷ s.case_define_received (codes "v") (codes "ok") c
    (s.if_then (name (codes "ok")) (does (s.update_by update.Add n (name (codes "v"))) ∷ []) ∷ [])
    ∷ s.case_receive c (does (s.assign n (integer (codes "0"))) ∷ []) ∷ []) ∷ returns n ∷ []

abbrev three_channels : List Operation
three_channels = shown (Instr.Select (case_to CaseKind.Take 0 ∷ case_to CaseKind.TakeOk 1 ∷ case_to CaseKind.Take 2
    ∷ [])
    None) (ref 0 ∷ ref 0 ∷ ref 0 ∷ []) ∷ []

-- with an answer for the first clause
pub assigns_what_a_clause_receives : Tells three_clauses (record { clause = 0; values = int 7 ∷ [] } ∷ []) 1
    (gives three_channels (int 7))
unfolding on_literals
assigns_what_a_clause_receives = works_out refl

-- with an answer for the second clause
pub defines_what_a_clause_receives : Tells three_clauses
    (record { clause = 1; values = int 7 ∷ Value.Bool true ∷ [] } ∷ []) 1
    (gives three_channels (int 12))
unfolding on_literals
defines_what_a_clause_receives = works_out refl

-- with an answer for the third one
pub drops_what_a_clause_receives : Tells three_clauses (record { clause = 2; values = int 7 ∷ [] } ∷ []) 1
    (gives three_channels (int 0))
unfolding on_literals
drops_what_a_clause_receives = works_out refl

-- with an answer for a clause that is not there
pub refuses_a_clause : Tells three_clauses (record { clause = 3; values = int 7 ∷ [] } ∷ []) 1
    (ends three_channels (End.Halts (Halt.Unfit Misfit.OfCount)))
unfolding on_literals
refuses_a_clause = works_out refl

-- with one value too few
pub refuses_the_values_of_a_clause : Tells three_clauses (record { clause = 1; values = int 7 ∷ [] } ∷ []) 1
    (ends three_channels (End.Halts (Halt.Unfit Misfit.OfCount)))
unfolding on_literals
refuses_the_values_of_a_clause = works_out refl

-- select { }: for ever
pub waits_without_a_clause : Tells (s.selects [] ∷ returns n ∷ []) [] 1
    (ends (shown (Instr.Select [] None) [] ∷ []) (End.Halts Halt.Waits))
unfolding on_literals
waits_without_a_clause = works_out refl

-- select { case c <- f(n): n = 1; case v := <-c: return v }; return n: the operands of all clauses are evaluated
pub evaluates_all_operands : Tells (s.selects
    (s.case_send c (s.call (name (codes "f")) (n ∷ [])) (does (s.assign n (integer (codes "1"))) ∷ [])
    ∷ s.case_define (codes "v") c (returns (name (codes "v")) ∷ []) ∷ []) ∷ returns n ∷ [])
    (answer (int 6 ∷ []) ∷ record { clause = 1; values = int 8 ∷ [] } ∷ []) 1
    (gives (shown (Instr.Call 1 1) (int 5 ∷ [])
    ∷ shown (Instr.Select (case_to CaseKind.Send 0 ∷ case_to CaseKind.Take 1 ∷ []) None) (ref 0 ∷ int 6 ∷ ref 0 ∷ [])
    ∷ []) (int 8))
unfolding on_literals
evaluates_all_operands = works_out refl

-- for { select { default: break }; return n }: `break` leaves the `select`
pub breaks_out_of_a_select : Tells (s.forever (s.selects (s.default (s.breaks ∷ []) ∷ []) ∷ returns n ∷ []) ∷ [])
    (record { clause = 0; values = [] } ∷ []) 1 (gives (shown (Instr.Select [] (Some 0)) [] ∷ []) (int 5))
unfolding on_literals
breaks_out_of_a_select = works_out refl

-- for n < 6 { select { default: n++; continue }; <-c }; return n: `continue` leaves it, and goes on with the loop
pub continues_from_a_select : Tells (s.while (binary_of binary.Less n (integer (codes "6")))
    (s.selects (s.default (does (s.increment n) ∷ s.continues ∷ []) ∷ []) ∷ does (s.expression receive) ∷ [])
    ∷ returns n ∷ []) (record { clause = 0; values = [] } ∷ []) 2
    (gives (shown (Instr.Select [] (Some 0)) [] ∷ []) (int 6))
unfolding on_literals
continues_from_a_select = works_out refl
