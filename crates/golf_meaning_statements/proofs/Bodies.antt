-- Bodies with each kind of statement, against what was worked out by hand.
-- For: `step`, golf_meaning_statements/specs/Statements.antt
-- By: computing
use Rattle.std.specs.Prelude.{◌≡◌, ℕ, pos, negsuc, true, false, List, [], ◌∷◌, Option, Some, None, map, codes}
use Rattle.std.proofs.Common.{refl, ap, ◌∙◌}
use Rattle.golf_syntax_trees.specs.declared.expressions.BinaryOperator.TheVariants as binary
use Rattle.golf_syntax_trees.specs.declared.expressions.UnaryOperator.TheVariants as unary
use Rattle.golf_syntax_trees.specs.declared.statements.UpdateOperator.TheVariants as update
use Rattle.golf_syntax_trees.specs.declared.statements.RangeNames.TheVariants as range
use Rattle.golf_data.specs.declared.value.Value.{Value}
use Rattle.golf_data.specs.declared.code.Instr.{Instr}
use Rattle.golf_data.specs.declared.code.SelectCase.{SelectCase}
use Rattle.golf_data.specs.declared.code.CaseKind.{CaseKind}
use Rattle.golf_check_types.specs.declared.scopes.Scope.{Scope}
use Rattle.golf_check_types.specs.declared.types.Base.TheVariants as base
use Rattle.golf_check_types.specs.declared.types.GoType.{GoType}
use Rattle.golf_code_of.proofs.Examples.Writing as w
use Rattle.golf_code_of.proofs.Examples.Writing.{scope, tables, outermost, plain}
use Rattle.golf_meaning_flat.specs.Worlds.{Answer, Operation, Misfit, Halt, End, Told}
use Rattle.golf_meaning_statements.specs.Steps.{Step, in_order}
use Rattle.golf_meaning_statements.specs.Statements.{step}
use Rattle.golf_meaning_statements.specs.Functions.{named, begins, told_by}
use Rattle.golf_meaning_statements.proofs.OnLiterals.{on_literals}
use Rattle.golf_meaning_statements.proofs.Samples as s
use Rattle.golf_meaning_statements.proofs.Samples.{strictly, Sample, StmtSample, trees, values, all-same, name, integer}
use Rattle.golf_meaning_statements.proofs.Samples.{index, unary_of, binary_of, does, returns}

abbrev pub ref : ℕ → Value
ref k = Value.Ref (record { 0 = k })

abbrev pub int : ℕ → Value
int n = Value.Int (pos n)

-- c chan int, x []int, n int, b bool, t *T, mu, wg, rw and q, in a function with the result int
abbrev arguments : List Value
arguments = ref 0 ∷ ref 1 ∷ int 5 ∷ Value.Bool true ∷ ref 4 ∷ ref 5 ∷ ref 6 ∷ ref 7 ∷ ref 8 ∷ []

-- steps in this scope, in a function with this result, each of whose loops is looked at so many times at most
abbrev told : Scope → Option GoType → List Step → List Answer → ℕ → Told
told s result xs answers n = told_by result
    (in_order xs outermost s n (named s.locals arguments) (begins answers))

-- the body of a function with the result int tells this
pub record Tells (xs : List StmtSample) (answers : List Answer) (n : ℕ) (t : Told) : Type 0 where
  is : told scope (plain base.Int) (map (step strictly tables) (trees xs)) answers n ≡ t

pub works_out : {xs : List StmtSample} {answers : List Answer} {n : ℕ} {t : Told}
    → told scope (plain base.Int) (values xs) answers n ≡ t → Tells xs answers n t
works_out {xs} {answers} {n} e =
    record { is = ap (λ ys. told scope (plain base.Int) ys answers n) (all-same xs) ∙ e }

-- the same in a function without a result
abbrev without_result : Scope
without_result = record scope { result = None }

pub record TellsWithoutResult (xs : List StmtSample) (answers : List Answer) (n : ℕ) (t : Told) : Type 0 where
  is : told without_result None (map (step strictly tables) (trees xs)) answers n ≡ t

works_out_without_result : {xs : List StmtSample} {answers : List Answer} {n : ℕ} {t : Told}
    → told without_result None (values xs) answers n ≡ t → TellsWithoutResult xs answers n t
works_out_without_result {xs} {answers} {n} e =
    record { is = ap (λ ys. told without_result None ys answers n) (all-same xs) ∙ e }

abbrev pub c : Sample
c = name (codes "c")

abbrev pub x : Sample
x = name (codes "x")

abbrev pub n : Sample
n = name (codes "n")

abbrev pub receive : Sample
receive = unary_of unary.Receive c

abbrev pub shown : Instr → List Value → Operation
shown i vs = record { instr = i; operands = vs }

abbrev pub answer : List Value → Answer
answer vs = record { clause = 0; values = vs }

abbrev pub ends : List Operation → End → Told
ends os e = record { operations = os; end = e }

abbrev pub gives : List Operation → Value → Told
gives os v = ends os (End.Halts (Halt.Returned (Some v)))

abbrev pub case_to : CaseKind → ℕ → SelectCase
case_to k place = record { kind = k; target = place }

-- return n - 2
pub returns_a_difference : Tells (returns (binary_of binary.Subtract n (integer (codes "2"))) ∷ []) [] 1
    (gives [] (int 3))
unfolding on_literals
returns_a_difference = works_out refl

-- return x[n] - <-c: operands are evaluated from left to right
pub left_before_right : Tells (returns (binary_of binary.Subtract (index x n) receive) ∷ [])
    (answer (int 10 ∷ []) ∷ answer (int 4 ∷ []) ∷ []) 1
    (gives (shown Instr.Index (ref 1 ∷ int 5 ∷ []) ∷ shown Instr.Receive (ref 0 ∷ []) ∷ []) (int 6))
unfolding on_literals
left_before_right = works_out refl

-- x[n] += <-c; return n: the element is read before the receive, and stored after it
pub update_reads_first : Tells (does (s.update_by update.Add (index x n) receive) ∷ returns n ∷ [])
    (answer (int 10 ∷ []) ∷ answer (int 7 ∷ []) ∷ answer [] ∷ []) 1
    (gives (shown Instr.Index (ref 1 ∷ int 5 ∷ []) ∷ shown Instr.Receive (ref 0 ∷ [])
    ∷ shown Instr.SetIndex (ref 1 ∷ int 5 ∷ int 17 ∷ []) ∷ []) (int 5))
unfolding on_literals
update_reads_first = works_out refl

-- return n / 0
pub divides_by_zero : Tells (returns (binary_of binary.Divide n (integer (codes "0"))) ∷ []) [] 1
    (ends [] (End.Halts Halt.Divided))
unfolding on_literals
divides_by_zero = works_out refl

-- <-c, with no answer: the operation is there
pub waits_for_an_answer : Tells (does (s.expression receive) ∷ []) [] 1
    (ends (shown Instr.Receive (ref 0 ∷ []) ∷ []) (End.Halts Halt.Waits))
unfolding on_literals
waits_for_an_answer = works_out refl

-- <-c, with a truth value for an answer
pub refuses_an_answer : Tells (does (s.expression receive) ∷ []) (answer (Value.Bool true ∷ []) ∷ []) 1
    (ends (shown Instr.Receive (ref 0 ∷ []) ∷ []) (End.Halts (Halt.Unfit Misfit.OfAnswer)))
unfolding on_literals
refuses_an_answer = works_out refl

-- no statement: the zero value of the result
pub ends_with_zero : Tells [] [] 1 (gives [] (int 0))
unfolding on_literals
ends_with_zero = works_out refl

-- c <- n; n = <-c; return n
pub sends_and_receives : Tells (does (s.send c n) ∷ does (s.assign n receive) ∷ returns n ∷ [])
    (answer [] ∷ answer (int 8 ∷ []) ∷ []) 1
    (gives (shown Instr.Send (ref 0 ∷ int 5 ∷ []) ∷ shown Instr.Receive (ref 0 ∷ []) ∷ []) (int 8))
unfolding on_literals
sends_and_receives = works_out refl

-- { n := 1; n++ }; return n
pub declares_in_a_block : Tells (s.block_of
    (does (s.define (codes "n") (integer (codes "1"))) ∷ does (s.increment n) ∷ []) ∷ returns n ∷ []) [] 1
    (gives [] (int 5))
unfolding on_literals
declares_in_a_block = works_out refl

-- v, ok := <-c; if ok { return v }; return n
pub receives_two : Tells (does (s.define_received (codes "v") (codes "ok") c)
    ∷ s.if_then (name (codes "ok")) (returns (name (codes "v")) ∷ []) ∷ returns n ∷ [])
    (answer (int 3 ∷ Value.Bool true ∷ []) ∷ []) 1 (gives (shown Instr.ReceiveOk (ref 0 ∷ []) ∷ []) (int 3))
unfolding on_literals
receives_two = works_out refl

-- for b { if n < 6 { n++ } else { break } }; return n
pub breaks_out : Tells (s.while (name (codes "b"))
    (s.if_else (binary_of binary.Less n (integer (codes "6"))) (does (s.increment n) ∷ []) (s.block_of (s.breaks ∷ []))
    ∷ []) ∷ returns n ∷ []) [] 3 (gives [] (int 6))
unfolding on_literals
breaks_out = works_out refl

-- for i := 0; i < 2; i++ { n++; continue }; return n
pub continues_to_the_post_statement : Tells
    (s.stepping (s.define (codes "i") (integer (codes "0")))
    (binary_of binary.Less (name (codes "i")) (integer (codes "2"))) (s.increment (name (codes "i")))
    (does (s.increment n) ∷ s.continues ∷ []) ∷ returns n ∷ []) [] 3 (gives [] (int 7))
unfolding on_literals
continues_to_the_post_statement = works_out refl

-- for { n-- }, looked at twice
pub looks_too_often : Tells (s.forever (does (s.decrement n) ∷ []) ∷ []) [] 2 (ends [] End.Short)
unfolding on_literals
looks_too_often = works_out refl

-- for i, v := range x { n += v }; return n: the length is looked at once
pub ranges_over_a_slice : Tells (s.ranges_over (range.Two (codes "i") (codes "v")) x
    (does (s.update_by update.Add n (name (codes "v"))) ∷ []) ∷ returns n ∷ [])
    (answer (int 2 ∷ []) ∷ answer (int 10 ∷ []) ∷ answer (int 20 ∷ []) ∷ []) 3
    (gives (shown Instr.Len (ref 1 ∷ []) ∷ shown Instr.Index (ref 1 ∷ int 0 ∷ [])
    ∷ shown Instr.Index (ref 1 ∷ int 1 ∷ []) ∷ []) (int 35))
unfolding on_literals
ranges_over_a_slice = works_out refl

-- for v := range c { n += v }; return n: until it is told that the channel is closed
pub ranges_over_a_channel : Tells (s.ranges_over (range.One (codes "v")) c
    (does (s.update_by update.Add n (name (codes "v"))) ∷ []) ∷ returns n ∷ [])
    (answer (int 3 ∷ Value.Bool true ∷ []) ∷ answer (int 0 ∷ Value.Bool false ∷ []) ∷ []) 3
    (gives (shown Instr.ReceiveOk (ref 0 ∷ []) ∷ shown Instr.ReceiveOk (ref 0 ∷ []) ∷ []) (int 8))
unfolding on_literals
ranges_over_a_channel = works_out refl

-- select { case c <- 1: n = 1; default: n = 9; case v := <-c: n = v; break }; return n: the clauses are named by their
-- places
pub chooses_a_clause : Tells (s.selects (s.case_send c (integer (codes "1"))
    (does (s.assign n (integer (codes "1"))) ∷ []) ∷ s.default (does (s.assign n (integer (codes "9"))) ∷ [])
    ∷ s.case_define (codes "v") c (does (s.assign n (name (codes "v"))) ∷ s.breaks ∷ []) ∷ []) ∷ returns n ∷ [])
    (record { clause = 2; values = int 7 ∷ [] } ∷ []) 1
    (gives (shown (Instr.Select (case_to CaseKind.Send 0 ∷ case_to CaseKind.Take 2 ∷ []) (Some 1))
    (ref 0 ∷ int 1 ∷ ref 0 ∷ []) ∷ []) (int 7))
unfolding on_literals
chooses_a_clause = works_out refl

-- the same, with the answer that names `default`
pub chooses_the_default : Tells (s.selects
    (s.case_send c (integer (codes "1")) (does (s.assign n (integer (codes "1"))) ∷ [])
    ∷ s.default (does (s.assign n (integer (codes "9"))) ∷ [])
    ∷ s.case_define (codes "v") c (does (s.assign n (name (codes "v"))) ∷ s.breaks ∷ []) ∷ []) ∷ returns n ∷ [])
    (record { clause = 1; values = [] } ∷ []) 1
    (gives (shown (Instr.Select (case_to CaseKind.Send 0 ∷ case_to CaseKind.Take 2 ∷ []) (Some 1))
    (ref 0 ∷ int 1 ∷ ref 0 ∷ []) ∷ []) (int 9))
unfolding on_literals
chooses_the_default = works_out refl

-- Variables.

-- var z int = n; n++; return z
pub declares_with_a_type : Tells (s.var_typed (codes "z") (w.named (codes "int")) n ∷ does (s.increment n)
    ∷ returns (name (codes "z")) ∷ []) [] 1 (gives [] (int 5))
unfolding on_literals
declares_with_a_type = works_out refl

-- var y = n; y++; return y - n: a variable of its own
pub declares_without_a_type : Tells (s.var_untyped (codes "y") n ∷ does (s.increment (name (codes "y")))
    ∷ returns (binary_of binary.Subtract (name (codes "y")) n) ∷ []) [] 1 (gives [] (int 1))
unfolding on_literals
declares_without_a_type = works_out refl

-- var z int = <-c; return z
pub declares_what_is_received : Tells (s.var_typed (codes "z") (w.named (codes "int")) receive
    ∷ returns (name (codes "z")) ∷ []) (answer (int 8 ∷ []) ∷ []) 1
    (gives (shown Instr.Receive (ref 0 ∷ []) ∷ []) (int 8))
unfolding on_literals
declares_what_is_received = works_out refl

-- var w int; var d bool; var v string; fmt.Println(w, d, v); return n: the zero values, 0, false and "" (text 0)
pub declares_zero_values : Tells (s.var_zero (codes "w") (w.named (codes "int"))
    ∷ s.var_zero (codes "d") (w.named (codes "bool")) ∷ s.var_zero (codes "v") (w.named (codes "string"))
    ∷ does (s.expression (s.call (s.dot (name (codes "fmt")) (codes "Println"))
    (name (codes "w") ∷ name (codes "d") ∷ name (codes "v") ∷ []))) ∷ returns n ∷ []) (answer [] ∷ []) 1
    (gives (shown (Instr.Print 3) (int 0 ∷ Value.Bool false ∷ Value.Text 0 ∷ []) ∷ []) (int 5))
unfolding on_literals
declares_zero_values = works_out refl

-- var u chan int; u <- n: the zero value of a channel is nil
pub declares_a_nil_channel : Tells (s.var_zero (codes "u") (w.chan_of (w.named (codes "int")))
    ∷ does (s.send (name (codes "u")) n) ∷ returns n ∷ []) [] 1
    (ends (shown Instr.Send (Value.Nil ∷ int 5 ∷ []) ∷ []) (End.Halts Halt.Waits))
unfolding on_literals
declares_a_nil_channel = works_out refl

-- { n = 1; var n int; n++ }; return n: the name is the one before until its declaration
pub declares_from_here_on : Tells (s.block_of
    (does (s.assign n (integer (codes "1"))) ∷ s.var_zero (codes "n") (w.named (codes "int")) ∷ does (s.increment n)
    ∷ []) ∷ returns n ∷ []) [] 1 (gives [] (int 1))
unfolding on_literals
declares_from_here_on = works_out refl

-- Places.

-- g = n; return g: another goroutine may have stored there
pub assigns_to_a_global : Tells (does (s.assign (name (codes "g")) n) ∷ returns (name (codes "g")) ∷ [])
    (answer [] ∷ answer (int 8 ∷ []) ∷ []) 1
    (gives (shown (Instr.StoreGlobal 0) (int 5 ∷ []) ∷ shown (Instr.LoadGlobal 0) [] ∷ []) (int 8))
unfolding on_literals
assigns_to_a_global = works_out refl

-- t.n = n; t.n++; return t.n
pub assigns_to_a_field : Tells (does (s.assign (s.dot (name (codes "t")) (codes "n")) n)
    ∷ does (s.increment (s.dot (name (codes "t")) (codes "n"))) ∷ returns (s.dot (name (codes "t")) (codes "n")) ∷ [])
    (answer [] ∷ answer (int 5 ∷ []) ∷ answer [] ∷ answer (int 6 ∷ []) ∷ []) 1
    (gives (shown (Instr.SetField 0) (ref 4 ∷ int 5 ∷ []) ∷ shown (Instr.Field 0) (ref 4 ∷ [])
    ∷ shown (Instr.SetField 0) (ref 4 ∷ int 6 ∷ []) ∷ shown (Instr.Field 0) (ref 4 ∷ []) ∷ []) (int 6))
unfolding on_literals
assigns_to_a_field = works_out refl

-- _ = <-c; return n
pub assigns_to_nothing : Tells (does (s.assign (name (codes "_")) receive) ∷ returns n ∷ [])
    (answer (int 8 ∷ []) ∷ []) 1 (gives (shown Instr.Receive (ref 0 ∷ []) ∷ []) (int 5))
unfolding on_literals
assigns_to_nothing = works_out refl

-- n -= 10; n %= 3; n *= 4; n /= 3; return n: -5, -2, -8, -2, since quotients are truncated towards zero
pub updates_by_each_operator : Tells (does (s.update_by update.Subtract n (integer (codes "10")))
    ∷ does (s.update_by update.Remainder n (integer (codes "3")))
    ∷ does (s.update_by update.Multiply n (integer (codes "4")))
    ∷ does (s.update_by update.Divide n (integer (codes "3"))) ∷ returns n ∷ []) [] 1 (gives [] (Value.Int (negsuc 1)))
unfolding on_literals
updates_by_each_operator = works_out refl

-- n %= 0; return n
pub updates_by_zero : Tells (does (s.update_by update.Remainder n (integer (codes "0"))) ∷ returns n ∷ []) [] 1
    (ends [] (End.Halts Halt.Divided))
unfolding on_literals
updates_by_zero = works_out refl

-- n, b = <-c; if b { return n }; return 1
pub assigns_two : Tells (does (s.assign_received (codes "n") (codes "b") c)
    ∷ s.if_then (name (codes "b")) (returns n ∷ []) ∷ returns (integer (codes "1")) ∷ [])
    (answer (int 0 ∷ Value.Bool false ∷ []) ∷ []) 1 (gives (shown Instr.ReceiveOk (ref 0 ∷ []) ∷ []) (int 1))
unfolding on_literals
assigns_two = works_out refl

-- g, _ = <-c; return n
pub assigns_the_first_of_two : Tells (does (s.assign_received (codes "g") (codes "_") c) ∷ returns n ∷ [])
    (answer (int 8 ∷ Value.Bool true ∷ []) ∷ answer [] ∷ []) 1
    (gives (shown Instr.ReceiveOk (ref 0 ∷ []) ∷ shown (Instr.StoreGlobal 0) (int 8 ∷ []) ∷ []) (int 5))
unfolding on_literals
assigns_the_first_of_two = works_out refl

-- n, ok := <-c; return n: n is there already, in the same block
pub defines_one_of_two : Tells (does (s.define_received (codes "n") (codes "ok") c) ∷ returns n ∷ [])
    (answer (int 8 ∷ Value.Bool true ∷ []) ∷ []) 1 (gives (shown Instr.ReceiveOk (ref 0 ∷ []) ∷ []) (int 8))
unfolding on_literals
defines_one_of_two = works_out refl

-- { n, ok := <-c; if ok { n++ } }; return n: in an inner block n is new
pub defines_both_in_a_block : Tells (s.block_of
    (does (s.define_received (codes "n") (codes "ok") c) ∷ s.if_then (name (codes "ok")) (does (s.increment n) ∷ [])
    ∷ []) ∷ returns n ∷ []) (answer (int 8 ∷ Value.Bool true ∷ []) ∷ []) 1
    (gives (shown Instr.ReceiveOk (ref 0 ∷ []) ∷ []) (int 5))
unfolding on_literals
defines_both_in_a_block = works_out refl

-- Return, if.

-- if b { return }; <-c, in a function without a result
pub returns_nothing : TellsWithoutResult
    (s.if_then (name (codes "b")) (s.returns_nothing ∷ []) ∷ does (s.expression receive) ∷ []) [] 1
    (ends [] (End.Halts (Halt.Returned None)))
unfolding on_literals
returns_nothing = works_out_without_result refl

-- <-c, in a function without a result: it comes to its end
pub ends_with_nothing : TellsWithoutResult (does (s.expression receive) ∷ []) (answer (int 8 ∷ []) ∷ []) 1
    (ends (shown Instr.Receive (ref 0 ∷ []) ∷ []) (End.Halts (Halt.Returned None)))
unfolding on_literals
ends_with_nothing = works_out_without_result refl

-- { return n }; <-c
pub returns_from_a_block : Tells (s.block_of (returns n ∷ []) ∷ does (s.expression receive) ∷ []) [] 1
    (gives [] (int 5))
unfolding on_literals
returns_from_a_block = works_out refl

-- if n++; b { return n }; return 0
pub acts_before_a_condition : Tells (s.if_first_then (s.increment n) (name (codes "b")) (returns n ∷ [])
    ∷ returns (integer (codes "0")) ∷ []) [] 1 (gives [] (int 6))
unfolding on_literals
acts_before_a_condition = works_out refl

-- if n := <-c; b { n++ }; return n: the name is known in the statement alone
pub declares_before_a_condition : Tells (s.if_first_then (s.define (codes "n") receive) (name (codes "b"))
    (does (s.increment n) ∷ []) ∷ returns n ∷ []) (answer (int 8 ∷ []) ∷ []) 1
    (gives (shown Instr.Receive (ref 0 ∷ []) ∷ []) (int 5))
unfolding on_literals
declares_before_a_condition = works_out refl

-- if y := <-c; y < 5 { n = 1 } else { n = y }; return n: it is known after `else`, too
pub declares_before_both_branches : Tells
    (s.if_first_else (s.define (codes "y") receive) (binary_of binary.Less (name (codes "y")) (integer (codes "5")))
    (does (s.assign n (integer (codes "1"))) ∷ []) (s.block_of (does (s.assign n (name (codes "y"))) ∷ [])) ∷ returns n
    ∷ []) (answer (int 8 ∷ []) ∷ []) 1 (gives (shown Instr.Receive (ref 0 ∷ []) ∷ []) (int 8))
unfolding on_literals
declares_before_both_branches = works_out refl

-- if n < 5 { return 1 } else if b { return 2 } else { return 3 }
pub chooses_the_second_of_three : Tells (s.if_else (binary_of binary.Less n (integer (codes "5")))
    (returns (integer (codes "1")) ∷ []) (s.if_else (name (codes "b")) (returns (integer (codes "2")) ∷ [])
    (s.block_of (returns (integer (codes "3")) ∷ []))) ∷ []) [] 1 (gives [] (int 2))
unfolding on_literals
chooses_the_second_of_three = works_out refl

-- if n < 5 { return 1 } else if n < 5 { return 2 }; return 3
pub chooses_none : Tells (s.if_else (binary_of binary.Less n (integer (codes "5"))) (returns (integer (codes "1")) ∷ [])
    (s.if_then (binary_of binary.Less n (integer (codes "5"))) (returns (integer (codes "2")) ∷ []))
    ∷ returns (integer (codes "3")) ∷ []) [] 1 (gives [] (int 3))
unfolding on_literals
chooses_none = works_out refl
