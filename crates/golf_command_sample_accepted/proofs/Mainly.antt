-- `main` and `wait` break no rule.
-- For: `main_func`, `wait_func` (golf_command_sample_accepted/specs/Trees.antt)
-- By: induction over the number of parts, which `main` calls, and over the list of digits
use Rattle.std.proofs.Common.{◌≡◌, ℕ, zero, suc, ◌+◌, ◌*◌, ◌-◌, ◌<◌, ◌≤◌, ◌%◌, ◌^◌, true, refl, sym, ap, ◌∙◌, List, []}
use Rattle.std.proofs.Common.{◌∷◌, ◌++◌, map, codes, decimal, arith}
use Rattle.std.specs.Prelude.{Some, None, slice_get, nat_le}
use Rattle.std.proofs.lemmas.Bool.Decides.{nat_tests}
use Rattle.std.proofs.lemmas.Fmt.{decimal_by_steps}
use Rattle.golf_syntax_trees.specs.declared.types.TypeExpr.TheVariants as ty
use Rattle.golf_syntax_trees.specs.declared.types.TypeExpr.TheOpen as TF
use Rattle.golf_syntax_trees.specs.declared.expressions.UnaryOperator.TheVariants as unary
use Rattle.golf_syntax_trees.specs.declared.expressions.BinaryOperator.TheVariants as binary
use Rattle.golf_syntax_trees.specs.declared.expressions.Expr.TheVariants as ex
use Rattle.golf_syntax_trees.specs.declared.expressions.Expr.TheOpen as F
use Rattle.golf_syntax_trees.specs.declared.statements.SimpleKind.TheVariants as simple
use Rattle.golf_syntax_trees.specs.declared.statements.Header.{Header}
use Rattle.golf_syntax_trees.specs.declared.statements.Stmt.{Stmt}
use Rattle.golf_syntax_trees.specs.declared.statements.Stmt.TheVariants as st
use Rattle.golf_syntax_trees.specs.declared.statements.Clause.TheOpen as SF
use Rattle.golf_syntax_trees.specs.declared.statements.Clause.TheFolds.{fold-roll-Stmt}
use Rattle.golf_check_types.specs.declared.types.Base.TheVariants as base
use Rattle.golf_check_types.specs.declared.operands.Operand.TheVariants as operand
use Rattle.golf_check_types.specs.declared.operands.Signature.{Signature}
use Rattle.golf_check_types.specs.declared.scopes.Entity.{Entity}
use Rattle.golf_check_types.specs.declared.scopes.Entity.TheVariants as meant_as
use Rattle.golf_check_types.specs.declared.scopes.Scope.{Scope}
use Rattle.golf_check_types.specs.Faults.{Fault, broken}
use Rattle.golf_check_types.specs.Types.{plain, has_base}
use Rattle.golf_check_types.specs.Names.{Table, number_of}
use Rattle.golf_check_types.specs.Scopes.{meaning, type_name, value_name, call_name, package_name, is_here, is_reserved}
use Rattle.golf_check_types.specs.Scopes.{may_be_declared}
use Rattle.golf_check_types.specs.Written.{WriteType, write_step, named_base}
use Rattle.golf_check_types.specs.Expressions.{used, named_or_used, given_by, facts_of, value_from, fits_int}
use Rattle.golf_check_types.specs.Expressions.{runtime_member}
use Rattle.golf_check_types.specs.Judgments.{Judge, judge, judge_step}
use Rattle.golf_check_types.specs.Statements as W
use Rattle.golf_check_types.specs.Statements.{Walk, walk, clause_step, stmt_step}
use Rattle.golf_check_types.specs.Files.{func_walk, outside}
use Rattle.golf_code_of.proofs.JudgeEquations as e
use Rattle.golf_code_of.proofs.TypeWrites as w
use Rattle.golf_command_sample_accepted.specs.Trees.{name, does, part_name, calls_part, counts_to, collects, call_line}
use Rattle.golf_command_sample_accepted.specs.Trees.{calls_before, last_stmts, main_func, wait_func}
use Rattle.golf_command_sample_accepted.proofs.Tables.{place, all_entries, all_meant, skip-word, found-part, meant-at}
use Rattle.golf_command_sample_accepted.proofs.Judging.{walk-Simple, named, digits, int_written, defines, known}

walk-For : (l : ℕ) (h : Header) (body : List Stmt) → walk (st.For l h body) ≡ stmt_step (SF.For l h (map walk body))
unfolding walk
walk-For l h body = ap walk (sym (st.rolls-For l h body))
    ∙ fold-roll-Stmt (ℕ → Walk) Walk clause_step stmt_step (SF.For l h body)

-- The number that digits stand for.

value_from-append : (n d : ℕ) (ds : List ℕ) → value_from n (ds ++ d ∷ []) ≡ 10 * value_from n ds + (d - 48)
value_from-append n d [] = refl
value_from-append n d (x ∷ ds) = value_from-append (10 * n + (x - 48)) d ds

value-decimal : (n : ℕ) → n < 2 ^ 64 → value_from 0 (decimal n) ≡ n
value-decimal = decimal_by_steps (λ n ds. value_from 0 ds ≡ n) (λ n small. omega arith)
    (λ n ds large h. value_from-append 0 (48 + n % 10) ds ∙ omega (arith, h))

pub fits : (n : ℕ) → n < 2 ^ 32 → fits_int (decimal n) ≡ true
unfolding fits_int
fits n small = ap (λ v. nat_le v 9223372036854775807) (value-decimal n (omega arith)) ∙ grind (arith, nat_tests)

zero-fits : fits_int (codes "0") ≡ true
unfolding fits_int
zero-fits = refl

-- Signatures.

abbrev pub int_signature : Signature
int_signature = record { parameters = Some (plain base.Int) ∷ []; result = None }

abbrev pub main_signature : Signature
main_signature = record { parameters = []; result = None }

abbrev pub signatures : ℕ → List Signature → List Signature
signatures zero rest = rest
signatures (suc n) rest = signatures n (int_signature ∷ rest)

signatures-front : (n : ℕ) (rest : List Signature) → signatures n (int_signature ∷ rest) ≡ int_signature
    ∷ signatures n rest
signatures-front zero rest = refl
signatures-front (suc n) rest = signatures-front n (int_signature ∷ rest)

signature-at : (n j : ℕ) (rest : List Signature) → j < n → slice_get (signatures n rest) j ≡ Some int_signature
signature-at zero j rest less = absurd (omega arith)
signature-at (suc n) zero rest less = ap (λ ss. slice_get ss 0) (signatures-front n rest)
signature-at (suc n) (suc j) rest less = ap (λ ss. slice_get ss (suc j)) (signatures-front n rest)
    ∙ signature-at n j rest (omega arith)

-- The scope of the functions of the file.

abbrev pub scope : ℕ → Scope
scope n = outside (known (all_entries n) (all_meant n) (signatures n (main_signature ∷ [])))

part-meaning : (n j : ℕ) → j < n → n < 2 ^ 64 → meaning (scope n) (part_name (suc j)) ≡ Some (operand.Function (suc j))
unfolding meaning
part-meaning n j less small = rw (
  found-part n j ((codes "main", place n) ∷ []) less small,
  meant-at n j (meant_as.Function (suc n) ∷ []) less,
) refl

abbrev acts : ℕ → Judge → Walk
acts l j s = W.judges ((j l s).faults ++ W.action_faults l (j l s).meaning) (facts_of (j l s))

abbrev call_judge : ℕ → Judge
call_judge k = judge_step (F.Call (named (part_name k)) (digits (decimal k) ∷ []))

walk-call : (k l : ℕ) → walk (calls_part k l) ≡ acts l (call_judge k)
walk-call k l =
    walk-Simple _
    ∙ ap (acts l)
    (e.judge-Call (name (part_name k)) (ex.Integer (decimal k) ∷ [])
    ∙ ap (λ j. judge_step (F.Call j (judge (ex.Integer (decimal k)) ∷ []))) (e.judge-Name (part_name k))
    ∙ ap (λ j. judge_step (F.Call (named (part_name k)) (j ∷ []))) (e.judge-Integer (decimal k)))

call-works : (n j l : ℕ) → j < n → n < 2 ^ 32 → (acts l (call_judge (suc j)) (scope n)).faults ≡ []
call-works n j l less small =
    let wide : n < 2 ^ 64 = omega arith in
    let f : suc j < 2 ^ 32 = omega arith in
    rw (part-meaning n j less wide, fits (suc j) f, signature-at n j (main_signature ∷ []) less) refl

calls-work : (n m l : ℕ) (ss : List Stmt) → m ≤ n → n < 2 ^ 32
    → (W.in_order (map walk (calls_before l m ss)) (scope n)).faults ≡ (W.in_order (map walk ss) (scope n)).faults
calls-work n zero l ss most small = refl
calls-work n (suc m) l ss most small =
    calls-work n m l (calls_part (suc m) (call_line l m) ∷ ss) (omega arith) small
    ∙ ap (λ x. (W.in_order (x ∷ map walk ss) (scope n)).faults) (walk-call (suc m) (call_line l m))
    ∙ ap (λ fs. fs ++ (W.in_order (map walk ss) (scope n)).faults) (call-works n m (call_line l m) (omega arith) small)

-- The end of `main`.

abbrev tests : ℕ → Judge → Walk
tests l j s = W.judges (used l (j l s) ++ broken l 8 (has_base base.Bool (given_by (j l s)))) (facts_of (j l s))

abbrev steps : ℕ → Judge → Walk
steps l j s = W.judges (named_or_used l (j l s) ++ W.step_faults l (j l s).meaning) (facts_of (j l s))

abbrev counts_by : ℕ → Judge → Judge → Judge → Walk
counts_by l first test post = W.in_block
    (W.then (defines l (codes "i") first) (λ s. W.both (tests l test s)
    (W.then (W.counted (steps l post)) (W.loop_body []) s)))

abbrev less_judge : ℕ → Judge
less_judge n = judge_step (F.Binary binary.Less (named (codes "i")) (digits (decimal n)))

walk-counts : (n l : ℕ) → walk (counts_to n l) ≡ counts_by l (digits (codes "0")) (less_judge n) (named (codes "i"))
walk-counts n l =
    walk-For l _ []
    ∙ ap (λ j. counts_by l j (judge (ex.Binary binary.Less (name (codes "i")) (ex.Integer (decimal n))))
    (judge (name (codes "i")))) (e.judge-Integer (codes "0"))
    ∙ ap (λ j. counts_by l (digits (codes "0")) j (judge (name (codes "i"))))
    (e.judge-Binary binary.Less (name (codes "i")) (ex.Integer (decimal n))
    ∙ ap (λ j. judge_step (F.Binary binary.Less j (judge (ex.Integer (decimal n))))) (e.judge-Name (codes "i"))
    ∙ ap (λ j. judge_step (F.Binary binary.Less (named (codes "i")) j)) (e.judge-Integer (decimal n)))
    ∙ ap (λ j. counts_by l (digits (codes "0")) (less_judge n) j) (e.judge-Name (codes "i"))

abbrev collect_judge : Judge
collect_judge = judge_step (F.Call (judge_step (F.Selector (named (codes "runtime")) (codes "GC"))) [])

walk-collects : (l : ℕ) → walk (collects l) ≡ acts l collect_judge
walk-collects l =
    walk-Simple _
    ∙ ap (acts l)
    (e.judge-Call (ex.Selector (name (codes "runtime")) (codes "GC")) []
    ∙ ap (λ j. judge_step (F.Call j [])) (e.judge-Selector (name (codes "runtime")) (codes "GC")
    ∙ ap (λ j. judge_step (F.Selector j (codes "GC"))) (e.judge-Name (codes "runtime"))))

no-runtime : (n : ℕ) → number_of (all_entries n) (codes "runtime") ≡ None
no-runtime n = skip-word (codes "runtime") (λ k. refl) n ((codes "main", place n) ∷ [])

end-works : (n l m : ℕ) → n < 2 ^ 32 → (W.in_order
    (counts_by l (digits (codes "0")) (less_judge n) (named (codes "i")) ∷ acts m collect_judge ∷ []) (scope n)).faults
    ≡ []
unfolding meaning type_name value_name call_name package_name is_here is_reserved runtime_member
end-works n l m small =
    rw (zero-fits, fits n small, no-runtime n) refl

end-keeps : (n l : ℕ) → n < 2 ^ 32 → (W.in_order (map walk (last_stmts n l)) (scope n)).faults ≡ []
end-keeps n l small =
    ap (λ x. (W.in_order (x ∷ walk (collects (l + 1 + 1)) ∷ []) (scope n)).faults) (walk-counts n l)
    ∙ ap (λ x. (W.in_order (counts_by l (digits (codes "0")) (less_judge n) (named (codes "i")) ∷ x ∷ [])
    (scope n)).faults) (walk-collects (l + 1 + 1))
    ∙ end-works n l (l + 1 + 1) small

no_more : (fs : List Fault) → fs ≡ [] → fs ++ [] ≡ []
no_more fs h = ap (λ xs. xs ++ []) h

pub main-keeps : (n l : ℕ) → n < 2 ^ 32 → (func_walk (main_func n l) (scope n)).faults ≡ []
main-keeps n l small = no_more _ (calls-work n n l (last_stmts n (call_line l n)) (omega arith) small
    ∙ end-keeps n (call_line l n) small)

-- `wait`.

abbrev chan_written : WriteType
chan_written = write_step (TF.Chan int_written)

abbrev receive_judge : Judge
receive_judge = judge_step (F.Unary unary.Receive (named (codes "c")))

abbrev waits_by : WriteType → Walk → Walk
waits_by x a s = W.in_order
    ((λ t. W.nothing) ∷ W.in_order ((λ t. W.declares_one t (codes "c") (x 0 s).type
    (broken 12 2 (may_be_declared t (codes "c"))) []) ∷ []) ∷ W.in_order (a ∷ []) ∷ (λ t. W.breaks []) ∷ [])
    (record s { result = None })

wait-works : (names : Table) (entities : List Entity) (functions : List Signature)
    → (waits_by chan_written (acts 13 receive_judge) (outside (known names entities functions))).faults ≡ []
unfolding meaning type_name value_name call_name package_name is_here is_reserved may_be_declared named_base
wait-works names entities functions = refl

pub wait-keeps : (n : ℕ) → (func_walk wait_func (scope n)).faults ≡ []
wait-keeps n =
    ap (λ x. (waits_by x (walk (does 13 (simple.Expression (ex.Unary unary.Receive (name (codes "c"))))))
    (scope n)).faults) (w.write-Chan (ty.Named (codes "int"))
    ∙ ap (λ x. write_step (TF.Chan x)) (w.write-Named (codes "int")))
    ∙ ap (λ a. (waits_by chan_written a (scope n)).faults)
    (walk-Simple _ ∙ ap (acts 13) (e.judge-Unary unary.Receive (name (codes "c"))
    ∙ ap (λ j. judge_step (F.Unary unary.Receive j)) (e.judge-Name (codes "c"))))
    ∙ wait-works (all_entries n) (all_meant n) (signatures n (main_signature ∷ []))
