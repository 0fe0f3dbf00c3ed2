-- A part breaks no rule, whatever stands after the three declarations above all parts.
-- For: `part_func` (golf_command_sample_accepted/specs/Trees.antt)
-- By: computing, expression by expression and statement by statement; no induction
use Rattle.std.proofs.Common.{◌≡◌, ℕ, ◌+◌, true, false, not, ◌&&◌, refl, sym, ap, ◌∙◌, List, [], ◌∷◌, ◌++◌, map, codes}
use Rattle.std.specs.Prelude.{Option, Some, None}
use Rattle.golf_syntax_trees.specs.declared.types.TypeExpr.TheVariants as ty
use Rattle.golf_syntax_trees.specs.declared.types.TypeExpr.TheOpen as TF
use Rattle.golf_syntax_trees.specs.declared.expressions.BinaryOperator.TheVariants as binary
use Rattle.golf_syntax_trees.specs.declared.expressions.Expr.{Expr}
use Rattle.golf_syntax_trees.specs.declared.expressions.Expr.TheVariants as ex
use Rattle.golf_syntax_trees.specs.declared.expressions.Expr.TheOpen as F
use Rattle.golf_syntax_trees.specs.declared.statements.Simple.{Simple}
use Rattle.golf_syntax_trees.specs.declared.statements.Stmt.{Stmt}
use Rattle.golf_syntax_trees.specs.declared.statements.Stmt.TheVariants as st
use Rattle.golf_syntax_trees.specs.declared.statements.Clause.TheOpen as SF
use Rattle.golf_syntax_trees.specs.declared.statements.Clause.TheFolds.{fold-roll-Stmt}
use Rattle.golf_check_types.specs.declared.types.Layer.TheVariants as layer
use Rattle.golf_check_types.specs.declared.types.Base.TheVariants as base
use Rattle.golf_check_types.specs.declared.operands.Signature.{Signature}
use Rattle.golf_check_types.specs.declared.scopes.Entity.{Entity}
use Rattle.golf_check_types.specs.declared.scopes.Entity.TheVariants as meant
use Rattle.golf_check_types.specs.declared.scopes.Member.TheVariants as members
use Rattle.golf_check_types.specs.declared.scopes.FileScope.{FileScope}
use Rattle.golf_check_types.specs.declared.scopes.Scope.{Scope}
use Rattle.golf_check_types.specs.Facts.{new_target}
use Rattle.golf_check_types.specs.Faults.{broken}
use Rattle.golf_check_types.specs.Types.{has_base, type_given, is_nil}
use Rattle.golf_check_types.specs.Names.{Table, is_blank}
use Rattle.golf_check_types.specs.Scopes.{meaning, type_name, value_name, call_name, package_name, member, is_here}
use Rattle.golf_check_types.specs.Scopes.{is_reserved, may_be_declared}
use Rattle.golf_check_types.specs.Written.{WriteType, write_step, named_base, made_base, sync_base}
use Rattle.golf_check_types.specs.Expressions.{used, given_by, facts_of, made, field_type, fits_int}
use Rattle.golf_check_types.specs.Calls.{call_judged}
use Rattle.golf_check_types.specs.Judgments.{Judge, judge, judge_step}
use Rattle.golf_check_types.specs.Statements as W
use Rattle.golf_check_types.specs.Statements.{Walk, Walked, walk, clause_step, stmt_step}
use Rattle.golf_check_types.specs.Files.{parts_walk, head_scope, func_walk, outside}
use Rattle.golf_code_of.proofs.JudgeEquations as e
use Rattle.golf_code_of.proofs.TypeWrites as w
use Rattle.golf_command_sample_accepted.specs.Trees.{name, element, makes, waits, keeps, is_even, part_func}

-- Walks, as equations.

pub walk-Simple : (x : Simple) → walk (st.Simple x) ≡ stmt_step (SF.Simple x)
unfolding walk
walk-Simple x = ap walk (sym (st.rolls-Simple x)) ∙ fold-roll-Stmt (ℕ → Walk) Walk clause_step stmt_step (SF.Simple x)

pub walk-Go : (l : ℕ) (f : Expr) (xs : List Expr) → walk (st.Go l f xs) ≡ stmt_step (SF.Go l f xs)
unfolding walk
walk-Go l f xs = ap walk (sym (st.rolls-Go l f xs))
    ∙ fold-roll-Stmt (ℕ → Walk) Walk clause_step stmt_step (SF.Go l f xs)

pub walk-If : (l : ℕ) (first : Option Simple) (test : Expr) (body : List Stmt)
    → walk (st.If l first test body) ≡ stmt_step (SF.If l first test (map walk body))
unfolding walk
walk-If l first test body = ap walk (sym (st.rolls-If l first test body))
    ∙ fold-roll-Stmt (ℕ → Walk) Walk clause_step stmt_step (SF.If l first test body)

-- The same, worked out.

abbrev pub named : List ℕ → Judge
named n = judge_step (F.Name n)

abbrev pub digits : List ℕ → Judge
digits n = judge_step (F.Integer n)

abbrev pub int_written : WriteType
int_written = write_step (TF.Named (codes "int"))

abbrev pub made_by : WriteType → Judge
made_by x l s = made l (x l s)

abbrev pub defines : ℕ → List ℕ → Judge → Walk
defines l n j s = W.declares_one s n (type_given (given_by (j l s)))
    (used l (j l s) ++ (broken l 2 (not (is_blank n) && not (is_reserved n))
    ++ (broken l 23 (not (is_nil (given_by (j l s)))) ++ broken l 24 (not (is_here s n)))))
    (facts_of (j l s) ++ new_target s (type_given (given_by (j l s))) ∷ [])

abbrev begins : ℕ → Judge → Judge → Walk
begins l j m s = W.judges
    ((call_judged l s (j l s) (m l s ∷ [])).faults
    ++ (W.done_faults l (call_judged l s (j l s) (m l s ∷ [])).meaning
    ++ broken l 12 (W.may_be_begun (j l s).meaning)))
    (call_judged l s (j l s) (m l s ∷ [])).inner

abbrev assigns : ℕ → Judge → Judge → Walk
assigns l j m s = W.judges
    ((j l s).faults ++ (W.left_faults l (j l s).meaning
    ++ (used l (m l s) ++ W.assign_faults l (j l s).meaning (given_by (m l s)))))
    (facts_of (j l s) ++ facts_of (m l s))

abbrev tests : ℕ → Judge → List Walk → Walk
tests l j body = W.in_block (W.then (W.optional None)
    (λ s. W.both (W.judges (used l (j l s) ++ broken l 8 (has_base base.Bool (given_by (j l s)))) (facts_of (j l s)))
    (W.block body s)))

abbrev node_by : Judge → Judge → Judge
node_by j m = judge_step (F.StructLiteral (codes "Node")
    (record { name = codes "c"; judge = j } ∷ record { name = codes "next"; judge = m } ∷ []))

abbrev node : Judge
node = node_by (named (codes "c")) (named (codes "root"))

abbrev even : Judge
even = judge_step (F.Binary binary.Equal
    (judge_step (F.Binary binary.Remainder (named (codes "n")) (digits (codes "2")))) (digits (codes "0")))

abbrev chan_made : Judge
chan_made = made_by (write_step (TF.Chan int_written))

walk-makes : (l : ℕ) → walk (makes l) ≡ defines l (codes "c") chan_made
walk-makes l =
    walk-Simple _
    ∙ ap (defines l (codes "c")) (e.judge-Make (ty.Chan (ty.Named (codes "int")))
    ∙ ap (λ x. made_by x) (w.write-Chan (ty.Named (codes "int"))
    ∙ ap (λ x. write_step (TF.Chan x)) (w.write-Named (codes "int"))))

walk-waits : (l : ℕ) → walk (waits l) ≡ begins l (named (codes "wait")) (named (codes "c"))
walk-waits l =
    walk-Go l (name (codes "wait")) (name (codes "c") ∷ [])
    ∙ ap (λ j. begins l j (judge (name (codes "c")))) (e.judge-Name (codes "wait"))
    ∙ ap (begins l (named (codes "wait"))) (e.judge-Name (codes "c"))

judge-node : judge (ex.StructLiteral (codes "Node")
    (element (codes "c") (name (codes "c")) ∷ element (codes "next") (name (codes "root")) ∷ [])) ≡ node
judge-node =
    e.judge-StructLiteral (codes "Node") (element (codes "c") (name (codes "c"))
    ∷ element (codes "next") (name (codes "root")) ∷ [])
    ∙ ap (λ j. node_by j (judge (name (codes "root")))) (e.judge-Name (codes "c"))
    ∙ ap (node_by (named (codes "c"))) (e.judge-Name (codes "root"))

walk-keeps : (l : ℕ) → walk (keeps l) ≡ assigns l (named (codes "root")) node
walk-keeps l =
    walk-Simple _
    ∙ ap (λ j. assigns l j (judge (ex.StructLiteral (codes "Node")
    (element (codes "c") (name (codes "c")) ∷ element (codes "next") (name (codes "root")) ∷ []))))
    (e.judge-Name (codes "root"))
    ∙ ap (assigns l (named (codes "root"))) judge-node

judge-even : judge is_even ≡ even
judge-even =
    e.judge-Binary binary.Equal (ex.Binary binary.Remainder (name (codes "n")) (ex.Integer (codes "2")))
    (ex.Integer (codes "0"))
    ∙ ap (λ j. judge_step (F.Binary binary.Equal j (judge (ex.Integer (codes "0")))))
    (e.judge-Binary binary.Remainder (name (codes "n")) (ex.Integer (codes "2"))
    ∙ ap (λ j. judge_step (F.Binary binary.Remainder j (judge (ex.Integer (codes "2"))))) (e.judge-Name (codes "n"))
    ∙ ap (λ j. judge_step (F.Binary binary.Remainder (named (codes "n")) j)) (e.judge-Integer (codes "2")))
    ∙ ap (λ j. judge_step (F.Binary binary.Equal
    (judge_step (F.Binary binary.Remainder (named (codes "n")) (digits (codes "2")))) j))
    (e.judge-Integer (codes "0"))

walk-test : (l m : ℕ) → walk (st.If l None is_even (keeps m ∷ [])) ≡ tests l even
    (assigns m (named (codes "root")) node ∷ [])
walk-test l m =
    walk-If l None is_even (keeps m ∷ [])
    ∙ ap (λ j. tests l j (walk (keeps m) ∷ [])) judge-even
    ∙ ap (λ x. tests l even (x ∷ [])) (walk-keeps m)

-- what is known of a file's scope
abbrev pub known : Table → List Entity → List Signature → FileScope
known names entities functions = record {
  imports = record { fmt = false; runtime = true; sync = false };
  names = (codes "Node", 0) ∷ (codes "root", 1) ∷ (codes "wait", 2) ∷ names;
  entities = meant.Struct 0 ∷ meant.Global 0 ∷ meant.Function 0 ∷ entities;
  structs = record { names = (codes "c", 0) ∷ (codes "next", 1) ∷ []; kinds = members.Field 0 ∷ members.Field 1 ∷ [] }
      ∷ [];
  fields = (Some (record { layers = layer.Chan ∷ []; base = base.Int })
      ∷ Some (record { layers = []; base = base.Pointer 0 }) ∷ []) ∷ [];
  globals = Some (record { layers = []; base = base.Pointer 0 }) ∷ [];
  functions = record { parameters = Some (record { layers = layer.Chan ∷ []; base = base.Int }) ∷ []; result = None }
      ∷ functions;
}

-- the walk of a function with one parameter and this body
abbrev walked_by : ℕ → WriteType → List Walk → Walk
walked_by l x body s = W.in_order
    ((λ t. W.nothing) ∷ W.in_order ((λ t. W.declares_one t (codes "n") (x 0 s).type
    (broken l 2 (may_be_declared t (codes "n"))) []) ∷ []) ∷ W.in_order body ∷ (λ t. W.breaks []) ∷ [])
    (record s { result = None })

abbrev part_body_walks : ℕ → List Walk
part_body_walks l = defines (l + 1) (codes "c") chan_made
    ∷ begins (l + 1 + 1) (named (codes "wait")) (named (codes "c"))
    ∷ tests (l + 1 + 1 + 1) even (assigns (l + 1 + 1 + 1 + 1) (named (codes "root")) node ∷ []) ∷ []

walk-part : (k l : ℕ) (s : Scope) → parts_walk (part_func k l) s (head_scope s (part_func k l))
    ≡ walked_by l int_written (part_body_walks l) s
walk-part k l s =
    ap (λ x. walked_by l x (walk (makes (l + 1)) ∷ walk (waits (l + 1 + 1))
    ∷ walk (st.If (l + 1 + 1 + 1) None is_even (keeps (l + 1 + 1 + 1 + 1) ∷ [])) ∷ []) s)
    (w.write-Named (codes "int"))
    ∙ ap (λ a. walked_by l int_written (a ∷ walk (waits (l + 1 + 1))
    ∷ walk (st.If (l + 1 + 1 + 1) None is_even (keeps (l + 1 + 1 + 1 + 1) ∷ [])) ∷ []) s) (walk-makes (l + 1))
    ∙ ap (λ a. walked_by l int_written (defines (l + 1) (codes "c") chan_made ∷ a
    ∷ walk (st.If (l + 1 + 1 + 1) None is_even (keeps (l + 1 + 1 + 1 + 1) ∷ [])) ∷ []) s) (walk-waits (l + 1 + 1))
    ∙ ap (λ a. walked_by l int_written (defines (l + 1) (codes "c") chan_made
    ∷ begins (l + 1 + 1) (named (codes "wait")) (named (codes "c")) ∷ a ∷ []) s)
    (walk-test (l + 1 + 1 + 1) (l + 1 + 1 + 1 + 1))

part-works : (l : ℕ) (names : Table) (entities : List Entity) (functions : List Signature)
    → (walked_by l int_written (part_body_walks l) (outside (known names entities functions))).faults ≡ []
unfolding meaning type_name value_name call_name package_name member is_here is_reserved may_be_declared named_base
    made_base sync_base field_type fits_int
part-works l names entities functions = refl

pub part-keeps : (k l : ℕ) (names : Table) (entities : List Entity) (functions : List Signature)
    → (func_walk (part_func k l) (outside (known names entities functions))).faults ≡ []
part-keeps k l names entities functions =
    ap (λ (x : Walked). x.faults) (walk-part k l (outside (known names entities functions)))
    ∙ part-works l names entities functions
