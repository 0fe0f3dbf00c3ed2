-- Whole functions and methods, and those of a file by their numbers, against what was worked out by hand.
-- For: `Meaning`, specs/Functions.antt; `MeaningOf`, specs/Files.antt
-- By: computing; for types of parameters, induction over the list of parameters
use Rattle.std.specs.Prelude.{◌≡◌, ℕ, true, false, List, [], ◌∷◌, ◌++◌, Option, Some, None, map, flat_map, codes}
use Rattle.std.proofs.Common.{refl, ap, ◌∙◌}
use Rattle.golf_syntax_trees.specs.declared.types.TypeExpr.{TypeExpr}
use Rattle.golf_syntax_trees.specs.declared.expressions.BinaryOperator.TheVariants as binary
use Rattle.golf_syntax_trees.specs.declared.statements.UpdateOperator.TheVariants as update
use Rattle.golf_syntax_trees.specs.declared.statements.RangeNames.TheVariants as range
use Rattle.golf_syntax_trees.specs.declared.declarations.Receiver.{Receiver}
use Rattle.golf_syntax_trees.specs.declared.declarations.Field.{Field}
use Rattle.golf_syntax_trees.specs.declared.declarations.Func.{Func}
use Rattle.golf_syntax_trees.specs.declared.declarations.Decl.TheVariants as d
use Rattle.golf_syntax_trees.specs.declared.declarations.File.{File}
use Rattle.golf_data.specs.declared.value.Value.{Value}
use Rattle.golf_data.specs.declared.code.Instr.{Instr}
use Rattle.golf_check_types.specs.declared.types.GoType.{GoType}
use Rattle.golf_check_types.specs.declared.scopes.Scope.{Scope}
use Rattle.golf_check_types.specs.Statements as V
use Rattle.golf_check_types.specs.Statements.{behind}
use Rattle.golf_check_types.specs.Files.{outside, result_type, all_typed_names, receiver_walk, parameter_walk}
use Rattle.golf_code_of.proofs.Examples.Writing as w
use Rattle.golf_code_of.proofs.Examples.Writing.{WrittenType, file, tables}
use Rattle.golf_meaning_flat.specs.Worlds.{Answer, Misfit, Halt, End, Told}
use Rattle.golf_meaning_statements.specs.Steps.{Step, in_order}
use Rattle.golf_meaning_statements.specs.Statements.{step}
use Rattle.golf_meaning_statements.specs.Functions.{named, begins, told_by, Meaning}
use Rattle.golf_meaning_statements.specs.Files.{all_functions, MeaningOf}
use Rattle.golf_meaning_statements.proofs.OnLiterals.{on_literals}
use Rattle.golf_meaning_statements.proofs.Samples as s
use Rattle.golf_meaning_statements.proofs.Samples.{strictly, Sample, StmtSample, trees, values, all-same, name, integer}
use Rattle.golf_meaning_statements.proofs.Samples.{binary_of, does, returns}
use Rattle.golf_meaning_statements.proofs.Bodies.{ref, int, shown, answer, ends, gives}
use Rattle.golf_meaning_statements.proofs.BodiesOfCalls.{t}

-- How a function is written: with what its types are and its statements mean.

-- names that share a type
pub record FieldSample : Type 0 where
  pub first : List ℕ
  pub more : List (List ℕ)
  pub of_type : WrittenType

abbrev fields : List FieldSample → List Field
fields xs = map (λ (x : FieldSample). record { first = x.first; more = x.more; of_type = x.of_type.tree }) xs

-- each name with its type
abbrev with_type : List (List ℕ) → Option GoType → List (List ℕ × Option GoType)
with_type ns t = map (λ (n : List ℕ). (n, t)) ns

abbrev typed : List FieldSample → List (List ℕ × Option GoType)
typed xs = flat_map (λ (x : FieldSample). with_type (x.first ∷ x.more) (x.of_type.value 0 (outside file)).type) xs

typed-same : (xs : List FieldSample) → all_typed_names (outside file) (fields xs) ≡ typed xs
typed-same [] = refl
typed-same (x ∷ xs) =
    ap (λ y. with_type (x.first ∷ x.more) (y 0 (outside file)).type ++ all_typed_names (outside file) (fields xs))
    x.of_type.same
    ∙ ap (λ ys. with_type (x.first ∷ x.more) (x.of_type.value 0 (outside file)).type ++ ys) (typed-same xs)

abbrev result_tree : Option WrittenType → Option TypeExpr
result_tree None = None
result_tree (Some t) = Some t.tree

abbrev result_of : Option WrittenType → Option GoType
result_of None = None
result_of (Some t) = (t.value 0 (outside file)).type

result-same : (r : Option WrittenType) → result_type (outside file) (result_tree r) ≡ result_of r
result-same None = refl
result-same (Some t) = ap (λ y. (y 0 (outside file)).type) t.same

pub record FuncSample : Type 0 where
  pub receiver : Option Receiver
  pub name : List ℕ
  pub parameters : List FieldSample
  pub result : Option WrittenType
  pub body : List StmtSample

abbrev func : FuncSample → Func
func x = record {
  line = 1;
  receiver = x.receiver;
  name = x.name;
  parameters = fields x.parameters;
  result = result_tree x.result;
  body = trees x.body;
}

-- the scope of a body, from its receiver, the type of its result, and its parameters with their types
abbrev scope_of : Option Receiver → Option GoType → List (List ℕ × Option GoType) → Scope
scope_of r t ps =
    let s = record (outside file) { result = t } in
    let u = behind s (receiver_walk 1 (outside file) r s) in
    behind u (V.in_order (map (parameter_walk 1) ps) u)

abbrev told_of : Option Receiver → Option GoType → List (List ℕ × Option GoType) → List Step → List Value → List Answer
    → ℕ → Told
told_of r t ps xs arguments answers n =
    told_by t (in_order xs (record { breaks = 0; continues = 0; functions = 3 }) (scope_of r t ps) n
    (named (scope_of r t ps).locals arguments) (begins answers))

-- a function of the file, with three functions before the first one that is made
abbrev means : FuncSample → List Value → List Answer → ℕ → Told
means x arguments answers n = Meaning strictly tables (outside file) 3 (func x) arguments answers n

pub record Tells (x : FuncSample) (arguments : List Value) (answers : List Answer) (n : ℕ) (t : Told) : Type 0 where
  is : means x arguments answers n ≡ t

works_out : {x : FuncSample} {arguments : List Value} {answers : List Answer} {n : ℕ} {t : Told}
    → told_of x.receiver (result_of x.result) (typed x.parameters) (values x.body) arguments answers n ≡ t
    → Tells x arguments answers n t
works_out {x} {arguments} {answers} {n} e = record {
  is =
      ap (λ t. told_of x.receiver t (all_typed_names (outside file) (fields x.parameters))
      (map (step strictly tables) (trees x.body)) arguments answers n) (result-same x.result)
      ∙ ap (λ ps. told_of x.receiver (result_of x.result) ps
      (map (step strictly tables) (trees x.body)) arguments answers n) (typed-same x.parameters)
      ∙ ap (λ ys. told_of x.receiver (result_of x.result) (typed x.parameters) ys arguments answers n)
      (all-same x.body)
      ∙ e;
}

abbrev k : Sample
k = name (codes "k")

abbrev a : Sample
a = name (codes "a")

-- func add(d chan int, k, m int) int { for v := range d { k += v * m }; return k }
abbrev add : FuncSample
add = record {
  receiver = None;
  name = codes "add";
  parameters = record { first = codes "d"; more = []; of_type = w.chan_of (w.named (codes "int")) }
      ∷ record { first = codes "k"; more = codes "m" ∷ []; of_type = w.named (codes "int") } ∷ [];
  result = Some (w.named (codes "int"));
  body =
      s.ranges_over (range.One (codes "v")) (name (codes "d"))
      (does (s.update_by update.Add k (binary_of binary.Multiply (name (codes "v")) (name (codes "m")))) ∷ [])
      ∷ returns k
      ∷ [];
}

abbrev received : Value → Value → Answer
received v ok = answer (v ∷ ok ∷ [])

-- two values and then no more: 1 + 2 * 10 + 3 * 10, with two turns and the one that ends the loop
pub adds : Tells add (ref 0 ∷ int 1 ∷ int 10 ∷ [])
    (received (int 2) (Value.Bool true) ∷ received (int 3) (Value.Bool true) ∷ received (int 0) (Value.Bool false) ∷ [])
    3 (gives (shown Instr.ReceiveOk (ref 0 ∷ []) ∷ shown Instr.ReceiveOk (ref 0 ∷ [])
    ∷ shown Instr.ReceiveOk (ref 0 ∷ []) ∷ []) (int 51))
unfolding on_literals
adds = works_out refl

-- the same with two turns: it is short
pub adds_too_often : Tells add (ref 0 ∷ int 1 ∷ int 10 ∷ [])
    (received (int 2) (Value.Bool true) ∷ received (int 3) (Value.Bool true) ∷ received (int 0) (Value.Bool false) ∷ [])
    2 (ends (shown Instr.ReceiveOk (ref 0 ∷ []) ∷ shown Instr.ReceiveOk (ref 0 ∷ []) ∷ []) End.Short)
unfolding on_literals
adds_too_often = works_out refl

-- func (t *T) m(a int) { t.n += a; if a < 1 { return }; defer t.m(a - 1) }
abbrev down : FuncSample
down = record {
  receiver = Some (record { name = codes "t"; type_name = codes "T" });
  name = codes "m";
  parameters = record { first = codes "a"; more = []; of_type = w.named (codes "int") } ∷ [];
  result = None;
  body =
      does (s.update_by update.Add (s.dot t (codes "n")) a)
      ∷ s.if_then (binary_of binary.Less a (integer (codes "1"))) (s.returns_nothing ∷ [])
      ∷ s.defer (s.dot t (codes "m")) (binary_of binary.Subtract a (integer (codes "1")))
      ∷ [];
}

-- the receiver is the first argument, and nothing is given
pub defers_itself : Tells down (ref 4 ∷ int 3 ∷ []) (answer (int 10 ∷ []) ∷ answer [] ∷ answer [] ∷ []) 0
    (ends (shown (Instr.Field 0) (ref 4 ∷ []) ∷ shown (Instr.SetField 0) (ref 4 ∷ int 13 ∷ [])
    ∷ shown (Instr.Defer 2 2) (ref 4 ∷ int 2 ∷ []) ∷ []) (End.Halts (Halt.Returned None)))
unfolding on_literals
defers_itself = works_out refl

pub defers_no_more : Tells down (ref 4 ∷ int 0 ∷ []) (answer (int 10 ∷ []) ∷ answer [] ∷ []) 0
    (ends (shown (Instr.Field 0) (ref 4 ∷ []) ∷ shown (Instr.SetField 0) (ref 4 ∷ int 10 ∷ []) ∷ [])
    (End.Halts (Halt.Returned None)))
unfolding on_literals
defers_no_more = works_out refl

-- package main
-- func helper() { }
-- type T struct { }
-- func main() { }
abbrev two : File
two = record {
  imports = [];
  declarations =
      d.Func (record { line = 2; receiver = None; name = codes "helper"; parameters = []; result = None; body = [] })
      ∷ d.Struct 3 (codes "T") []
      ∷ d.Func (record { line = 4; receiver = None; name = codes "main"; parameters = []; result = None; body = [] })
      ∷ [];
}

-- the functions have the numbers 1 and 2; function 0 calls `main`, and no others are there
pub first_of_two : MeaningOf two 1 [] [] 0 ≡ ends [] (End.Halts (Halt.Returned None))
first_of_two = refl

pub second_of_two : MeaningOf two 2 [] [] 0 ≡ ends [] (End.Halts (Halt.Returned None))
second_of_two = refl

pub zeroth_of_two : MeaningOf two 0 [] (answer [] ∷ []) 0
    ≡ ends (shown (Instr.Call 2 0) [] ∷ []) (End.Halts (Halt.Returned None))
zeroth_of_two = refl

pub third_of_two : MeaningOf two 3 [] [] 0 ≡ ends [] (End.Halts (Halt.Unfit Misfit.OfRule))
third_of_two = refl

pub functions_of_two : all_functions two ≡ 3
functions_of_two = refl
