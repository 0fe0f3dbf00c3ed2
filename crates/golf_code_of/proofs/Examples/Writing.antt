-- How the small trees of the examples are written: each with its code, by the equations for its kind.
use Rattle.std.proofs.Common.{◌≡◌, ℕ, pos, neg_ℤ, true, false, List, [], ◌∷◌, map, Option, Some, None, refl, sym, ap}
use Rattle.std.proofs.Common.{◌∙◌}
use Rattle.std.specs.Prelude.{codes}
use Rattle.golf_syntax_trees.specs.declared.types.TypeExpr.{TypeExpr}
use Rattle.golf_syntax_trees.specs.declared.types.TypeExpr.TheVariants as ty
use Rattle.golf_syntax_trees.specs.declared.types.TypeExpr.TheOpen as TF
use Rattle.golf_syntax_trees.specs.declared.expressions.UnaryOperator.{UnaryOperator}
use Rattle.golf_syntax_trees.specs.declared.expressions.BinaryOperator.{BinaryOperator}
use Rattle.golf_syntax_trees.specs.declared.expressions.Expr.{Expr}
use Rattle.golf_syntax_trees.specs.declared.expressions.Element.{Element}
use Rattle.golf_syntax_trees.specs.declared.expressions.Expr.TheVariants as ex
use Rattle.golf_syntax_trees.specs.declared.expressions.Expr.TheOpen as F
use Rattle.golf_data.specs.declared.value.Value.{Value}
use Rattle.golf_data.specs.declared.code.Instr.{Instr}
use Rattle.golf_data.specs.declared.code.CodeLine.{CodeLine}
use Rattle.golf_check_types.specs.declared.types.Layer.{Layer}
use Rattle.golf_check_types.specs.declared.types.Layer.TheVariants as layer
use Rattle.golf_check_types.specs.declared.types.Base.{Base}
use Rattle.golf_check_types.specs.declared.types.Base.TheVariants as base
use Rattle.golf_check_types.specs.declared.types.GoType.{GoType}
use Rattle.golf_check_types.specs.declared.locals.Local.{Local}
use Rattle.golf_check_types.specs.declared.scopes.Entity.TheVariants as meant
use Rattle.golf_check_types.specs.declared.scopes.Member.TheVariants as members
use Rattle.golf_check_types.specs.declared.scopes.FileScope.{FileScope}
use Rattle.golf_check_types.specs.declared.scopes.Scope.{Scope}
use Rattle.golf_check_types.specs.Types.{with_layer}
use Rattle.golf_check_types.specs.Written.{WriteType, write, write_step}
use Rattle.golf_check_types.specs.Expressions as T
use Rattle.golf_check_types.specs.Judgments.{Judge, judge}
use Rattle.golf_code_layout.specs.Piece.{on, placed}
use Rattle.golf_code_of.specs.declared.tables.Tables.{Tables}
use Rattle.golf_code_of.specs.Expressions as C
use Rattle.golf_code_of.specs.ExpressionCode.{Coded, CodedPut, coded, coded_step, piece_at}
use Rattle.golf_code_of.specs.declared.surroundings.Around.{Around}
use Rattle.golf_code_of.proofs.ExprCodes as e
use Rattle.golf_code_of.proofs.TypeWrites as w
use Rattle.golf_code_of.proofs.Judgments.{agree}

-- What the examples know.

abbrev pub plain : Base → Option GoType
plain b = Some (record { layers = []; base = b })

abbrev pub layered : Layer → Base → Option GoType
layered x b = Some (record { layers = x ∷ []; base = b })

-- type T struct { n int; next *T }; func f(a int) int; func (t *T) m(a int); var g int; const k = -3; const s = "a"
abbrev pub file : FileScope
file = record {
  imports = record { fmt = true; runtime = true; sync = true };
  names = (codes "T", 0) ∷ (codes "f", 1) ∷ (codes "g", 2) ∷ (codes "k", 3) ∷ (codes "s", 4) ∷ [];
  entities = meant.Struct 0 ∷ meant.Function 0 ∷ meant.Global 0 ∷ meant.Constant 0 base.Int ∷ meant.Constant 1 base.Text
      ∷ [];
  structs = record {
    names = (codes "n", 0) ∷ (codes "next", 1) ∷ (codes "m", 2) ∷ [];
    kinds = members.Field 0
        ∷ members.Field 1 ∷ members.Method 1 ∷ [];
  } ∷ [];
  fields = (plain base.Int ∷ plain (base.Pointer 0) ∷ []) ∷ [];
  globals = plain base.Int ∷ [];
  functions = record { parameters = plain base.Int ∷ []; result = plain base.Int }
      ∷ record { parameters = plain base.Int ∷ []; result = None } ∷ [];
}

abbrev pub local : List ℕ → ℕ → Option GoType → Local
local n slot t = record { name = n; depth = 1; slot = slot; of_type = t }

-- c chan int, x []int, n int, b bool, t *T, mu *sync.Mutex, wg *sync.WaitGroup, rw *sync.RWMutex, q *sync.Cond, in the
-- slots 0 to 8
abbrev pub scope : Scope
scope = record {
  file = file;
  locals =
      local (codes "c") 0 (layered layer.Chan base.Int) ∷ local (codes "x") 1 (layered layer.Slice base.Int)
      ∷ local (codes "n") 2 (plain base.Int) ∷ local (codes "b") 3 (plain base.Bool)
      ∷ local (codes "t") 4 (plain (base.Pointer 0)) ∷ local (codes "mu") 5 (plain base.Mutex)
      ∷ local (codes "wg") 6 (plain base.Group) ∷ local (codes "rw") 7 (plain base.ReadWriteMutex)
      ∷ local (codes "q") 8 (plain base.Condition) ∷ [];
  depth = 1;
  result = plain base.Int;
  breaks = false;
  loops = false;
  next = 9;
  initialises = None;
}

abbrev pub tables : Tables
tables = record { texts = [] ∷ codes "a" ∷ codes "hi" ∷ []; constants = Value.Int (neg_ℤ (pos 3)) ∷ Value.Text 1 ∷ [] }

-- where three functions of a code stand before the next one that is made
abbrev pub outermost : Around
outermost = record { breaks = 0; continues = 0; functions = 3 }

-- Written types.

pub record WrittenType : Type 0 where
  pub tree : TypeExpr
  pub value : WriteType
  pub same : write tree ≡ value

abbrev pub named : List ℕ → WrittenType
named n = record { tree = ty.Named n; value = write_step (TF.Named n); same = w.write-Named n }

abbrev pub pointer : List ℕ → WrittenType
pointer n = record { tree = ty.Pointer n; value = write_step (TF.Pointer n); same = w.write-Pointer n }

abbrev pub slice_of : WrittenType → WrittenType
slice_of t = record {
  tree = ty.Slice t.tree;
  value = write_step (TF.Slice t.value);
  same = w.write-Slice t.tree
      ∙ ap (λ x. write_step (TF.Slice x)) t.same;
}

abbrev pub chan_of : WrittenType → WrittenType
chan_of t = record {
  tree = ty.Chan t.tree;
  value = write_step (TF.Chan t.value);
  same = w.write-Chan t.tree
      ∙ ap (λ x. write_step (TF.Chan x)) t.same;
}

abbrev pub send_chan_of : WrittenType → WrittenType
send_chan_of t = record {
  tree = ty.SendChan t.tree;
  value = write_step (TF.SendChan t.value);
  same = w.write-SendChan t.tree ∙ ap (λ x. write_step (TF.SendChan x)) t.same;
}

abbrev pub empty_struct : WrittenType
empty_struct = record { tree = ty.EmptyStruct; value = write_step TF.EmptyStruct; same = w.write-EmptyStruct }

-- Expressions.

pub record Sample : Type 0 where
  pub tree : Expr
  pub value : Coded
  pub same : coded tables tree ≡ value

abbrev pub trees : List Sample → List Expr
trees xs = map (λ x. x.tree) xs

abbrev pub values : List Sample → List Coded
values xs = map (λ x. x.value) xs

pub all-same : (xs : List Sample) → map (coded tables) (trees xs) ≡ values xs
all-same [] = refl
all-same (x ∷ xs) = ap (λ c. c ∷ map (coded tables) (trees xs)) x.same ∙ ap (λ cs. x.value ∷ cs) (all-same xs)

-- what it is, and its code
pub judged : (x : Sample) → judge x.tree ≡ x.value.judge
judged x = sym (agree tables x.tree) ∙ ap (λ (c : Coded). c.judge) x.same

pub known : {R : Type 0} (x : Sample) (f : Judge → Coded → R)
    → f (judge x.tree) (coded tables x.tree) ≡ f x.value.judge x.value
known x f = ap (λ j. f j (coded tables x.tree)) (judged x) ∙ ap (f x.value.judge) x.same

abbrev pub name : List ℕ → Sample
name n = record { tree = ex.Name n; value = coded_step tables (F.Name n); same = e.coded-Name tables n }

abbrev pub integer : List ℕ → Sample
integer n = record { tree = ex.Integer n; value = coded_step tables (F.Integer n); same = e.coded-Integer tables n }

abbrev pub text : List ℕ → Sample
text n = record { tree = ex.Text n; value = coded_step tables (F.Text n); same = e.coded-Text tables n }

abbrev pub unary : UnaryOperator → Sample → Sample
unary o x = record {
  tree = ex.Unary o x.tree;
  value = coded_step tables (F.Unary o x.value);
  same = e.coded-Unary tables o x.tree ∙ ap (λ c. coded_step tables (F.Unary o c)) x.same;
}

abbrev pub binary : BinaryOperator → Sample → Sample → Sample
binary o x y = record {
  tree = ex.Binary o x.tree y.tree;
  value = coded_step tables (F.Binary o x.value y.value);
  same = e.coded-Binary tables o x.tree y.tree
      ∙ (ap (λ c. coded_step tables (F.Binary o c (coded tables y.tree))) x.same
      ∙ ap (λ c. coded_step tables (F.Binary o x.value c)) y.same);
}

abbrev pub parens : Sample → Sample
parens x = record {
  tree = ex.Parens x.tree;
  value = coded_step tables (F.Parens x.value);
  same = e.coded-Parens tables x.tree ∙ ap (λ c. coded_step tables (F.Parens c)) x.same;
}

abbrev pub select : Sample → List ℕ → Sample
select x n = record {
  tree = ex.Selector x.tree n;
  value = coded_step tables (F.Selector x.value n);
  same = e.coded-Selector tables x.tree n ∙ ap (λ c. coded_step tables (F.Selector c n)) x.same;
}

abbrev pub index : Sample → Sample → Sample
index x y = record {
  tree = ex.Index x.tree y.tree;
  value = coded_step tables (F.Index x.value y.value);
  same = e.coded-Index tables x.tree y.tree
      ∙ (ap (λ c. coded_step tables (F.Index c (coded tables y.tree))) x.same
      ∙ ap (λ c. coded_step tables (F.Index x.value c)) y.same);
}

abbrev pub call : Sample → List Sample → Sample
call f xs = record {
  tree = ex.Call f.tree (trees xs);
  value = coded_step tables (F.Call f.value (values xs));
  same = e.coded-Call tables f.tree (trees xs)
      ∙ (ap (λ c. coded_step tables (F.Call c (map (coded tables) (trees xs)))) f.same
      ∙ ap (λ cs. coded_step tables (F.Call f.value cs)) (all-same xs));
}

-- `f: e`
pub record Put : Type 0 where
  pub field : List ℕ
  pub value : Sample

abbrev pub elements : List Put → List Element
elements xs = map (λ x. record { field = x.field; value = x.value.tree }) xs

abbrev pub puts : List Put → List CodedPut
puts xs = map (λ x. record { name = x.field; value = x.value.value }) xs

pub put : List ℕ → Coded → CodedPut
put n c = record { name = n; value = c }

pub puts-same : (xs : List Put) → map (e.coded_put tables) (elements xs) ≡ puts xs
unfolding put
puts-same [] = refl
puts-same (x ∷ xs) = ap (λ c. put x.field c ∷ map (e.coded_put tables) (elements xs)) x.value.same
    ∙ ap (λ ps. put x.field x.value.value ∷ ps) (puts-same xs)

abbrev pub struct_literal : List ℕ → List Put → Sample
struct_literal n xs = record {
  tree = ex.StructLiteral n (elements xs);
  value = coded_step tables (F.StructLiteral n (puts xs));
  same = e.coded-StructLiteral tables n (elements xs)
      ∙ ap (λ ps. coded_step tables (F.StructLiteral n ps)) (puts-same xs);
}

abbrev pub sync_literal : List ℕ → Sample
sync_literal n = record {
  tree = ex.SyncLiteral n;
  value = coded_step tables (F.SyncLiteral n);
  same = e.coded-SyncLiteral tables n;
}

abbrev pub new : List ℕ → Sample
new n = record { tree = ex.New n; value = coded_step tables (F.New n); same = e.coded-New tables n }

abbrev pub new_sync : List ℕ → Sample
new_sync n = record { tree = ex.NewSync n; value = coded_step tables (F.NewSync n); same = e.coded-NewSync tables n }

abbrev pub empty_literal : Sample
empty_literal = record {
  tree = ex.EmptyLiteral;
  value = coded_step tables F.EmptyLiteral;
  same = e.coded-EmptyLiteral tables;
}

-- if a written type is known
abbrev pub slice_code : WriteType → List Coded → Coded
slice_code x cs = record {
  judge = λ l s. T.slice_literal l (x l s) (with_layer layer.Slice (x l s).type)
      (map (λ j. j l s) (map (λ (c : Coded). c.judge) cs));
  code = λ l s. C.slice_literal l (with_layer layer.Slice (x l s).type) (map (λ (c : Coded). (c.code l s).piece) cs);
}

abbrev pub make_code : WriteType → Coded
make_code x = record { judge = λ l s. T.made l (x l s); code = λ l s. C.made l (x l s).type }

abbrev pub sized_code : WriteType → Coded → Coded
sized_code x c = record {
  judge = λ l s. T.made_sized l (x l s) (c.judge l s);
  code = λ l s. C.made_sized l (x l s).type (c.code l s).piece;
}

abbrev pub slice_literal : WrittenType → List Sample → Sample
slice_literal t xs = record {
  tree = ex.SliceLiteral t.tree (trees xs);
  value = slice_code t.value (values xs);
  same = e.coded-SliceLiteral tables t.tree (trees xs)
      ∙ (ap (λ x. slice_code x (map (coded tables) (trees xs))) t.same ∙ ap (slice_code t.value) (all-same xs));
}

abbrev pub make : WrittenType → Sample
make t = record {
  tree = ex.Make t.tree;
  value = make_code t.value;
  same = e.coded-Make tables t.tree
      ∙ ap (λ x. make_code x) t.same;
}

abbrev pub make_sized : WrittenType → Sample → Sample
make_sized t x = record {
  tree = ex.MakeSized t.tree x.tree;
  value = sized_code t.value x.value;
  same = e.coded-MakeSized tables t.tree x.tree
      ∙ (ap (λ y. sized_code y (coded tables x.tree)) t.same ∙ ap (λ c. sized_code t.value c) x.same);
}

-- The code of an expression on line 1, from place 0 on, and that code worked out.

abbrev pub pushed : Sample → List CodeLine
pushed x = placed (piece_at tables 1 scope x.tree) 0 []

pub works_out : (x : Sample) → pushed x ≡ placed (x.value.code 1 scope).piece 0 []
works_out x = ap (λ (c : Coded). placed (c.code 1 scope).piece 0 []) x.same

-- instructions on a line, and more
abbrev pub line : ℕ → List Instr → List CodeLine → List CodeLine
line l [] rest = rest
line l (i ∷ is) rest = on i l ∷ line l is rest

-- instructions on line 1
abbrev pub alone : List Instr → List CodeLine
alone is = line 1 is []
