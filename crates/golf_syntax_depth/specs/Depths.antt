-- How deep trees are, counted over all parts except for left operands and the `else` of an `if`, which loops follow.
use Rattle.std.specs.Prelude.{ℕ, ◌+◌, max, List, [], ◌∷◌, map, Option, Some, None}
use Rattle.golf_syntax_trees.specs.declared.types.TypeExpr.{TypeExpr}
use Rattle.golf_syntax_trees.specs.declared.types.TypeExpr.TheOpen.{TypeExpr-F, Named, Pointer, SyncPointer, Slice}
use Rattle.golf_syntax_trees.specs.declared.types.TypeExpr.TheOpen.{Chan, SendChan, ReceiveChan, EmptyStruct}
use Rattle.golf_syntax_trees.specs.declared.types.TypeExpr.TheFolds.{fold-TypeExpr}
use Rattle.golf_syntax_trees.specs.declared.expressions.Expr.{Expr}
use Rattle.golf_syntax_trees.specs.declared.expressions.Expr.TheOpen.{Expr-F, Element-F, Integer, Text, Name, Parens}
use Rattle.golf_syntax_trees.specs.declared.expressions.Expr.TheOpen.{StructLiteral, SyncLiteral, SliceLiteral}
use Rattle.golf_syntax_trees.specs.declared.expressions.Expr.TheOpen.{EmptyLiteral, Make, MakeSized, New, NewSync}
use Rattle.golf_syntax_trees.specs.declared.expressions.Expr.TheOpen.{Selector, Index, Call, Unary, Binary}
use Rattle.golf_syntax_trees.specs.declared.expressions.Expr.TheFolds.{fold-Expr}
use Rattle.golf_syntax_trees.specs.declared.statements.Simple.{Simple}
use Rattle.golf_syntax_trees.specs.declared.statements.SimpleKind.{SimpleKind}
use Rattle.golf_syntax_trees.specs.declared.statements.SimpleKind.TheVariants as s
use Rattle.golf_syntax_trees.specs.declared.statements.VarContent.{VarContent}
use Rattle.golf_syntax_trees.specs.declared.statements.VarContent.TheVariants as content
use Rattle.golf_syntax_trees.specs.declared.statements.Header.{Header}
use Rattle.golf_syntax_trees.specs.declared.statements.Header.TheVariants as headers
use Rattle.golf_syntax_trees.specs.declared.statements.Communication.{Communication}
use Rattle.golf_syntax_trees.specs.declared.statements.Communication.TheVariants as comm
use Rattle.golf_syntax_trees.specs.declared.statements.Stmt.{Stmt}
use Rattle.golf_syntax_trees.specs.declared.statements.Clause.TheOpen.{Stmt-F, Clause-F, Var, Simple as SimpleStmt, Go}
use Rattle.golf_syntax_trees.specs.declared.statements.Clause.TheOpen.{Defer, Return, Break, Continue, Block, If}
use Rattle.golf_syntax_trees.specs.declared.statements.Clause.TheOpen.{IfElse, For, Select, Case, Default}
use Rattle.golf_syntax_trees.specs.declared.statements.Clause.TheFolds.{fold-Stmt}
use Rattle.golf_syntax_trees.specs.declared.declarations.Field.{Field}
use Rattle.golf_syntax_trees.specs.declared.declarations.Func.{Func}
use Rattle.golf_syntax_trees.specs.declared.declarations.Decl.{Decl}
use Rattle.golf_syntax_trees.specs.declared.declarations.Decl.TheVariants as d
use Rattle.golf_syntax_trees.specs.declared.declarations.File.{File}

-- the largest of these numbers, or 0 if there are none
abbrev pub largest : List ℕ → ℕ
largest [] = 0
largest (n ∷ ns) = max n (largest ns)

abbrev pub of_option : {A : Type 0} → (A → ℕ) → Option A → ℕ
of_option depth None = 0
of_option depth (Some x) = depth x

abbrev pub type_depth_step : TypeExpr-F ℕ → ℕ
type_depth_step (Named n) = 1
type_depth_step (Pointer n) = 1
type_depth_step (SyncPointer n) = 1
type_depth_step (Slice t) = 1 + t
type_depth_step (Chan t) = 1 + t
type_depth_step (SendChan t) = 1 + t
type_depth_step (ReceiveChan t) = 1 + t
type_depth_step EmptyStruct = 1

abbrev pub type_depth : TypeExpr → ℕ
type_depth = fold-TypeExpr ℕ type_depth_step

-- One more than the deepest part; a left operand counts without the one.
abbrev pub depth_step : Expr-F ℕ ℕ → ℕ
depth_step (Integer digits) = 1
depth_step (Text bytes) = 1
depth_step (Name n) = 1
depth_step (Parens e) = 1 + e
depth_step (StructLiteral n elements) = 1 + largest elements
depth_step (SyncLiteral n) = 1
depth_step (SliceLiteral t items) = 1 + max (type_depth t) (largest items)
depth_step EmptyLiteral = 1
depth_step (Make t) = 1 + type_depth t
depth_step (MakeSized t e) = 1 + max (type_depth t) e
depth_step (New n) = 1
depth_step (NewSync n) = 1
depth_step (Selector e n) = e
depth_step (Index e i) = max e (1 + i)
depth_step (Call f arguments) = max f (1 + largest arguments)
depth_step (Unary o e) = 1 + e
depth_step (Binary o a b) = max a (1 + b)

abbrev pub element_depth_step : Element-F ℕ ℕ → ℕ
element_depth_step x = x.value

abbrev pub depth : Expr → ℕ
depth = fold-Expr ℕ ℕ depth_step element_depth_step

abbrev pub kind_depth : SimpleKind → ℕ
kind_depth (s.Expression e) = depth e
kind_depth (s.Send c v) = max (depth c) (depth v)
kind_depth (s.Increment e) = depth e
kind_depth (s.Decrement e) = depth e
kind_depth (s.Assign p v) = max (depth p) (depth v)
kind_depth (s.Update p o v) = max (depth p) (depth v)
kind_depth (s.Define n v) = depth v
kind_depth (s.DefineReceived n ok c) = depth c
kind_depth (s.AssignReceived n ok c) = depth c

abbrev pub simple_depth : Simple → ℕ
simple_depth x = kind_depth x.kind

abbrev pub content_depth : VarContent → ℕ
content_depth (content.Zero t) = type_depth t
content_depth (content.Typed t v) = max (type_depth t) (depth v)
content_depth (content.Untyped v) = depth v

abbrev pub header_depth : Header → ℕ
header_depth headers.Forever = 0
header_depth (headers.While e) = depth e
header_depth (headers.Steps first test post) =
    max (of_option simple_depth first) (max (of_option depth test) (of_option simple_depth post))
header_depth (headers.Range n e) = depth e

abbrev pub comm_depth : Communication → ℕ
comm_depth (comm.Send c v) = max (depth c) (depth v)
comm_depth (comm.Receive c) = depth c
comm_depth (comm.Define n c) = depth c
comm_depth (comm.Assign n c) = depth c
comm_depth (comm.DefineReceived n ok c) = depth c

abbrev pub call_depth : Expr → List Expr → ℕ
call_depth f arguments = max (depth f) (1 + largest (map depth arguments))

-- One more than the deepest statement in braces; the `else` of an `if` counts without the one.
abbrev pub stmt_depth_step : Stmt-F ℕ ℕ → ℕ
stmt_depth_step (Var v) = content_depth v.content
stmt_depth_step (SimpleStmt x) = simple_depth x
stmt_depth_step (Go l f arguments) = call_depth f arguments
stmt_depth_step (Defer l f arguments) = call_depth f arguments
stmt_depth_step (Return l value) = of_option depth value
stmt_depth_step (Break l) = 0
stmt_depth_step (Continue l) = 0
stmt_depth_step (Block l body) = 1 + largest body
stmt_depth_step (If l first test body) = max (of_option simple_depth first) (max (depth test) (1 + largest body))
stmt_depth_step (IfElse l first test body otherwise) =
    max (of_option simple_depth first) (max (depth test) (max (1 + largest body) otherwise))
stmt_depth_step (For l header body) = max (header_depth header) (1 + largest body)
stmt_depth_step (Select l clauses) = 1 + largest clauses

abbrev pub clause_depth_step : Clause-F ℕ ℕ → ℕ
clause_depth_step (Case l c body) = max (comm_depth c) (largest body)
clause_depth_step (Default l body) = largest body

abbrev pub stmt_depth : Stmt → ℕ
stmt_depth = fold-Stmt ℕ ℕ clause_depth_step stmt_depth_step

abbrev pub field_depth : Field → ℕ
field_depth f = type_depth f.of_type

abbrev pub func_depth : Func → ℕ
func_depth f = max (1 + largest (map field_depth f.parameters))
    (max (of_option type_depth f.result) (1 + largest (map stmt_depth f.body)))

abbrev pub decl_depth : Decl → ℕ
decl_depth (d.Const l n value) = 0
decl_depth (d.Var v) = content_depth v.content
decl_depth (d.Struct l n fields) = 1 + largest (map field_depth fields)
decl_depth (d.Func f) = func_depth f

abbrev pub file_depth : File → ℕ
file_depth f = largest (map decl_depth f.declarations)
