-- The texts of a file: the empty text, and then each different text in order of first appearance (Go specification,
-- "String literals"; this runtime's rule).
use Rattle.std.specs.Prelude.{flat_map, List, [], ◌∷◌, ◌++◌, Option, Some, None}
use Rattle.golf_syntax_trees.specs.declared.expressions.Expr.{Expr}
use Rattle.golf_syntax_trees.specs.declared.expressions.Expr.TheOpen as E
use Rattle.golf_syntax_trees.specs.declared.expressions.Expr.TheOpen.{Expr-F, Element-F}
use Rattle.golf_syntax_trees.specs.declared.expressions.Expr.TheFolds.{fold-Expr}
use Rattle.golf_syntax_trees.specs.declared.statements.Simple.{Simple}
use Rattle.golf_syntax_trees.specs.declared.statements.SimpleKind.{SimpleKind}
use Rattle.golf_syntax_trees.specs.declared.statements.SimpleKind.TheVariants as simple
use Rattle.golf_syntax_trees.specs.declared.statements.VarContent.{VarContent}
use Rattle.golf_syntax_trees.specs.declared.statements.VarContent.TheVariants as content
use Rattle.golf_syntax_trees.specs.declared.statements.Header.{Header}
use Rattle.golf_syntax_trees.specs.declared.statements.Header.TheVariants as header
use Rattle.golf_syntax_trees.specs.declared.statements.Communication.{Communication}
use Rattle.golf_syntax_trees.specs.declared.statements.Communication.TheVariants as comm
use Rattle.golf_syntax_trees.specs.declared.statements.Stmt.{Stmt}
use Rattle.golf_syntax_trees.specs.declared.statements.Clause.TheOpen as S
use Rattle.golf_syntax_trees.specs.declared.statements.Clause.TheOpen.{Stmt-F, Clause-F}
use Rattle.golf_syntax_trees.specs.declared.statements.Clause.TheFolds.{fold-Stmt}
use Rattle.golf_syntax_trees.specs.declared.declarations.Const.{Const}
use Rattle.golf_syntax_trees.specs.declared.declarations.Const.TheVariants as const
use Rattle.golf_syntax_trees.specs.declared.declarations.Decl.{Decl}
use Rattle.golf_syntax_trees.specs.declared.declarations.Decl.TheVariants as d
use Rattle.golf_code_of.specs.Table.{Texts, table_of}

abbrev pub joined : List Texts → Texts
joined ts = flat_map (λ t. t) ts

abbrev pub expr_texts_step : Expr-F Texts Texts → Texts
expr_texts_step (E.Integer digits) = []
expr_texts_step (E.Text bytes) = bytes ∷ []
expr_texts_step (E.Name n) = []
expr_texts_step (E.Parens e) = e
expr_texts_step (E.StructLiteral n xs) = joined xs
expr_texts_step (E.SyncLiteral n) = []
expr_texts_step (E.SliceLiteral t xs) = joined xs
expr_texts_step E.EmptyLiteral = []
expr_texts_step (E.Make t) = []
expr_texts_step (E.MakeSized t e) = e
expr_texts_step (E.New n) = []
expr_texts_step (E.NewSync n) = []
expr_texts_step (E.Selector e n) = e
expr_texts_step (E.Index a i) = a ++ i
expr_texts_step (E.Call f xs) = f ++ joined xs
expr_texts_step (E.Unary o e) = e
expr_texts_step (E.Binary o a b) = a ++ b

abbrev pub element_texts_step : Element-F Texts Texts → Texts
element_texts_step x = x.value

unfoldable pub expr_texts : Expr → Texts
expr_texts = fold-Expr Texts Texts expr_texts_step element_texts_step

abbrev pub optional_texts : {A : Type 0} → (A → Texts) → Option A → Texts
optional_texts f None = []
optional_texts f (Some x) = f x

abbrev pub simple_texts : SimpleKind → Texts
simple_texts (simple.Expression e) = expr_texts e
simple_texts (simple.Send c e) = expr_texts c ++ expr_texts e
simple_texts (simple.Increment p) = expr_texts p
simple_texts (simple.Decrement p) = expr_texts p
simple_texts (simple.Assign p e) = expr_texts p ++ expr_texts e
simple_texts (simple.Update p o e) = expr_texts p ++ expr_texts e
simple_texts (simple.Define n e) = expr_texts e
simple_texts (simple.DefineReceived n m e) = expr_texts e
simple_texts (simple.AssignReceived n m e) = expr_texts e

abbrev pub optional_simple_texts : Option Simple → Texts
optional_simple_texts x = optional_texts (λ (s : Simple). simple_texts s.kind) x

abbrev pub content_texts : VarContent → Texts
content_texts (content.Zero t) = []
content_texts (content.Typed t e) = expr_texts e
content_texts (content.Untyped e) = expr_texts e

abbrev pub header_texts : Header → Texts
header_texts header.Forever = []
header_texts (header.While e) = expr_texts e
header_texts (header.Steps first test post) = optional_simple_texts first
    ++ (optional_texts expr_texts test ++ optional_simple_texts post)
header_texts (header.Range names e) = expr_texts e

abbrev pub comm_texts : Communication → Texts
comm_texts (comm.Send c e) = expr_texts c ++ expr_texts e
comm_texts (comm.Receive e) = expr_texts e
comm_texts (comm.Define n e) = expr_texts e
comm_texts (comm.Assign n e) = expr_texts e
comm_texts (comm.DefineReceived n m e) = expr_texts e

abbrev pub call_texts : Expr → List Expr → Texts
call_texts f xs = expr_texts f ++ flat_map expr_texts xs

abbrev pub clause_texts_step : Clause-F Texts Texts → Texts
clause_texts_step (S.Case l c body) = comm_texts c ++ joined body
clause_texts_step (S.Default l body) = joined body

abbrev pub stmt_texts_step : Stmt-F Texts Texts → Texts
stmt_texts_step (S.Var v) = content_texts v.content
stmt_texts_step (S.Simple x) = simple_texts x.kind
stmt_texts_step (S.Go l f xs) = call_texts f xs
stmt_texts_step (S.Defer l f xs) = call_texts f xs
stmt_texts_step (S.Return l e) = optional_texts expr_texts e
stmt_texts_step (S.Break l) = []
stmt_texts_step (S.Continue l) = []
stmt_texts_step (S.Block l body) = joined body
stmt_texts_step (S.If l first test body) = optional_simple_texts first ++ (expr_texts test ++ joined body)
stmt_texts_step (S.IfElse l first test body otherwise) = optional_simple_texts first
    ++ (expr_texts test ++ (joined body ++ otherwise))
stmt_texts_step (S.For l h body) = header_texts h ++ joined body
stmt_texts_step (S.Select l clauses) = joined clauses

unfoldable pub stmt_texts : Stmt → Texts
stmt_texts = fold-Stmt Texts Texts clause_texts_step stmt_texts_step

abbrev pub const_texts : Const → Texts
const_texts (const.Text bytes) = bytes ∷ []
const_texts _ = []

abbrev pub decl_texts : Decl → Texts
decl_texts (d.Const l n c) = const_texts c
decl_texts (d.Var v) = content_texts v.content
decl_texts (d.Struct l n fields) = []
decl_texts (d.Func f) = flat_map stmt_texts f.body

-- the texts of the declarations of a file
unfoldable pub texts_of : List Decl → Texts
texts_of xs = table_of (flat_map decl_texts xs)
