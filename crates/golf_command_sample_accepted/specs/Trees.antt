-- The tree of a generated file.
use Rattle.std.specs.Prelude.{ℕ, zero, suc, ◌+◌, List, [], ◌∷◌, ◌++◌, Some, None, codes, decimal}
use Rattle.golf_syntax_trees.specs.declared.types.TypeExpr.TheVariants as ty
use Rattle.golf_syntax_trees.specs.declared.expressions.UnaryOperator.TheVariants as unary
use Rattle.golf_syntax_trees.specs.declared.expressions.BinaryOperator.TheVariants as binary
use Rattle.golf_syntax_trees.specs.declared.expressions.Expr.{Expr}
use Rattle.golf_syntax_trees.specs.declared.expressions.Element.{Element}
use Rattle.golf_syntax_trees.specs.declared.expressions.Expr.TheVariants as ex
use Rattle.golf_syntax_trees.specs.declared.statements.SimpleKind.{SimpleKind}
use Rattle.golf_syntax_trees.specs.declared.statements.SimpleKind.TheVariants as simple
use Rattle.golf_syntax_trees.specs.declared.statements.VarContent.TheVariants as content
use Rattle.golf_syntax_trees.specs.declared.statements.Header.TheVariants as header
use Rattle.golf_syntax_trees.specs.declared.statements.Stmt.{Stmt}
use Rattle.golf_syntax_trees.specs.declared.statements.Stmt.TheVariants as st
use Rattle.golf_syntax_trees.specs.declared.declarations.Import.TheVariants as import
use Rattle.golf_syntax_trees.specs.declared.declarations.Field.{Field}
use Rattle.golf_syntax_trees.specs.declared.declarations.Func.{Func}
use Rattle.golf_syntax_trees.specs.declared.declarations.Decl.{Decl}
use Rattle.golf_syntax_trees.specs.declared.declarations.Decl.TheVariants as d
use Rattle.golf_syntax_trees.specs.declared.declarations.File.{File}

abbrev pub part_name : ℕ → List ℕ
part_name k = codes "part" ++ decimal k

abbrev pub name : List ℕ → Expr
name n = ex.Name n

abbrev pub element : List ℕ → Expr → Element
element n e = record { field = n; value = e }

abbrev pub does : ℕ → SimpleKind → Stmt
does l k = st.Simple (record { line = l; kind = k })

-- `c := make(chan int)`
abbrev pub makes : ℕ → Stmt
makes l = does l (simple.Define (codes "c") (ex.Make (ty.Chan (ty.Named (codes "int")))))

-- `go wait(c)`
abbrev pub waits : ℕ → Stmt
waits l = st.Go l (name (codes "wait")) (name (codes "c") ∷ [])

-- `root = &Node{c: c, next: root}`
abbrev pub keeps : ℕ → Stmt
keeps l = does l (simple.Assign (name (codes "root"))
    (ex.StructLiteral (codes "Node") (element (codes "c") (name (codes "c"))
    ∷ element (codes "next") (name (codes "root")) ∷ [])))

-- `n%2 == 0`
abbrev pub is_even : Expr
is_even = ex.Binary binary.Equal (ex.Binary binary.Remainder (name (codes "n")) (ex.Integer (codes "2")))
    (ex.Integer (codes "0"))

abbrev pub int_field : List ℕ → Field
int_field n = record { first = n; more = []; of_type = ty.Named (codes "int") }

-- the function of the k-th part, whose first line is l
abbrev pub part_func : ℕ → ℕ → Func
part_func k l = record {
  line = l;
  receiver = None;
  name = part_name k;
  parameters = int_field (codes "n") ∷ [];
  result = None;
  body = makes (l + 1) ∷ waits (l + 1 + 1) ∷ st.If (l + 1 + 1 + 1) None is_even (keeps (l + 1 + 1 + 1 + 1) ∷ []) ∷ [];
}

abbrev pub part_decl : ℕ → ℕ → Decl
part_decl k l = d.Func (part_func k l)

-- eight lines further
abbrev pub next_part : ℕ → ℕ
next_part l = l + 1 + 1 + 1 + 1 + 1 + 1 + 1 + 1

-- the line of the part after n parts
abbrev pub part_line : ℕ → ℕ
part_line zero = 16
part_line (suc n) = next_part (part_line n)

-- the parts 1 to n, before other declarations
abbrev pub parts_before : ℕ → List Decl → List Decl
parts_before zero ds = ds
parts_before (suc n) ds = parts_before n (part_decl (suc n) (part_line n) ∷ ds)

-- `partK(K)`
abbrev pub calls_part : ℕ → ℕ → Stmt
calls_part k l = does l (simple.Expression (ex.Call (name (part_name k)) (ex.Integer (decimal k) ∷ [])))

-- `for i := 0; i < n; i++ {}`
abbrev pub counts_to : ℕ → ℕ → Stmt
counts_to n l = st.For l (header.Steps (Some
    (record { line = l; kind = simple.Define (codes "i") (ex.Integer (codes "0")) }))
    (Some (ex.Binary binary.Less (name (codes "i")) (ex.Integer (decimal n))))
    (Some (record { line = l; kind = simple.Increment (name (codes "i")) }))) []

-- `runtime.GC()`
abbrev pub collects : ℕ → Stmt
collects l = does l (simple.Expression (ex.Call (ex.Selector (name (codes "runtime")) (codes "GC")) []))

-- the line after n calls; `main` is on line l
abbrev pub call_line : ℕ → ℕ → ℕ
call_line l zero = l + 1
call_line l (suc n) = call_line l n + 1

-- the calls of the parts 1 to n, before other statements
abbrev pub calls_before : ℕ → ℕ → List Stmt → List Stmt
calls_before l zero ss = ss
calls_before l (suc n) ss = calls_before l n (calls_part (suc n) (call_line l n) ∷ ss)

abbrev pub last_stmts : ℕ → ℕ → List Stmt
last_stmts n l = counts_to n l ∷ collects (l + 1 + 1) ∷ []

abbrev pub main_func : ℕ → ℕ → Func
main_func n l = record {
  line = l;
  receiver = None;
  name = codes "main";
  parameters = [];
  result = None;
  body = calls_before l n (last_stmts n (call_line l n));
}

abbrev pub main_decl : ℕ → ℕ → Decl
main_decl n l = d.Func (main_func n l)

abbrev pub node_decl : Decl
node_decl = d.Struct 5 (codes "Node") (record {
  first = codes "c";
  more = [];
  of_type = ty.Chan (ty.Named (codes "int"));
}
    ∷ record { first = codes "next"; more = []; of_type = ty.Pointer (codes "Node") } ∷ [])

abbrev pub root_decl : Decl
root_decl = d.Var (record { line = 10; name = codes "root"; content = content.Zero (ty.Pointer (codes "Node")) })

abbrev pub wait_func : Func
wait_func = record {
  line = 12;
  receiver = None;
  name = codes "wait";
  parameters = record { first = codes "c"; more = []; of_type = ty.Chan (ty.Named (codes "int")) } ∷ [];
  result = None;
  body = does 13 (simple.Expression (ex.Unary unary.Receive (name (codes "c")))) ∷ [];
}

-- the declarations after the three above all parts
abbrev pub later : ℕ → List Decl
later n = parts_before n (main_decl n (part_line n) ∷ [])

-- the tree of the file of n parts
abbrev pub tree : ℕ → File
tree n = record {
  imports = import.One 3 (codes "runtime") ∷ [];
  declarations = node_decl ∷ root_decl ∷ d.Func wait_func
      ∷ later n;
}
