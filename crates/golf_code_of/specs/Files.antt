-- The code of a file: function 0 runs the initialisers of the globals and calls `main`; the functions and methods of
-- the file follow in source order, and after them those that are made for `go` and `defer` (Go specification, "Package
-- initialization", "Program execution"; this runtime's rule).
use Rattle.std.specs.Prelude.{ℕ, ◌+◌, Bool, false, is_some, List, [], ◌∷◌, ◌++◌, length, map, flat_map, cond, Option}
use Rattle.std.specs.Prelude.{Some, None, codes}
use Rattle.golf_syntax_trees.specs.declared.statements.VarContent.{VarContent}
use Rattle.golf_syntax_trees.specs.declared.statements.VarContent.TheVariants as content
use Rattle.golf_syntax_trees.specs.declared.declarations.Const.{Const}
use Rattle.golf_syntax_trees.specs.declared.declarations.Func.{Func}
use Rattle.golf_syntax_trees.specs.declared.declarations.Decl.{Decl}
use Rattle.golf_syntax_trees.specs.declared.declarations.Decl.TheVariants as d
use Rattle.golf_syntax_trees.specs.declared.declarations.File.{File}
use Rattle.golf_data.specs.declared.code.Code.{Code}
use Rattle.golf_data.specs.declared.code.Function.{Function}
use Rattle.golf_data.specs.declared.code.Instr.{Instr}
use Rattle.golf_check_types.specs.declared.types.GoType.{GoType}
use Rattle.golf_check_types.specs.declared.operands.Signature.{Signature}
use Rattle.golf_check_types.specs.declared.scopes.Entity.{Entity}
use Rattle.golf_check_types.specs.declared.scopes.Entity.TheVariants as meant
use Rattle.golf_check_types.specs.declared.scopes.FileScope.{FileScope}
use Rattle.golf_check_types.specs.declared.scopes.Scope.{Scope}
use Rattle.golf_check_types.specs.Scopes.{meaning_in}
use Rattle.golf_check_types.specs.Statements.{behind}
use Rattle.golf_check_types.specs.Files.{result_type, outside, body_scope, file_scope, with_imports, no_imports}
use Rattle.golf_check_types.specs.Files.{declares_main, line_of}
use Rattle.golf_code_layout.specs.Piece.{Piece, all, op, placed}
use Rattle.golf_code_layout.specs.Depth.{depth}
use Rattle.golf_live.specs.Live.{live}
use Rattle.golf_code_of.specs.Texts.{texts_of}
use Rattle.golf_code_of.specs.declared.tables.Tables.{Tables}
use Rattle.golf_code_of.specs.Values.{push, zero_value, const_value}
use Rattle.golf_code_of.specs.declared.surroundings.Making.{Making}
use Rattle.golf_code_of.specs.Calls.{operation}
use Rattle.golf_code_of.specs.ExpressionCode.{piece_at}
use Rattle.golf_code_of.specs.Statements.{Laid, StatementPart, in_order}
use Rattle.golf_code_of.specs.StatementCode.{stmt_part}

-- a function with this body and its masks; `gives` says for each function whether it gives a value
abbrev pub function : List Bool → ℕ → ℕ → ℕ → Piece → Function
function gives params slots line body = record {
  params = params;
  slots = slots;
  depth = depth gives body;
  line = line;
  body = placed body 0 [];
  live = live slots (placed body 0 []);
}

-- Functions and methods of the file.

abbrev pub body_part : Tables → Func → StatementPart
body_part t f = in_order (map (stmt_part t) f.body)

-- the body of a function; `functions` is the number of functions before the next one that is made
abbrev pub body_laid : Tables → Scope → ℕ → Func → Laid
body_laid t file functions f = (body_part t f).lay (record { breaks = 0; continues = 0; functions = functions })
    (body_scope file f)

-- how many slots were handed out by the end of the body
abbrev pub slots_of : Tables → Scope → Func → ℕ
slots_of t file f = (behind (body_scope file f) ((body_part t f).walk (body_scope file f))).next

-- Each body ends with a return, on the line of the function.
abbrev pub last_return : ℕ → Option GoType → Piece
last_return l None = op l Instr.Return
last_return l (Some t) = all (op l (push (zero_value (Some t))) ∷ op l Instr.ReturnValue ∷ [])

abbrev pub function_of : Tables → List Bool → Scope → Func → Piece → Function
function_of t gives file f body = function gives (body_scope file f).next (slots_of t file f) f.line
    (all (body ∷ last_return f.line (result_type file f.result) ∷ []))

-- the functions in source order, and the functions to be made for them
pub record Functions : Type 0 where
  pub own : List Function
  pub made : List Making

abbrev pub no_functions : Functions
no_functions = record { own = []; made = [] }

abbrev pub functions_from : Tables → List Bool → Scope → ℕ → List Decl → Functions
functions_from t gives file n [] = no_functions
functions_from t gives file n (d.Func f ∷ xs) =
    let x = body_laid t file n f in
    let rest = functions_from t gives file (n + length x.made) xs in
    record { own = function_of t gives file f x.piece ∷ rest.own; made = x.made ++ rest.made }
functions_from t gives file n (x ∷ xs) = functions_from t gives file n xs

-- The body of a function that is made: it pushes its parameters and does the operation.

abbrev pub loads : ℕ → ℕ → List (Option GoType) → Piece
loads l i [] = Piece.Empty
loads l i (t ∷ ts) = Piece.Then (op l (Instr.Load i)) (loads l (i + 1) ts)

abbrev pub made_body : Making → Piece
made_body m = all (loads m.line 0 m.parameters ∷ operation m.line m.operation (length m.parameters)
    ∷ op m.line Instr.Return ∷ [])

abbrev pub made_function : List Bool → Making → Function
made_function gives m = function gives (length m.parameters) (length m.parameters) m.line (made_body m)

-- Function 0.

abbrev pub initial : Tables → Scope → ℕ → ℕ → VarContent → Piece
initial t s g l (content.Zero of_type) = Piece.Empty
initial t s g l (content.Typed of_type e) = all (piece_at t l s e ∷ op l (Instr.StoreGlobal g) ∷ [])
initial t s g l (content.Untyped e) = all (piece_at t l s e ∷ op l (Instr.StoreGlobal g) ∷ [])

-- the initialisers in source order; g is the number of globals declared above
abbrev pub initials : Tables → FileScope → ℕ → List Decl → Piece
initials t f g [] = Piece.Empty
initials t f g (d.Var v ∷ xs) = Piece.Then (initial t (record (outside f) { initialises = Some g }) g v.line v.content)
    (initials t f (g + 1) xs)
initials t f g (x ∷ xs) = initials t f g xs

abbrev pub entry_body : Tables → FileScope → ℕ → ℕ → List Decl → Piece
entry_body t f main line xs = all (initials t f 0 xs ∷ op line (Instr.Call main 0) ∷ op line Instr.Return ∷ [])

-- `main`.

abbrev pub number_of_function : Option Entity → ℕ
number_of_function (Some (meant.Function k)) = k + 1
number_of_function _ = 0

abbrev pub main_number : FileScope → ℕ
main_number f = number_of_function (meaning_in f (codes "main"))

abbrev pub main_line : List Decl → ℕ
main_line [] = 0
main_line (x ∷ xs) = cond (declares_main x) (line_of x) (main_line xs)

-- The whole code.

abbrev pub constants_in : Decl → List Const
constants_in (d.Const l n c) = c ∷ []
constants_in _ = []

-- the texts of a file, and its constants in source order
abbrev pub tables_of : List Decl → Tables
tables_of xs = record { texts = texts_of xs; constants = map (const_value (texts_of xs)) (flat_map constants_in xs) }

-- whether each function gives a value; function 0 and the functions that are made do not
abbrev pub giving : FileScope → List Bool
giving f = false ∷ map (λ (x : Signature). is_some x.result) f.functions

abbrev pub code_in : Tables → FileScope → List Decl → Code
code_in t f xs =
    let fs = functions_from t (giving f) (outside f) (length f.functions + 1) xs in
    record {
      functions = function (giving f) 0 0 (main_line xs) (entry_body t f (main_number f) (main_line xs) xs)
          ∷ (fs.own ++ map (made_function (giving f)) fs.made);
      globals = map zero_value f.globals;
      structs = map (map zero_value) f.fields;
      texts = t.texts;
      main_line = main_line xs;
    }

-- the code of a file
unfoldable pub CodeOf : File → Code
CodeOf file = code_in (tables_of file.declarations)
    (file_scope (with_imports no_imports file.imports) file.declarations) file.declarations
