-- The code of a file by its facts. No scope of a function occurs in it. The types of globals, fields and functions are
-- those of the file's scope.
use Rattle.std.specs.Prelude.{ℕ, ◌+◌, Bool, List, [], ◌∷◌, ◌++◌, length, map, Option, None}
use Rattle.golf_syntax_trees.specs.declared.statements.VarContent.{VarContent}
use Rattle.golf_syntax_trees.specs.declared.statements.VarContent.TheVariants as content
use Rattle.golf_syntax_trees.specs.declared.declarations.Const.{Const}
use Rattle.golf_syntax_trees.specs.declared.declarations.Const.TheVariants as const
use Rattle.golf_syntax_trees.specs.declared.declarations.Func.{Func}
use Rattle.golf_syntax_trees.specs.declared.declarations.Decl.{Decl}
use Rattle.golf_syntax_trees.specs.declared.declarations.Decl.TheVariants as d
use Rattle.golf_syntax_trees.specs.declared.declarations.File.{File}
use Rattle.golf_data.specs.declared.value.Value.{Value}
use Rattle.golf_data.specs.declared.code.Code.{Code}
use Rattle.golf_data.specs.declared.code.Function.{Function}
use Rattle.golf_data.specs.declared.code.Instr.{Instr}
use Rattle.golf_check_types.specs.declared.facts.Fact.{Fact}
use Rattle.golf_check_types.specs.declared.types.GoType.{GoType}
use Rattle.golf_check_types.specs.declared.operands.Signature.{Signature}
use Rattle.golf_check_types.specs.declared.scopes.FileScope.{FileScope}
use Rattle.golf_check_types.specs.Files.{file_scope, with_imports, no_imports}
use Rattle.golf_code_layout.specs.Piece.{Piece, all, op}
use Rattle.golf_code_of.specs.declared.tables.Tables.{Tables}
use Rattle.golf_code_of.specs.Table.{Texts}
use Rattle.golf_code_of.specs.declared.surroundings.Making.{Making}
use Rattle.golf_code_of.specs.Texts.{texts_of}
use Rattle.golf_code_of.specs.Values.{zero_value, const_value}
use Rattle.golf_code_of.specs.Files.{Functions, no_functions, function, last_return, made_function, main_number}
use Rattle.golf_code_of.specs.Files.{main_line, giving}
use Rattle.golf_code_facts.specs.Facts.{number_in, arguments_in, slots_in, next, past_one, skip}
use Rattle.golf_code_facts.specs.Expressions.{pushed_at}
use Rattle.golf_code_facts.specs.Statements.{LaidBy, PieceBy, piece_by, in_order}
use Rattle.golf_code_facts.specs.StatementCode.{stmt_by}

-- Declarations that are passed over: the facts after each of them.

abbrev pub past_const : Const → List Fact → List Fact
past_const (const.Integer n) fs = past_one fs
past_const (const.Negative n) fs = past_one fs
past_const _ fs = fs

abbrev pub past_content : VarContent → List Fact → List Fact
past_content (content.Zero w) fs = fs
past_content (content.Typed w e) fs = skip fs
past_content (content.Untyped e) fs = skip fs

abbrev pub past_decl : Decl → List Fact → List Fact
past_decl (d.Const l n c) fs = past_const c fs
past_decl (d.Var v) fs = past_content v.content fs
past_decl (d.Struct l n fields) fs = fs
past_decl (d.Func f) fs = skip fs

-- Constants: the fact of an integer constant is its value.

abbrev pub const_by : Texts → Const → List Fact → Value
const_by texts (const.Integer digits) fs = Value.Int (number_in (next fs))
const_by texts (const.Negative digits) fs = Value.Int (number_in (next fs))
const_by texts c fs = const_value texts c

abbrev pub constants_by : Texts → List Decl → List Fact → List Value
constants_by texts [] fs = []
constants_by texts (d.Const l n c ∷ xs) fs = const_by texts c fs ∷ constants_by texts xs (past_const c fs)
constants_by texts (x ∷ xs) fs = constants_by texts xs (past_decl x fs)

abbrev pub tables_by : List Decl → List Fact → Tables
tables_by xs fs = record { texts = texts_of xs; constants = constants_by (texts_of xs) xs fs }

-- Functions. A fact gives the slots of a function; the facts of its body follow.

-- the body of a function; `functions` is the number of functions before the next one that is made
abbrev pub body_by : Tables → ℕ → Func → List Fact → LaidBy
body_by t functions f fs = in_order (map (stmt_by t) f.body)
    (record { breaks = 0; continues = 0; functions = functions }) (past_one fs)

-- the type of the result of the next function
abbrev pub next_result : List Signature → Option GoType
next_result [] = None
next_result (s ∷ ss) = s.result

abbrev pub past_signature : List Signature → List Signature
past_signature [] = []
past_signature (s ∷ ss) = ss

abbrev pub function_by : List Bool → Func → Option GoType → Fact → Piece → Function
function_by gives f result head body = function gives (arguments_in head) (slots_in head) f.line
    (all (body ∷ last_return f.line result ∷ []))

-- Function 0.

abbrev pub initial_by : Tables → ℕ → ℕ → VarContent → List Fact → PieceBy
initial_by t g l (content.Zero w) fs = piece_by Piece.Empty fs
initial_by t g l (content.Typed w e) fs =
    piece_by (all (pushed_at t l fs e ∷ op l (Instr.StoreGlobal g) ∷ [])) (skip fs)
initial_by t g l (content.Untyped e) fs =
    piece_by (all (pushed_at t l fs e ∷ op l (Instr.StoreGlobal g) ∷ [])) (skip fs)

-- the body of function 0: the initialisers, and then the call of `main`
abbrev pub entry_by : ℕ → ℕ → Piece → Piece
entry_by main line initials = all (initials ∷ op line (Instr.Call main 0) ∷ op line Instr.Return ∷ [])

-- Declarations in source order, in one walk.

-- the initialisers of globals, the functions and methods, and the functions to be made for them
pub record DeclsBy : Type 0 where
  pub initials : Piece
  pub functions : Functions

abbrev pub initial_before : Piece → DeclsBy → DeclsBy
initial_before p xs = record xs { initials = Piece.Then p xs.initials }

abbrev pub function_before : Function → List Making → DeclsBy → DeclsBy
function_before f made xs = record xs {
  functions =
      record { own = f ∷ xs.functions.own; made = made ++ xs.functions.made };
}

-- the declarations from here on: the next functions have these signatures, g is the number of globals declared above,
-- and n is the number of functions before the next one that is made
abbrev pub decls_by : Tables → List Bool → List Signature → ℕ → ℕ → List Decl → List Fact → DeclsBy
decls_by t gives ss g n [] fs = record { initials = Piece.Empty; functions = no_functions }
decls_by t gives ss g n (d.Const l m c ∷ xs) fs = decls_by t gives ss g n xs (past_const c fs)
decls_by t gives ss g n (d.Var v ∷ xs) fs = let x =
    initial_by t g v.line v.content fs in initial_before x.piece (decls_by t gives ss (g + 1) n xs x.left)
decls_by t gives ss g n (d.Struct l m fields ∷ xs) fs = decls_by t gives ss g n xs fs
decls_by t gives ss g n (d.Func f ∷ xs) fs =
    let x = body_by t n f fs in
    function_before (function_by gives f (next_result ss) (next fs) x.laid.piece) x.laid.made
    (decls_by t gives (past_signature ss) g (n + length x.laid.made) xs x.left)

-- The whole code.

-- function 0, the functions and methods, and the functions that are made; `main` has this number and this line
abbrev pub all_functions : List Bool → ℕ → ℕ → DeclsBy → List Function
all_functions gives main line xs = function gives 0 0 line (entry_by main line xs.initials)
    ∷ (xs.functions.own ++ map (made_function gives) xs.functions.made)

abbrev pub code_of : Tables → FileScope → ℕ → DeclsBy → Code
code_of t f line xs = record {
  functions = all_functions (giving f) (main_number f) line xs;
  globals = map zero_value f.globals;
  structs = map (map zero_value) f.fields;
  texts = t.texts;
  main_line = line;
}

-- all declarations of a file
abbrev pub file_by : Tables → FileScope → List Decl → List Fact → DeclsBy
file_by t f xs facts = decls_by t (giving f) f.functions 0 (length f.functions + 1) xs facts

abbrev pub code_by : Tables → FileScope → List Decl → List Fact → Code
code_by t f xs facts = code_of t f (main_line xs) (file_by t f xs facts)

-- the code of a file by its facts
unfoldable pub CodeBy : File → List Fact → Code
CodeBy file facts = code_by (tables_by file.declarations facts)
    (file_scope (with_imports no_imports file.imports) file.declarations) file.declarations facts
