-- What the function of a part prints, and its form.
-- For: `part_func` (golf_command_sample_accepted/specs/Trees.antt)
-- By: computing; no induction
use Rattle.std.proofs.Common.{◌≡◌, ℕ, ◌+◌, true, ◌&&◌, ap, ◌∙◌, List, [], ◌∷◌, ◌++◌, map, codes}
use Rattle.std.specs.Prelude.{Some}
use Rattle.golf_lex_tokens.specs.declared.token.TokenKind.{TokenKind}
use Rattle.golf_lex_tokens.specs.declared.token.TokenKind.TheVariants as kinds
use Rattle.golf_lex_tokens.specs.declared.token.Punctuation.{Punctuation}
use Rattle.golf_lex_tokens.specs.declared.token.Punctuation.TheVariants as punctuations
use Rattle.golf_lex_tokens.specs.declared.token.Keyword.TheVariants as keywords
use Rattle.golf_syntax_trees.specs.Words.{Word, word, punctuation, closed}
use Rattle.golf_syntax_trees.specs.declared.declarations.Decl.{Decl}
use Rattle.golf_syntax_trees.specs.Types.{TypeForm}
use Rattle.golf_syntax_trees.specs.Statements.{stmts_good, stmt_form}
use Rattle.golf_syntax_trees.specs.Declarations.{print_decl, field_good, decl_good}
use Rattle.golf_syntax_expressions.proofs.TypeShapes as type_shape
use Rattle.golf_syntax_expressions.proofs.ExprShapes as shape
use Rattle.golf_syntax_statements.proofs.StmtShapes as stmt_shape
use Rattle.golf_command_sample_accepted.specs.Trees.{int_field, part_func, part_decl, part_name}

abbrev pub begins : ℕ → TokenKind → Word
begins l k = record { kind = k; line = Some l }

-- words of which the first is on this line, and words without lines
abbrev pub line_words : ℕ → List TokenKind → List Word
line_words l [] = []
line_words l (k ∷ ks) = begins l k ∷ map word ks

abbrev pub m : Punctuation → TokenKind
m x = kinds.Punctuation x

abbrev pub first_kinds : ℕ → List TokenKind
first_kinds k = kinds.Keyword keywords.Func ∷ kinds.Name (part_name k) ∷ m punctuations.OpenParen
    ∷ kinds.Name (codes "n") ∷ kinds.Name (codes "int") ∷ m punctuations.CloseParen ∷ m punctuations.OpenBrace ∷ []

abbrev pub make_kinds : List TokenKind
make_kinds = kinds.Name (codes "c") ∷ m punctuations.Define ∷ kinds.Name (codes "make") ∷ m punctuations.OpenParen
    ∷ kinds.Keyword keywords.Chan ∷ kinds.Name (codes "int") ∷ m punctuations.CloseParen ∷ m punctuations.Semicolon ∷ []

abbrev pub go_kinds : List TokenKind
go_kinds = kinds.Keyword keywords.Go ∷ kinds.Name (codes "wait") ∷ m punctuations.OpenParen ∷ kinds.Name (codes "c")
    ∷ m punctuations.CloseParen ∷ m punctuations.Semicolon ∷ []

abbrev pub if_kinds : List TokenKind
if_kinds = kinds.Keyword keywords.If ∷ kinds.Name (codes "n") ∷ m punctuations.Percent ∷ kinds.Integer (codes "2")
    ∷ m punctuations.Equal ∷ kinds.Integer (codes "0") ∷ m punctuations.OpenBrace ∷ []

abbrev pub keep_kinds : List TokenKind
keep_kinds =
    kinds.Name (codes "root") ∷ m punctuations.Assign ∷ m punctuations.Ampersand ∷ kinds.Name (codes "Node")
    ∷ m punctuations.OpenBrace
    ∷ kinds.Name (codes "c") ∷ m punctuations.Colon ∷ kinds.Name (codes "c") ∷ m punctuations.Comma
    ∷ kinds.Name (codes "next") ∷ m punctuations.Colon ∷ kinds.Name (codes "root") ∷ m punctuations.CloseBrace ∷ []

abbrev pub part_words : ℕ → ℕ → List Word → List Word
part_words k l ws =
    line_words l (first_kinds k) ++ (line_words (l + 1) make_kinds
    ++ (line_words (l + 1 + 1) go_kinds ++ (line_words (l + 1 + 1 + 1) if_kinds
    ++ (line_words (l + 1 + 1 + 1 + 1) keep_kinds ++ punctuation punctuations.CloseBrace
    ∷ punctuation punctuations.CloseBrace ∷ punctuation punctuations.Semicolon ∷ ws))))

pub ruleset prints = (
  type_shape.print-Named,
  type_shape.print-Chan,
  shape.print-Integer,
  shape.print-Name,
  shape.print-StructLiteral,
  shape.print-Make,
  shape.print-Call,
  shape.print-Binary,
  shape.print-element,
  stmt_shape.print-Simple,
  stmt_shape.print-Go,
  stmt_shape.print-If,
)

pub ruleset forms = (
  type_shape.form-Named,
  type_shape.form-Chan,
  shape.form-Integer,
  shape.form-Name,
  shape.form-StructLiteral,
  shape.form-Make,
  shape.form-Call,
  shape.form-Binary,
  shape.form-element,
  stmt_shape.form-Simple,
  stmt_shape.form-Go,
  stmt_shape.form-If,
)

pub part-prints : (k l : ℕ) (ds : List Decl)
    → closed (map print_decl (part_decl k l ∷ ds)) ≡ part_words k l (closed (map print_decl ds))
part-prints k l ds = simp prints

field-good : (n : List ℕ) → field_good (int_field n) ≡ true
field-good n = ap (λ (f : TypeForm). f.good) (type_shape.form-Named (codes "int"))

body-good : (k l : ℕ) → stmts_good (map stmt_form (part_func k l).body) ≡ true
body-good k l = simp forms

pub part-good : (k l : ℕ) → decl_good (part_decl k l) ≡ true
part-good k l = ap (λ t. (t && true) && (true && stmts_good (map stmt_form (part_func k l).body)))
    (field-good (codes "n")) ∙ body-good k l
