-- The words that declarations and files print, and which declarations are well formed.
use Rattle.std.specs.Prelude.{ℕ, Bool, true, ◌&&◌, List, [], ◌∷◌, ◌++◌, map, codes}
use Rattle.std.specs.List.{list_all}
use Rattle.golf_lex_tokens.specs.declared.token.TokenKind.TheVariants as kinds
use Rattle.golf_lex_tokens.specs.declared.token.Punctuation.TheVariants as punctuations
use Rattle.golf_lex_tokens.specs.declared.token.Keyword.TheVariants as keywords
use Rattle.golf_syntax_trees.specs.declared.declarations.Const.{Const}
use Rattle.golf_syntax_trees.specs.declared.declarations.Const.TheVariants as const
use Rattle.golf_syntax_trees.specs.declared.declarations.Import.{Import}
use Rattle.golf_syntax_trees.specs.declared.declarations.Import.TheVariants as imports
use Rattle.golf_syntax_trees.specs.declared.declarations.Field.{Field}
use Rattle.golf_syntax_trees.specs.declared.declarations.Receiver.{Receiver}
use Rattle.golf_syntax_trees.specs.declared.declarations.Func.{Func}
use Rattle.golf_syntax_trees.specs.declared.declarations.Decl.{Decl}
use Rattle.golf_syntax_trees.specs.declared.declarations.Decl.TheVariants as d
use Rattle.golf_syntax_trees.specs.declared.declarations.File.{File}
use Rattle.golf_syntax_trees.specs.Words.{Word, word, punctuation, keyword, name, on_line, behind, separated, closed}
use Rattle.golf_syntax_trees.specs.Types.{print_type, type_form}
use Rattle.golf_syntax_trees.specs.Expressions.{parens, braces}
use Rattle.golf_syntax_trees.specs.Simple.{optional, all_of, print_var, content_good}
use Rattle.golf_syntax_trees.specs.Statements.{print_block, print_stmt, stmts_good, stmt_form}

abbrev pub print_const : Const → List Word
print_const (const.Integer digits) = word (kinds.Integer digits) ∷ []
print_const (const.Negative digits) = punctuation punctuations.Minus ∷ word (kinds.Integer digits) ∷ []
print_const (const.Text bytes) = word (kinds.Text bytes) ∷ []
print_const const.True = name (codes "true") ∷ []
print_const const.False = name (codes "false") ∷ []

abbrev pub text : List ℕ → List Word
text bytes = word (kinds.Text bytes) ∷ []

-- the words of an import
abbrev pub print_import : Import → List Word
print_import (imports.One l path) = on_line l (keyword keywords.Import ∷ text path)
print_import (imports.Group l paths) = on_line l
    (keyword keywords.Import ∷ parens (separated punctuations.Semicolon (map text paths)) [])

abbrev pub print_field : Field → List Word
print_field f = name f.first ∷ (behind punctuations.Comma (map (λ n. name n ∷ []) f.more) ++ print_type f.of_type)

abbrev pub print_receiver : Receiver → List Word
print_receiver r = parens (name r.name ∷ punctuation punctuations.Star ∷ name r.type_name ∷ []) []

abbrev pub print_func : Func → List Word
print_func f =
    on_line f.line (keyword keywords.Func ∷ (optional print_receiver f.receiver ++ name f.name
    ∷ parens (separated punctuations.Comma (map print_field f.parameters))
    (optional print_type f.result ++ print_block (map print_stmt f.body))))

-- the words of a declaration
abbrev pub print_decl : Decl → List Word
print_decl (d.Const l n value) = on_line l
    (keyword keywords.Const ∷ name n ∷ punctuation punctuations.Assign ∷ print_const value)
print_decl (d.Var v) = print_var v
print_decl (d.Struct l n fields) =
    on_line l (keyword keywords.Type ∷ name n ∷ keyword keywords.Struct
    ∷ braces (separated punctuations.Semicolon (map print_field fields)) [])
print_decl (d.Func f) = print_func f

abbrev pub field_good : Field → Bool
field_good f = (type_form f.of_type).good

abbrev pub func_good : Func → Bool
func_good f = list_all field_good f.parameters
    && (all_of (λ t. (type_form t).good) f.result && stmts_good (map stmt_form f.body))

abbrev pub decl_good : Decl → Bool
decl_good (d.Const l n value) = true
decl_good (d.Var v) = content_good v.content
decl_good (d.Struct l n fields) = list_all field_good fields
decl_good (d.Func f) = func_good f

abbrev pub package_words : List Word
package_words = keyword keywords.Package ∷ name (codes "main") ∷ punctuation punctuations.Semicolon ∷ []

-- the words of a file
abbrev pub print_file : File → List Word
print_file f = package_words ++ (closed (map print_import f.imports) ++ closed (map print_decl f.declarations))
