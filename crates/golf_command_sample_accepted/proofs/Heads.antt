-- The tree reads the file: the declarations above all parts, and then the whole.
-- For: `tree` (golf_command_sample_accepted/specs/Trees.antt) and `file` (golf_command_sample/specs/File.antt)
-- By: computing, with the lemmas on what follows; no induction
use Rattle.std.proofs.Common.{◌≡◌, ℕ, ◌<◌, ◌≤◌, ◌^◌, true, false, ◌&&◌, refl, sym, ap, subst, ◌∙◌, List, [], ◌∷◌, ◌++◌}
use Rattle.std.proofs.Common.{map, codes}
use Rattle.std.specs.Prelude.{Some}
use Rattle.std.specs.List.{list_all}
use Rattle.golf_lex_tokens.specs.declared.token.Token.{Token}
use Rattle.golf_lex_tokens.specs.declared.token.TokenKind.{TokenKind}
use Rattle.golf_lex_tokens.specs.declared.token.TokenKind.TheVariants as kinds
use Rattle.golf_lex_tokens.specs.declared.token.Punctuation.TheVariants as punctuations
use Rattle.golf_lex_tokens.specs.declared.token.Keyword.TheVariants as keywords
use Rattle.golf_lex_tokens.specs.Lexemes.{Lexeme}
use Rattle.golf_lex_tokens.specs.Semicolons.{tokens_of}
use Rattle.golf_syntax_trees.specs.declared.declarations.Decl.{Decl}
use Rattle.golf_syntax_trees.specs.declared.declarations.Decl.TheVariants as d
use Rattle.golf_syntax_trees.specs.declared.declarations.File.{File}
use Rattle.golf_syntax_trees.specs.declared.types.TypeExpr.TheVariants as ty
use Rattle.golf_syntax_trees.specs.declared.types.TypeExpr.TheOpen as TF
use Rattle.golf_syntax_trees.specs.Types.{TypeForm, type_form_step, type_form}
use Rattle.golf_syntax_trees.specs.Statements.{stmts_good, stmt_form}
use Rattle.golf_syntax_trees.specs.Words.{Word, word, closed, SpellsWords}
use Rattle.golf_syntax_trees.specs.Declarations.{print_decl, print_file, decl_good}
use Rattle.golf_syntax_trees.specs.Reads.{most, no_counts, is_affordable, Reads}
use Rattle.golf_command_sample_accepted.proofs.Chunks.{scanned, scan-behind, scanned-lexes}
use Rattle.golf_syntax_expressions.proofs.TypeShapes as type_shape
use Rattle.golf_syntax_expressions.proofs.ExprShapes as shape
use Rattle.golf_syntax_statements.proofs.StmtShapes as stmt_shape
use Rattle.golf_command_sample.specs.File.{head, parts, calls, tail, file}
use Rattle.golf_command_sample_accepted.specs.Trees.{node_decl, root_decl, wait_func, part_line, later, tree}
use Rattle.golf_command_sample_accepted.proofs.Lexing.{found}
use Rattle.golf_command_sample_accepted.proofs.Printing.{line_words, m}
use Rattle.golf_command_sample_accepted.proofs.Reading.{line_tokens, Spelt, spelt-plain, spelt-line, tokens_from, Opens}
use Rattle.golf_command_sample_accepted.proofs.Reading.{kinds_of, ReadsFrom, parts-read}
use Rattle.golf_command_sample_accepted.proofs.Mains.{main-reads}

ruleset prints = (
  type_shape.print-Named,
  type_shape.print-Pointer,
  type_shape.print-Chan,
  shape.print-Name,
  shape.print-Unary,
  stmt_shape.print-Simple,
)

ruleset forms = (
  type_shape.form-Named,
  type_shape.form-Pointer,
  type_shape.form-Chan,
  shape.form-Name,
  shape.form-Unary,
  stmt_shape.form-Simple,
)

abbrev head_lexemes : List Lexeme → List Lexeme
head_lexemes ps = found (scanned head) ++ ps

scan-head : (rest : List ℕ) (ps : List Lexeme) → scanned rest ≡ Some ps
    → scanned (head ++ rest) ≡ Some (head_lexemes ps)
scan-head rest ps e = rw (scan-behind rest, e) refl

abbrev n : List ℕ → TokenKind
n x = kinds.Name x

abbrev package_kinds : List TokenKind
package_kinds = kinds.Keyword keywords.Package ∷ n (codes "main") ∷ m punctuations.Semicolon ∷ []

abbrev import_kinds : List TokenKind
import_kinds = kinds.Keyword keywords.Import ∷ kinds.Text (codes "runtime") ∷ m punctuations.Semicolon ∷ []

abbrev type_kinds : List TokenKind
type_kinds = kinds.Keyword keywords.Type ∷ n (codes "Node") ∷ kinds.Keyword keywords.Struct ∷ m punctuations.OpenBrace
    ∷ []

abbrev chan_kinds : List TokenKind
chan_kinds = n (codes "c") ∷ kinds.Keyword keywords.Chan ∷ n (codes "int") ∷ m punctuations.Semicolon ∷ []

abbrev next_kinds : List TokenKind
next_kinds = n (codes "next") ∷ m punctuations.Star ∷ n (codes "Node") ∷ []

abbrev close_kinds : List TokenKind
close_kinds = m punctuations.CloseBrace ∷ m punctuations.Semicolon ∷ []

abbrev root_kinds : List TokenKind
root_kinds = kinds.Keyword keywords.Var ∷ n (codes "root") ∷ m punctuations.Star ∷ n (codes "Node")
    ∷ m punctuations.Semicolon ∷ []

abbrev wait_kinds : List TokenKind
wait_kinds = kinds.Keyword keywords.Func ∷ n (codes "wait") ∷ m punctuations.OpenParen ∷ n (codes "c")
    ∷ kinds.Keyword keywords.Chan ∷ n (codes "int") ∷ m punctuations.CloseParen ∷ m punctuations.OpenBrace ∷ []

abbrev receive_kinds : List TokenKind
receive_kinds = m punctuations.Arrow ∷ n (codes "c") ∷ []

abbrev head_words : List Word → List Word
head_words ws =
    map word package_kinds ++ (line_words 3 import_kinds
    ++ (line_words 5 type_kinds ++ (map word chan_kinds
    ++ (map word next_kinds ++ (map word close_kinds ++ (line_words 10 root_kinds
    ++ (line_words 12 wait_kinds ++ (line_words 13 receive_kinds ++ (map word close_kinds ++ ws)))))))))

abbrev head_tokens : List Token → List Token
head_tokens ts =
    line_tokens 1 package_kinds ++ (line_tokens 3 import_kinds
    ++ (line_tokens 5 type_kinds ++ (line_tokens 6 chan_kinds
    ++ (line_tokens 7 next_kinds ++ (line_tokens 8 close_kinds ++ (line_tokens 10 root_kinds
    ++ (line_tokens 12 wait_kinds ++ (line_tokens 13 receive_kinds ++ (line_tokens 14 close_kinds ++ ts)))))))))

head-tokens : (ps : List Lexeme) → Opens 16 ps → tokens_from 1 (head_lexemes ps) ≡ head_tokens (tokens_from 16 ps)
head-tokens ps opens = rw opens refl

abbrev file_of : List Decl → File
file_of ds = record { imports = (tree 0).imports; declarations = node_decl ∷ root_decl ∷ d.Func wait_func ∷ ds }

head-prints : (ds : List Decl) → print_file (file_of ds) ≡ head_words (closed (map print_decl ds))
head-prints ds = simp prints

spelt-head : (ws : List Word) (ts : List Token) → Spelt ws ts → Spelt (head_words ws) (head_tokens ts)
spelt-head ws ts h =
    spelt-plain 1 package_kinds (spelt-line 3 import_kinds
    (spelt-line 5 type_kinds (spelt-plain 6 chan_kinds
    (spelt-plain 7 next_kinds (spelt-plain 8 close_kinds (spelt-line 10 root_kinds
    (spelt-line 12 wait_kinds (spelt-line 13 receive_kinds (spelt-plain 14 close_kinds h)))))))))

head-cost : (ws : List Word) → is_affordable no_counts (kinds_of ws) ≡ true
    → is_affordable no_counts (kinds_of (head_words ws)) ≡ true
unfolding most
head-cost ws h = h

abbrev fine : TypeForm
fine = record { arrow = false; good = true }

chan-form : type_form (ty.Chan (ty.Named (codes "int"))) ≡ fine
chan-form = type_shape.form-Chan (ty.Named (codes "int"))
    ∙ ap (λ f. type_form_step (TF.Chan f)) (type_shape.form-Named (codes "int"))

node-good : decl_good node_decl ≡ true
node-good = ap (λ (f : TypeForm). f.good && ((type_form (ty.Pointer (codes "Node"))).good && true)) chan-form
    ∙ ap (λ (f : TypeForm). f.good && true) (type_shape.form-Pointer (codes "Node"))

root-good : decl_good root_decl ≡ true
root-good = ap (λ (f : TypeForm). f.good) (type_shape.form-Pointer (codes "Node"))

wait-body : stmts_good (map stmt_form wait_func.body) ≡ true
wait-body = simp forms

wait-good : decl_good (d.Func wait_func) ≡ true
wait-good = ap (λ (f : TypeForm). (f.good && true) && (true && stmts_good (map stmt_form wait_func.body))) chan-form
    ∙ wait-body

head-good : (ds : List Decl) → list_all decl_good ds ≡ true
    → list_all decl_good (node_decl ∷ root_decl ∷ d.Func wait_func ∷ ds) ≡ true
head-good ds h =
    ap (λ t. t && (decl_good root_decl && (decl_good (d.Func wait_func) && list_all decl_good ds))) node-good
    ∙ ap (λ t. t && (decl_good (d.Func wait_func) && list_all decl_good ds)) root-good
    ∙ ap (λ t. t && list_all decl_good ds) wait-good
    ∙ h

head-reads : (rest : List ℕ) (ds : List Decl) → ReadsFrom rest 16 ds → Reads (head ++ rest) (file_of ds)
head-reads rest ds r = record {
  tokens = tokens_of (head_lexemes r.lexemes);
  lexes = scanned-lexes (head ++ rest) (head_lexemes r.lexemes) (scan-head rest r.lexemes r.scans);
  reads = record {
    prints = subst (λ ws. SpellsWords ws (tokens_from 1 (head_lexemes r.lexemes)) []) (sym (head-prints ds))
        (subst (λ ts. SpellsWords (head_words (closed (map print_decl ds))) ts []) (sym (head-tokens r.lexemes r.opens))
        (spelt-head (closed (map print_decl ds)) (tokens_from 16 r.lexemes) (record { is = r.spells })).is);
    form = record {
      good = head-good ds r.good;
      cost = ap (λ ws. is_affordable no_counts (kinds_of ws)) (head-prints ds)
          ∙ head-cost (closed (map print_decl ds)) r.cost;
    };
  };
}

pub tree-reads : (k : ℕ) → 1 ≤ k → k < 2 ^ 64 → Reads (file k) (tree k)
unfolding file
tree-reads k some fits = head-reads (parts k ++ (codes "func main() {\n" ++ (calls k ++ tail k))) (later k)
    (parts-read k (codes "func main() {\n" ++ (calls k ++ tail k)) _ fits (main-reads k (part_line k) some fits))
