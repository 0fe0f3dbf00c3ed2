-- The tokens of `main` are its words.
-- For: `main_func`, `calls_before` (golf_command_sample_accepted/specs/Trees.antt)
-- By: induction over the number of calls; otherwise computing
use Rattle.std.proofs.Common.{◌≡◌, ℕ, zero, suc, ◌+◌, ◌<◌, ◌≤◌, ◌^◌, true, ◌&&◌, refl, sym, ap, subst, ◌∙◌, List, []}
use Rattle.std.proofs.Common.{◌∷◌, ◌++◌, map, append_assoc, add-zero, codes, decimal, arith}
use Rattle.std.specs.Prelude.{Some}
use Rattle.golf_lex_tokens.specs.declared.token.Token.{Token}
use Rattle.golf_lex_tokens.specs.declared.token.TokenKind.{TokenKind}
use Rattle.golf_lex_tokens.specs.declared.token.TokenKind.TheVariants as kinds
use Rattle.golf_lex_tokens.specs.declared.token.Punctuation.TheVariants as punctuations
use Rattle.golf_lex_tokens.specs.declared.token.Keyword.TheVariants as keywords
use Rattle.golf_lex_tokens.specs.Bytes.{newlines}
use Rattle.golf_lex_tokens.specs.Lexemes.{Of, Lexeme}
use Rattle.golf_syntax_trees.specs.declared.statements.Stmt.{Stmt}
use Rattle.golf_syntax_trees.specs.Words.{Word, word, punctuation, separated, closed, SpellsWords}
use Rattle.golf_syntax_trees.specs.Declarations.{print_decl}
use Rattle.golf_syntax_trees.specs.Statements.{print_stmt, stmt_form, stmts_good}
use Rattle.golf_syntax_trees.specs.Reads.{most, no_counts, is_affordable}
use Rattle.golf_lex.specs.LexemeScan.{behind}
use Rattle.golf_command_sample_accepted.proofs.Chunks.{scanned, in_word, in_integer, in_paren, in_space, scan-word}
use Rattle.golf_command_sample_accepted.proofs.Chunks.{scan-in-paren, scan-in-space, scan-behind, paren, space}
use Rattle.golf_syntax_expressions.proofs.ExprShapes as shape
use Rattle.golf_syntax_statements.proofs.StmtShapes as stmt_shape
use Rattle.golf_command_sample.specs.File.{call, calls, tail}
use Rattle.golf_command_sample_accepted.specs.Trees.{part_name, calls_part, counts_to, collects, call_line}
use Rattle.golf_command_sample_accepted.specs.Trees.{calls_before, last_stmts, main_func, main_decl}
use Rattle.golf_command_sample_accepted.proofs.Numbers.{IsNumber, number, all-digits, no-newlines}
use Rattle.golf_command_sample_accepted.proofs.Lexing.{found}
use Rattle.golf_command_sample_accepted.proofs.Printing.{line_words, m}
use Rattle.golf_command_sample_accepted.proofs.Reading.{line_tokens, spells-line, Spelt, spelt-end, spelt-plain}
use Rattle.golf_command_sample_accepted.proofs.Reading.{spelt-line, tokens_from, Opens, kinds_of, ReadsFrom}

ruleset prints = (
  shape.print-Integer,
  shape.print-Name,
  shape.print-Selector,
  shape.print-Call,
  shape.print-Binary,
  stmt_shape.print-Simple,
  stmt_shape.print-For,
)

ruleset forms = (
  shape.form-Integer,
  shape.form-Name,
  shape.form-Selector,
  shape.form-Call,
  shape.form-Binary,
  stmt_shape.form-Simple,
  stmt_shape.form-For,
)

-- a number in parentheses, and after a space
abbrev integer : ℕ → Lexeme
integer k = record { class = Of (kinds.Integer (decimal k)); bytes = decimal k }

in-paren : (k : ℕ) (rest : List ℕ) → IsNumber (decimal k)
    → in_paren (decimal k ++ rest) ≡ behind (paren ∷ []) (in_integer (decimal k) rest)
in-paren k rest i = ap (λ xs. in_paren (xs ++ rest)) i.are ∙ scan-in-paren i.first i.rest rest i.least i.most i.digits
    ∙ ap (λ xs. behind (paren ∷ []) (in_integer xs rest)) (sym i.are)

in-space : (k : ℕ) (rest : List ℕ) → IsNumber (decimal k)
    → in_space (decimal k ++ rest) ≡ behind (space ∷ []) (in_integer (decimal k) rest)
in-space k rest i = ap (λ xs. in_space (xs ++ rest)) i.are ∙ scan-in-space i.first i.rest rest i.least i.most i.digits
    ∙ ap (λ xs. behind (space ∷ []) (in_integer xs rest)) (sym i.are)

-- the lexemes of a call
abbrev call_lexemes : ℕ → List Lexeme → List Lexeme
call_lexemes k ps = found (scanned (codes "\t"))
    ++ (found (in_word (part_name k) (codes "(")) ++ (integer k ∷ (found (scanned (codes ")\n")) ++ ps)))

scan-call : (k : ℕ) (rest : List ℕ) (ps : List Lexeme) → 1 ≤ k → k < 2 ^ 64 → scanned rest ≡ Some ps
    → scanned (call k ++ rest) ≡ Some (call_lexemes k ps)
scan-call k rest ps some fits e =
    let i = number k some fits in
    let ds = all-digits (decimal k) i in
    ap (λ xs. scanned (codes "\tpart" ++ xs))
    (append_assoc (decimal k) (codes "(" ++ (decimal k ++ codes ")\n")) rest
    ∙ ap (λ xs. decimal k ++ (codes "(" ++ xs)) (append_assoc (decimal k) (codes ")\n") rest))
    ∙ ap (λ o. behind [] (behind (found (scanned (codes "\t"))) o))
    (scan-word (codes "part") (decimal k) (codes "(" ++ (decimal k ++ (codes ")\n" ++ rest))) ds)
    ∙ ap (λ o. behind [] (behind (found (scanned (codes "\t"))) (behind (found (in_word (part_name k) [])) o)))
    (in-paren k (codes ")\n" ++ rest) i)
    ∙ rw (scan-behind rest, e) refl

abbrev call_kinds : ℕ → List TokenKind
call_kinds k = kinds.Name (part_name k) ∷ m punctuations.OpenParen ∷ kinds.Integer (decimal k)
    ∷ m punctuations.CloseParen ∷ m punctuations.Semicolon ∷ []

call-tokens : (k l : ℕ) (ps : List Lexeme) → newlines (decimal k) ≡ 0 → Opens (l + 1) ps
    → tokens_from l (call_lexemes k ps) ≡ line_tokens l (call_kinds k) ++ tokens_from (l + 1) ps
call-tokens k l ps none opens = rw none (simp (add-zero, opens))

-- the end of `main`
abbrev end_words : List Word
end_words = punctuation punctuations.CloseBrace ∷ punctuation punctuations.Semicolon ∷ []

abbrev body_words : List Stmt → List Word
body_words ss = separated punctuations.Semicolon (map print_stmt ss) ++ end_words

-- the counts in the body of `main`
abbrev in_main : List ℕ
in_main = 0 ∷ 5 ∷ []

-- the statements and the end of `main` read the bytes, which begin on this line
record BodyReads (bytes : List ℕ) (l : ℕ) (first : Stmt) (ss : List Stmt) : Type 0 where
  lexemes : List Lexeme
  scans : scanned bytes ≡ Some lexemes
  opens : Opens l lexemes
  spells : SpellsWords (body_words (first ∷ ss)) (tokens_from l lexemes) []
  good : stmts_good (map stmt_form (first ∷ ss)) ≡ true
  cost : is_affordable in_main (kinds_of (body_words (first ∷ ss))) ≡ true

call-prints : (k l : ℕ) (first : Stmt) (ss : List Stmt)
    → body_words (calls_part k l ∷ first ∷ ss) ≡ line_words l (call_kinds k) ++ body_words (first ∷ ss)
call-prints k l first ss = simp (prints, append_assoc)

call-good : (k l : ℕ) → (stmt_form (calls_part k l)).good ≡ true
call-good k l = simp forms

call-cost : (k l : ℕ) (ws : List Word) → is_affordable in_main (kinds_of ws) ≡ true
    → is_affordable in_main (kinds_of (line_words l (call_kinds k) ++ ws)) ≡ true
unfolding most
call-cost k l ws h = h

call-reads : (k l : ℕ) (rest : List ℕ) (first : Stmt) (ss : List Stmt) → 1 ≤ k → k < 2 ^ 64
    → BodyReads rest (l + 1) first ss → BodyReads (call k ++ rest) l (calls_part k l) (first ∷ ss)
call-reads k l rest first ss some fits r =
    let none = no-newlines (decimal k) (all-digits (decimal k) (number k some fits)) in
    record {
      lexemes = call_lexemes k r.lexemes;
      scans = scan-call k rest r.lexemes some fits r.scans;
      opens = refl;
      spells = subst (λ ws. SpellsWords ws (tokens_from l (call_lexemes k r.lexemes)) [])
          (sym (call-prints k l first ss))
          (subst (λ ts. SpellsWords (line_words l (call_kinds k) ++ body_words (first ∷ ss)) ts [])
          (sym (call-tokens k l r.lexemes none r.opens))
          (spells-line l (call_kinds k) (body_words (first ∷ ss)) (tokens_from (l + 1) r.lexemes) r.spells));
      good = ap (λ t. t && stmts_good (map stmt_form (first ∷ ss))) (call-good k l) ∙ r.good;
      cost = ap (λ ws. is_affordable in_main (kinds_of ws)) (call-prints k l first ss)
          ∙ call-cost k l (body_words (first ∷ ss)) r.cost;
    }

-- the last two statements
abbrev tail_lexemes : ℕ → List Lexeme
tail_lexemes n = found (scanned (codes "\tfor i := 0; i < ")) ++ integer n
    ∷ found (scanned (codes "; i++ {\n\t}\n\truntime.GC()\n}\n"))

scan-tail : (n : ℕ) → 1 ≤ n → n < 2 ^ 64 → scanned (tail n) ≡ Some (tail_lexemes n)
scan-tail n some fits = rw (in-space n (codes "; i++ {\n\t}\n\truntime.GC()\n}\n") (number n some fits)) refl

abbrev for_kinds : ℕ → List TokenKind
for_kinds n = kinds.Name (codes "i") ∷ m punctuations.Define ∷ kinds.Integer (codes "0") ∷ m punctuations.Semicolon
    ∷ kinds.Name (codes "i") ∷ m punctuations.Less ∷ kinds.Integer (decimal n) ∷ m punctuations.Semicolon ∷ []

abbrev tail_words : ℕ → ℕ → List Word
tail_words n l =
    line_words l (kinds.Keyword keywords.For ∷ [])
    ++ (line_words l (for_kinds n) ++ (line_words l
    (kinds.Name (codes "i") ∷ m punctuations.Increment ∷ m punctuations.OpenBrace ∷ [])
    ++ (map word (m punctuations.CloseBrace ∷ m punctuations.Semicolon ∷ [])
    ++ (line_words (l + 1 + 1) (kinds.Name (codes "runtime") ∷ m punctuations.Dot ∷ kinds.Name (codes "GC")
    ∷ m punctuations.OpenParen ∷ m punctuations.CloseParen ∷ [])
    ++ (map word (m punctuations.CloseBrace ∷ m punctuations.Semicolon ∷ []) ++ [])))))

abbrev tail_tokens : ℕ → ℕ → List Token
tail_tokens n l =
    line_tokens l (kinds.Keyword keywords.For ∷ [])
    ++ (line_tokens l (for_kinds n) ++ (line_tokens l
    (kinds.Name (codes "i") ∷ m punctuations.Increment ∷ m punctuations.OpenBrace ∷ [])
    ++ (line_tokens (l + 1) (m punctuations.CloseBrace ∷ m punctuations.Semicolon ∷ [])
    ++ (line_tokens (l + 1 + 1) (kinds.Name (codes "runtime") ∷ m punctuations.Dot ∷ kinds.Name (codes "GC")
    ∷ m punctuations.OpenParen ∷ m punctuations.CloseParen ∷ [])
    ++ (line_tokens (l + 1 + 1 + 1) (m punctuations.CloseBrace ∷ m punctuations.Semicolon ∷ []) ++ [])))))

tail-tokens : (n l : ℕ) → newlines (decimal n) ≡ 0 → tokens_from l (tail_lexemes n) ≡ tail_tokens n l
tail-tokens n l none = rw none (simp add-zero)

tail-prints : (n l : ℕ) → body_words (last_stmts n l) ≡ tail_words n l
tail-prints n l = simp prints

spelt-tail : (n l : ℕ) → Spelt (tail_words n l) (tail_tokens n l)
spelt-tail n l =
    spelt-line l (kinds.Keyword keywords.For ∷ [])
    (spelt-line l (for_kinds n) (spelt-line l
    (kinds.Name (codes "i") ∷ m punctuations.Increment ∷ m punctuations.OpenBrace ∷ [])
    (spelt-plain (l + 1) (m punctuations.CloseBrace ∷ m punctuations.Semicolon ∷ [])
    (spelt-line (l + 1 + 1) (kinds.Name (codes "runtime") ∷ m punctuations.Dot ∷ kinds.Name (codes "GC")
    ∷ m punctuations.OpenParen ∷ m punctuations.CloseParen ∷ [])
    (spelt-plain (l + 1 + 1 + 1) (m punctuations.CloseBrace ∷ m punctuations.Semicolon ∷ []) spelt-end)))))

tail-good : (n l : ℕ) → stmts_good (map stmt_form (last_stmts n l)) ≡ true
tail-good n l = simp forms

tail-cost : (n l : ℕ) → is_affordable in_main (kinds_of (tail_words n l)) ≡ true
unfolding most
tail-cost n l = refl

tail-reads : (n l : ℕ) → 1 ≤ n → n < 2 ^ 64 → BodyReads (tail n) l (counts_to n l) (collects (l + 1 + 1) ∷ [])
tail-reads n l some fits =
    let none = no-newlines (decimal n) (all-digits (decimal n) (number n some fits)) in
    record {
      lexemes = tail_lexemes n;
      scans = scan-tail n some fits;
      opens = refl;
      spells = subst (λ ws. SpellsWords ws (tokens_from l (tail_lexemes n)) []) (sym (tail-prints n l))
          (subst (λ ts. SpellsWords (tail_words n l) ts []) (sym (tail-tokens n l none)) (spelt-tail n l).is);
      good = tail-good n l;
      cost = ap (λ ws. is_affordable in_main (kinds_of ws)) (tail-prints n l) ∙ tail-cost n l;
    }

-- the statements of `main`, of which there is one at least
record MainReads (bytes : List ℕ) (l : ℕ) (ss : List Stmt) : Type 0 where
  lexemes : List Lexeme
  scans : scanned bytes ≡ Some lexemes
  opens : Opens l lexemes
  spells : SpellsWords (body_words ss) (tokens_from l lexemes) []
  good : stmts_good (map stmt_form ss) ≡ true
  cost : is_affordable in_main (kinds_of (body_words ss)) ≡ true

calls-read : (n l : ℕ) (rest : List ℕ) (first : Stmt) (ss : List Stmt) → n < 2 ^ 64
    → BodyReads rest (call_line l n) first ss → MainReads (calls n ++ rest) (l + 1) (calls_before l n (first ∷ ss))
calls-read zero l rest first ss fits r =
    record { lexemes = r.lexemes; scans = r.scans; opens = r.opens; spells = r.spells; good = r.good; cost = r.cost }
calls-read (suc n) l rest first ss fits r =
    subst (λ bytes. MainReads bytes (l + 1) (calls_before l (suc n) (first ∷ ss)))
    (sym (append_assoc (calls n) (call (suc n)) rest))
    (calls-read n l (call (suc n) ++ rest) (calls_part (suc n) (call_line l n)) (first ∷ ss) (omega arith)
    (call-reads (suc n) (call_line l n) rest first ss (omega arith) fits r))

-- the whole of `main`
abbrev main_kinds : List TokenKind
main_kinds = kinds.Keyword keywords.Func ∷ kinds.Name (codes "main") ∷ m punctuations.OpenParen
    ∷ m punctuations.CloseParen ∷ m punctuations.OpenBrace ∷ []

abbrev main_lexemes : List Lexeme → List Lexeme
main_lexemes ps = found (scanned (codes "func main() {\n")) ++ ps

scan-main : (rest : List ℕ) (ps : List Lexeme) → scanned rest ≡ Some ps
    → scanned (codes "func main() {\n" ++ rest) ≡ Some (main_lexemes ps)
scan-main rest ps e = rw (scan-behind rest, e) refl

main-tokens : (l : ℕ) (ps : List Lexeme) → tokens_from l (main_lexemes ps) ≡ line_tokens l main_kinds
    ++ tokens_from (l + 1) ps
main-tokens l ps = simp add-zero

main-prints : (n l : ℕ) → closed (map print_decl (main_decl n l ∷ [])) ≡ line_words l main_kinds
    ++ body_words (main_func n l).body
main-prints n l = simp append_assoc

main-cost : (l : ℕ) (ws : List Word) → is_affordable in_main (kinds_of ws) ≡ true
    → is_affordable no_counts (kinds_of (line_words l main_kinds ++ ws)) ≡ true
unfolding most
main-cost l ws h = h

pub main-reads : (n l : ℕ) → 1 ≤ n → n < 2 ^ 64
    → ReadsFrom (codes "func main() {\n" ++ (calls n ++ tail n)) l (main_decl n l ∷ [])
main-reads n l some fits =
    let r = calls-read n l (tail n) (counts_to n (call_line l n)) (collects (call_line l n + 1 + 1) ∷ []) fits
    (tail-reads n (call_line l n) some fits) in
    record {
      lexemes = main_lexemes r.lexemes;
      scans = scan-main (calls n ++ tail n) r.lexemes r.scans;
      opens = refl;
      spells = subst (λ ws. SpellsWords ws (tokens_from l (main_lexemes r.lexemes)) []) (sym (main-prints n l))
          (subst (λ ts. SpellsWords (line_words l main_kinds ++ body_words (main_func n l).body) ts [])
          (sym (main-tokens l r.lexemes)) (spells-line l main_kinds (body_words (main_func n l).body)
          (tokens_from (l + 1) r.lexemes) r.spells));
      good = ap (λ t. t && true) r.good;
      cost = ap (λ ws. is_affordable no_counts (kinds_of ws)) (main-prints n l)
          ∙ main-cost l (body_words (main_func n l).body) r.cost;
    }
