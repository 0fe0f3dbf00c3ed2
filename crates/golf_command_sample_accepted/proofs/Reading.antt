-- The tokens of a part are its words, with what follows.
-- For: `part_func`, `parts_before` (golf_command_sample_accepted/specs/Trees.antt)
-- By: induction over the number of parts, and over the list of kinds of tokens on a line
use Rattle.std.proofs.Common.{◌≡◌, ℕ, zero, suc, ◌+◌, ◌<◌, ◌≤◌, ◌^◌, true, false, ◌&&◌, refl, sym, ap, subst, ◌∙◌, List}
use Rattle.std.proofs.Common.{[], ◌∷◌, ◌++◌, map, append_assoc, add-zero, decimal, arith}
use Rattle.std.specs.Prelude.{Some}
use Rattle.std.specs.List.{list_all}
use Rattle.golf_lex_tokens.specs.declared.token.Token.{Token}
use Rattle.golf_lex_tokens.specs.declared.token.TokenKind.{TokenKind}
use Rattle.golf_lex_tokens.specs.declared.token.Punctuation.TheVariants as punctuations
use Rattle.golf_lex_tokens.specs.Bytes.{newlines}
use Rattle.golf_lex_tokens.specs.Lexemes.{Lexeme}
use Rattle.golf_lex_tokens.specs.Semicolons.{items, inserted, closes, without_optional}
use Rattle.golf_syntax_trees.specs.declared.declarations.Decl.{Decl}
use Rattle.golf_syntax_trees.specs.Words.{Word, word, closed, SpellsWords}
use Rattle.golf_syntax_trees.specs.Declarations.{print_decl, decl_good}
use Rattle.golf_syntax_trees.specs.Reads.{most, no_counts, is_affordable}
use Rattle.golf_command_sample_accepted.proofs.Chunks.{scanned}
use Rattle.golf_command_sample.specs.File.{part, parts}
use Rattle.golf_command_sample_accepted.specs.Trees.{part_decl, next_part, part_line, parts_before}
use Rattle.golf_command_sample_accepted.proofs.Numbers.{number, all-digits, no-newlines}
use Rattle.golf_command_sample_accepted.proofs.Lexing.{part_lexemes, scan-part}
use Rattle.golf_command_sample_accepted.proofs.Printing.{line_words, first_kinds, make_kinds, go_kinds, if_kinds}
use Rattle.golf_command_sample_accepted.proofs.Printing.{keep_kinds, part_words, m, part-prints, part-good}

abbrev pub token : ℕ → TokenKind → Token
token l k = record { kind = k; line = l }

-- tokens on a line
abbrev pub line_tokens : ℕ → List TokenKind → List Token
line_tokens l ks = map (token l) ks

pub spells-plain : (l : ℕ) (ks : List TokenKind) (ws : List Word) (ts : List Token) → SpellsWords ws ts []
    → SpellsWords (map word ks ++ ws) (line_tokens l ks ++ ts) []
spells-plain l [] ws ts h = h
spells-plain l (k ∷ ks) ws ts h = ((refl, tt), spells-plain l ks ws ts h)

pub spells-line : (l : ℕ) (ks : List TokenKind) (ws : List Word) (ts : List Token) → SpellsWords ws ts []
    → SpellsWords (line_words l ks ++ ws) (line_tokens l ks ++ ts) []
spells-line l [] ws ts h = h
spells-line l (k ∷ ks) ws ts h = ((refl, refl), spells-plain l ks ws ts h)

-- the same, kept together
pub record Spelt (ws : List Word) (ts : List Token) : Type 0 where
  pub is : SpellsWords ws ts []

pub spelt-end : Spelt [] []
spelt-end = record { is = refl }

pub spelt-plain : {ws : List Word} {ts : List Token} (l : ℕ) (ks : List TokenKind) → Spelt ws ts
    → Spelt (map word ks ++ ws) (line_tokens l ks ++ ts)
spelt-plain {ws} {ts} l ks h = record { is = spells-plain l ks ws ts h.is }

pub spelt-line : {ws : List Word} {ts : List Token} (l : ℕ) (ks : List TokenKind) → Spelt ws ts
    → Spelt (line_words l ks ++ ws) (line_tokens l ks ++ ts)
spelt-line {ws} {ts} l ks h = record { is = spells-line l ks ws ts h.is }

-- the tokens of lexemes of which the first is on this line
abbrev pub tokens_from : ℕ → List Lexeme → List Token
tokens_from l ps = without_optional (inserted (items l ps))

-- what follows begins with no closing token
abbrev pub Opens : ℕ → List Lexeme → Type 0
Opens l ps = closes (inserted (items l ps)) ≡ false

abbrev pub part_tokens : ℕ → ℕ → List Token → List Token
part_tokens k l ts =
    line_tokens l (first_kinds k) ++ (line_tokens (l + 1) make_kinds
    ++ (line_tokens (l + 1 + 1) go_kinds ++
    (line_tokens (l + 1 + 1 + 1) if_kinds ++ (line_tokens (l + 1 + 1 + 1 + 1) keep_kinds
    ++ (line_tokens (l + 1 + 1 + 1 + 1 + 1) (m punctuations.CloseBrace ∷ [])
    ++ (line_tokens (l + 1 + 1 + 1 + 1 + 1 + 1) (m punctuations.CloseBrace ∷ m punctuations.Semicolon ∷ [])
    ++ ts))))))

part-tokens : (k l : ℕ) (ps : List Lexeme) → newlines (decimal k) ≡ 0 → Opens (next_part l) ps
    → tokens_from l (part_lexemes k ps) ≡ part_tokens k l (tokens_from (next_part l) ps)
part-tokens k l ps none opens = rw none (simp (add-zero, opens))

spelt-part : (k l : ℕ) (ws : List Word) (ts : List Token) → Spelt ws ts → Spelt (part_words k l ws) (part_tokens k l ts)
spelt-part k l ws ts h =
    spelt-line l (first_kinds k) (spelt-line (l + 1) make_kinds
    (spelt-line (l + 1 + 1) go_kinds (spelt-line (l + 1 + 1 + 1) if_kinds (spelt-line (l + 1 + 1 + 1 + 1) keep_kinds
    (spelt-plain (l + 1 + 1 + 1 + 1 + 1) (m punctuations.CloseBrace ∷ [])
    (spelt-plain (l + 1 + 1 + 1 + 1 + 1 + 1) (m punctuations.CloseBrace ∷ m punctuations.Semicolon ∷ []) h))))))

abbrev pub kinds_of : List Word → List TokenKind
kinds_of ws = map (λ w. w.kind) ws

-- the declarations read the bytes, which begin on this line
pub record ReadsFrom (bytes : List ℕ) (l : ℕ) (ds : List Decl) : Type 0 where
  pub lexemes : List Lexeme
  pub scans : scanned bytes ≡ Some lexemes
  pub opens : Opens l lexemes
  pub spells : SpellsWords (closed (map print_decl ds)) (tokens_from l lexemes) []
  pub good : list_all decl_good ds ≡ true
  pub cost : is_affordable no_counts (kinds_of (closed (map print_decl ds))) ≡ true

part-cost : (k l : ℕ) (ws : List Word) → is_affordable no_counts (kinds_of ws) ≡ true
    → is_affordable no_counts (kinds_of (part_words k l ws)) ≡ true
unfolding most
part-cost k l ws h = h

pub part-reads : (k l : ℕ) (rest : List ℕ) (ds : List Decl) → 1 ≤ k → k < 2 ^ 64 → ReadsFrom rest (next_part l) ds
    → ReadsFrom (part k ++ rest) l (part_decl k l ∷ ds)
part-reads k l rest ds some fits r =
    let none = no-newlines (decimal k) (all-digits (decimal k) (number k some fits)) in
    record {
      lexemes = part_lexemes k r.lexemes;
      scans = scan-part k rest r.lexemes some fits r.scans;
      opens = refl;
      spells = subst (λ ws. SpellsWords ws (tokens_from l (part_lexemes k r.lexemes)) []) (sym (part-prints k l ds))
          (subst (λ ts. SpellsWords (part_words k l (closed (map print_decl ds))) ts [])
          (sym (part-tokens k l r.lexemes none r.opens))
          (spelt-part k l (closed (map print_decl ds)) (tokens_from (next_part l) r.lexemes)
          (record { is = r.spells })).is);
      good = ap (λ t. t && list_all decl_good ds) (part-good k l) ∙ r.good;
      cost = ap (λ ws. is_affordable no_counts (kinds_of ws)) (part-prints k l ds)
          ∙ part-cost k l (closed (map print_decl ds)) r.cost;
    }

pub parts-read : (n : ℕ) (rest : List ℕ) (ds : List Decl) → n < 2 ^ 64 → ReadsFrom rest (part_line n) ds
    → ReadsFrom (parts n ++ rest) 16 (parts_before n ds)
parts-read zero rest ds fits r = r
parts-read (suc n) rest ds fits r =
    subst (λ bytes. ReadsFrom bytes 16 (parts_before (suc n) ds)) (sym (append_assoc (parts n) (part (suc n)) rest))
    (parts-read n (part (suc n) ++ rest) (part_decl (suc n) (part_line n) ∷ ds) (omega arith)
    (part-reads (suc n) (part_line n) rest ds (omega arith) fits r))
