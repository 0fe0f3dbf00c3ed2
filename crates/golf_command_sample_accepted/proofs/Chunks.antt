-- How bytes are scanned that stand before others.
-- For: `scan` (golf_lex/specs/LexemeScan.antt) and `Lexes` (golf_lex_tokens/specs/Lexes.antt)
-- By: induction over the list of digits; otherwise computing with the automaton
use Rattle.std.proofs.Common.{◌≡◌, ℕ, ◌≤◌, Bool, true, false, ◌||◌, List, [], ◌∷◌, ◌++◌, refl, sym, ap, ◌∙◌}
use Rattle.std.proofs.Common.{append_assoc, append-nil, arith}
use Rattle.std.proofs.lemmas.Bool.{and_parts}
use Rattle.std.proofs.lemmas.Bool.Decides.{nat_tests}
use Rattle.std.specs.Prelude.{Option, Some, None, option_and_then, nat_eq}
use Rattle.std.specs.List.{list_all}
use Rattle.golf_lex_tokens.specs.declared.token.TokenKind.TheVariants.{Punctuation}
use Rattle.golf_lex_tokens.specs.declared.token.Punctuation.TheVariants as punctuations
use Rattle.golf_lex_tokens.specs.Bytes.{is_digit, is_letter, is_word_byte}
use Rattle.golf_lex_tokens.specs.Lexemes.{Blank, Of, Lexeme}
use Rattle.golf_lex_tokens.specs.Semicolons.{tokens_of}
use Rattle.golf_lex_tokens.specs.Lexes.{Lexes}
use Rattle.golf_lex.specs.Automaton.{begun}
use Rattle.golf_lex.specs.LexemeScan.{behind, scan}
use Rattle.golf_lex.proofs.Runs.{scans-lexes}

-- The states of the automaton have no names outside its crate: each is that after a byte.

-- the lexemes that follow, if these bytes of one are after it, of which this is the first
abbrev pub in_state : ℕ → List ℕ → List ℕ → Option (List Lexeme)
in_state first bytes rest = option_and_then (λ state. scan state bytes rest) (begun first)

-- the lexemes of bytes that stand alone, after these of a word, and after these of an integer
abbrev pub scanned : List ℕ → Option (List Lexeme)
scanned rest = in_state 32 [] rest

abbrev pub in_word : List ℕ → List ℕ → Option (List Lexeme)
in_word bytes rest = in_state 97 bytes rest

abbrev pub in_integer : List ℕ → List ℕ → Option (List Lexeme)
in_integer bytes rest = in_state 49 bytes rest

-- digits after digits
pub scan-digits : (bytes ds rest : List ℕ) → list_all is_digit ds ≡ true
    → in_integer bytes (ds ++ rest) ≡ in_integer (bytes ++ ds) rest
scan-digits bytes [] rest h = ap (λ xs. in_integer xs rest) (sym (append-nil bytes))
scan-digits bytes (d ∷ ds) rest h =
    let p = and_parts (is_digit d) (list_all is_digit ds) h in
    rw p.0 (scan-digits (bytes ++ d ∷ []) ds rest p.1 ∙ ap (λ xs. in_integer xs rest) (append_assoc bytes (d ∷ []) ds))

or-true : (a b : Bool) → b ≡ true → a || b ≡ true
or-true true b h = refl
or-true false b h = h

-- digits in a word
pub scan-word : (bytes ds rest : List ℕ) → list_all is_digit ds ≡ true
    → in_word bytes (ds ++ rest) ≡ in_word (bytes ++ ds) rest
scan-word bytes [] rest h = ap (λ xs. in_word xs rest) (sym (append-nil bytes))
scan-word bytes (d ∷ ds) rest h =
    let p = and_parts (is_digit d) (list_all is_digit ds) h in
    let word : is_word_byte d ≡ true = or-true (is_letter d) (is_digit d) p.0 in
    rw word (scan-word (bytes ++ d ∷ []) ds rest p.1 ∙ ap (λ xs. in_word xs rest) (append_assoc bytes (d ∷ []) ds))

abbrev pub newline : Lexeme
newline = record { class = Blank; bytes = 10 ∷ [] }

twice : (o : Option (List Lexeme)) → behind (newline ∷ []) o ≡ behind (newline ∷ []) (behind [] o)
twice None = refl
twice (Some ps) = refl

begins : {S : Type 0} (f : S → Option (List Lexeme)) (o : Option S)
    → option_and_then (λ next. behind (newline ∷ []) (f next)) o ≡ behind (newline ∷ [])
    (option_and_then (λ next. behind [] (f next)) o)
begins f None = refl
begins f (Some next) = twice (f next)

-- what follows a newline is scanned by itself
pub scan-behind : (rest : List ℕ) → in_state 32 (10 ∷ []) rest ≡ behind (newline ∷ []) (scanned rest)
scan-behind [] = refl
scan-behind (b ∷ rest) = begins (λ next. scan next (b ∷ []) rest) (begun b)

-- an integer begins with a digit that is not 0
pub begun-digit : (d : ℕ) → 49 ≤ d → d ≤ 57 → begun d ≡ begun 49
begun-digit d least most =
    let letter : is_letter d ≡ false = grind (arith, nat_tests) in
    let nought : nat_eq d 48 ≡ false = grind (arith, nat_tests) in
    let digit : is_digit d ≡ true = grind (arith, nat_tests) in
    rw (letter, nought, digit) refl

-- an integer after a parenthesis, and after a space
abbrev pub in_paren : List ℕ → Option (List Lexeme)
in_paren rest = in_state 40 (40 ∷ []) rest

abbrev pub in_space : List ℕ → Option (List Lexeme)
in_space rest = in_state 32 (32 ∷ []) rest

abbrev pub paren : Lexeme
paren = record { class = Of (Punctuation punctuations.OpenParen); bytes = 40 ∷ [] }

abbrev pub space : Lexeme
space = record { class = Blank; bytes = 32 ∷ [] }

pub scan-in-paren : (d : ℕ) (ds rest : List ℕ) → 49 ≤ d → d ≤ 57 → list_all is_digit ds ≡ true
    → in_paren (d ∷ (ds ++ rest)) ≡ behind (paren ∷ []) (in_integer (d ∷ ds) rest)
scan-in-paren d ds rest least most h =
    ap (λ o. option_and_then (λ next. behind (paren ∷ []) (scan next (d ∷ []) (ds ++ rest))) o)
    (begun-digit d least most)
    ∙ ap (behind (paren ∷ [])) (scan-digits (d ∷ []) ds rest h)

pub scan-in-space : (d : ℕ) (ds rest : List ℕ) → 49 ≤ d → d ≤ 57 → list_all is_digit ds ≡ true
    → in_space (d ∷ (ds ++ rest)) ≡ behind (space ∷ []) (in_integer (d ∷ ds) rest)
scan-in-space d ds rest least most h =
    ap (λ o. option_and_then (λ next. behind (space ∷ []) (scan next (d ∷ []) (ds ++ rest))) o)
    (begun-digit d least most)
    ∙ ap (behind (space ∷ [])) (scan-digits (d ∷ []) ds rest h)

pub scanned-lexes : (bytes : List ℕ) (ps : List Lexeme) → scanned bytes ≡ Some ps → Lexes bytes (tokens_of ps)
scanned-lexes = scans-lexes
