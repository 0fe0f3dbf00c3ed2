-- Which file reads a list of tokens, and on which line the fault is if none does.
use Rattle.std.specs.Prelude.{◌≡◌, ℕ, Bool, true, false, cond, nat_lt, List, [], ◌∷◌, map, sum, Option, Some, None}
use Rattle.std.specs.List.{list_all}
use Rattle.golf_lex_tokens.specs.declared.token.Token.{Token}
use Rattle.golf_lex_tokens.specs.declared.token.TokenKind.{TokenKind}
use Rattle.golf_lex_tokens.specs.Cost.{counted}
use Rattle.golf_lex_tokens.specs.Lexes.{Lexes}
use Rattle.golf_syntax_trees.specs.declared.declarations.File.{File}
use Rattle.golf_syntax_trees.specs.Words.{SpellsWords}
use Rattle.golf_syntax_trees.specs.Declarations.{print_file, decl_good}
use Rattle.golf_syntax_trees.specs.Segments.{segments, FileBreaksOn}

-- the most that a token can cost
unfoldable pub most : ℕ
most = 1000

-- the counts before the first token
abbrev pub no_counts : List ℕ
no_counts = 0 ∷ []

-- whether no token costs more than this, after these counts
abbrev pub is_affordable : List ℕ → List TokenKind → Bool
is_affordable counts [] = true
is_affordable counts (k ∷ ks) = cond (nat_lt most (sum (counted k counts))) false (is_affordable (counted k counts) ks)

-- the line of the first token that costs more than this
abbrev pub first_too_complex : List ℕ → List Token → Option ℕ
first_too_complex counts [] = None
first_too_complex counts (t ∷ ts) = cond (nat_lt most (sum (counted t.kind counts))) (Some t.line)
    (first_too_complex (counted t.kind counts) ts)

-- the tree prints the tokens; each statement, declaration and clause has the line of the first token that it prints
abbrev pub Prints : File → List Token → Type 0
Prints p tokens = SpellsWords (print_file p) tokens []

pub record WellFormed (p : File) : Type 0 where
  pub good : list_all decl_good p.declarations ≡ true
  pub cost : is_affordable no_counts (map (λ w. w.kind) (print_file p)) ≡ true

-- the tree reads the tokens
pub record ReadsTokens (tokens : List Token) (p : File) : Type 0 where
  pub prints : Prints p tokens
  pub form : WellFormed p

-- the tree reads the bytes
pub record Reads (bytes : List ℕ) (p : File) : Type 0 where
  pub tokens : List Token
  pub lexes : Lexes bytes tokens
  pub reads : ReadsTokens tokens p

-- the line of the fault if no token costs too much
abbrev pub BrokenOn : List Token → ℕ → Type 0
BrokenOn [] line = line ≡ 1
BrokenOn (t ∷ ts) line = FileBreaksOn (segments 0 (t ∷ ts)) line

-- The line of a syntax fault: that of the first token that costs too much, else that of the first broken segment, else
-- 1.
abbrev pub FaultOn : Option ℕ → List Token → ℕ → Type 0
FaultOn (Some first) tokens line = line ≡ first
FaultOn None tokens line = BrokenOn tokens line

abbrev pub IsFaultOn : List Token → ℕ → Type 0
IsFaultOn tokens line = FaultOn (first_too_complex no_counts tokens) tokens line
