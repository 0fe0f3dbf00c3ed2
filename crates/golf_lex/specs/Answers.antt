-- The answers of the lexer.
use Rattle.std.specs.Prelude.{◌≡◌, ℕ, List, Result, Ok, Err, ◌⊎◌}
use Rattle.golf_lex_tokens.specs.declared.token.Token.{Token}
use Rattle.golf_lex_tokens.specs.Lexes.{Lexes, IsFault, line_at}
use Rattle.golf_lex.specs.declared.lexer.LexFault.{LexFault}
use Rattle.golf_lex.specs.declared.lexer.LexFault.TheVariants.{At, Memory}

-- the tokens as which the bytes lex, or the place where they are at fault; without memory it says nothing
abbrev pub Answers : List ℕ → Result (List Token) LexFault → Type 0
Answers bytes (Ok tokens) = Lexes bytes tokens
Answers bytes (Err (At line byte)) = IsFault bytes byte × (line ≡ line_at bytes byte)
Answers bytes (Err Memory) = Unit {0}

-- if the bytes lex, the answer is their tokens, unless memory runs out
abbrev pub AcceptsBytes : List ℕ → Result (List Token) LexFault → Type 0
AcceptsBytes bytes result = (tokens : List Token) → Lexes bytes tokens → (result ≡ Ok tokens) ⊎ (result ≡ Err Memory)

-- if the bytes are at fault, the answer is the place with its line, unless memory runs out
abbrev pub RefusesBytes : List ℕ → Result (List Token) LexFault → Type 0
RefusesBytes bytes result = (place : ℕ) → IsFault bytes place → (result ≡ Err (At (line_at bytes place) place))
    ⊎ (result ≡ Err Memory)
