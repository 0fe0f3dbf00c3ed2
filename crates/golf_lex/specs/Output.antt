-- What the lexer keeps of the lexemes that it has read.
use Rattle.std.specs.Prelude.{ℕ, ◌+◌, nat_eq, cond, List, [], ◌∷◌, ◌++◌, Option, Some, None, option_to_list}
use Rattle.std.specs.Option.{option_map}
use Rattle.golf_lex_tokens.specs.declared.token.Token.{Token}
use Rattle.golf_lex_tokens.specs.declared.token.TokenKind.{TokenKind}
use Rattle.golf_lex_tokens.specs.Bytes.{newlines}
use Rattle.golf_lex_tokens.specs.Lexemes.{Class, Of, Lexeme}
use Rattle.golf_lex_tokens.specs.Semicolons.{may_end, semicolon, is_separator, is_closing}
use Rattle.golf_lex.specs.declared.automaton.State.{State}
use Rattle.golf_lex.specs.declared.output.Output.{Output}
use Rattle.golf_lex.specs.LexemeScan.{scan}

abbrev pub empty : Output
empty = record { tokens = []; held = None; line = 1; semicolon = None }

-- writes a separator that was held back, unless a closing token follows
abbrev pub released : List Token → Option Token → Token → List Token
released tokens None token = tokens
released tokens (Some separator) token = cond (is_closing token.kind) tokens (tokens ++ separator ∷ [])

-- adds a token; a separator is held back
abbrev pub pushed : Output → Token → Output
pushed o token =
    let tokens = released o.tokens o.held token in
    cond (is_separator token.kind) (record o { tokens = tokens; held = Some token })
    (record o { tokens = tokens ++ token ∷ []; held = None })

-- adds a token of this kind on the present line
abbrev pub with_token : Output → TokenKind → Output
with_token o kind = record (pushed o (record { kind = kind; line = o.line })) {
  semicolon = cond (may_end kind)
      (Some o.line) None;
}

abbrev pub line_ended_by : Output → Option ℕ → Output
line_ended_by o None = o
line_ended_by o (Some line) = pushed (record o { semicolon = None }) (semicolon line)

-- ends the line, with a semicolon if the last token on it asks for one
abbrev pub line_ended : Output → Output
line_ended o = line_ended_by o o.semicolon

-- ends the line if these bytes of a blank or a comment have a newline
abbrev pub with_space : Output → List ℕ → Output
with_space o bytes = cond (nat_eq (newlines bytes) 0) o (line_ended o)

abbrev pub with_class : Output → Class → List ℕ → Output
with_class o (Of kind) bytes = with_token o kind
with_class o _ bytes = with_space o bytes

-- moves on by the lines of the bytes
abbrev pub moved : Output → List ℕ → Output
moved o bytes = record o { line = o.line + newlines bytes }

abbrev pub with_lexemes : Output → List Lexeme → Output
with_lexemes o [] = o
with_lexemes o (p ∷ ps) = with_lexemes (moved (with_class o p.class p.bytes) p.bytes) ps

-- all tokens, at the end of the file
abbrev pub finished : Output → List Token
finished o = let last = line_ended o in last.tokens ++ option_to_list last.held

-- all tokens, if the present lexeme is in this state with these bytes, and the rest follows
abbrev pub read : Output → State → List ℕ → List ℕ → Option (List Token)
read o state bytes rest = option_map (λ lexemes. finished (with_lexemes o lexemes)) (scan state bytes rest)
