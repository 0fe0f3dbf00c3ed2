-- How bytes are cut into lexemes by the automaton.
use Rattle.std.specs.Prelude.{ℕ, false, cond, List, [], ◌∷◌, ◌++◌, Option, Some, None, option_and_then}
use Rattle.std.specs.Option.{option_map}
use Rattle.golf_lex_tokens.specs.declared.token.TokenKind.{TokenKind}
use Rattle.golf_lex_tokens.specs.declared.token.TokenKind.TheVariants.{Integer, Text, Punctuation}
use Rattle.golf_lex_tokens.specs.Lexemes.{Blank, LineComment, GeneralComment, Of, Lexeme}
use Rattle.golf_lex.specs.declared.automaton.State.{State}
use Rattle.golf_lex.specs.declared.automaton.State.TheVariants as states
use Rattle.golf_lex.specs.declared.automaton.Growth.{Growth}
use Rattle.golf_lex.specs.declared.automaton.Growth.TheVariants.{To, Over, Fault}
use Rattle.golf_lex.specs.Automaton.{growth, begun, is_complete}
use Rattle.golf_lex.specs.Words.{word_kind}
use Rattle.golf_lex.specs.Strings.{content_from}

-- the token that ends in the state, if there is one
abbrev pub kind_at : State → List ℕ → Option TokenKind
kind_at states.Word bytes = Some (word_kind bytes)
kind_at states.Zero bytes = Some (Integer bytes)
kind_at states.Digits bytes = Some (Integer bytes)
kind_at states.Text bytes = Some (Text (content_from false bytes))
kind_at (states.Punctuation m) bytes = Some (Punctuation m)
kind_at _ bytes = None

-- the lexeme that ends in the state; before the first byte there is none
abbrev pub ended : State → List ℕ → List Lexeme
ended states.Blank [] = []
ended states.Blank (b ∷ bytes) = record { class = Blank; bytes = b ∷ bytes } ∷ []
ended states.LineComment bytes = record { class = LineComment; bytes = bytes } ∷ []
ended states.Closed bytes = record { class = GeneralComment; bytes = bytes } ∷ []
ended states.Word bytes = record { class = Of (word_kind bytes); bytes = bytes } ∷ []
ended states.Zero bytes = record { class = Of (Integer bytes); bytes = bytes } ∷ []
ended states.Digits bytes = record { class = Of (Integer bytes); bytes = bytes } ∷ []
ended states.Text bytes = record { class = Of (Text (content_from false bytes)); bytes = bytes } ∷ []
ended (states.Punctuation m) bytes = record { class = Of (Punctuation m); bytes = bytes } ∷ []
ended _ bytes = []

-- these lexemes before the others, if there are others
abbrev pub behind : List Lexeme → Option (List Lexeme) → Option (List Lexeme)
behind front rest = option_map (λ lexemes. front ++ lexemes) rest

-- the lexemes after a byte with this effect
abbrev pub scan_by : (State → List ℕ → Option (List Lexeme)) → State → List ℕ → ℕ → Growth → Option (List Lexeme)
scan_by again state bytes b (To next) = again next (bytes ++ b ∷ [])
scan_by again state bytes b Over = option_and_then (λ next. behind (ended state bytes) (again next (b ∷ []))) (begun b)
scan_by again state bytes b Fault = None

-- the lexemes, if the present lexeme is in this state with these bytes, and the rest follows
abbrev pub scan : State → List ℕ → List ℕ → Option (List Lexeme)
scan state bytes [] = cond (is_complete state) (Some (ended state bytes)) None
scan state bytes (b ∷ rest) = scan_by (λ next more. scan next more rest) state bytes b (growth state b)
