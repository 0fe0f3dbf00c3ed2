-- The laws of places, as statements.
use Rattle.std.specs.Prelude.{ℕ, ◌*◌, ◌^◌, ◌<◌, ◌≤◌, List, length, slice_get, Option, Some, None}
use Rattle.golf_data.specs.declared.code.Function.{Function}
use Rattle.golf_data.specs.Places.{HasPlaces}
use Rattle.golf_lex_tokens.specs.declared.token.Token.{Token}
use Rattle.golf_lex_tokens.specs.Lexes.{Lexes}
use Rattle.golf_syntax_trees.specs.declared.declarations.File.{File}
use Rattle.golf_syntax_trees.specs.Declarations.{print_file}
use Rattle.golf_syntax_trees.specs.Reads.{Reads}
use Rattle.golf_code_of.specs.Files.{CodeOf}

-- the function has at most eight instructions for each token
abbrev pub IsSmall : ℕ → Option Function → Type 0
IsSmall tokens None = Unit {0}
IsSmall tokens (Some function) = length function.body ≤ 8 * tokens

abbrev pub BodiesAreSmall : Type 0
BodiesAreSmall = (file : File) (k : ℕ) → IsSmall (length (print_file file)) (slice_get (CodeOf file).functions k)

abbrev pub TokensAreFew : Type 0
TokensAreFew = (bytes : List ℕ) (tokens : List Token) → Lexes bytes tokens → length tokens ≤ 2 * length bytes

abbrev pub FilesHavePlaces : Type 0
FilesHavePlaces = (bytes : List ℕ) (file : File) → Reads bytes file → length bytes < 2 ^ 27 → HasPlaces (CodeOf file)
