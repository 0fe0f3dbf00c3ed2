-- How a part is cut into lexemes.
-- For: `part` (golf_command_sample/specs/File.antt) and `scan` (golf_lex/specs/LexemeScan.antt)
-- By: computing with the automaton; no induction
use Rattle.std.proofs.Common.{◌≡◌, ℕ, ◌<◌, ◌≤◌, ◌^◌, refl, ap, ◌∙◌, List, [], ◌∷◌, ◌++◌, append_assoc, codes, decimal}
use Rattle.std.specs.Prelude.{Option, Some, None}
use Rattle.golf_lex_tokens.specs.Lexemes.{Lexeme}
use Rattle.golf_lex.specs.LexemeScan.{behind}
use Rattle.golf_command_sample_accepted.proofs.Chunks.{scanned, in_word, scan-word, scan-behind, space}
use Rattle.golf_command_sample.specs.File.{part, part_body}
use Rattle.golf_command_sample_accepted.specs.Trees.{part_name}
use Rattle.golf_command_sample_accepted.proofs.Numbers.{number, all-digits}

abbrev pub found : Option (List Lexeme) → List Lexeme
found None = []
found (Some ps) = ps

-- the lexemes of a part
abbrev pub part_lexemes : ℕ → List Lexeme → List Lexeme
part_lexemes k ps = found (scanned (codes "func ")) ++ (found (in_word (part_name k) part_body) ++ ps)

pub scan-part : (k : ℕ) (rest : List ℕ) (ps : List Lexeme) → 1 ≤ k → k < 2 ^ 64 → scanned rest ≡ Some ps
    → scanned (part k ++ rest) ≡ Some (part_lexemes k ps)
scan-part k rest ps some fits e =
    let ds = all-digits (decimal k) (number k some fits) in
    ap (λ xs. scanned (codes "func part" ++ xs)) (append_assoc (decimal k) part_body rest)
    ∙ ap (λ o. behind [] (behind (found (scanned (codes "func"))) (behind (space ∷ []) o)))
    (scan-word (codes "part") (decimal k) (part_body ++ rest) ds)
    ∙ rw (scan-behind rest, e) refl
