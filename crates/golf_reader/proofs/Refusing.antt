-- A file that is refused is no typed one; the code of a typed one is its only code, and has places.
-- For: `IsNotTyped` (golf_reader/specs/Refusals.antt) and `parsed`, `judge`, `read` (src/file_reader.rt)
-- By: cases of the outcome; no induction
use Rattle.std.proofs.Common.{◌≡◌, ℕ, ◌<◌, ◌^◌, List, length, subst, sym, ap, ◌∙◌}
use Rattle.std.specs.Prelude.{Result, Ok, Err}
use Rattle.golf_data.specs.declared.code.Code.{Code}
use Rattle.golf_data.specs.Places.{HasPlaces}
use Rattle.golf_lex_tokens.specs.declared.token.Token.{Token}
use Rattle.golf_lex_tokens.specs.Lexes.{Lexes, IsFault, line_at}
use Rattle.golf_syntax_trees.specs.declared.declarations.File.{File}
use Rattle.golf_syntax_trees.specs.Reads.{Reads as HasTree, ReadsTokens}
use Rattle.golf_lex.proofs.Scans.{lexes-once}
use Rattle.golf_syntax.proofs.OneTree.{one-tree}
use Rattle.golf_check_types.specs.Faults.{IsFirst}
use Rattle.golf_check_types.specs.Files.{Broken}
use Rattle.golf_code_of.specs.Files.{CodeOf}
use Rattle.golf_code_places.proofs.Files.{files-have-places}
use Rattle.golf_reader.specs.declared.refusal.Refusal.{Refusal}
use Rattle.golf_reader.specs.declared.refusal.Refusal.TheVariants as refusals
use Rattle.golf_reader.specs.Refusals.{HasTypedTree, IsOnly, IsNotTyped, IsUnlexed, HasCode, Parses, IsChecked}
use Rattle.golf_reader.specs.Refusals.{WasParsed}
use Rattle.golf_reader.specs.Refusals.{WasTyped}

-- the bytes of a file lex
unlexed-none : (bytes : List ℕ) (place : ℕ) → IsFault bytes place → IsNotTyped bytes
unlexed-none bytes place f = λ file h. f.refused h.tree.tokens h.tree.lexes

-- in one way, and the file reads their tokens
unparsed-none : (bytes : List ℕ) (tokens : List Token) → Lexes bytes tokens
    → ((file : File) → ReadsTokens tokens file → ⊥) → IsNotTyped bytes
unparsed-none bytes tokens l none = λ file h. none file
    (subst (λ (ts : List Token). ReadsTokens ts file)
    (lexes-once bytes h.tree.tokens tokens h.tree.lexes l) h.tree.reads)

pub unlexed : (bytes : List ℕ) (line byte : ℕ) → IsFault bytes byte → line ≡ line_at bytes byte
    → IsUnlexed bytes line byte
unlexed bytes line byte f on = record { fault = f; on = on; none = unlexed-none bytes byte f }

-- the tree of the tokens of the bytes, or why there is none
pub of-tokens : (bytes : List ℕ) (tokens : List Token) (r : Result File Refusal) → Lexes bytes tokens → Parses tokens r
    → WasParsed bytes r
of-tokens bytes tokens (Ok file) l p = record { tokens = tokens; lexes = l; reads = p }
of-tokens bytes tokens (Err (refusals.Lexical line byte)) l p = absurd p
of-tokens bytes tokens (Err (refusals.Syntax line)) l p =
    record { tokens = tokens; lexes = l; refused = p.0; fault = p.1; none = unparsed-none bytes tokens l p.0 }
of-tokens bytes tokens (Err (refusals.Untyped line rule)) l p = absurd p
of-tokens bytes tokens (Err refusals.Memory) l p = tt

-- at most one tree reads the bytes
untyped-none : (bytes : List ℕ) (file : File) (line rule : ℕ) → HasTree bytes file → IsFirst rule line (Broken file)
    → IsNotTyped bytes
untyped-none bytes file line rule t first =
    λ other h. subst (IsFirst rule line) (ap Broken (one-tree bytes file other t h.tree) ∙ h.keeps) first

is-only : (bytes : List ℕ) (file : File) → HasTree bytes file → IsOnly bytes file
is-only bytes file t = λ other h. one-tree bytes other file h.tree t

-- whether the tree of the bytes keeps the rules is whether the file is typed
pub of-tree : (bytes : List ℕ) (file : File) (r : Result File Refusal) → HasTree bytes file → IsChecked file r
    → WasTyped bytes r
of-tree bytes file (Ok checked) t k =
    let typed : HasTypedTree bytes checked =
    subst (λ f. HasTypedTree bytes f) (sym k.0) (record { tree = t; keeps = k.1 }) in
    (typed, is-only bytes checked typed.tree)
of-tree bytes file (Err (refusals.Lexical line byte)) t k = absurd k
of-tree bytes file (Err (refusals.Syntax line)) t k = absurd k
of-tree bytes file (Err (refusals.Untyped line rule)) t k =
    record { file = file; tree = t; first = k; none = untyped-none bytes file line rule t k }
of-tree bytes file (Err refusals.Memory) t k = tt

-- the code of the typed tree is that of each
pub has-code : (bytes : List ℕ) (file : File) (code : Code) → HasTypedTree bytes file → code ≡ CodeOf file
    → HasCode bytes code
has-code bytes file code h is = record { file = file; typed = h; is = is; only = is-only bytes file h.tree }

-- the code of the typed tree of few bytes has places
pub has-places : (bytes : List ℕ) (file : File) (code : Code) → HasTypedTree bytes file → code ≡ CodeOf file
    → length bytes < 2 ^ 27 → HasPlaces code
has-places bytes file code h is few = subst HasPlaces (sym is) (files-have-places bytes file h.tree few)
