-- The first segment of a list of tokens, and the tokens after it.
use Rattle.std.specs.Prelude.{◌≡◌, ℕ, suc, cond, List, [], ◌∷◌, ◌++◌, Option, Some, None}
use Rattle.std.specs.Borrow.{Bor}
use Rattle.golf_lex_tokens.specs.declared.token.Token.{Token}
use Rattle.golf_syntax_trees.specs.Segments.{depth_behind, ends_segment, segments}

-- how many tokens the first segment has
abbrev pub front_length : ℕ → List Token → ℕ
front_length depth [] = 0
front_length depth (t ∷ ts) = cond (ends_segment t.kind depth) 1 (suc (front_length (depth_behind t.kind depth) ts))

-- the list is this segment and the rest, and its segments are this one and those of the rest
pub record CutsOff (ts segment rest : List Token) : Type 0 where
  pub whole : ts ≡ segment ++ rest
  pub segments : segments 0 ts ≡ segment ∷ segments 0 rest

-- the result is the first segment and the rest, or none if there are no tokens
abbrev pub CutAt : List Token → Option (Bor (List Token) × Bor (List Token)) → Type 0
CutAt ts None = ts ≡ []
CutAt ts (Some x) = CutsOff ts x.0.now x.1.now
