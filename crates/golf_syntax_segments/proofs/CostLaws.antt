-- The tokens that words spell cost what the words do.
-- For: `first_too_complex`, golf_syntax_trees/specs/Reads.antt
-- By: induction over the list of words
use Rattle.std.proofs.Common.{◌≡◌, ℕ, Bool, true, false, cond, List, [], ◌∷◌, map, refl, ap, subst}
use Rattle.std.specs.Prelude.{Option, Some, None, nat_lt, sum}
use Rattle.golf_lex_tokens.specs.declared.token.Token.{Token}
use Rattle.golf_lex_tokens.specs.declared.token.TokenKind.{TokenKind}
use Rattle.golf_lex_tokens.specs.Cost.{counted}
use Rattle.golf_syntax_trees.specs.Words.{Word, SpellsWords}
use Rattle.golf_syntax_trees.specs.Reads.{most, is_affordable, first_too_complex}

abbrev kinds_of : List Word → List TokenKind
kinds_of ws = map (λ w. w.kind) ws

-- no token costs too much if none of the words does, and else one does
abbrev pub Costs : Bool → Option ℕ → Type 0
Costs true o = o ≡ None
Costs false o = (line : ℕ) × (o ≡ Some line)

step : (b : Bool) (line : ℕ) (rest : Bool) (o : Option ℕ) → Costs rest o
    → Costs (cond b false rest) (cond b (Some line) o)
step true line rest o h = (line, refl)
step false line rest o h = h

pub costs-same : (ws : List Word) (ts : List Token) (counts : List ℕ) → SpellsWords ws ts []
    → Costs (is_affordable counts (kinds_of ws)) (first_too_complex counts ts)
costs-same [] ts counts h = ap (first_too_complex counts) h
costs-same (w ∷ ws) [] counts h = absurd h
costs-same (w ∷ ws) (t ∷ ts) counts h =
    subst (λ k. Costs (cond (nat_lt most (sum (counted k counts))) false
    (is_affordable (counted k counts) (kinds_of ws)))
    (cond (nat_lt most (sum (counted t.kind counts))) (Some t.line) (first_too_complex (counted t.kind counts) ts)))
    h.0.0
    (step (nat_lt most (sum (counted t.kind counts))) t.line (is_affordable (counted t.kind counts) (kinds_of ws))
    (first_too_complex (counted t.kind counts) ts) (costs-same ws ts (counted t.kind counts) h.1))
