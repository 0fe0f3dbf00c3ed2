-- The state that the automaton reaches over the bytes of one lexeme.
-- For: `growth`, golf_lex/specs/Automaton.antt.
-- By: induction over the bytes of the lexeme.
use Rattle.std.proofs.Common.{◌≡◌, ℕ, List, [], ◌∷◌, ◌++◌, refl, ap, ◌∙◌}
use Rattle.std.specs.Prelude.{Option, Some, None, option_and_then}
use Rattle.golf_lex.specs.declared.automaton.State.{State}
use Rattle.golf_lex.specs.declared.automaton.State.TheVariants as states
use Rattle.golf_lex.specs.declared.automaton.Growth.{Growth}
use Rattle.golf_lex.specs.declared.automaton.Growth.TheVariants.{To, Over, Fault}
use Rattle.golf_lex.specs.Automaton.{growth, begun}

abbrev pub to_only : Growth → (State → Option State) → Option State
to_only (To next) f = f next
to_only Over f = None
to_only Fault f = None

-- the state, if all of the bytes make the lexeme longer
abbrev pub grown : State → List ℕ → Option State
grown state [] = Some state
grown state (b ∷ bs) = to_only (growth state b) (λ next. grown next bs)

-- the state after the bytes of one lexeme
abbrev pub reached : List ℕ → Option State
reached [] = Some states.Blank
reached (b ∷ bs) = option_and_then (λ state. grown state bs) (begun b)

pub grown-append : (state : State) (xs ys : List ℕ)
    → grown state (xs ++ ys) ≡ option_and_then (λ next. grown next ys) (grown state xs)
grown-append state [] ys = refl
grown-append state (b ∷ xs) ys = at (growth state b) (λ next. grown-append next xs ys)
  where
    at : (g : Growth) → ((next : State) → grown next (xs ++ ys) ≡ option_and_then (λ n. grown n ys) (grown next xs))
        → to_only g (λ next. grown next (xs ++ ys)) ≡ option_and_then (λ next. grown next ys)
        (to_only g (λ next. grown next xs))
    at (To next) again = again next
    at Over again = refl
    at Fault again = refl

pub reached-append : (b : ℕ) (xs ys : List ℕ)
    → reached (b ∷ (xs ++ ys)) ≡ option_and_then (λ next. grown next ys) (reached (b ∷ xs))
reached-append b xs ys = at (begun b)
  where
    at : (o : Option State) → option_and_then (λ s. grown s (xs ++ ys)) o ≡ option_and_then (λ next. grown next ys)
        (option_and_then (λ s. grown s xs) o)
    at (Some s) = grown-append s xs ys
    at None = refl

-- one more byte
pub reached-more : (b c : ℕ) (xs : List ℕ) (state more : State) → reached (b ∷ xs) ≡ Some state
    → growth state c ≡ To more → reached (b ∷ (xs ++ c ∷ [])) ≡ Some more
reached-more b c xs state more e g = reached-append b xs (c ∷ [])
    ∙ ap (λ o. option_and_then (λ n. grown n (c ∷ [])) o) e ∙ ap (λ h. to_only h (λ n. Some n)) g
