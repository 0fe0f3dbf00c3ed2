-- How punctuation marks begin and grow.
-- For: `begun_punctuation` and `after_punctuation`, src/automaton.rt.
-- By: cases of the mark and of the next byte; no induction.
use Rattle.std.proofs.Common.{◌≡◌, ℕ, Bool, true, false, cond, [], ◌∷◌, ◌++◌, refl, sym, ap, ◌∙◌}
use Rattle.std.proofs.lemmas.Bool.{eqb-true}
use Rattle.std.specs.Prelude.{Option, Some, None, nat_eq}
use Rattle.golf_lex_tokens.specs.declared.token.Punctuation.{Punctuation}
use Rattle.golf_lex_tokens.specs.declared.token.Punctuation.TheVariants as punctuations
use Rattle.golf_lex_tokens.specs.Spelling.{punctuation_text}
use Rattle.golf_lex.specs.declared.automaton.State.TheVariants as states
use Rattle.golf_lex.specs.declared.automaton.Growth.TheVariants.{To, Over}
use Rattle.golf_lex.specs.Automaton.{begun_punctuation, after_punctuation, after_doubling, with_equals, to_punctuation}
use Rattle.golf_lex.proofs.Growing.{reached}

-- what a byte does to a punctuation mark: a punctuation mark of two bytes goes on with none, and a slash may begin a
-- comment
pub data Grows (m : Punctuation) (b : ℕ) : Type 0 where
  over : after_punctuation m b ≡ Over → Grows m b
  longer : (n : Punctuation) → after_punctuation m b ≡ to_punctuation n → punctuation_text n ≡ punctuation_text m ++ b
      ∷ [] → ((c : ℕ) → after_punctuation n c ≡ Over) → Grows m b
  line : m ≡ punctuations.Slash → b ≡ 47 → Grows m b
  general : m ≡ punctuations.Slash → b ≡ 42 → Grows m b

grows-equals : (m n : Punctuation) (b : ℕ) → after_punctuation m b ≡ with_equals n b
    → punctuation_text n ≡ punctuation_text m ++ 61 ∷ [] → ((c : ℕ) → after_punctuation n c ≡ Over) → Grows m b
grows-equals m n b e f o = at (nat_eq b 61) refl e
  where
    at : (t : Bool) → nat_eq b 61 ≡ t → after_punctuation m b ≡ cond t (to_punctuation n) Over → Grows m b
    at true et g = longer n g (f ∙ ap (λ x. punctuation_text m ++ x ∷ []) (sym (eqb-true b 61 et))) o
    at false et g = over g

grows-doubling : (m n k : Punctuation) (b second : ℕ) → after_punctuation m b ≡ after_doubling b second n k
    → punctuation_text n ≡ punctuation_text m ++ second ∷ [] → punctuation_text k ≡ punctuation_text m ++ 61 ∷ []
    → ((c : ℕ) → after_punctuation n c ≡ Over) → ((c : ℕ) → after_punctuation k c ≡ Over) → Grows m b
grows-doubling m n k b second e f g o p = at (nat_eq b second) refl e
  where
    at : (t : Bool) → nat_eq b second ≡ t → after_punctuation m b ≡ cond t (to_punctuation n) (with_equals k b)
        → Grows m b
    at true et h = longer n h (f ∙ ap (λ x. punctuation_text m ++ x ∷ []) (sym (eqb-true b second et))) o
    at false et h = grows-equals m k b h g p

grows-slash : (b : ℕ) → Grows punctuations.Slash b
grows-slash b = at (nat_eq b 47) (nat_eq b 42) refl refl refl
  where
    at : (s t : Bool) → nat_eq b 47 ≡ s → nat_eq b 42 ≡ t
        → after_punctuation punctuations.Slash b ≡ cond s (To states.LineComment)
        (cond t (To states.GeneralComment) (with_equals punctuations.SlashAssign b)) → Grows punctuations.Slash b
    at true t es et e = line refl (eqb-true b 47 es)
    at false true es et e = general refl (eqb-true b 42 et)
    at false false es et e = grows-equals punctuations.Slash punctuations.SlashAssign b e refl (λ _. refl)

grows-ampersand : (b : ℕ) → Grows punctuations.Ampersand b
grows-ampersand b = at (nat_eq b 38) refl refl
  where
    at : (t : Bool) → nat_eq b 38 ≡ t → after_punctuation punctuations.Ampersand b ≡ cond t
        (to_punctuation punctuations.And) Over → Grows punctuations.Ampersand b
    at true et e = longer punctuations.And e (ap (λ x. 38 ∷ x ∷ []) (sym (eqb-true b 38 et))) (λ _. refl)
    at false et e = over e

pub grows : (m : Punctuation) (b : ℕ) → Grows m b
grows punctuations.Plus b = grows-doubling punctuations.Plus punctuations.Increment punctuations.PlusAssign b 43 refl
    refl refl (λ _. refl) (λ _. refl)
grows punctuations.Minus b = grows-doubling punctuations.Minus punctuations.Decrement punctuations.MinusAssign b 45 refl
    refl refl (λ _. refl) (λ _. refl)
grows punctuations.Less b = grows-doubling punctuations.Less punctuations.Arrow punctuations.AtMost b 45 refl refl refl
    (λ _. refl) (λ _. refl)
grows punctuations.Slash b = grows-slash b
grows punctuations.Ampersand b = grows-ampersand b
grows punctuations.Star b = grows-equals punctuations.Star punctuations.StarAssign b refl refl (λ _. refl)
grows punctuations.Percent b = grows-equals punctuations.Percent punctuations.PercentAssign b refl refl (λ _. refl)
grows punctuations.Assign b = grows-equals punctuations.Assign punctuations.Equal b refl refl (λ _. refl)
grows punctuations.Not b = grows-equals punctuations.Not punctuations.NotEqual b refl refl (λ _. refl)
grows punctuations.Greater b = grows-equals punctuations.Greater punctuations.AtLeast b refl refl (λ _. refl)
grows punctuations.Colon b = grows-equals punctuations.Colon punctuations.Define b refl refl (λ _. refl)
grows _ b = over refl

picks : (b d : ℕ) (m n : Punctuation) (rest : Option Punctuation) → punctuation_text m ≡ d ∷ []
    → (rest ≡ Some n → punctuation_text n ≡ b ∷ []) → cond (nat_eq b d) (Some m) rest ≡ Some n → punctuation_text n ≡ b
    ∷ []
picks b d m n rest f again e = at (nat_eq b d) refl e
  where
    at : (t : Bool) → nat_eq b d ≡ t → cond t (Some m) rest ≡ Some n → punctuation_text n ≡ b ∷ []
    at true et g = let same : m ≡ n = cc in ap punctuation_text (sym same) ∙ f
        ∙ ap (λ x. x ∷ []) (sym (eqb-true b d et))
    at false et g = again g

-- a punctuation mark of one byte is spelled by it
pub begun_punctuation-text : (b : ℕ) (m : Punctuation) → begun_punctuation b ≡ Some m → punctuation_text m ≡ b ∷ []
begun_punctuation-text b m =
    picks b 43 punctuations.Plus m _ refl (
    picks b 45 punctuations.Minus m _ refl (
    picks b 42 punctuations.Star m _ refl (
    picks b 47 punctuations.Slash m _ refl (
    picks b 37 punctuations.Percent m _ refl (
    picks b 60 punctuations.Less m _ refl (
    picks b 62 punctuations.Greater m _ refl (
    picks b 33 punctuations.Not m _ refl (
    picks b 38 punctuations.Ampersand m _ refl (
    picks b 40 punctuations.OpenParen m _ refl (
    picks b 41 punctuations.CloseParen m _ refl (
    picks b 91 punctuations.OpenBracket m _ refl (
    picks b 93 punctuations.CloseBracket m _ refl (
    picks b 123 punctuations.OpenBrace m _ refl (
    picks b 125 punctuations.CloseBrace m _ refl (
    picks b 44 punctuations.Comma m _ refl (
    picks b 59 punctuations.Semicolon m _ refl (
    picks b 58 punctuations.Colon m _ refl (
    picks b 46 punctuations.Dot m _ refl (
    picks b 61 punctuations.Assign m None refl (λ (e : None ≡ Some m). absurd (cc)))))))))))))))))))))

-- each punctuation mark is read
pub punctuations-again : (m : Punctuation) → reached (punctuation_text m) ≡ Some (states.Punctuation m)
punctuations-again punctuations.Plus = refl
punctuations-again punctuations.Minus = refl
punctuations-again punctuations.Star = refl
punctuations-again punctuations.Slash = refl
punctuations-again punctuations.Percent = refl
punctuations-again punctuations.Equal = refl
punctuations-again punctuations.NotEqual = refl
punctuations-again punctuations.Less = refl
punctuations-again punctuations.AtMost = refl
punctuations-again punctuations.Greater = refl
punctuations-again punctuations.AtLeast = refl
punctuations-again punctuations.And = refl
punctuations-again punctuations.Or = refl
punctuations-again punctuations.Not = refl
punctuations-again punctuations.Arrow = refl
punctuations-again punctuations.Ampersand = refl
punctuations-again punctuations.OpenParen = refl
punctuations-again punctuations.CloseParen = refl
punctuations-again punctuations.OpenBracket = refl
punctuations-again punctuations.CloseBracket = refl
punctuations-again punctuations.OpenBrace = refl
punctuations-again punctuations.CloseBrace = refl
punctuations-again punctuations.Comma = refl
punctuations-again punctuations.Semicolon = refl
punctuations-again punctuations.Colon = refl
punctuations-again punctuations.Dot = refl
punctuations-again punctuations.Assign = refl
punctuations-again punctuations.Define = refl
punctuations-again punctuations.PlusAssign = refl
punctuations-again punctuations.MinusAssign = refl
punctuations-again punctuations.StarAssign = refl
punctuations-again punctuations.SlashAssign = refl
punctuations-again punctuations.PercentAssign = refl
punctuations-again punctuations.Increment = refl
punctuations-again punctuations.Decrement = refl
