-- Which token an expression starts with, and what may come after it.
-- For: `start_at` and `suffix_at`, src/starts.rt; `binary_at`, src/operators.rt.
-- By: cases of the first token and of the operator; no induction.
use Rattle.std.proofs.Common.{◌≡◌, ℕ, ◌≤◌, ◌<◌, Bool, true, false, cond, List, ◌∷◌, refl, ap, ◌∙◌, arith}
use Rattle.std.specs.Prelude.{Option, Some, None, nat_le}
use Rattle.std.proofs.lemmas.Bool.Decides.{nat_tests}
use Rattle.golf_lex_tokens.specs.declared.token.Token.{Token}
use Rattle.golf_lex_tokens.specs.declared.token.TokenKind.{TokenKind}
use Rattle.golf_lex_tokens.specs.declared.token.TokenKind.TheVariants as kinds
use Rattle.golf_lex_tokens.specs.declared.token.Punctuation.TheVariants as punctuations
use Rattle.golf_syntax_trees.specs.declared.expressions.UnaryOperator.{UnaryOperator}
use Rattle.golf_syntax_trees.specs.declared.expressions.UnaryOperator.TheVariants as unary
use Rattle.golf_syntax_trees.specs.declared.expressions.BinaryOperator.{BinaryOperator}
use Rattle.golf_syntax_trees.specs.declared.expressions.BinaryOperator.TheVariants as binary
use Rattle.golf_syntax_trees.specs.declared.expressions.Expr.{Expr}
use Rattle.golf_syntax_trees.specs.Words as words
use Rattle.golf_syntax_trees.specs.Words.{Word}
use Rattle.golf_syntax_trees.specs.Expressions.{unary_punctuation, binary_punctuation, binds}
use Rattle.golf_syntax_expressions.specs.Plan.{◌>>=◌}
use Rattle.golf_syntax_expressions.specs.Front.{after, after_kind}
use Rattle.golf_syntax_expressions.specs.Operators.{unary_of, binary_of, punctuation_of, unary_at, binary_at}
use Rattle.golf_syntax_expressions.specs.Starts.{start_from, start_at, call_behind, call_at, no_field, suffix_by}
use Rattle.golf_syntax_expressions.specs.Starts.{suffix_at}
use Rattle.golf_syntax_expressions.specs.ExpressionReader.{Climb, expr_at}
use Rattle.golf_syntax_expressions.proofs.Fronts.{Spelt, first, not-after}
use Rattle.golf_syntax_expressions.proofs.ExprSteps.{climb_by, grown_by, expr-Climb}

pub le-true : (a b : ℕ) → a ≤ b → nat_le a b ≡ true
le-true a b h = grind (arith, nat_tests)

pub le-false : (a b : ℕ) → b < a → nat_le a b ≡ false
le-false a b h = grind (arith, nat_tests)

pub true-le : (a b : ℕ) → nat_le a b ≡ true → a ≤ b
true-le a b h = grind (arith, nat_tests)

-- the operator of a kind of token
abbrev pub binary_behind : TokenKind → List Token → Option (BinaryOperator × List Token)
binary_behind k ts = punctuation_of k >>= λ m. binary_of m >>= λ o. Some (o, ts)

abbrev pub unary_behind : TokenKind → List Token → Option (UnaryOperator × List Token)
unary_behind k ts = punctuation_of k >>= λ m. unary_of m >>= λ o. Some (o, ts)

-- how tightly the operator in front binds
abbrev pub tight : Option (BinaryOperator × List Token) → ℕ
tight None = 0
tight (Some o) = binds o.0

abbrev pub head : List Token → ℕ
head ts = tight (binary_at ts)

pub binds-some : (o : BinaryOperator) → (1 ≤ binds o) × (binds o ≤ 5)
binds-some binary.Or = (omega arith, omega arith)
binds-some _ = (omega arith, omega arith)

pub head-small : (ts : List Token) → head ts ≤ 5
head-small ts = at (binary_at ts)
  where
    at : (o : Option (BinaryOperator × List Token)) → tight o ≤ 5
    at None = omega arith
    at (Some o) = (binds-some o.0).1

-- nothing that goes on with an expression come first
pub record Quiet (ts : List Token) : Type 0 where
  pub suffix : suffix_at ts ≡ None
  pub operator : binary_at ts ≡ None

pub quiet-head : (ts : List Token) → Quiet ts → head ts ≡ 0
quiet-head ts q = ap tight q.operator

pub no-suffix : (ts : List Token) → after punctuations.Dot ts ≡ None → after punctuations.OpenBracket ts ≡ None
    → after punctuations.OpenParen ts ≡ None → suffix_at ts ≡ None
unfolding suffix_at call_at
no-suffix ts d b p = ap (suffix_by ts) d ∙ ap (no_field ts) b
    ∙ ap (λ o. o >>= λ us. call_behind us (after punctuations.CloseParen us)) p

pub binary-first : {ws : List Word} {ts rest : List Token} (k : TokenKind) → Spelt (words.word k ∷ ws) ts rest
    → (us : List Token) × (binary_at ts ≡ binary_behind k us) × Spelt ws us rest
unfolding binary_at
binary-first k h = let f = first h in (f.1, ap binary_at f.2 ∙ ap (λ q. binary_behind q f.1) f.3, f.5)

pub quiet : {ws : List Word} {ts rest : List Token} (k : TokenKind)
    → ((us : List Token) → (after_kind punctuations.Dot k us ≡ None) × (after_kind punctuations.OpenBracket k us ≡ None)
    × (after_kind punctuations.OpenParen k us ≡ None) × (binary_behind k us ≡ None)) → Spelt (words.word k ∷ ws) ts rest
    → Quiet ts
quiet {ws} {ts} {rest} k ordinary h =
    let b = binary-first k h in
    record {
      suffix = no-suffix ts (not-after punctuations.Dot k (λ us. (ordinary us).0) h)
          (not-after punctuations.OpenBracket k (λ us. (ordinary us).1) h)
          (not-after punctuations.OpenParen k (λ us. (ordinary us).2) h);
      operator = b.1 ∙ (ordinary b.0).3;
    }

-- a binary operator in front
operator-is : (o : BinaryOperator) (us : List Token)
    → binary_behind (kinds.Punctuation (binary_punctuation o)) us ≡ Some (o, us)
operator-is binary.Or us = refl
operator-is _ us = refl

no-dot : (o : BinaryOperator) (us : List Token)
    → (after_kind punctuations.Dot (kinds.Punctuation (binary_punctuation o)) us ≡ None)
    × (after_kind punctuations.OpenBracket (kinds.Punctuation (binary_punctuation o)) us ≡ None)
    × (after_kind punctuations.OpenParen (kinds.Punctuation (binary_punctuation o)) us ≡ None)
no-dot binary.Or us = (refl, refl, refl)
no-dot _ us = (refl, refl, refl)

pub operator-first : {ws : List Word} {ts rest : List Token} (o : BinaryOperator)
    → Spelt (words.punctuation (binary_punctuation o) ∷ ws) ts rest → (us : List Token) × (binary_at ts ≡ Some (o, us))
    × (suffix_at ts ≡ None) × Spelt ws us rest
operator-first {ws} {ts} {rest} o h =
    let b = binary-first (kinds.Punctuation (binary_punctuation o)) h in (
      b.0,
      b.1 ∙ operator-is o b.0,
      no-suffix ts (not-after punctuations.Dot (kinds.Punctuation (binary_punctuation o)) (λ us. (no-dot o us).0) h)
          (not-after punctuations.OpenBracket (kinds.Punctuation (binary_punctuation o)) (λ us. (no-dot o us).1) h)
          (not-after punctuations.OpenParen (kinds.Punctuation (binary_punctuation o)) (λ us. (no-dot o us).2) h),
      b.2,
    )

prefix-is : (o : UnaryOperator) (us : List Token)
    → unary_behind (kinds.Punctuation (unary_punctuation o)) us ≡ Some (o, us)
prefix-is unary.Negate us = refl
prefix-is _ us = refl

pub prefix-first : {ws : List Word} {ts rest : List Token} (o : UnaryOperator)
    → Spelt (words.punctuation (unary_punctuation o) ∷ ws) ts rest → (us : List Token) × (unary_at ts ≡ Some (o, us))
    × Spelt ws us rest
unfolding unary_at
prefix-first o h = let f = first h in (f.1, ap unary_at f.2 ∙ ap (λ q. unary_behind q f.1) f.3 ∙ prefix-is o f.1, f.5)

-- how an operand begins, by its first token
pub start-first : {ws : List Word} {ts rest : List Token} (header : Bool) (k : TokenKind)
    → Spelt (words.word k ∷ ws) ts rest → (us : List Token) × (start_at header ts ≡ start_from header k us)
    × (unary_at ts ≡ unary_behind k us) × Spelt ws us rest
unfolding start_at unary_at
start-first header k h = let f = first h in (
  f.1,
  ap (start_at header) f.2 ∙ ap (λ q. start_from header q f.1) f.3,
  ap unary_at f.2 ∙ ap (λ q. unary_behind q f.1) f.3,
  f.5,
)

-- a climb ends if no operator binds so tightly
pub climb-stops : (header : Bool) (l : ℕ) (left : Expr) (ts : List Token) → head ts < l
    → expr_at (Climb header l left) ts ≡ Some (left, ts)
climb-stops header l left ts h = expr-Climb header l left ts ∙ at (binary_at ts) h
  where
    at : (o : Option (BinaryOperator × List Token)) → tight o < l → climb_by header l left ts o ≡ Some (left, ts)
    at None h = refl
    at (Some o) h = ap (λ b. cond b (grown_by header l left o.0 o.1) (Some (left, ts))) (le-false l (binds o.0) h)

pub then : {A B : Type 0} (f : A → Option B) (o : Option A) (a : A) → o ≡ Some a → (o >>= f) ≡ f a
then f o a e = ap (λ q. q >>= f) e
