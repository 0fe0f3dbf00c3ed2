-- How counts change.
-- For: `first_too_complex`, src/cost.rt
-- By: cases of the kind of token, and arithmetic; no induction
use Rattle.std.proofs.Common.{◌≡◌, ℕ, ◌+◌, ◌≤◌, ◌<◌, true, false, cond, length, get_or, drop, List, [], ◌∷◌, ◌++◌, refl}
use Rattle.std.proofs.Common.{ap, sym, ◌∙◌, arith}
use Rattle.std.specs.Prelude.{reverse, sum, nat_lt, Some}
use Rattle.std.proofs.lemmas.List.{reverse-append, at_drop_more}
use Rattle.std.proofs.lemmas.List.Sums.{sum_by_push, sum_by-cons}
use Rattle.std.proofs.lemmas.List.Sorted.{IsPermutation-reverse, sum_by-IsPermutation}
use Rattle.std.proofs.lemmas.Bool.Decides.{nat_tests}
use Rattle.golf_lex_tokens.specs.declared.token.Token.{Token}
use Rattle.golf_syntax_trees.specs.Reads.{most, first_too_complex}
use Rattle.golf_lex_tokens.specs.declared.token.TokenKind.{TokenKind}
use Rattle.golf_lex_tokens.specs.declared.token.TokenKind.TheVariants as kinds
use Rattle.golf_lex_tokens.specs.declared.token.Punctuation.{Punctuation}
use Rattle.golf_lex_tokens.specs.declared.token.Punctuation.TheVariants as punctuations
use Rattle.golf_lex_tokens.specs.Cost.{one_more, closed, cleared, counted}
use Rattle.golf_syntax_segments.specs.declared.cost.Role.{Role}
use Rattle.golf_syntax_segments.specs.declared.cost.Role.TheVariants.{Opens, Closes, Separates, Ordinary}
use Rattle.golf_syntax_segments.specs.declared.cost.TheConstants.{MOST_COST}
use Rattle.golf_syntax_segments.specs.Counts.{role_of_punctuation, role_of}

-- the counts after a token of a role
abbrev pub counted_by : Role → List ℕ → List ℕ
counted_by Opens counts = 0 ∷ one_more counts
counted_by Closes counts = one_more (closed counts)
counted_by Separates counts = cleared (one_more counts)
counted_by Ordinary counts = one_more counts

punctuation-counts : (m : Punctuation) (counts : List ℕ)
    → counted (kinds.Punctuation m) counts ≡ counted_by (role_of_punctuation m) counts
punctuation-counts punctuations.OpenParen counts = refl
punctuation-counts punctuations.Semicolon counts = refl
punctuation-counts _ counts = refl

pub counts-by : (k : TokenKind) (counts : List ℕ) → counted k counts ≡ counted_by (role_of k) counts
counts-by (kinds.Punctuation m) counts = punctuation-counts m counts
counts-by _ counts = refl

-- the last count is the first of them turned round
pub turned : (xs : List ℕ) (n : ℕ) → reverse (xs ++ n ∷ []) ≡ n ∷ reverse xs
turned xs n = reverse-append xs (n ∷ [])

-- the sum with one count more at the end
pub sum-push : (xs : List ℕ) (n : ℕ) → sum (xs ++ n ∷ []) ≡ sum xs + n
sum-push xs n = sum_by_push (λ x. x) xs n

-- a list turned round has the same sum
pub sum-turned : (n : ℕ) (xs : List ℕ) → sum (n ∷ reverse xs) ≡ n + sum xs
sum-turned n xs = sum_by-cons (λ x. x) n (reverse xs)
    ∙ ap (λ k. n + k) (sum_by-IsPermutation (λ x. x) xs (reverse xs) (IsPermutation-reverse xs))

-- the first too_complex token of what is left, one token on
pub too_complex-on : (counts : List ℕ) (ts : List Token) (i : ℕ) (t : Token) → i < length ts → t ≡ get_or ts i t
    → first_too_complex counts (drop i ts) ≡ cond (nat_lt most (sum (counted t.kind counts))) (Some t.line)
    (first_too_complex (counted t.kind counts) (drop (i + 1) ts))
too_complex-on counts ts i t h e =
    at_drop_more (first_too_complex counts) ts i t h
    ∙ ap (λ (q : Token). cond (nat_lt most (sum (counted q.kind counts))) (Some q.line)
    (first_too_complex (counted q.kind counts) (drop (i + 1) ts))) (sym e)

more-than : (n : ℕ) → MOST_COST < n → nat_lt most n ≡ true
unfolding most
more-than n h = grind (arith, nat_tests)

no-more : (n : ℕ) → n ≤ MOST_COST → nat_lt most n ≡ false
unfolding most
no-more n h = grind (arith, nat_tests)

-- a token that costs more
pub costs-more : (counts : List ℕ) (ts : List Token) (i : ℕ) (t : Token) (inner : ℕ) (outer : List ℕ) → i < length ts
    → t ≡ get_or ts i t → inner ∷ reverse outer ≡ counted t.kind counts → MOST_COST < inner + sum outer
    → first_too_complex counts (drop i ts) ≡ Some t.line
costs-more counts ts i t inner outer h e c big =
    too_complex-on counts ts i t h e
    ∙ ap (λ b. cond b (Some t.line) (first_too_complex (counted t.kind counts) (drop (i + 1) ts)))
    (ap (λ n. nat_lt most n) (ap sum (sym c) ∙ sum-turned inner outer) ∙ more-than (inner + sum outer) big)

-- a token that does not
pub costs-little : (counts : List ℕ) (ts : List Token) (i : ℕ) (t : Token) (inner : ℕ) (outer : List ℕ) → i < length ts
    → t ≡ get_or ts i t → inner ∷ reverse outer ≡ counted t.kind counts → inner + sum outer ≤ MOST_COST
    → first_too_complex counts (drop i ts) ≡ first_too_complex (inner ∷ reverse outer) (drop (i + 1) ts)
costs-little counts ts i t inner outer h e c small =
    too_complex-on counts ts i t h e
    ∙ ap (λ b. cond b (Some t.line) (first_too_complex (counted t.kind counts) (drop (i + 1) ts)))
    (ap (λ n. nat_lt most n) (ap sum (sym c) ∙ sum-turned inner outer) ∙ no-more (inner + sum outer) small)
    ∙ ap (λ cs. first_too_complex cs (drop (i + 1) ts)) (sym c)

pub ruleset count_steps = (counts-by, turned, sum-push)
