-- How many words there are in what trees print.
-- For: `Word` and `separated`, golf_syntax_trees/specs/Words.antt
-- By: induction over the list of what is printed
use Rattle.std.proofs.Common.{◌≡◌, ℕ, suc, ◌+◌, ◌≤◌, List, [], ◌∷◌, ◌++◌, length, refl, arith, length-append}
use Rattle.golf_lex_tokens.specs.declared.token.Punctuation.{Punctuation}
use Rattle.golf_lex_tokens.specs.declared.token.Punctuation.TheVariants as punctuations
use Rattle.golf_syntax_trees.specs.Words.{Word, punctuation, on_line, behind, separated, closed}
use Rattle.golf_syntax_trees.specs.Statements.{ClauseWords, clauses}

-- how many words texts have
abbrev pub total : List (List Word) → ℕ
total [] = 0
total (x ∷ xs) = length x + total xs

pub line-length : (l : ℕ) (ws : List Word) → length (on_line l ws) ≡ length ws
line-length l [] = refl
line-length l (w ∷ ws) = refl

behind-length : (m : Punctuation) (xs : List (List Word)) → length (behind m xs) ≡ total xs + length xs
behind-length m [] = refl
behind-length m (x ∷ xs) = let e = length-append x (behind m xs) in let f = behind-length m xs in omega (arith, e, f)

pub separated-length : (m : Punctuation) (xs : List (List Word)) → total xs + length xs ≤ suc (length (separated m xs))
separated-length m [] = omega arith
separated-length m (x ∷ xs) = let e = length-append x (behind m xs) in let f = behind-length m xs in omega (arith, e, f)

pub separated-total : (m : Punctuation) (xs : List (List Word)) → total xs ≤ length (separated m xs)
separated-total m [] = omega arith
separated-total m (x ∷ xs) = let e = length-append x (behind m xs) in let f = behind-length m xs in omega (arith, e, f)

pub closed-length : (xs : List (List Word)) → length (closed xs) ≡ total xs + length xs
closed-length [] = refl
closed-length (x ∷ xs) = let e = length-append x (punctuation punctuations.Semicolon ∷ closed xs) in let f =
    closed-length xs in omega (arith, e, f)

-- how many words clauses have
abbrev pub clause_total : ClauseWords → ℕ
clause_total c = length c.opening + total c.body

abbrev pub clauses_total : List ClauseWords → ℕ
clauses_total [] = 0
clauses_total (c ∷ cs) = clause_total c + clauses_total cs

pub clauses-length : (cs : List ClauseWords) → clauses_total cs ≤ length (clauses cs)
clauses-length [] = omega arith
clauses-length (c ∷ []) = let e = length-append c.opening (separated punctuations.Semicolon c.body) in let f =
    separated-total punctuations.Semicolon c.body in omega (arith, e, f)
clauses-length (c ∷ d ∷ cs) =
    let e = length-append c.opening (closed c.body ++ clauses (d ∷ cs)) in
    let f = length-append (closed c.body) (clauses (d ∷ cs)) in
    let g = closed-length c.body in
    let h = clauses-length (d ∷ cs) in
    omega (arith, e, f, g, h)
