-- Words whose brackets are in pairs.
-- For: `files_are_segments`, src/laws.rt; `separated`, golf_syntax_trees/specs/Words.antt
-- By: induction over how the words are nested, and over lists of parts
use Rattle.std.proofs.Common.{◌≡◌, ℕ, Bool, true, false, List, [], ◌∷◌, ◌++◌, map, refl, sym, subst, append_assoc}
use Rattle.std.specs.Prelude.{Option, Some, None}
use Rattle.golf_lex_tokens.specs.declared.token.TokenKind.{TokenKind}
use Rattle.golf_lex_tokens.specs.declared.token.TokenKind.TheVariants as kinds
use Rattle.golf_lex_tokens.specs.declared.token.Punctuation.{Punctuation}
use Rattle.golf_lex_tokens.specs.declared.token.Punctuation.TheVariants as punctuations
use Rattle.golf_syntax_trees.specs.Words as words
use Rattle.golf_syntax_trees.specs.Words.{Word, on_line, behind, separated, closed}

abbrev pub is_open : Punctuation → Bool
is_open punctuations.OpenParen = true
is_open punctuations.OpenBracket = true
is_open punctuations.OpenBrace = true
is_open _ = false

abbrev pub is_close : Punctuation → Bool
is_close punctuations.CloseParen = true
is_close punctuations.CloseBracket = true
is_close punctuations.CloseBrace = true
is_close _ = false

-- neither a bracket nor a semicolon
abbrev pub is_ordinary_punctuation : Punctuation → Bool
is_ordinary_punctuation punctuations.OpenParen = false
is_ordinary_punctuation punctuations.OpenBracket = false
is_ordinary_punctuation punctuations.OpenBrace = false
is_ordinary_punctuation punctuations.CloseParen = false
is_ordinary_punctuation punctuations.CloseBracket = false
is_ordinary_punctuation punctuations.CloseBrace = false
is_ordinary_punctuation punctuations.Semicolon = false
is_ordinary_punctuation _ = true

abbrev pub is_ordinary : TokenKind → Bool
is_ordinary (kinds.Punctuation m) = is_ordinary_punctuation m
is_ordinary _ = true

-- the brackets are in pairs, and semicolons stand outside them only if they may
pub data Nested : Bool → List Word → Type 0 where
  none : (b : Bool) → Nested b []
  ordinary : (b : Bool) (k : TokenKind) (l : Option ℕ) (ws : List Word) → is_ordinary k ≡ true → Nested b ws
      → Nested b (record { kind = k; line = l } ∷ ws)
  semicolon : (l : Option ℕ) (ws : List Word) → Nested true ws
      → Nested true (record { kind = kinds.Punctuation punctuations.Semicolon; line = l } ∷ ws)
  bracket : (b : Bool) (first last : Punctuation) (l : Option ℕ) (inner ws : List Word) → is_open first ≡ true
      → is_close last ≡ true → Nested true inner → Nested b ws →
      Nested b (record { kind = kinds.Punctuation first; line = l } ∷ (inner ++ words.punctuation last ∷ ws))

pub append : (b : Bool) (xs ys : List Word) → Nested b xs → Nested b ys → Nested b (xs ++ ys)
append _ _ ys (none b) n = n
append _ _ ys (ordinary b k l ws p m) n = ordinary b k l (ws ++ ys) p (append b ws ys m n)
append _ _ ys (semicolon l ws m) n = semicolon l (ws ++ ys) (append true ws ys m n)
append _ _ ys (bracket b first last l inner ws o c i m) n =
    subst (λ vs. Nested b (record { kind = kinds.Punctuation first; line = l } ∷ vs))
    (sym (append_assoc inner (words.punctuation last ∷ ws) ys))
    (bracket b first last l inner (ws ++ ys) o c i (append b ws ys m n))

pub weaken : (b : Bool) (ws : List Word) → Nested b ws → Nested true ws
weaken _ _ (none b) = none true
weaken _ _ (ordinary b k l vs p m) = ordinary true k l vs p (weaken b vs m)
weaken _ _ (semicolon l vs m) = semicolon l vs m
weaken _ _ (bracket b first last l inner vs o c i m) = bracket true first last l inner vs o c i (weaken b vs m)

pub on-line : (b : Bool) (l : ℕ) (ws : List Word) → Nested b ws → Nested b (on_line l ws)
on-line _ l _ (none b) = none b
on-line _ l _ (ordinary b k old vs p m) = ordinary b k (Some l) vs p m
on-line _ l _ (semicolon old vs m) = semicolon (Some l) vs m
on-line _ l _ (bracket b first last old inner vs o c i m) = bracket b first last (Some l) inner vs o c i m

-- a word in front
pub one : (b : Bool) (k : TokenKind) (ws : List Word) → is_ordinary k ≡ true → Nested b ws
    → Nested b (words.word k ∷ ws)
one b k ws p m = ordinary b k None ws p m

pub parens : (b : Bool) (inner ws : List Word) → Nested true inner → Nested b ws
    → Nested b (words.punctuation punctuations.OpenParen ∷ (inner ++ words.punctuation punctuations.CloseParen ∷ ws))
parens b inner ws i m = bracket b punctuations.OpenParen punctuations.CloseParen None inner ws refl refl i m

pub braces : (b : Bool) (inner ws : List Word) → Nested true inner → Nested b ws
    → Nested b (words.punctuation punctuations.OpenBrace ∷ (inner ++ words.punctuation punctuations.CloseBrace ∷ ws))
braces b inner ws i m = bracket b punctuations.OpenBrace punctuations.CloseBrace None inner ws refl refl i m

pub brackets : (b : Bool) (inner ws : List Word) → Nested true inner → Nested b ws
    → Nested b (words.punctuation punctuations.OpenBracket
    ∷ (inner ++ words.punctuation punctuations.CloseBracket ∷ ws))
brackets b inner ws i m = bracket b punctuations.OpenBracket punctuations.CloseBracket None inner ws refl refl i m

-- each of these texts
abbrev pub Each : List (List Word) → Type 0
Each [] = Unit {0}
Each (x ∷ xs) = Nested true x × Each xs

pub each-print : (A : Type 0) (print : A → List Word) → ((x : A) → Nested true (print x)) → (xs : List A)
    → Each (map print xs)
each-print A print f [] = tt
each-print A print f (x ∷ xs) = (f x, each-print A print f xs)

pub each-known : (A : Type 0) (b : Bool) (print : A → List Word) (xs : List ((x : A) × Nested b (print x)))
    → Each (map print (map (λ p. p.0) xs))
each-known A b print [] = tt
each-known A b print (x ∷ xs) = (weaken b (print x.0) x.1, each-known A b print xs)

behind-commas : (xs : List (List Word)) → Each xs → Nested true (behind punctuations.Comma xs)
behind-commas [] e = none true
behind-commas (x ∷ xs) e = one true (kinds.Punctuation punctuations.Comma) _ refl
    (append true x _ e.0 (behind-commas xs e.1))

pub commas : (xs : List (List Word)) → Each xs → Nested true (separated punctuations.Comma xs)
commas [] e = none true
commas (x ∷ xs) e = append true x _ e.0 (behind-commas xs e.1)

behind-semicolons : (xs : List (List Word)) → Each xs → Nested true (behind punctuations.Semicolon xs)
behind-semicolons [] e = none true
behind-semicolons (x ∷ xs) e = semicolon None _ (append true x _ e.0 (behind-semicolons xs e.1))

pub semicolons : (xs : List (List Word)) → Each xs → Nested true (separated punctuations.Semicolon xs)
semicolons [] e = none true
semicolons (x ∷ xs) e = append true x _ e.0 (behind-semicolons xs e.1)

pub all-closed : (xs : List (List Word)) → Each xs → Nested true (closed xs)
all-closed [] e = none true
all-closed (x ∷ xs) e = append true x _ e.0 (semicolon None _ (all-closed xs e.1))
