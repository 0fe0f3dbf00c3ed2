-- How words are spelt, part by part.
-- For: `SpellsWords`, golf_syntax_trees/specs/Words.antt
-- By: induction over the list of words
use Rattle.std.proofs.Common.{◌≡◌, List, [], ◌∷◌, ◌++◌, ap, sym, subst, refl}
use Rattle.golf_lex_tokens.specs.declared.token.Token.{Token}
use Rattle.golf_lex_tokens.specs.declared.token.Punctuation.TheVariants as punctuations
use Rattle.golf_syntax_trees.specs.Words.{Word, punctuation, SpellsWords}

-- the tokens between
pub split : (xs ys : List Word) (ts rest : List Token) → SpellsWords (xs ++ ys) ts rest → (mid : List Token)
    × (SpellsWords xs ts mid) × (SpellsWords ys mid rest)
split [] ys ts rest h = (ts, refl, h)
split (x ∷ xs) ys [] rest h = absurd h
split (x ∷ xs) ys (t ∷ ts) rest h = let k = split xs ys ts rest h.1 in (k.0, (h.0, k.1), k.2)

pub join : (xs ys : List Word) (ts mid rest : List Token) → SpellsWords xs ts mid → SpellsWords ys mid rest
    → SpellsWords (xs ++ ys) ts rest
join [] ys ts mid rest h k = subst (λ us. SpellsWords ys us rest) (sym h) k
join (x ∷ xs) ys [] mid rest h k = absurd h
join (x ∷ xs) ys (t ∷ ts) mid rest h k = (h.0, join xs ys ts mid rest h.1 k)

-- the tokens that spell the words, before the others
pub record Parted (ws : List Word) (ts rest : List Token) : Type 0 where
  pub segment : List Token
  pub words : SpellsWords ws segment []
  pub whole : ts ≡ segment ++ rest

pub part : (ws : List Word) (ts rest : List Token) → SpellsWords ws ts rest → Parted ws ts rest
part [] ts rest h = record { segment = []; words = refl; whole = h }
part (w ∷ ws) [] rest h = absurd h
part (w ∷ ws) (t ∷ ts) rest h = let k = part ws ts rest
    h.1 in record { segment = t ∷ k.segment; words = (h.0, k.words); whole = ap (λ us. t ∷ us) k.whole }

-- more tokens after
pub longer : (ws : List Word) (ts rest us : List Token) → SpellsWords ws ts rest
    → SpellsWords ws (ts ++ us) (rest ++ us)
longer [] ts rest us h = ap (λ vs. vs ++ us) h
longer (w ∷ ws) [] rest us h = absurd h
longer (w ∷ ws) (t ∷ ts) rest us h = (h.0, longer ws ts rest us h.1)

-- words with a semicolon, before other words
pub closing : (ws vs : List Word) (ts rest : List Token)
    → SpellsWords (ws ++ punctuation punctuations.Semicolon ∷ vs) ts rest → (mid : List Token)
    × (SpellsWords (ws ++ punctuation punctuations.Semicolon ∷ []) ts mid) × (SpellsWords vs mid rest)
closing ws vs ts rest h = let k = split ws (punctuation punctuations.Semicolon ∷ vs) ts rest h in next k.0 k.1 k.2
  where
    next : (mid : List Token) → SpellsWords ws ts mid → SpellsWords (punctuation punctuations.Semicolon ∷ vs) mid rest
        → (mid : List Token) × (SpellsWords (ws ++ punctuation punctuations.Semicolon ∷ []) ts mid)
        × (SpellsWords vs mid rest)
    next [] a b = absurd b
    next (s ∷ ss) a b = (ss, join ws (punctuation punctuations.Semicolon ∷ []) ts (s ∷ ss) ss a (b.0, refl), b.1)
