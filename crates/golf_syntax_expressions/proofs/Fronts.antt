-- Words that stand at the beginning of the tokens: joined, split, and read off one by one.
-- For: `SpellsWords`, golf_syntax_trees/specs/Words.antt; `after` and `name_at`, src/front.rt.
-- By: induction over the list of words.
use Rattle.std.proofs.Common.{◌≡◌, ℕ, suc, Bool, true, false, ◌&&◌, cond, List, [], ◌∷◌, ◌++◌, length, refl, ap, sym}
use Rattle.std.proofs.Common.{subst, ◌∙◌, rules}
use Rattle.std.specs.Prelude.{Option, Some, None, MatchOption}
use denote.Enum.Bare.{same_true, true_same}
use Rattle.golf_lex_tokens.specs.declared.token.Token.{Token}
use Rattle.golf_lex_tokens.specs.declared.token.TokenKind.{TokenKind}
use Rattle.golf_lex_tokens.specs.declared.token.TokenKind.TheVariants as kinds
use Rattle.golf_lex_tokens.specs.declared.token.Punctuation.{Punctuation}
use Rattle.golf_lex_tokens.specs.declared.token.Keyword.{Keyword}
use Rattle.golf_lex_tokens.specs.contracts.token.Punctuation as punctuation
use Rattle.golf_lex_tokens.specs.contracts.token.Keyword as keyword
use Rattle.golf_syntax_trees.specs.Words as words
use Rattle.golf_syntax_trees.specs.Words.{Word, SpellsWords}
use Rattle.golf_syntax_expressions.specs.Front.{same_punctuation, same_keyword, after_kind, after, after_keyword_kind}
use Rattle.golf_syntax_expressions.specs.Front.{after_keyword, name_of, name_at}

pub some-same : {A : Type 0} (x y : A) → Some x ≡ Some y → x ≡ y
some-same x y e = cc

pub both : (a b : Bool) → (a && b) ≡ true → (a ≡ true) × (b ≡ true)
both true b e = (refl, e)
both false b e = cc

pub and-true : (a b : Bool) → a ≡ true → b ≡ true → (a && b) ≡ true
and-true a b p q = ap (λ x. x && b) p ∙ q

-- what holds of all that may be found
pub found : {A : Type 0} (P : A → Type 0) (o : Option A) → ((x : A) → o ≡ Some x → P x) → MatchOption o (Unit {0}) P
found P None k = tt
found P (Some x) k = k x refl

-- these words are the tokens of the first list, up to the second
pub record Spelt (ws : List Word) (ts rest : List Token) : Type 0 where
  pub are : SpellsWords ws ts rest

pub nothing : {ts : List Token} → Spelt [] ts ts
nothing = record { are = refl }

pub kind-then : {ws : List Word} {ts rest : List Token} (t : Token) (k : TokenKind) → t.kind ≡ k → Spelt ws ts rest
    → Spelt (words.word k ∷ ws) (t ∷ ts) rest
kind-then t k e h = record { are = ((e, tt), h.are) }

pub punctuation-then : {ws : List Word} {us rest : List Token} (m : Punctuation) (ts : List Token)
    → after m ts ≡ Some us → Spelt ws us rest → Spelt (words.punctuation m ∷ ws) ts rest
punctuation-then {ws} {us} {rest} m [] e h = cc
punctuation-then {ws} {us} {rest} m (t ∷ ts) e h = at t.kind refl e
  where
    by_punctuation : (n : Punctuation) (b : Bool) → same_punctuation n m ≡ b → cond b (Some ts) None ≡ Some us → (n ≡ m)
        × (ts ≡ us)
    by_punctuation n true s f = (same_true punctuation.the_type (search rules) n m s, cc)
    by_punctuation n false s f = cc

    at : (k : TokenKind) → t.kind ≡ k → after_kind m k ts ≡ Some us → Spelt (words.punctuation m ∷ ws) (t ∷ ts) rest
    at (kinds.Punctuation n) is f = let b =
        by_punctuation n (same_punctuation n m) refl f in kind-then t (kinds.Punctuation m)
        (is ∙ ap kinds.Punctuation b.0) (subst (λ qs. Spelt ws qs rest) (sym b.1) h)
    at _ is f = cc

pub keyword-then : {ws : List Word} {us rest : List Token} (w : Keyword) (ts : List Token)
    → after_keyword w ts ≡ Some us → Spelt ws us rest → Spelt (words.keyword w ∷ ws) ts rest
keyword-then {ws} {us} {rest} w [] e h = cc
keyword-then {ws} {us} {rest} w (t ∷ ts) e h = at t.kind refl e
  where
    by_keyword : (n : Keyword) (b : Bool) → same_keyword n w ≡ b → cond b (Some ts) None ≡ Some us → (n ≡ w) × (ts ≡ us)
    by_keyword n true s f = (same_true keyword.the_type (search rules) n w s, cc)
    by_keyword n false s f = cc

    at : (k : TokenKind) → t.kind ≡ k → after_keyword_kind w k ts ≡ Some us → Spelt (words.keyword w ∷ ws) (t ∷ ts) rest
    at (kinds.Keyword n) is f = let b = by_keyword n (same_keyword n w) refl f in kind-then t (kinds.Keyword w)
        (is ∙ ap kinds.Keyword b.0) (subst (λ qs. Spelt ws qs rest) (sym b.1) h)
    at _ is f = cc

pub name-then : {ws : List Word} {us rest : List Token} (n : List ℕ) (ts : List Token) → name_at ts ≡ Some (n, us)
    → Spelt ws us rest → Spelt (words.name n ∷ ws) ts rest
name-then {ws} {us} {rest} n [] e h = cc
name-then {ws} {us} {rest} n (t ∷ ts) e h = at t.kind refl e
  where
    at : (k : TokenKind) → t.kind ≡ k → name_of k ts ≡ Some (n, us) → Spelt (words.name n ∷ ws) (t ∷ ts) rest
    at (kinds.Name m) is f =
        let same = some-same (m, ts) (n, us) f in
        kind-then t (kinds.Name n) (is ∙ ap (λ (x : List ℕ × List Token). kinds.Name x.0) same)
        (subst (λ qs. Spelt ws qs rest) (sym (ap (λ (x : List ℕ × List Token). x.1) same)) h)
    at _ is f = cc

-- words in a row
pub join : {xs ys : List Word} {ts mid rest : List Token} → Spelt xs ts mid → Spelt ys mid rest
    → Spelt (xs ++ ys) ts rest
join {xs} {ys} {ts} {mid} {rest} h k = record { are = at xs ts h.are }
  where
    at : (xs : List Word) (ts : List Token) → SpellsWords xs ts mid → SpellsWords (xs ++ ys) ts rest
    at [] ts p = subst (λ us. SpellsWords ys us rest) (sym p) k.are
    at (x ∷ xs) [] p = absurd p
    at (x ∷ xs) (t ∷ ts) p = (p.0, at xs ts p.1)

pub split : (xs ys : List Word) {ts rest : List Token} → Spelt (xs ++ ys) ts rest → (mid : List Token) × Spelt xs ts mid
    × Spelt ys mid rest
split [] ys {ts} {rest} h = (ts, nothing, h)
split (x ∷ xs) ys {ts = []} {rest} h = absurd h.are
split (x ∷ xs) ys {ts = t ∷ ts} {rest} h =
    let r = split xs ys {ts = ts} {rest = rest}
    (record { are = h.are.1 }) in (r.0, record { are = (h.are.0, r.1.are) }, r.2)

-- a first word is a first token
pub first : {w : Word} {ws : List Word} {ts rest : List Token} → Spelt (w ∷ ws) ts rest → (t : Token)
    × (us : List Token) × (ts ≡ t ∷ us) × (t.kind ≡ w.kind) × words.OnLine w.line t.line × Spelt ws us rest
first {w} {ws} {ts = []} {rest} h = absurd h.are
first {w} {ws} {ts = t ∷ us} {rest} h = (t, us, refl, h.are.0.0, h.are.0.1, record { are = h.are.1 })

pub ends : {ts rest : List Token} → Spelt [] ts rest → ts ≡ rest
ends h = h.are

pub same-punctuation : (m : Punctuation) → same_punctuation m m ≡ true
same-punctuation m = true_same punctuation.the_type m m refl

pub same-keyword : (w : Keyword) → same_keyword w w ≡ true
same-keyword w = true_same keyword.the_type w w refl

pub behind-punctuation : {ws : List Word} {ts rest : List Token} (m : Punctuation)
    → Spelt (words.punctuation m ∷ ws) ts rest → (us : List Token) × (after m ts ≡ Some us) × Spelt ws us rest
behind-punctuation {ws} {ts = []} {rest} m h = absurd h.are
behind-punctuation {ws} {ts = t ∷ us} {rest} m h = (
  us,
  ap (λ k. after_kind m k us) h.are.0.0 ∙ ap (λ b. cond b (Some us) None) (same-punctuation m),
  record { are = h.are.1 },
)

pub behind-keyword : {ws : List Word} {ts rest : List Token} (w : Keyword) → Spelt (words.keyword w ∷ ws) ts rest
    → (us : List Token) × (after_keyword w ts ≡ Some us) × Spelt ws us rest
behind-keyword {ws} {ts = []} {rest} w h = absurd h.are
behind-keyword {ws} {ts = t ∷ us} {rest} w h = (
  us,
  ap (λ k. after_keyword_kind w k us) h.are.0.0 ∙ ap (λ b. cond b (Some us) None) (same-keyword w),
  record { are = h.are.1 },
)

pub behind-name : {ws : List Word} {ts rest : List Token} (n : List ℕ) → Spelt (words.name n ∷ ws) ts rest
    → (us : List Token) × (name_at ts ≡ Some (n, us)) × Spelt ws us rest
behind-name {ws} {ts = []} {rest} n h = absurd h.are
behind-name {ws} {ts = t ∷ us} {rest} n h = (us, ap (λ k. name_of k us) h.are.0.0, record { are = h.are.1 })

-- another kind of word in front
pub not-after : {ws : List Word} {ts rest : List Token} (m : Punctuation) (k : TokenKind)
    → ((us : List Token) → after_kind m k us ≡ None) → Spelt (words.word k ∷ ws) ts rest → after m ts ≡ None
not-after {ws} {ts = []} {rest} m k other h = absurd h.are
not-after {ws} {ts = t ∷ us} {rest} m k other h = ap (λ q. after_kind m q us) h.are.0.0 ∙ other us

-- what follows is shorter
pub spelt-shorter : {w : Word} {ts us : List Token} → Spelt (w ∷ []) ts us → suc (length us) ≡ length ts
spelt-shorter {w} {ts = []} {us} h = absurd h.are
spelt-shorter {w} {ts = t ∷ ts} {us} h = ap (λ xs. suc (length xs)) (sym h.are.1)

pub after-shorter : (m : Punctuation) (ts us : List Token) → after m ts ≡ Some us → suc (length us) ≡ length ts
after-shorter m ts us e = spelt-shorter (punctuation-then m ts e nothing)

pub keyword-shorter : (k : Keyword) (ts us : List Token) → after_keyword k ts ≡ Some us → suc (length us) ≡ length ts
keyword-shorter k ts us e = spelt-shorter (keyword-then k ts e nothing)

pub name-shorter : (ts us : List Token) (n : List ℕ) → name_at ts ≡ Some (n, us) → suc (length us) ≡ length ts
name-shorter ts us n e = spelt-shorter (name-then n ts e nothing)
