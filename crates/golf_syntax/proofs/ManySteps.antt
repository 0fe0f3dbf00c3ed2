-- Lists of items and of names, read one item on.
-- For: `many_at`, golf_syntax/specs/Many.antt; `names_at` and `fields_at`, src/fields.rt.
-- By: induction over n, the items that may still be read.
use Rattle.std.proofs.Common.{◌≡◌, ℕ, zero, suc, ◌≤◌, ◌<◌, List, [], ◌∷◌, ◌++◌, length, refl, ap, ◌∙◌, arith}
use Rattle.std.specs.Prelude.{Option, Some, None}
use Rattle.golf_lex_tokens.specs.declared.token.Token.{Token}
use Rattle.golf_lex_tokens.specs.declared.token.Punctuation.{Punctuation}
use Rattle.golf_lex_tokens.specs.declared.token.Punctuation.TheVariants as punctuations
use Rattle.golf_syntax_expressions.specs.Plan.{◌>>=◌}
use Rattle.golf_syntax_expressions.specs.Front.{after, name_at}
use Rattle.golf_syntax_expressions.proofs.Fronts.{after-shorter, name-shorter}
use Rattle.golf_syntax_statements.proofs.StmtSteps.{spelt-within}
use Rattle.golf_syntax.specs.Many.{Listed, many_behind, many_in, many_at, list_by, list_at}
use Rattle.golf_syntax.specs.DeclarationReader.{text_at, names_by, names_in, names_at, field_at}
use Rattle.golf_syntax.proofs.DeclSound.{text-sound, field-sound}

abbrev Shrinks : {A : Type 0} → Listed A → Type 0
Shrinks {A} item = (ts : List Token) (x : A × List Token) → item ts ≡ Some x → length x.1 ≤ length ts

module _ (A : Type 0) (item : Listed A) (sep close : Punctuation) (shrinks : Shrinks item) where
  -- the number of items allowed does not matter if there are more than tokens
  same-behind : (done : List A) (ts us : List Token) (again other : Listed (List A)) (o : Option (List Token))
      → after sep us ≡ o → length us ≤ length ts →
      ((vs : List Token) → length vs < length ts → again vs ≡ other vs)
      → many_behind close done us again o ≡ many_behind close done us other o
  same-behind done ts us again other None e w k = refl
  same-behind done ts us again other (Some vs) e w k = let s = after-shorter sep us vs e in k vs (omega arith)

  enough : (n m : ℕ) (done : List A) (ts : List Token) → length ts < n → length ts < m
      → many_in item sep close n done ts ≡ many_in item sep close m done ts
  enough zero m done ts h k = absurd (omega arith)
  enough (suc n) zero done ts h k = absurd (omega arith)
  enough (suc n) (suc m) done ts h k = at (λ d vs l. enough n m d vs (omega (arith, l)) (omega (arith, l)))
      (item ts) refl
    where
      at : ((d : List A) (vs : List Token) → length vs < length ts
          → many_in item sep close n d vs ≡ many_in item sep close m d vs) → (o : Option (A × List Token)) → item ts ≡ o
          →
          (o >>= λ x. many_behind close (done ++ x.0 ∷ []) x.1 (many_in item sep close n (done ++ x.0 ∷ []))
          (after sep x.1))
          ≡ (o >>= λ x. many_behind close (done ++ x.0 ∷ []) x.1 (many_in item sep close m (done ++ x.0 ∷ []))
          (after sep x.1))
      at again None e = refl
      at again (Some x) e = same-behind (done ++ x.0 ∷ []) ts x.1 (many_in item sep close n (done ++ x.0 ∷ []))
          (many_in item sep close m (done ++ x.0 ∷ [])) (after sep x.1) refl (shrinks ts x e) (again (done ++ x.0 ∷ []))

  step-behind : (done : List A) (ts us : List Token) (o : Option (List Token)) → after sep us ≡ o
      → length us ≤ length ts →
      many_behind close done us (many_in item sep close (length ts) done) o ≡ many_behind close done us
      (many_at item sep close done) o
  unfolding many_at
  step-behind done ts us None e w = refl
  step-behind done ts us (Some vs) e w = let s =
      after-shorter sep us vs e in enough (length ts) (suc (length vs)) done vs (omega arith) (omega arith)

  step-found : (done : List A) (ts : List Token) (o : Option (A × List Token)) → item ts ≡ o →
      (o >>= λ x. many_behind close (done ++ x.0 ∷ []) x.1 (many_in item sep close (length ts) (done ++ x.0 ∷ []))
      (after sep x.1))
      ≡ (o >>= λ x. many_behind close (done ++ x.0 ∷ []) x.1 (many_at item sep close (done ++ x.0 ∷ []))
      (after sep x.1))
  step-found done ts None e = refl
  step-found done ts (Some x) e = step-behind (done ++ x.0 ∷ []) ts x.1 (after sep x.1) refl (shrinks ts x e)

  opened : (done : List A) (ts : List Token)
      → many_at item sep close done ts ≡ (item ts >>= λ x. many_behind close (done ++ x.0 ∷ []) x.1
      (many_in item sep close (length ts) (done ++ x.0 ∷ [])) (after sep x.1))
  unfolding many_at
  opened done ts = refl

  pub many-step : (done : List A) (ts : List Token)
      → many_at item sep close done ts ≡ (item ts >>= λ x. many_behind close (done ++ x.0 ∷ []) x.1
      (many_at item sep close (done ++ x.0 ∷ [])) (after sep x.1))
  many-step done ts = opened done ts ∙ step-found done ts (item ts) refl

  -- nothing, the last item, and one with more after it
  pub many-none : (done : List A) (ts : List Token) → item ts ≡ None → many_at item sep close done ts ≡ None
  many-none done ts e = many-step done ts
      ∙ ap (λ o. o >>= λ x. many_behind close (done ++ x.0 ∷ []) x.1 (many_at item sep close (done ++ x.0 ∷ []))
      (after sep x.1)) e

  pub many-found : (done : List A) (ts us : List Token) (a : A) → item ts ≡ Some (a, us)
      → many_at item sep close done ts ≡ many_behind close (done ++ a ∷ []) us (many_at item sep close (done ++ a ∷ []))
      (after sep us)
  many-found done ts us a e = many-step done ts
      ∙ ap (λ o. o >>= λ x. many_behind close (done ++ x.0 ∷ []) x.1 (many_at item sep close (done ++ x.0 ∷ []))
      (after sep x.1)) e

  pub many-next : (done : List A) (ts us vs : List Token) (a : A) → item ts ≡ Some (a, us) → after sep us ≡ Some vs
      → many_at item sep close done ts ≡ many_at item sep close (done ++ a ∷ []) vs
  many-next done ts us vs a e f = many-found done ts us a e
      ∙ ap (many_behind close (done ++ a ∷ []) us (many_at item sep close (done ++ a ∷ []))) f

  pub many-last : (done : List A) (ts us : List Token) (a : A) (o : Option (List Token)) → item ts ≡ Some (a, us)
      → after sep us ≡ None → after close us ≡ o →
      many_at item sep close done ts ≡ (o >>= λ vs. Some (done ++ a ∷ [], vs))
  many-last done ts us a o e f g =
      many-found done ts us a e ∙ ap (many_behind close (done ++ a ∷ []) us (many_at item sep close (done ++ a ∷ []))) f
      ∙ ap (λ q. q >>= λ vs. Some (done ++ a ∷ [], vs)) g

  pub list-empty : (ts us : List Token) → after close ts ≡ Some us → list_at item sep close ts ≡ Some ([], us)
  unfolding list_at
  list-empty ts us e = ap (list_by item sep close ts) e

  pub list-some : (ts : List Token) → after close ts ≡ None → list_at item sep close ts ≡ many_at item sep close [] ts
  unfolding list_at
  list-some ts e = ap (list_by item sep close ts) e

pub text-shrinks : Shrinks text_at
text-shrinks ts x e = spelt-within _ ts x.1 (text-sound ts x e)

pub field-shrinks : Shrinks field_at
field-shrinks ts x e = spelt-within _ ts x.1 (field-sound ts x e).words

-- names after commas, after those that were read before
unfoldable pub names_from : List (List ℕ) → List Token → Option (List (List ℕ) × List Token)
names_from done ts = names_in (suc (length ts)) done ts

same-names : (done : List (List ℕ)) (ts : List Token)
    (again other : List (List ℕ) → List Token → Option (List (List ℕ) × List Token)) (o : Option (List Token))
    → after punctuations.Comma ts ≡ o →
    ((d : List (List ℕ)) (vs : List Token) → length vs < length ts → again d vs ≡ other d vs)
    → names_by done ts again o ≡ names_by done ts other o
same-names done ts again other None e k = refl
same-names done ts again other (Some us) e k = at (name_at us) refl
  where
    at : (o : Option (List ℕ × List Token)) → name_at us ≡ o
        → (o >>= λ m. again (done ++ m.0 ∷ []) m.1) ≡ (o >>= λ m. other (done ++ m.0 ∷ []) m.1)
    at None f = refl
    at (Some m) f =
        let a = after-shorter punctuations.Comma ts us e in
        let b = name-shorter us m.1 m.0 f in
        k (done ++ m.0 ∷ []) m.1 (omega arith)

names-enough : (n m : ℕ) (done : List (List ℕ)) (ts : List Token) → length ts < n → length ts < m
    → names_in n done ts ≡ names_in m done ts
names-enough zero m done ts h k = absurd (omega arith)
names-enough (suc n) zero done ts h k = absurd (omega arith)
names-enough (suc n) (suc m) done ts h k =
    same-names done ts (names_in n) (names_in m) (after punctuations.Comma ts) refl
    (λ d vs l. names-enough n m d vs (omega (arith, l)) (omega (arith, l)))

pub names-step : (done : List (List ℕ)) (ts : List Token)
    → names_from done ts ≡ names_by done ts names_from (after punctuations.Comma ts)
unfolding names_from
names-step done ts = same-names done ts (names_in (length ts)) names_from (after punctuations.Comma ts) refl
    (λ d vs l. names-enough (length ts) (suc (length vs)) d vs (omega (arith, l)) (omega (arith, l)))

pub names-over : (done : List (List ℕ)) (ts : List Token) → after punctuations.Comma ts ≡ None
    → names_from done ts ≡ Some (done, ts)
names-over done ts e = names-step done ts ∙ ap (names_by done ts names_from) e

pub names-broken : (done : List (List ℕ)) (ts us : List Token) → after punctuations.Comma ts ≡ Some us
    → name_at us ≡ None → names_from done ts ≡ None
names-broken done ts us e f = names-step done ts ∙ ap (names_by done ts names_from) e
    ∙ ap (λ o. o >>= λ m. names_from (done ++ m.0 ∷ []) m.1) f

pub names-next : (done : List (List ℕ)) (ts us vs : List Token) (n : List ℕ) → after punctuations.Comma ts ≡ Some us
    → name_at us ≡ Some (n, vs) → names_from done ts ≡ names_from (done ++ n ∷ []) vs
names-next done ts us vs n e f = names-step done ts ∙ ap (names_by done ts names_from) e
    ∙ ap (λ o. o >>= λ m. names_from (done ++ m.0 ∷ []) m.1) f

pub names-are : (ts : List Token) → names_at ts ≡ names_from [] ts
unfolding names_from names_at
names-are ts = refl
