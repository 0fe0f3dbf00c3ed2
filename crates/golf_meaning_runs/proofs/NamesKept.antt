-- Names with values of their types, put together and cut.
-- For: `NamesHaveValues`, specs/Sound.antt; `BeginsWithLocals`, specs/Flowing.antt
-- By: induction over the list of locals
use Rattle.std.proofs.Common.{◌≡◌, ℕ, suc, List, [], ◌∷◌, ◌++◌, length, take, Option, refl, sym, ap, subst}
use Rattle.std.proofs.Common.{append_assoc, append-nil}
use Rattle.golf_data.specs.declared.value.Value.{Value}
use Rattle.golf_check_types.specs.declared.types.GoType.{GoType}
use Rattle.golf_check_types.specs.declared.locals.Local.{Local}
use Rattle.golf_check_types.specs.declared.scopes.Scope.{Scope}
use Rattle.golf_check_types.specs.Scopes.{variable}
use Rattle.golf_meaning_source.specs.Names.{Env}
use Rattle.golf_meaning_source.specs.Operations.{Taking}
use Rattle.golf_meaning_statements.specs.Steps.{bound}
use Rattle.golf_meaning_runs.specs.Sound.{Held, NamesHaveValues}
use Rattle.golf_meaning_runs.specs.SoundFlows.{BeginsWithLocals}

module _ (taking : Taking) where
  pub names-append : (ds es : List Local) (xs ys : Env) → NamesHaveValues taking ds xs → NamesHaveValues taking es ys
      → NamesHaveValues taking (ds ++ es) (xs ++ ys)
  names-append [] es [] ys h k = k
  names-append [] es (x ∷ xs) ys h k = absurd h
  names-append (d ∷ ds) es [] ys h k = absurd h
  names-append (d ∷ ds) es (x ∷ xs) ys h k = (h.0, h.1, names-append ds es xs ys h.2 k)

  pub names-length : (ds : List Local) (env : Env) → NamesHaveValues taking ds env → length env ≡ length ds
  names-length [] [] h = refl
  names-length [] (x ∷ xs) h = absurd h
  names-length (d ∷ ds) [] h = absurd h
  names-length (d ∷ ds) (x ∷ xs) h = ap (λ n. suc n) (names-length ds xs h.2)

  pub names-first : (ds es : List Local) (env : Env) → NamesHaveValues taking (ds ++ es) env
      → NamesHaveValues taking ds (take (length ds) env)
  names-first [] es env h = tt
  names-first (d ∷ ds) es [] h = absurd h
  names-first (d ∷ ds) es (x ∷ xs) h = (h.0, h.1, names-first ds es xs h.2)

  -- what was declared inside is forgotten
  pub names-cut : (ds : List Local) (before env : Env) → NamesHaveValues taking ds before
      → BeginsWithLocals taking ds env
      → NamesHaveValues taking ds (take (length before) env)
  names-cut ds before env h b = subst (λ k. NamesHaveValues taking ds (take k env)) (sym (names-length ds before h))
      (names-first ds b.0 env b.1)

  pub begins-self : (ds : List Local) (env : Env) → NamesHaveValues taking ds env → BeginsWithLocals taking ds env
  begins-self ds env h = ([], subst (λ es. NamesHaveValues taking es env) (sym (append-nil ds)) h)

  pub begins-on : (ds es : List Local) (env : Env) → NamesHaveValues taking (ds ++ es) env
      → BeginsWithLocals taking ds env
  begins-on ds es env h = (es, h)

  pub begins-in : (ds es : List Local) (env : Env) → BeginsWithLocals taking (ds ++ es) env
      → BeginsWithLocals taking ds env
  begins-in ds es env b = (es ++ b.0, subst (λ xs. NamesHaveValues taking xs env) (append_assoc ds es b.0) b.1)

  -- one more name
  pub names-bound : (ds : List Local) (at : Scope) (n : List ℕ) (o : Option GoType) (env : Env) (v : Value)
      → NamesHaveValues taking ds env → Held taking o v
      → NamesHaveValues taking (ds ++ variable at n o ∷ []) (bound env n v)
  names-bound ds at n o env v h k = names-append ds (variable at n o ∷ []) env (record { name = n; value = v } ∷ []) h
      (refl, k, tt)
