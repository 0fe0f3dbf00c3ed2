-- How items with a separator between are read, up to the mark that closes them.
use Rattle.std.specs.Prelude.{ℕ, zero, suc, List, [], ◌∷◌, ◌++◌, length, Option, Some, None}
use Rattle.golf_lex_tokens.specs.declared.token.Token.{Token}
use Rattle.golf_lex_tokens.specs.declared.token.Punctuation.{Punctuation}
use Rattle.golf_syntax_expressions.specs.Plan.{◌>>=◌}
use Rattle.golf_syntax_expressions.specs.Front.{after}

abbrev pub Listed : Type 0 → Type 0
Listed A = List Token → Option (A × List Token)

-- after an item: a separator and more items, or the mark that closes the list
abbrev pub many_behind : {A : Type 0} → Punctuation → List A → List Token → Listed (List A) → Option (List Token)
    → Option (List A × List Token)
many_behind close done ts again (Some us) = again us
many_behind close done ts again None = after close ts >>= λ us. Some (done, us)

-- at most n items
abbrev pub many_in : {A : Type 0} → Listed A → Punctuation → Punctuation → ℕ → List A → Listed (List A)
many_in item sep close zero done ts = None
many_in item sep close (suc n) done ts =
    item ts >>= λ x. many_behind close (done ++ x.0 ∷ []) x.1 (many_in item sep close n (done ++ x.0 ∷ []))
    (after sep x.1)

-- one or more items, after those that were read before, and the tokens after the closing mark
unfoldable pub many_at : {A : Type 0} → Listed A → Punctuation → Punctuation → List A → Listed (List A)
many_at item sep close done ts = many_in item sep close (suc (length ts)) done ts

-- no items, or one or more
abbrev pub list_by : {A : Type 0} → Listed A → Punctuation → Punctuation → List Token → Option (List Token)
    → Option (List A × List Token)
list_by item sep close ts (Some us) = Some ([], us)
list_by item sep close ts None = many_at item sep close [] ts

unfoldable pub list_at : {A : Type 0} → Listed A → Punctuation → Punctuation → Listed (List A)
list_at item sep close ts = list_by item sep close ts (after close ts)
