-- The words that types print, and which types are well formed.
use Rattle.std.specs.Prelude.{ℕ, Bool, true, false, not, ◌&&◌, List, [], ◌∷◌, codes}
use Rattle.golf_lex_tokens.specs.declared.token.Punctuation.TheVariants as punctuations
use Rattle.golf_lex_tokens.specs.declared.token.Keyword.TheVariants as keywords
use Rattle.golf_syntax_trees.specs.declared.types.TypeExpr.{TypeExpr}
use Rattle.golf_syntax_trees.specs.declared.types.TypeExpr.TheOpen.{TypeExpr-F, Named, Pointer, SyncPointer, Slice}
use Rattle.golf_syntax_trees.specs.declared.types.TypeExpr.TheOpen.{Chan, SendChan, ReceiveChan, EmptyStruct}
use Rattle.golf_syntax_trees.specs.declared.types.TypeExpr.TheFolds.{fold-TypeExpr}
use Rattle.golf_syntax_trees.specs.Words.{Word, punctuation, keyword, name}

-- the name `sync`
abbrev pub sync : List ℕ
sync = codes "sync"

abbrev pub print_type_step : TypeExpr-F (List Word) → List Word
print_type_step (Named n) = name n ∷ []
print_type_step (Pointer n) = punctuation punctuations.Star ∷ name n ∷ []
print_type_step (SyncPointer n) = punctuation punctuations.Star ∷ name sync ∷ punctuation punctuations.Dot ∷ name n ∷ []
print_type_step (Slice t) = punctuation punctuations.OpenBracket ∷ punctuation punctuations.CloseBracket ∷ t
print_type_step (Chan t) = keyword keywords.Chan ∷ t
print_type_step (SendChan t) = keyword keywords.Chan ∷ punctuation punctuations.Arrow ∷ t
print_type_step (ReceiveChan t) = punctuation punctuations.Arrow ∷ keyword keywords.Chan ∷ t
print_type_step EmptyStruct = keyword keywords.Struct ∷ punctuation punctuations.OpenBrace
    ∷ punctuation punctuations.CloseBrace ∷ []

-- the words of a type
abbrev pub print_type : TypeExpr → List Word
print_type = fold-TypeExpr (List Word) print_type_step

-- whether a type begins with an arrow, and whether it is well formed
pub record TypeForm : Type 0 where
  pub arrow : Bool
  pub good : Bool

-- An arrow belongs to the leftmost `chan` that can take it.
abbrev pub type_form_step : TypeExpr-F TypeForm → TypeForm
type_form_step (Named n) = record { arrow = false; good = true }
type_form_step (Pointer n) = record { arrow = false; good = true }
type_form_step (SyncPointer n) = record { arrow = false; good = true }
type_form_step (Slice t) = record { arrow = false; good = t.good }
type_form_step (Chan t) = record { arrow = false; good = t.good && not t.arrow }
type_form_step (SendChan t) = record { arrow = false; good = t.good }
type_form_step (ReceiveChan t) = record { arrow = true; good = t.good }
type_form_step EmptyStruct = record { arrow = false; good = true }

abbrev pub type_form : TypeExpr → TypeForm
type_form = fold-TypeExpr TypeForm type_form_step
