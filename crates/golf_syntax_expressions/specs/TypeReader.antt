-- How a type is read.
use Rattle.std.specs.Prelude.{ℕ, suc, cond, List, [], ◌∷◌, length, Option, Some, None}
use Rattle.std.specs.Str.{bytes_eq}
use Rattle.golf_lex_tokens.specs.declared.token.Token.{Token}
use Rattle.golf_lex_tokens.specs.declared.token.TokenKind.{TokenKind}
use Rattle.golf_lex_tokens.specs.declared.token.TokenKind.TheVariants as kinds
use Rattle.golf_lex_tokens.specs.declared.token.Punctuation.{Punctuation}
use Rattle.golf_lex_tokens.specs.declared.token.Punctuation.TheVariants as punctuations
use Rattle.golf_lex_tokens.specs.declared.token.Keyword.{Keyword}
use Rattle.golf_lex_tokens.specs.declared.token.Keyword.TheVariants as keywords
use Rattle.golf_syntax_trees.specs.declared.types.TypeExpr.{TypeExpr}
use Rattle.golf_syntax_trees.specs.declared.types.TypeExpr.TheVariants as types
use Rattle.golf_syntax_trees.specs.Types.{sync}
use Rattle.golf_syntax_expressions.specs.Plan.{◌>>=◌, Plan, Done, Ask, reads, given}
use Rattle.golf_syntax_expressions.specs.Front.{after, after_keyword, name_at}

pub data TypeMode : Type 0 where
  OfType : TypeMode

abbrev pub TypeTree : TypeMode → Type 0
TypeTree m = TypeExpr

abbrev pub TypePlan : Type 0
TypePlan = Plan Token TypeMode TypeTree TypeExpr

-- a type inside another
abbrev pub inside : (TypeExpr → TypeExpr) → List Token → TypePlan
inside wrap ts = Ask OfType ts (λ x. Done (Some (wrap x.0, x.1)))

-- `*n`, or `*sync.m`
abbrev pub pointer_to : List ℕ → List Token → Option (TypeExpr × List Token)
pointer_to n ts = elim (after punctuations.Dot ts) [
  | None ↦ Some (types.Pointer n, ts)
  | Some us ↦
      name_at us >>= λ m. Some (types.SyncPointer m.0, m.1)
]

abbrev pub pointer : List Token → Option (TypeExpr × List Token)
pointer ts = name_at ts >>= λ n. cond (bytes_eq n.0 sync) (pointer_to n.0 n.1) (Some (types.Pointer n.0, n.1))

abbrev pub empty_struct : List Token → Option (TypeExpr × List Token)
empty_struct ts = after punctuations.OpenBrace ts >>= λ us. after punctuations.CloseBrace us >>= λ vs. Some
    (types.EmptyStruct, vs)

abbrev pub chan_of : List Token → Option (List Token) → TypePlan
chan_of ts None = inside types.Chan ts
chan_of ts (Some us) = inside types.SendChan us

abbrev pub type_from_keyword : Keyword → List Token → TypePlan
type_from_keyword keywords.Chan ts = chan_of ts (after punctuations.Arrow ts)
type_from_keyword keywords.Struct ts = Done (empty_struct ts)
type_from_keyword _ ts = Done None

abbrev pub type_from_punctuation : Punctuation → List Token → TypePlan
type_from_punctuation punctuations.Star ts = Done (pointer ts)
type_from_punctuation punctuations.OpenBracket ts =
    given (after punctuations.CloseBracket ts) (λ us. inside types.Slice us)
type_from_punctuation punctuations.Arrow ts = given (after_keyword keywords.Chan ts) (λ us. inside types.ReceiveChan us)
type_from_punctuation _ ts = Done None

abbrev pub type_from : TokenKind → List Token → TypePlan
type_from (kinds.Name n) ts = Done (Some (types.Named n, ts))
type_from (kinds.Keyword k) ts = type_from_keyword k ts
type_from (kinds.Punctuation m) ts = type_from_punctuation m ts
type_from _ ts = Done None

abbrev pub type_plan : TypeMode → List Token → TypePlan
type_plan m [] = Done None
type_plan m (t ∷ ts) = type_from t.kind ts

-- the type at the front, and the tokens after it
unfoldable pub type_at : TypeMode → List Token → Option (TypeExpr × List Token)
type_at m ts = reads type_plan (suc (length ts)) m ts
