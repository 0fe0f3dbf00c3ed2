-- How operands begin, and which suffixes follow them.
use Rattle.std.specs.Prelude.{ℕ, Bool, cond, List, [], ◌∷◌, Option, Some, None}
use Rattle.std.specs.Str.{bytes_eq}
use Rattle.golf_lex_tokens.specs.declared.token.Token.{Token}
use Rattle.golf_lex_tokens.specs.declared.token.TokenKind.{TokenKind}
use Rattle.golf_lex_tokens.specs.declared.token.TokenKind.TheVariants as kinds
use Rattle.golf_lex_tokens.specs.declared.token.Punctuation.{Punctuation}
use Rattle.golf_lex_tokens.specs.declared.token.Punctuation.TheVariants as punctuations
use Rattle.golf_lex_tokens.specs.declared.token.Keyword.{Keyword}
use Rattle.golf_lex_tokens.specs.declared.token.Keyword.TheVariants as keywords
use Rattle.golf_syntax_trees.specs.declared.types.TypeExpr.{TypeExpr}
use Rattle.golf_syntax_trees.specs.declared.expressions.Expr.{Expr}
use Rattle.golf_syntax_trees.specs.declared.expressions.Expr.TheVariants as ex
use Rattle.golf_syntax_trees.specs.Types.{sync}
use Rattle.golf_syntax_trees.specs.Expressions.{make, new}
use Rattle.golf_syntax_expressions.specs.declared.starts.Start.{Start}
use Rattle.golf_syntax_expressions.specs.declared.starts.Start.TheVariants as starts
use Rattle.golf_syntax_expressions.specs.declared.starts.Suffix.{Suffix}
use Rattle.golf_syntax_expressions.specs.declared.starts.Suffix.TheVariants as suffixes
use Rattle.golf_syntax_expressions.specs.Plan.{◌>>=◌}
use Rattle.golf_syntax_expressions.specs.Front.{after, name_at}
use Rattle.golf_syntax_expressions.specs.TypeReader.{type_at, OfType}

abbrev pub Started : Type 0
Started = Option (Start × List Token)

-- an operand that is whole already
abbrev pub whole : Expr → List Token → Started
whole x ts = Some (starts.Whole x, ts)

-- `(T)` or `(T,` after `make`
abbrev pub make_behind : TypeExpr → List Token → Option (List Token) → Started
make_behind t ts (Some us) = Some (starts.Sized t, us)
make_behind t ts None = after punctuations.CloseParen ts >>= whole (ex.Make t)

unfoldable pub make_start : List Token → Started
make_start ts = after punctuations.OpenParen ts >>= λ us. type_at OfType us >>= λ x. make_behind x.0 x.1
    (after punctuations.Comma x.1)

-- `(T)` or `(sync.T)` after `new`
abbrev pub new_sync : List ℕ → List Token → Started
new_sync n ts = cond (bytes_eq n sync) (name_at ts >>= λ m. after punctuations.CloseParen m.1 >>= whole
    (ex.NewSync m.0)) None

abbrev pub new_behind : List ℕ → List Token → Option (List Token) → Started
new_behind n ts (Some us) = new_sync n us
new_behind n ts None = after punctuations.CloseParen ts >>= whole (ex.New n)

unfoldable pub new_start : List Token → Started
new_start ts = after punctuations.OpenParen ts >>= λ us. name_at us >>= λ n. new_behind n.0 n.1
    (after punctuations.Dot n.1)

-- `{}{}` after `struct`
unfoldable pub empty_start : List Token → Started
empty_start ts = after punctuations.OpenBrace ts >>= λ a. after punctuations.CloseBrace a >>= λ b. after
    punctuations.OpenBrace b >>= λ c. after punctuations.CloseBrace c >>= whole ex.EmptyLiteral

-- `]T{` or `]T{}` after `[`
abbrev pub slice_behind : TypeExpr → List Token → Option (List Token) → Started
slice_behind t ts (Some us) = whole (ex.SliceLiteral t []) us
slice_behind t ts None = Some (starts.Items t, ts)

unfoldable pub slice_start : List Token → Started
slice_start ts = after punctuations.CloseBracket ts >>= λ us. type_at OfType us >>= λ x. after punctuations.OpenBrace
    x.1 >>= λ vs. slice_behind x.0 vs (after punctuations.CloseBrace vs)

-- `T{}` after `&sync.`
unfoldable pub sync_start : List ℕ → List Token → Started
sync_start n ts = cond (bytes_eq n sync)
    (name_at ts >>= λ m. after punctuations.OpenBrace m.1 >>= λ us. after punctuations.CloseBrace us >>= whole
    (ex.SyncLiteral m.0)) None

-- `T{`, `T{}` or `sync.T{}` after `&`
abbrev pub struct_behind : List ℕ → List Token → Option (List Token) → Started
struct_behind n ts (Some us) = whole (ex.StructLiteral n []) us
struct_behind n ts None = Some (starts.Elements n, ts)

abbrev pub literal_behind : List ℕ → List Token → Option (List Token) → Started
literal_behind n ts (Some us) = sync_start n us
literal_behind n ts None = after punctuations.OpenBrace ts >>= λ us. struct_behind n us
    (after punctuations.CloseBrace us)

unfoldable pub literal_start : List Token → Started
literal_start ts = name_at ts >>= λ n. literal_behind n.0 n.1 (after punctuations.Dot n.1)

-- In a header no operand begins with `&`.
unfoldable pub punctuation_start : Bool → Punctuation → List Token → Started
punctuation_start header punctuations.OpenParen ts = Some (starts.Group, ts)
punctuation_start header punctuations.OpenBracket ts = slice_start ts
punctuation_start header punctuations.Ampersand ts = cond header None (literal_start ts)
punctuation_start header _ ts = None

unfoldable pub named_start : List ℕ → List Token → Started
named_start n ts = cond (bytes_eq n make) (make_start ts) (cond (bytes_eq n new) (new_start ts) (whole (ex.Name n) ts))

abbrev pub keyword_start : Keyword → List Token → Started
keyword_start keywords.Struct ts = empty_start ts
keyword_start _ ts = None

unfoldable pub start_from : Bool → TokenKind → List Token → Started
start_from header (kinds.Integer digits) ts = whole (ex.Integer digits) ts
start_from header (kinds.Text bytes) ts = whole (ex.Text bytes) ts
start_from header (kinds.Name n) ts = named_start n ts
start_from header (kinds.Keyword k) ts = keyword_start k ts
start_from header (kinds.Punctuation m) ts = punctuation_start header m ts

-- the beginning of the operand at the front, and the tokens after it
unfoldable pub start_at : Bool → List Token → Started
start_at header [] = None
start_at header (t ∷ ts) = start_from header t.kind ts

abbrev pub call_behind : List Token → Option (List Token) → Option (Suffix × List Token)
call_behind ts (Some us) = Some (suffixes.NoArguments, us)
call_behind ts None = Some (suffixes.Arguments, ts)

-- `(` or `()`
unfoldable pub call_at : List Token → Option (Suffix × List Token)
call_at ts = after punctuations.OpenParen ts >>= λ us. call_behind us (after punctuations.CloseParen us)

abbrev pub no_field : List Token → Option (List Token) → Option (Suffix × List Token)
no_field ts (Some us) = Some (suffixes.Index, us)
no_field ts None = call_at ts

abbrev pub suffix_by : List Token → Option (List Token) → Option (Suffix × List Token)
suffix_by ts (Some us) = name_at us >>= λ n. Some (suffixes.Field n.0, n.1)
suffix_by ts None = no_field ts (after punctuations.OpenBracket ts)

-- the suffix at the front, and the tokens after it
unfoldable pub suffix_at : List Token → Option (Suffix × List Token)
suffix_at ts = suffix_by ts (after punctuations.Dot ts)
