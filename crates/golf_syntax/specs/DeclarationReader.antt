-- How imports and declarations are read.
use Rattle.std.specs.Prelude.{ℕ, zero, suc, length, List, [], ◌∷◌, ◌++◌, cond, codes, Option, Some, None}
use Rattle.std.specs.Str.{bytes_eq}
use Rattle.golf_lex_tokens.specs.declared.token.Token.{Token}
use Rattle.golf_lex_tokens.specs.declared.token.TokenKind.{TokenKind}
use Rattle.golf_lex_tokens.specs.declared.token.TokenKind.TheVariants as kinds
use Rattle.golf_lex_tokens.specs.declared.token.Punctuation.TheVariants as punctuations
use Rattle.golf_lex_tokens.specs.declared.token.Keyword.{Keyword}
use Rattle.golf_lex_tokens.specs.declared.token.Keyword.TheVariants as keywords
use Rattle.golf_syntax_trees.specs.declared.types.TypeExpr.{TypeExpr}
use Rattle.golf_syntax_trees.specs.declared.declarations.Const.{Const}
use Rattle.golf_syntax_trees.specs.declared.declarations.Const.TheVariants as const
use Rattle.golf_syntax_trees.specs.declared.declarations.Import.{Import}
use Rattle.golf_syntax_trees.specs.declared.declarations.Import.TheVariants as imports
use Rattle.golf_syntax_trees.specs.declared.declarations.Field.{Field}
use Rattle.golf_syntax_trees.specs.declared.declarations.Receiver.{Receiver}
use Rattle.golf_syntax_trees.specs.declared.declarations.Decl.{Decl}
use Rattle.golf_syntax_trees.specs.declared.declarations.Decl.TheVariants as d
use Rattle.golf_syntax_expressions.specs.Plan.{◌>>=◌}
use Rattle.golf_syntax_expressions.specs.Front.{after, after_keyword, name_at}
use Rattle.golf_syntax_expressions.specs.TypeReader.{type_at, OfType}
use Rattle.golf_syntax_statements.specs.VariableReader.{var_at}
use Rattle.golf_syntax_statements.specs.StatementReader.{block_at}
use Rattle.golf_syntax.specs.Many.{list_at}

-- the path of an import
abbrev pub text_of : TokenKind → List Token → Option (List ℕ × List Token)
text_of (kinds.Text bytes) ts = Some (bytes, ts)
text_of _ ts = None

abbrev pub text_at : List Token → Option (List ℕ × List Token)
text_at [] = None
text_at (t ∷ ts) = text_of t.kind ts

abbrev pub import_by : ℕ → List Token → Option (List Token) → Option (Import × List Token)
import_by l ts None = text_at ts >>= λ p. Some (imports.One l p.0, p.1)
import_by l ts (Some us) = list_at text_at punctuations.Semicolon punctuations.CloseParen us >>= λ ps. Some
    (imports.Group l ps.0, ps.1)

-- an import after its keyword, which is on this line
unfoldable pub import_at : ℕ → List Token → Option (Import × List Token)
import_at l ts = import_by l ts (after punctuations.OpenParen ts)

abbrev pub integer_of : TokenKind → List Token → Option (Const × List Token)
integer_of (kinds.Integer digits) ts = Some (const.Negative digits, ts)
integer_of _ ts = None

abbrev pub negative_at : List Token → Option (Const × List Token)
negative_at [] = None
negative_at (t ∷ ts) = integer_of t.kind ts

abbrev pub named_const : List ℕ → List Token → Option (Const × List Token)
named_const n ts = cond (bytes_eq n (codes "true")) (Some (const.True, ts))
    (cond (bytes_eq n (codes "false")) (Some (const.False, ts)) None)

abbrev pub const_of : TokenKind → List Token → Option (Const × List Token)
const_of (kinds.Integer digits) ts = Some (const.Integer digits, ts)
const_of (kinds.Text bytes) ts = Some (const.Text bytes, ts)
const_of (kinds.Name n) ts = named_const n ts
const_of (kinds.Punctuation punctuations.Minus) ts = negative_at ts
const_of _ ts = None

-- the value of a constant
unfoldable pub const_at : List Token → Option (Const × List Token)
const_at [] = None
const_at (t ∷ ts) = const_of t.kind ts

-- more names, each after a comma
abbrev pub names_by : List (List ℕ) → List Token → (List (List ℕ) → List Token → Option (List (List ℕ) × List Token))
    → Option (List Token) → Option (List (List ℕ) × List Token)
names_by done ts again None = Some (done, ts)
names_by done ts again (Some us) = name_at us >>= λ m. again (done ++ m.0 ∷ []) m.1

abbrev pub names_in : ℕ → List (List ℕ) → List Token → Option (List (List ℕ) × List Token)
names_in zero done ts = None
names_in (suc n) done ts = names_by done ts (names_in n) (after punctuations.Comma ts)

unfoldable pub names_at : List Token → Option (List (List ℕ) × List Token)
names_at ts = names_in (suc (length ts)) [] ts

-- names that share a type
unfoldable pub field_at : List Token → Option (Field × List Token)
field_at ts = name_at ts >>= λ n. names_at n.1 >>= λ ms. type_at OfType ms.1 >>= λ t. Some
    (record { first = n.0; more = ms.0; of_type = t.0 }, t.1)

abbrev pub receiver_by : List Token → Option (List Token) → Option (Option Receiver × List Token)
receiver_by ts None = Some (None, ts)
receiver_by ts (Some us) = name_at us >>= λ n. after punctuations.Star n.1 >>= λ vs. name_at vs >>= λ m. after
    punctuations.CloseParen m.1 >>= λ ws. Some (Some (record { name = n.0; type_name = m.0 }), ws)

abbrev pub result_by : List Token → Option (TypeExpr × List Token) → Option TypeExpr × List Token
result_by ts None = (None, ts)
result_by ts (Some t) = (Some t.0, t.1)

abbrev pub func_behind : ℕ → Option Receiver → List ℕ → List Field → Option TypeExpr × List Token
    → Option (Decl × List Token)
func_behind l r n ps t = block_at t.1 >>= λ b. Some
    (d.Func (record { line = l; receiver = r; name = n; parameters = ps; result = t.0; body = b.0 }), b.1)

-- a function after its receiver
abbrev pub func_named : ℕ → Option Receiver → List Token → Option (Decl × List Token)
func_named l r ts = name_at ts >>= λ n. after punctuations.OpenParen n.1 >>= λ us. list_at field_at punctuations.Comma
    punctuations.CloseParen us >>= λ ps. func_behind l r n.0 ps.0 (result_by ps.1 (type_at OfType ps.1))

-- a function after its keyword, which is on this line
unfoldable pub func_at : ℕ → List Token → Option (Decl × List Token)
func_at l ts = receiver_by ts (after punctuations.OpenParen ts) >>= λ r. func_named l r.0 r.1

abbrev pub const_decl : ℕ → List Token → Option (Decl × List Token)
const_decl l ts = name_at ts >>= λ n. after punctuations.Assign n.1 >>= λ us. const_at us >>= λ c. Some
    (d.Const l n.0 c.0, c.1)

abbrev pub struct_decl : ℕ → List Token → Option (Decl × List Token)
struct_decl l ts =
    name_at ts >>= λ n. after_keyword keywords.Struct n.1 >>= λ us. after punctuations.OpenBrace us >>= λ vs. list_at
    field_at punctuations.Semicolon punctuations.CloseBrace vs >>= λ fs. Some (d.Struct l n.0 fs.0, fs.1)

-- a declaration by its keyword, which is on this line
abbrev pub decl_from : ℕ → Keyword → List Token → Option (Decl × List Token)
decl_from l keywords.Const ts = const_decl l ts
decl_from l keywords.Var ts = var_at l ts >>= λ v. Some (d.Var v.0, v.1)
decl_from l keywords.Type ts = struct_decl l ts
decl_from l keywords.Func ts = func_at l ts
decl_from l _ ts = None

abbrev pub decl_kind : ℕ → TokenKind → List Token → Option (Decl × List Token)
decl_kind l (kinds.Keyword k) ts = decl_from l k ts
decl_kind l _ ts = None

unfoldable pub decl_at : List Token → Option (Decl × List Token)
decl_at [] = None
decl_at (t ∷ ts) = decl_kind t.line t.kind ts
