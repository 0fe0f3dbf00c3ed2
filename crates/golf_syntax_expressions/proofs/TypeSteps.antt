-- A type is read as its first token says.
-- For: `type_at` and `type_plan`, golf_syntax_expressions/specs/TypeReader.antt.
-- By: cases of the first token; the induction, over the tokens that are left, is in Plans.antt.
use Rattle.std.proofs.Common.{◌≡◌, ℕ, suc, ◌≤◌, ◌<◌, Bool, true, false, cond, List, [], ◌∷◌, length, refl, ap, ◌∙◌}
use Rattle.std.proofs.Common.{arith}
use Rattle.std.specs.Prelude.{Option, Some, None}
use Rattle.std.specs.Str.{bytes_eq}
use Rattle.golf_lex_tokens.specs.declared.token.Token.{Token}
use Rattle.golf_lex_tokens.specs.declared.token.TokenKind.{TokenKind}
use Rattle.golf_lex_tokens.specs.declared.token.TokenKind.TheVariants as kinds
use Rattle.golf_lex_tokens.specs.declared.token.Punctuation.{Punctuation}
use Rattle.golf_lex_tokens.specs.declared.token.Punctuation.TheVariants as punctuations
use Rattle.golf_lex_tokens.specs.declared.token.Keyword.{Keyword}
use Rattle.golf_lex_tokens.specs.declared.token.Keyword.TheVariants as keywords
use Rattle.golf_syntax_trees.specs.declared.types.TypeExpr.{TypeExpr}
use Rattle.golf_syntax_trees.specs.declared.types.TypeExpr.TheVariants as types
use Rattle.golf_syntax_trees.specs.Types.{sync}
use Rattle.golf_syntax_expressions.specs.Plan.{◌>>=◌, run}
use Rattle.golf_syntax_expressions.specs.Front.{after, after_keyword, name_at}
use Rattle.golf_syntax_expressions.specs.TypeReader.{TypeMode, OfType, TypeTree, inside, pointer_to, pointer}
use Rattle.golf_syntax_expressions.specs.TypeReader.{empty_struct}
use Rattle.golf_syntax_expressions.specs.TypeReader.{chan_of, type_from_keyword, type_from_punctuation, type_from}
use Rattle.golf_syntax_expressions.specs.TypeReader.{type_plan, type_at}
use Rattle.golf_syntax_expressions.proofs.Plans.{Leaves, Within, within-given, whole-is, whole-leaves}
use Rattle.golf_syntax_expressions.proofs.Fronts.{after-shorter, keyword-shorter, name-shorter}

abbrev size : TypeMode → List Token → ℕ
size m ts = length ts

abbrev gap : TypeMode → ℕ
gap m = 1

inside-within : (bound all : ℕ) (wrap : TypeExpr → TypeExpr) (ts : List Token) → length ts < bound → length ts ≤ all
    → Within size gap bound 1 all (inside wrap ts)
inside-within bound all wrap ts h k = (h, λ x l. omega arith)

leaves-bind : {A X : Type 0} (all : ℕ) (o : Option X) (f : X → Option (A × List Token))
    → ((x : X) → o ≡ Some x → Leaves 1 all (f x)) → Leaves 1 all (o >>= f)
leaves-bind all None f k = tt
leaves-bind all (Some x) f k = k x refl

pointer-leaves : (ts : List Token) → Leaves 1 (suc (length ts)) (pointer ts)
pointer-leaves ts = leaves-bind (suc (length ts)) (name_at ts)
    (λ n. cond (bytes_eq n.0 sync) (pointer_to n.0 n.1) (Some (types.Pointer n.0, n.1))) (λ n e.
    let s = name-shorter ts n.1 n.0 e in at n.0 n.1 s (bytes_eq n.0 sync))
  where
    behind : (n : List ℕ) (us : List Token) → suc (length us) ≡ length ts → (o : Option (List Token))
        → after punctuations.Dot us ≡ o → Leaves 1 (suc (length ts))
        (elim o [ None ↦ Some (types.Pointer n, us) | Some vs ↦ name_at vs >>= λ m. Some (types.SyncPointer m.0, m.1) ])
    behind n us s None e = omega arith
    behind n us s (Some vs) e = let q = after-shorter punctuations.Dot us vs e in leaves-bind (suc (length ts))
        (name_at vs) (λ m. Some (types.SyncPointer m.0, m.1)) (λ m f. let r = name-shorter vs m.1 m.0 f in omega arith)

    at : (n : List ℕ) (us : List Token) → suc (length us) ≡ length ts → (b : Bool)
        → Leaves 1 (suc (length ts)) (cond b (pointer_to n us) (Some (types.Pointer n, us)))
    at n us s true = behind n us s (after punctuations.Dot us) refl
    at n us s false = omega arith

empty-leaves : (ts : List Token) → Leaves 1 (suc (length ts)) (empty_struct ts)
empty-leaves ts = leaves-bind (suc (length ts)) (after punctuations.OpenBrace ts)
    (λ us. after punctuations.CloseBrace us >>= λ vs. Some (types.EmptyStruct, vs)) (λ us e.
    let q = after-shorter punctuations.OpenBrace ts us e in
    leaves-bind (suc (length ts)) (after punctuations.CloseBrace us) (λ vs. Some (types.EmptyStruct, vs))
    (λ vs f. let r = after-shorter punctuations.CloseBrace us vs f in omega arith))

keyword-within : (k : Keyword) (ts : List Token)
    → Within size gap (suc (length ts)) 1 (suc (length ts)) (type_from_keyword k ts)
keyword-within keywords.Chan ts = at (after punctuations.Arrow ts) refl
  where
    at : (o : Option (List Token)) → after punctuations.Arrow ts ≡ o
        → Within size gap (suc (length ts)) 1 (suc (length ts)) (chan_of ts o)
    at None e = inside-within _ _ types.Chan ts (omega arith) (omega arith)
    at (Some us) e = let q = after-shorter punctuations.Arrow ts us e in inside-within _ _ types.SendChan us
        (omega arith) (omega arith)
keyword-within keywords.Struct ts = empty-leaves ts
keyword-within _ ts = tt

punctuation-within : (m : Punctuation) (ts : List Token)
    → Within size gap (suc (length ts)) 1 (suc (length ts)) (type_from_punctuation m ts)
punctuation-within punctuations.Star ts = pointer-leaves ts
punctuation-within punctuations.OpenBracket ts =
    within-given size gap _ 1 _ (after punctuations.CloseBracket ts) (inside types.Slice)
    (λ us e. let q = after-shorter punctuations.CloseBracket ts us e in inside-within _ _ types.Slice us (omega arith)
    (omega arith))
punctuation-within punctuations.Arrow ts =
    within-given size gap _ 1 _ (after_keyword keywords.Chan ts) (inside types.ReceiveChan)
    (λ us e. let q = keyword-shorter keywords.Chan ts us e in inside-within _ _ types.ReceiveChan us (omega arith)
    (omega arith))
punctuation-within _ ts = tt

kind-within : (k : TokenKind) (ts : List Token) → Within size gap (suc (length ts)) 1 (suc (length ts)) (type_from k ts)
kind-within (kinds.Name n) ts = omega arith
kind-within (kinds.Keyword k) ts = keyword-within k ts
kind-within (kinds.Punctuation m) ts = punctuation-within m ts
kind-within _ ts = tt

type-fits : (m : TypeMode) (ts : List Token) → Within size gap (size m ts) (gap m) (length ts) (type_plan m ts)
type-fits m [] = tt
type-fits m (t ∷ ts) = kind-within t.kind ts

-- what is read is what the plan finds
pub type-is : (m : TypeMode) (ts : List Token) → type_at m ts ≡ run type_at (type_plan m ts)
unfolding type_at
type-is m ts = whole-is Token TypeMode TypeTree type_plan size gap type-fits m ts

-- what is left is shorter
pub type-leaves : (ts : List Token) → Leaves 1 (length ts) (type_at OfType ts)
unfolding type_at
type-leaves ts = whole-leaves Token TypeMode TypeTree type_plan size gap type-fits OfType ts

-- the kind of the first token decides
pub type-starts : (t : Token) (ts : List Token) (k : TokenKind) → t.kind ≡ k
    → type_at OfType (t ∷ ts) ≡ run type_at (type_from k ts)
type-starts t ts k e = type-is OfType (t ∷ ts) ∙ ap (λ q. run type_at (type_from q ts)) e

pub ruleset type_steps = (type-is)
