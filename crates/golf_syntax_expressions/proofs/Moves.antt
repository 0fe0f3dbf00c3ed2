-- Reading goes on as the plan of an expression says, also if outer expressions wait for it.
-- For: `read` and `resume`, src/expressions.rt; `waited`, golf_syntax_expressions/specs/Moves.antt.
-- By: induction over the list of expressions that wait; else cases of the next token.
use Rattle.std.proofs.Common.{◌≡◌, ℕ, ◌+◌, ◌≤◌, ◌<◌, arith, Bool, false, List, [], ◌∷◌, ◌++◌, length, refl, ap, sym}
use Rattle.std.proofs.Common.{◌∙◌}
use Rattle.std.specs.Prelude.{Option, Some, None}
use Rattle.golf_lex_tokens.specs.declared.token.Token.{Token}
use Rattle.golf_lex_tokens.specs.declared.token.Punctuation.{Punctuation}
use Rattle.golf_lex_tokens.specs.declared.token.Punctuation.TheVariants as punctuations
use Rattle.golf_syntax_trees.specs.declared.types.TypeExpr.{TypeExpr}
use Rattle.golf_syntax_trees.specs.declared.expressions.UnaryOperator.{UnaryOperator}
use Rattle.golf_syntax_trees.specs.declared.expressions.Expr.{Expr}
use Rattle.golf_syntax_trees.specs.declared.expressions.Expr.TheVariants as ex
use Rattle.golf_syntax_trees.specs.declared.expressions.Element.{Element}
use Rattle.golf_syntax_expressions.specs.declared.starts.Start.{Start}
use Rattle.golf_syntax_expressions.specs.declared.starts.Start.TheVariants as starts
use Rattle.golf_syntax_expressions.specs.declared.starts.Suffix.{Suffix}
use Rattle.golf_syntax_expressions.specs.declared.starts.Suffix.TheVariants as suffixes
use Rattle.golf_syntax_expressions.specs.declared.pending.Pending.{Pending}
use Rattle.golf_syntax_expressions.specs.declared.pending.Pending.TheVariants as pendings
use Rattle.golf_syntax_expressions.specs.Plan.{◌>>=◌}
use Rattle.golf_syntax_expressions.specs.Front.{after, name_at}
use Rattle.golf_syntax_expressions.specs.Operators.{unary_at}
use Rattle.golf_syntax_expressions.specs.Starts.{start_at, suffix_at}
use Rattle.golf_syntax_expressions.specs.ExpressionReader.{ExpressionMode, ExpressionTree, Finish, Extend, Suffixes}
use Rattle.golf_syntax_expressions.specs.ExpressionReader.{Prefixed, Level, Items}
use Rattle.golf_syntax_expressions.specs.ExpressionReader.{Elements, element, expr_at}
use Rattle.golf_syntax_expressions.specs.Moves.{FoundExpression, suffixed, argument_at, item_at, element_at, pending_at}
use Rattle.golf_syntax_expressions.specs.Moves.{waited}
use Rattle.golf_syntax_expressions.specs.Moves.{field_at, started_at, extended_at}
use Rattle.golf_syntax_expressions.proofs.Plans.{bind-assoc, bind-same, waits-last, waits-none}
use Rattle.golf_syntax_expressions.proofs.ExprSteps.{inside_by, begun_by, finish_by, extend_by, suffixes_by}
use Rattle.golf_syntax_expressions.proofs.ExprSteps.{prefixed_by, items_by, elements_by, gap, left, expr-Finish}
use Rattle.golf_syntax_expressions.proofs.ExprSteps.{expr-Extend, expr-Suffixes, expr-Prefixed, expr-Level, expr-Climb}
use Rattle.golf_syntax_expressions.proofs.ExprSteps.{expr-Items, expr-Elements, expr-leaves}

-- the last of those that wait goes on first
pub waited-last : (fs : List Pending) (f : Pending) (o : FoundExpression)
    → waited (fs ++ f ∷ []) o ≡ waited fs (o >>= pending_at f)
waited-last = waits-last pending_at

pub waited-none : (fs : List Pending) → waited fs None ≡ None
waited-none = waits-none pending_at

-- an expression in brackets, with what stands after
inside-goes : (close : Punctuation) (wrap : Expr → Expr) (ts : List Token)
    → (inside_by close wrap ts >>= λ y. suffixed y.0 y.1) ≡
    (expr_at (Level false 1) ts >>= λ x. after close x.1 >>= suffixed (wrap x.0))
inside-goes close wrap ts =
    bind-assoc (expr_at (Level false 1) ts) (λ x. after close x.1 >>= λ us. Some (wrap x.0, us)) (λ y. suffixed y.0 y.1)
    ∙ bind-same (expr_at (Level false 1) ts) _ _
    (λ x. bind-assoc (after close x.1) (λ us. Some (wrap x.0, us)) (λ y. suffixed y.0 y.1))

-- the rest of an argument list
pub arguments-go : (f : Expr) (done : List Expr) (ts : List Token)
    → (expr_at (Items punctuations.CloseParen done) ts >>= λ y. suffixed (ex.Call f y.0) y.1) ≡
    (expr_at (Level false 1) ts >>= pending_at (pendings.Argument f done))
arguments-go f done ts =
    ap (λ o. o >>= λ y. suffixed (ex.Call f y.0) y.1) (expr-Items punctuations.CloseParen done ts)
    ∙ bind-assoc (expr_at (Level false 1) ts)
    (λ x. items_by punctuations.CloseParen (done ++ x.0 ∷ []) x.1 (after punctuations.Comma x.1))
    (λ y. suffixed (ex.Call f y.0) y.1)
    ∙ bind-same (expr_at (Level false 1) ts) _ _ (λ x. at (done ++ x.0 ∷ []) x.1 (after punctuations.Comma x.1))
  where
    at : (xs : List Expr) (us : List Token) (o : Option (List Token))
        → (items_by punctuations.CloseParen xs us o >>= λ y. suffixed (ex.Call f y.0) y.1) ≡ argument_at f xs us o
    at xs us (Some vs) = refl
    at xs us None = bind-assoc (after punctuations.CloseParen us) (λ vs. Some (xs, vs))
        (λ y. suffixed (ex.Call f y.0) y.1)

pub items-go : (t : TypeExpr) (done : List Expr) (ts : List Token)
    → (expr_at (Items punctuations.CloseBrace done) ts >>= λ y. suffixed (ex.SliceLiteral t y.0) y.1) ≡
    (expr_at (Level false 1) ts >>= pending_at (pendings.Item t done))
items-go t done ts =
    ap (λ o. o >>= λ y. suffixed (ex.SliceLiteral t y.0) y.1) (expr-Items punctuations.CloseBrace done ts)
    ∙ bind-assoc (expr_at (Level false 1) ts)
    (λ x. items_by punctuations.CloseBrace (done ++ x.0 ∷ []) x.1 (after punctuations.Comma x.1))
    (λ y. suffixed (ex.SliceLiteral t y.0) y.1)
    ∙ bind-same (expr_at (Level false 1) ts) _ _ (λ x. at (done ++ x.0 ∷ []) x.1 (after punctuations.Comma x.1))
  where
    at : (xs : List Expr) (us : List Token) (o : Option (List Token))
        → (items_by punctuations.CloseBrace xs us o >>= λ y. suffixed (ex.SliceLiteral t y.0) y.1) ≡ item_at t xs us o
    at xs us (Some vs) = refl
    at xs us None = bind-assoc (after punctuations.CloseBrace us) (λ vs. Some (xs, vs))
        (λ y. suffixed (ex.SliceLiteral t y.0) y.1)

-- the rest of a struct literal
pub elements-go : (n : List ℕ) (done : List Element) (ts : List Token)
    → (expr_at (Elements done) ts >>= λ y. suffixed (ex.StructLiteral n y.0) y.1) ≡ field_at n done ts
elements-go n done ts =
    ap (λ o. o >>= λ y. suffixed (ex.StructLiteral n y.0) y.1) (expr-Elements done ts)
    ∙ bind-assoc (name_at ts) _ (λ y. suffixed (ex.StructLiteral n y.0) y.1)
    ∙ bind-same (name_at ts) _ _ (λ m. bind-assoc (after punctuations.Colon m.1) _
    (λ y. suffixed (ex.StructLiteral n y.0) y.1)
    ∙ bind-same (after punctuations.Colon m.1) _ _
    (λ us. bind-assoc (expr_at (Level false 1) us)
    (λ x. elements_by (done ++ element m.0 x.0 ∷ []) x.1 (after punctuations.Comma x.1))
    (λ y. suffixed (ex.StructLiteral n y.0) y.1)
    ∙ bind-same (expr_at (Level false 1) us) _ _
    (λ x. at (done ++ element m.0 x.0 ∷ []) x.1 (after punctuations.Comma x.1))))
  where
    at : (xs : List Element) (us : List Token) (o : Option (List Token))
        → (elements_by xs us o >>= λ y. suffixed (ex.StructLiteral n y.0) y.1) ≡ element_at n xs us o
    at xs us (Some vs) = refl
    at xs us None = bind-assoc (after punctuations.CloseBrace us) (λ vs. Some (xs, vs))
        (λ y. suffixed (ex.StructLiteral n y.0) y.1)

start-goes : (s : Start) (ts : List Token) → (expr_at (Finish s) ts >>= λ y. suffixed y.0 y.1) ≡ started_at s ts
start-goes s ts = ap (λ o. o >>= λ y. suffixed y.0 y.1) (expr-Finish s ts) ∙ at s
  where
    at : (s : Start) → (finish_by s ts >>= λ y. suffixed y.0 y.1) ≡ started_at s ts
    at (starts.Whole e) = refl
    at starts.Group = inside-goes punctuations.CloseParen ex.Parens ts
    at (starts.Sized t) = inside-goes punctuations.CloseParen (ex.MakeSized t) ts
    at (starts.Items t) = bind-assoc (expr_at (Items punctuations.CloseBrace []) ts)
        (λ x. Some (ex.SliceLiteral t x.0, x.1)) (λ y. suffixed y.0 y.1) ∙ items-go t [] ts
    at (starts.Elements n) = bind-assoc (expr_at (Elements []) ts) (λ x. Some (ex.StructLiteral n x.0, x.1))
        (λ y. suffixed y.0 y.1) ∙ elements-go n [] ts

suffix-goes : (base : Expr) (s : Suffix) (ts : List Token)
    → (expr_at (Extend base s) ts >>= λ y. suffixed y.0 y.1) ≡ extended_at base s ts
suffix-goes base s ts = ap (λ o. o >>= λ y. suffixed y.0 y.1) (expr-Extend base s ts) ∙ at s
  where
    at : (s : Suffix) → (extend_by base s ts >>= λ y. suffixed y.0 y.1) ≡ extended_at base s ts
    at (suffixes.Field n) = refl
    at suffixes.NoArguments = refl
    at suffixes.Index = inside-goes punctuations.CloseBracket (ex.Index base) ts
    at suffixes.Arguments = bind-assoc (expr_at (Items punctuations.CloseParen []) ts)
        (λ x. Some (ex.Call base x.0, x.1)) (λ y. suffixed y.0 y.1) ∙ arguments-go base [] ts

-- an operand with its operators in front, by the first of them
pub prefixed-some : (header : Bool) (ts us : List Token) (o : UnaryOperator) → unary_at ts ≡ Some (o, us)
    → expr_at (Prefixed header) ts ≡ (expr_at (Prefixed header) us >>= pending_at (pendings.Prefix o))
prefixed-some header ts us o e = expr-Prefixed header ts ∙ ap (prefixed_by header ts) e

pub prefixed-none : (header : Bool) (ts : List Token) → unary_at ts ≡ None → start_at header ts ≡ None
    → expr_at (Prefixed header) ts ≡ None
prefixed-none header ts e f = expr-Prefixed header ts ∙ ap (prefixed_by header ts) e ∙ ap begun_by f

pub prefixed-start : (header : Bool) (ts us : List Token) (s : Start) → unary_at ts ≡ None
    → start_at header ts ≡ Some (s, us) → expr_at (Prefixed header) ts ≡ started_at s us
prefixed-start header ts us s e f = expr-Prefixed header ts ∙ ap (prefixed_by header ts) e ∙ ap begun_by f
    ∙ start-goes s us

pub suffixes-none : (base : Expr) (ts : List Token) → suffix_at ts ≡ None → expr_at (Suffixes base) ts ≡ Some (base, ts)
suffixes-none base ts e = expr-Suffixes base ts ∙ ap (suffixes_by base ts) e

pub suffixes-some : (base : Expr) (ts us : List Token) (s : Suffix) → suffix_at ts ≡ Some (s, us)
    → expr_at (Suffixes base) ts ≡ extended_at base s us
suffixes-some base ts us s e = expr-Suffixes base ts ∙ ap (suffixes_by base ts) e ∙ suffix-goes base s us

pub ruleset prefixed_steps = (prefixed-some, prefixed-none, prefixed-start)

pub ruleset suffixes_steps = (suffixes-none, suffixes-some)

pub ruleset climb_steps = (expr-Climb)

pub ruleset level_steps = (expr-Level)

pub ruleset resume_steps = (arguments-go, items-go, elements-go)

pub ruleset read_steps = (waited-last, waited-none)

-- what is found is shorter
pub shorter : (m : ExpressionMode) (ts : List Token) (x : ExpressionTree m × List Token) → expr_at m ts ≡ Some x
    → length x.1 + gap m ≤ length ts
shorter m ts x e = left (gap m) (length ts) (expr_at m ts) x (expr-leaves m ts) e

pub level-shorter : (header : Bool) (l : ℕ) (ts us : List Token) (e : Expr) → Some (e, us) ≡ expr_at (Level header l) ts
    → length us < length ts
level-shorter header l ts us e is = let h = shorter (Level header l) ts (e, us) (sym is) in omega arith

pub prefixed-shorter : (header : Bool) (ts us : List Token) (e : Expr) → Some (e, us) ≡ expr_at (Prefixed header) ts
    → length us < length ts
prefixed-shorter header ts us e is = let h = shorter (Prefixed header) ts (e, us) (sym is) in omega arith

pub ruleset shorter_steps = (level-shorter, prefixed-shorter)
