-- How an expression is read.
use Rattle.std.specs.Prelude.{ℕ, suc, ◌+◌, ◌*◌, Bool, false, cond, nat_le, List, [], ◌∷◌, ◌++◌, length, Option, Some}
use Rattle.std.specs.Prelude.{None}
use Rattle.golf_lex_tokens.specs.declared.token.Token.{Token}
use Rattle.golf_lex_tokens.specs.declared.token.Punctuation.{Punctuation}
use Rattle.golf_lex_tokens.specs.declared.token.Punctuation.TheVariants as punctuations
use Rattle.golf_syntax_trees.specs.declared.expressions.UnaryOperator.{UnaryOperator}
use Rattle.golf_syntax_trees.specs.declared.expressions.BinaryOperator.{BinaryOperator}
use Rattle.golf_syntax_trees.specs.declared.expressions.Expr.{Expr}
use Rattle.golf_syntax_trees.specs.declared.expressions.Expr.TheVariants as ex
use Rattle.golf_syntax_trees.specs.declared.expressions.Element.{Element, roll-Element}
use Rattle.golf_syntax_trees.specs.Expressions.{binds}
use Rattle.golf_syntax_expressions.specs.declared.starts.Start.{Start}
use Rattle.golf_syntax_expressions.specs.declared.starts.Start.TheVariants as starts
use Rattle.golf_syntax_expressions.specs.declared.starts.Suffix.{Suffix}
use Rattle.golf_syntax_expressions.specs.declared.starts.Suffix.TheVariants as suffixes
use Rattle.golf_syntax_expressions.specs.Plan.{Plan, Done, Ask, reads, given}
use Rattle.golf_syntax_expressions.specs.Front.{after, name_at}
use Rattle.golf_syntax_expressions.specs.Operators.{unary_at, binary_at}
use Rattle.golf_syntax_expressions.specs.Starts.{start_at, suffix_at}

-- A mode is what is read: the rest of an operand, one suffix, all suffixes; an expression with operators in front, an
-- expression of a level, the operators that follow on that level; expressions or elements with commas between. In a
-- header no operand outside brackets begins with `&`.
pub data ExpressionMode : Type 0 where
  Finish : Start → ExpressionMode
  Extend : Expr → Suffix → ExpressionMode
  Suffixes : Expr → ExpressionMode
  Prefixed : Bool → ExpressionMode
  Level : Bool → ℕ → ExpressionMode
  Climb : Bool → ℕ → Expr → ExpressionMode
  Items : Punctuation → List Expr → ExpressionMode
  Elements : List Element → ExpressionMode

abbrev pub ExpressionTree : ExpressionMode → Type 0
ExpressionTree (Items close done) = List Expr
ExpressionTree (Elements done) = List Element
ExpressionTree _ = Expr

abbrev pub ExprPlan : Type 0 → Type 0
ExprPlan A = Plan Token ExpressionMode ExpressionTree A

-- the construct that is found, with the tokens after it
abbrev pub just : {A : Type 0} → A → List Token → ExprPlan A
just a ts = Done (Some (a, ts))

abbrev pub found : {A : Type 0} → A × List Token → ExprPlan A
found x = Done (Some x)

-- an expression inside brackets
abbrev pub inside : Punctuation → (Expr → Expr) → List Token → ExprPlan Expr
inside close wrap ts = Ask (Level false 1) ts (λ x. given (after close x.1) (just (wrap x.0)))

abbrev pub finish : Start → List Token → ExprPlan Expr
finish (starts.Whole x) ts = just x ts
finish starts.Group ts = inside punctuations.CloseParen ex.Parens ts
finish (starts.Sized t) ts = inside punctuations.CloseParen (ex.MakeSized t) ts
finish (starts.Items t) ts = Ask (Items punctuations.CloseBrace []) ts (λ x. just (ex.SliceLiteral t x.0) x.1)
finish (starts.Elements n) ts = Ask (Elements []) ts (λ x. just (ex.StructLiteral n x.0) x.1)

abbrev pub extend : Expr → Suffix → List Token → ExprPlan Expr
extend base (suffixes.Field n) ts = just (ex.Selector base n) ts
extend base suffixes.Index ts = inside punctuations.CloseBracket (ex.Index base) ts
extend base suffixes.NoArguments ts = just (ex.Call base []) ts
extend base suffixes.Arguments ts = Ask (Items punctuations.CloseParen []) ts (λ x. just (ex.Call base x.0) x.1)

abbrev pub suffixes_plan : Expr → List Token → Option (Suffix × List Token) → ExprPlan Expr
suffixes_plan base ts None = just base ts
suffixes_plan base ts (Some s) = Ask (Extend base s.0) s.1 (λ x. Ask (Suffixes x.0) x.1 found)

abbrev pub prefixed_plan : Bool → List Token → Option (UnaryOperator × List Token) → ExprPlan Expr
prefixed_plan header ts (Some o) = Ask (Prefixed header) o.1 (λ x. just (ex.Unary o.0 x.0) x.1)
prefixed_plan header ts None = given (start_at header ts)
    (λ s. Ask (Finish s.0) s.1 (λ x. Ask (Suffixes x.0) x.1 found))

-- operators that bind at least this tightly, each with its right operand, any number of times
abbrev pub climb_plan : Bool → ℕ → Expr → List Token → Option (BinaryOperator × List Token) → ExprPlan Expr
climb_plan header l left ts None = just left ts
climb_plan header l left ts (Some o) =
    cond (nat_le l (binds o.0)) (Ask (Level header (suc (binds o.0))) o.1
    (λ right. Ask (Climb header l (ex.Binary o.0 left right.0)) right.1 found)) (just left ts)

-- after an item: a comma and more items, or the mark that closes the list
abbrev pub items_behind : Punctuation → List Expr → List Token → Option (List Token) → ExprPlan (List Expr)
items_behind close done ts (Some us) = Ask (Items close done) us found
items_behind close done ts None = given (after close ts) (just done)

abbrev pub element : List ℕ → Expr → Element
element n x = roll-Element (record { field = n; value = x })

abbrev pub elements_behind : List Element → List Token → Option (List Token) → ExprPlan (List Element)
elements_behind done ts (Some us) = Ask (Elements done) us found
elements_behind done ts None = given (after punctuations.CloseBrace ts) (just done)

abbrev pub elements_plan : List Element → List Token → ExprPlan (List Element)
elements_plan done ts =
    given (name_at ts) (λ n. given (after punctuations.Colon n.1)
    (λ us. Ask (Level false 1) us (λ x. elements_behind (done ++ element n.0 x.0 ∷ []) x.1
    (after punctuations.Comma x.1))))

abbrev pub expr_plan : (m : ExpressionMode) → List Token → ExprPlan (ExpressionTree m)
expr_plan (Finish s) ts = finish s ts
expr_plan (Extend base s) ts = extend base s ts
expr_plan (Suffixes base) ts = suffixes_plan base ts (suffix_at ts)
expr_plan (Prefixed header) ts = prefixed_plan header ts (unary_at ts)
expr_plan (Level header l) ts = Ask (Prefixed header) ts (λ x. Ask (Climb header l x.0) x.1 found)
expr_plan (Climb header l left) ts = climb_plan header l left ts (binary_at ts)
expr_plan (Items close done) ts = Ask (Level false 1) ts
    (λ x. items_behind close (done ++ x.0 ∷ []) x.1 (after punctuations.Comma x.1))
expr_plan (Elements done) ts = elements_plan done ts

-- a mode that has taken no token asks only for modes of lower rank
abbrev pub rank : ExpressionMode → ℕ
rank (Finish s) = 5
rank (Extend base s) = 5
rank (Suffixes base) = 1
rank (Prefixed header) = 2
rank (Level header l) = 3
rank (Climb header l left) = 0
rank (Items close done) = 4
rank (Elements done) = 4

-- what is read at the front in a mode, and the tokens after it
unfoldable pub expr_at : (m : ExpressionMode) → List Token → Option (ExpressionTree m × List Token)
expr_at m ts = reads expr_plan (suc (5 * length ts + rank m)) m ts
