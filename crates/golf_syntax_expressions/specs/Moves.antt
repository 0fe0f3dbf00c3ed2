-- How the reader of expressions goes on, with the constructs that wait.
use Rattle.std.specs.Prelude.{ℕ, ◌+◌, false, List, [], ◌∷◌, ◌++◌, Option, Some, None}
use Rattle.std.specs.Borrow.{Bor}
use Rattle.golf_lex_tokens.specs.declared.token.Token.{Token}
use Rattle.golf_lex_tokens.specs.declared.token.Punctuation.{Punctuation}
use Rattle.golf_lex_tokens.specs.declared.token.Punctuation.TheVariants as punctuations
use Rattle.golf_syntax_trees.specs.declared.types.TypeExpr.{TypeExpr}
use Rattle.golf_syntax_trees.specs.declared.expressions.Expr.{Expr}
use Rattle.golf_syntax_trees.specs.declared.expressions.Expr.TheVariants as ex
use Rattle.golf_syntax_trees.specs.declared.expressions.Element.{Element}
use Rattle.golf_syntax_expressions.specs.declared.starts.Start.{Start}
use Rattle.golf_syntax_expressions.specs.declared.starts.Start.TheVariants as starts
use Rattle.golf_syntax_expressions.specs.declared.starts.Suffix.{Suffix}
use Rattle.golf_syntax_expressions.specs.declared.starts.Suffix.TheVariants as suffixes
use Rattle.golf_syntax_expressions.specs.declared.pending.Goal.{Goal}
use Rattle.golf_syntax_expressions.specs.declared.pending.Goal.TheVariants as goals
use Rattle.golf_syntax_expressions.specs.declared.pending.Pending.{Pending}
use Rattle.golf_syntax_expressions.specs.declared.pending.Pending.TheVariants as pendings
use Rattle.golf_syntax_expressions.specs.declared.pending.Move.{Move}
use Rattle.golf_syntax_expressions.specs.declared.pending.Move.TheVariants as moves
use Rattle.golf_syntax_expressions.specs.Plan.{◌>>=◌, moved_by, waited_by}
use Rattle.golf_syntax_expressions.specs.Front.{after, name_at}
use Rattle.golf_syntax_expressions.specs.ExpressionReader.{Suffixes, Prefixed, Level, Climb, Items, Elements, element}
use Rattle.golf_syntax_expressions.specs.ExpressionReader.{expr_at}

abbrev pub FoundExpression : Type 0
FoundExpression = Option (Expr × List Token)

-- what is found for this goal
abbrev pub goal_at : Goal → List Token → FoundExpression
goal_at (goals.Level header l) ts = expr_at (Level header l) ts
goal_at (goals.Prefixed header) ts = expr_at (Prefixed header) ts
goal_at (goals.Suffixes base) ts = expr_at (Suffixes base) ts
goal_at (goals.Climb header l left) ts = expr_at (Climb header l left) ts

-- what is found with all suffixes of an operand
abbrev pub suffixed : Expr → List Token → FoundExpression
suffixed base ts = expr_at (Suffixes base) ts

-- what is found after an operand that this punctuation mark closes
abbrev pub closed_at : Punctuation → Expr → List Token → FoundExpression
closed_at close base ts = after close ts >>= suffixed base

-- after an argument, an item or the value of an element: a comma and more, or the mark that closes the list
abbrev pub argument_at : Expr → List Expr → List Token → Option (List Token) → FoundExpression
argument_at f done ts (Some us) = expr_at (Items punctuations.CloseParen done) us >>= λ y. suffixed (ex.Call f y.0) y.1
argument_at f done ts None = closed_at punctuations.CloseParen (ex.Call f done) ts

abbrev pub item_at : TypeExpr → List Expr → List Token → Option (List Token) → FoundExpression
item_at t done ts (Some us) = expr_at (Items punctuations.CloseBrace done) us >>= λ y. suffixed
    (ex.SliceLiteral t y.0) y.1
item_at t done ts None = closed_at punctuations.CloseBrace (ex.SliceLiteral t done) ts

abbrev pub element_at : List ℕ → List Element → List Token → Option (List Token) → FoundExpression
element_at n done ts (Some us) = expr_at (Elements done) us >>= λ y. suffixed (ex.StructLiteral n y.0) y.1
element_at n done ts None = closed_at punctuations.CloseBrace (ex.StructLiteral n done) ts

-- what is found once the waiting construct has its expression
abbrev pub pending_at : Pending → Expr × List Token → FoundExpression
pending_at pendings.Group x = closed_at punctuations.CloseParen (ex.Parens x.0) x.1
pending_at (pendings.Sized t) x = closed_at punctuations.CloseParen (ex.MakeSized t x.0) x.1
pending_at (pendings.Index base) x = closed_at punctuations.CloseBracket (ex.Index base x.0) x.1
pending_at (pendings.Argument f done) x = argument_at f (done ++ x.0 ∷ []) x.1 (after punctuations.Comma x.1)
pending_at (pendings.Item t done) x = item_at t (done ++ x.0 ∷ []) x.1 (after punctuations.Comma x.1)
pending_at (pendings.Element n done field) x =
    element_at n (done ++ element field x.0 ∷ []) x.1 (after punctuations.Comma x.1)
pending_at (pendings.Prefix o) x = Some (ex.Unary o x.0, x.1)
pending_at (pendings.Level header l) x = expr_at (Climb header l x.0) x.1
pending_at (pendings.Operand header l left o) x = expr_at (Climb header l (ex.Binary o left x.0)) x.1

-- what is found by this move
abbrev pub move_at : Move → List Token → FoundExpression
move_at (moves.Found e) ts = Some (e, ts)
move_at (moves.Seek a) ts = goal_at a ts
move_at (moves.Wait f a) ts = goal_at a ts >>= pending_at f

abbrev pub moved : Option (Move × Bor (List Token)) → FoundExpression
moved o = moved_by move_at o

-- what is found once all waiting constructs have theirs, the last one first
abbrev pub waited : List Pending → FoundExpression → FoundExpression
waited fs o = waited_by pending_at fs o

-- what is found after the beginning of an operand
abbrev pub field_at : List ℕ → List Element → List Token → FoundExpression
field_at n done ts = name_at ts >>= λ m. after punctuations.Colon m.1 >>= λ us. expr_at
    (Level false 1) us >>= pending_at (pendings.Element n done m.0)

abbrev pub started_at : Start → List Token → FoundExpression
started_at (starts.Whole e) ts = suffixed e ts
started_at starts.Group ts = expr_at (Level false 1) ts >>= pending_at pendings.Group
started_at (starts.Sized t) ts = expr_at (Level false 1) ts >>= pending_at (pendings.Sized t)
started_at (starts.Items t) ts = expr_at (Level false 1) ts >>= pending_at (pendings.Item t [])
started_at (starts.Elements n) ts = field_at n [] ts

-- what is found after an operand and its next suffix
abbrev pub extended_at : Expr → Suffix → List Token → FoundExpression
extended_at base (suffixes.Field n) ts = suffixed (ex.Selector base n) ts
extended_at base suffixes.Index ts = expr_at (Level false 1) ts >>= pending_at (pendings.Index base)
extended_at base suffixes.NoArguments ts = suffixed (ex.Call base []) ts
extended_at base suffixes.Arguments ts = expr_at (Level false 1) ts >>= pending_at (pendings.Argument base [])

-- how many moves there can be before a token is taken or a waiting construct goes on
abbrev pub goal_weight : Goal → ℕ
goal_weight (goals.Level header l) = 4
goal_weight (goals.Prefixed header) = 0
goal_weight (goals.Suffixes base) = 1
goal_weight (goals.Climb header l left) = 1

abbrev pub weight : Move → ℕ
weight (moves.Found e) = 0
weight (moves.Seek a) = goal_weight a
weight (moves.Wait f a) = 3 + goal_weight a
