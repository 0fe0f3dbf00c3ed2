-- The spine of an expression, which is its path down left operands, and spines of trees in general.
use Rattle.std.specs.Prelude.{◌≡◌, ℕ, ◌≤◌, List, [], ◌∷◌, map, Option, Some, None}
use Rattle.std.specs.Borrow.{Bor}
use Rattle.golf_syntax_trees.specs.declared.expressions.Expr.{Expr, out-Expr}
use Rattle.golf_syntax_trees.specs.declared.expressions.Element.{Element}
use Rattle.golf_syntax_trees.specs.declared.expressions.Expr.TheOpen.{Expr-F, Selector, Index, Call, Binary}

abbrev pub left_step : Expr-F Expr Element → Option Expr
left_step (Selector e n) = Some e
left_step (Index a i) = Some a
left_step (Call f xs) = Some f
left_step (Binary o a b) = Some a
left_step _ = None

-- the left operand of an expression, if it has one
unfoldable pub left_of : Expr → Option Expr
left_of e = left_step (out-Expr e)

-- the values behind the references in a list
abbrev pub shown : {T : Type 0} → List (Bor T) → List T
shown ws = map (λ w. w.now) ws

-- A spine from e: e is the first tree of the list, each tree has the next one below it, and the last one has `inner`
-- below it.
abbrev pub IsSpine : {T : Type 0} → (T → Option T) → T → List T → T → Type 0
IsSpine below e [] inner = e ≡ inner
IsSpine below e (x ∷ xs) inner = (e ≡ x) × ((next : _) × ((below x ≡ Some next) × IsSpine below next xs inner))

-- none of these trees is larger than n
abbrev pub AreNoLarger : {T : Type 0} → (T → ℕ) → ℕ → List T → Type 0
AreNoLarger size n [] = Unit {0}
AreNoLarger size n (e ∷ es) = (size e ≤ n) × AreNoLarger size n es

-- a value at the innermost tree, raised by each tree of the spine, the last one first
abbrev pub risen : {T A : Type 0} → (T → A → A) → List T → A → A
risen raise [] x = x
risen raise (e ∷ es) x = raise e (risen raise es x)
