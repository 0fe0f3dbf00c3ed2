-- What holds of every expression if it holds of each kind by its parts; and what a fold carries along.
-- For: the inductions over expressions of the crates above
-- By: induction over the tree of an expression
use Rattle.std.proofs.Common.{◌≡◌, List, [], ◌∷◌, map, refl, sym, ap, ◌∙◌, subst}
use Rattle.golf_syntax_trees.specs.declared.expressions.Expr.{Expr, roll-Expr}
use Rattle.golf_syntax_trees.specs.declared.expressions.Element.{Element, roll-Element}
use Rattle.golf_syntax_trees.specs.declared.expressions.Expr.TheOpen.{Expr-F, Element-F}
use Rattle.golf_syntax_trees.specs.declared.expressions.Expr.TheOpen as F
use Rattle.golf_syntax_trees.specs.declared.expressions.Expr.TheFolds.{fold-Expr, fold-Element, fold-roll-Expr}
use Rattle.golf_syntax_trees.specs.declared.expressions.Expr.TheFolds.{fold-roll-Element, ind-Expr, map-Expr}
use Rattle.golf_syntax_trees.specs.declared.expressions.Expr.TheFolds.{map-Element}

module _ (P : Expr → Type 0) where
  -- an expression of which it is known, and an element of whose value it is
  abbrev pub KnownExpr : Type 0
  KnownExpr = (e : Expr) × P e

  abbrev pub KnownElement : Type 0
  KnownElement = (x : Element) × P x.value

  -- the expressions and the elements alone
  abbrev pub bare_exprs : List KnownExpr → List Expr
  bare_exprs xs = map (λ (p : KnownExpr). p.0) xs

  abbrev pub bare_elements : List KnownElement → List Element
  bare_elements xs = map (λ (p : KnownElement). p.0) xs

  -- one layer of an expression, of whose parts it is known
  abbrev pub ExprLayer : Type 0
  ExprLayer = Expr-F KnownExpr KnownElement

  -- the layer alone
  abbrev pub bare_expr : ExprLayer → Expr-F Expr Element
  bare_expr y = map-Expr KnownExpr KnownElement Expr Element (λ p. p.0) (λ p. p.0) y

  pub every-expr : ((y : ExprLayer) → P (roll-Expr (bare_expr y))) → (e : Expr) → P e
  every-expr on = ind-Expr P (λ x. P x.value) (λ x y is. subst (λ z. P (roll-Expr z)) is (on y))
      (λ x y is. subst (λ z. P (roll-Element z).value) is y.value.1)

-- What a fold makes of an element is what it makes of its layer.
module _ (A B : Type 0) (f : Expr-F A B → A) (g : Element-F A B → B) where
  pub fold-element : (x : Element) → fold-Element A B f g x ≡ g
      (record { field = x.field; value = fold-Expr A B f g x.value })
  fold-element x = fold-roll-Element A B f g (record { field = x.field; value = x.value })

  pub fold-elements : (xs : List Element)
      → map (fold-Element A B f g) xs ≡ map (λ (x : Element). g
      (record { field = x.field; value = fold-Expr A B f g x.value })) xs
  fold-elements [] = refl
  fold-elements (x ∷ xs) = ap (λ b. b ∷ map (fold-Element A B f g) xs) (fold-element x)
      ∙ ap (λ bs. g (record { field = x.field; value = fold-Expr A B f g x.value }) ∷ bs) (fold-elements xs)

-- A fold into `C` and `D` carries along a fold into `A` and `B` if each of its steps does.
module _ (C D : Type 0) (f : Expr-F C D → C) (g : Element-F C D → D) (A B : Type 0) (j : Expr-F A B → A)
    (k : Element-F A B → B)
    (into : C → A) (into_element : D → B)
    (carries : (y : Expr-F C D) → into (f y) ≡ j (map-Expr C D A B into into_element y))
    (carries_element : (y : Element-F C D) → into_element (g y) ≡ k (map-Element C D A B into into_element y)) where
  abbrev whole : Expr → C
  whole = fold-Expr C D f g

  abbrev whole_element : Element → D
  whole_element = fold-Element C D f g

  abbrev part : Expr → A
  part = fold-Expr A B j k

  abbrev part_element : Element → B
  part_element = fold-Element A B j k

  abbrev P : Expr → Type 0
  P e = into (whole e) ≡ part e

  carried-element : (x : KnownElement P) → into_element (whole_element x.0) ≡ part_element x.0
  carried-element x =
      ap into_element (fold-element C D f g x.0)
      ∙ carries_element (record { field = x.0.field; value = whole x.0.value })
      ∙ ap (λ a. k (record { field = x.0.field; value = a })) x.1
      ∙ sym (fold-element A B j k x.0)

  all-exprs : (xs : List (KnownExpr P)) → map into (map whole (bare_exprs P xs)) ≡ map part (bare_exprs P xs)
  all-exprs [] = refl
  all-exprs (x ∷ xs) = ap (λ a. a ∷ map into (map whole (bare_exprs P xs))) x.1
      ∙ ap (λ bs. part x.0 ∷ bs) (all-exprs xs)

  all-elements : (xs : List (KnownElement P))
      → map into_element (map whole_element (bare_elements P xs)) ≡ map part_element (bare_elements P xs)
  all-elements [] = refl
  all-elements (x ∷ xs) = ap (λ b. b ∷ map into_element (map whole_element (bare_elements P xs))) (carried-element x)
      ∙ ap (λ bs. part_element x.0 ∷ bs) (all-elements xs)

  at : (y : ExprLayer P) → j (map-Expr C D A B into into_element
      (map-Expr Expr Element C D whole whole_element (bare_expr P y))) ≡ j
      (map-Expr Expr Element A B part part_element (bare_expr P y))
  at (F.Integer digits) = refl
  at (F.Text bytes) = refl
  at (F.Name n) = refl
  at (F.Parens e) = ap (λ a. j (F.Parens a)) e.1
  at (F.StructLiteral n xs) = ap (λ bs. j (F.StructLiteral n bs)) (all-elements xs)
  at (F.SyncLiteral n) = refl
  at (F.SliceLiteral t xs) = ap (λ bs. j (F.SliceLiteral t bs)) (all-exprs xs)
  at F.EmptyLiteral = refl
  at (F.Make t) = refl
  at (F.MakeSized t e) = ap (λ a. j (F.MakeSized t a)) e.1
  at (F.New n) = refl
  at (F.NewSync n) = refl
  at (F.Selector e n) = ap (λ a. j (F.Selector a n)) e.1
  at (F.Index e i) = ap (λ a. j (F.Index a (into (whole i.0)))) e.1 ∙ ap (λ a. j (F.Index (part e.0) a)) i.1
  at (F.Call e xs) = ap (λ a. j (F.Call a (map into (map whole (bare_exprs P xs))))) e.1
      ∙ ap (λ bs. j (F.Call (part e.0) bs)) (all-exprs xs)
  at (F.Unary o e) = ap (λ a. j (F.Unary o a)) e.1
  at (F.Binary o e i) = ap (λ a. j (F.Binary o a (into (whole i.0)))) e.1 ∙ ap (λ a. j (F.Binary o (part e.0) a)) i.1

  rolled : (y : ExprLayer P) → P (roll-Expr (bare_expr P y))
  rolled y = ap into (fold-roll-Expr C D f g (bare_expr P y))
      ∙ carries (map-Expr Expr Element C D whole whole_element (bare_expr P y)) ∙ at y
      ∙ sym (fold-roll-Expr A B j k (bare_expr P y))

  pub carried : (e : Expr) → into (fold-Expr C D f g e) ≡ fold-Expr A B j k e
  carried = every-expr P rolled
