-- What holds of every written type if it holds of each kind by its part.
-- For: the inductions over types of the crates above
-- By: induction over the tree of a type
use Rattle.std.proofs.Common.{subst}
use Rattle.golf_syntax_trees.specs.declared.types.TypeExpr.{TypeExpr, roll-TypeExpr}
use Rattle.golf_syntax_trees.specs.declared.types.TypeExpr.TheOpen.{TypeExpr-F}
use Rattle.golf_syntax_trees.specs.declared.types.TypeExpr.TheFolds.{ind-TypeExpr, map-TypeExpr}

module _ (P : TypeExpr → Type 0) where
  -- one layer of a type, of whose part it is known
  abbrev pub TypeLayer : Type 0
  TypeLayer = TypeExpr-F ((t : TypeExpr) × P t)

  -- the layer alone
  abbrev pub bare_type : TypeLayer → TypeExpr-F TypeExpr
  bare_type y = map-TypeExpr ((t : TypeExpr) × P t) TypeExpr (λ p. p.0) y

  pub every-type : ((y : TypeLayer) → P (roll-TypeExpr (bare_type y))) → (t : TypeExpr) → P t
  every-type on = ind-TypeExpr P (λ x y is. subst (λ z. P (roll-TypeExpr z)) is (on y))
