-- The set that steps reach from roots.
use Rattle.std.specs.Prelude.{◌⊎◌, List}
use Rattle.golf_theory.specs.Membership.{In}
use Rattle.golf_theory.specs.Derivation.{Derived}

module _ {A : Type 0} (Root : A → Type 0) (Leads : A → A → Type 0) where
  -- a root, or an item to which an earlier entry leads
  abbrev pub Follows : List A → A → Type 0
  Follows earlier x = Root x ⊎ ((q : A) × In q earlier × Leads q x)

  -- x is reached: it ends a list in which each entry is a root, or an earlier entry leads to it
  abbrev pub Reached : A → Type 0
  Reached = Derived Follows
