-- When functions have the same bodies.
use Rattle.std.specs.Prelude.{◌≡◌, List, [], ◌∷◌}
use Rattle.golf_data.specs.declared.code.Function.{Function}

-- the same parameters, the same slots, and the same body with its lines
pub record HasSameBody (f g : Function) : Type 0 where
  pub params : f.params ≡ g.params
  pub slots : f.slots ≡ g.slots
  pub body : f.body ≡ g.body

-- the first functions have the same bodies as all of the others
abbrev pub BeginAs : List Function → List Function → Type 0
BeginAs fs [] = Unit {0}
BeginAs [] (g ∷ gs) = ⊥
BeginAs (f ∷ fs) (g ∷ gs) = HasSameBody f g × BeginAs fs gs
