use Rattle.std.proofs.Common.{◌≡◌, List, [], ◌∷◌, Option, Some, None, refl, ◌∙◌}
use Rattle.std.specs.Prelude.{slice_get, option_map, is_some}
use Rattle.golf_model.specs.State.{not_empty}
use Rattle.golf_machine.proofs.frame_ends.has_deferred.Goals as goal

first : {X Y : Type 0} (f : X → Y) (o : Option X) (ys : List Y) → option_map f o ≡ slice_get ys 0
    → is_some o ≡ not_empty ys
first f None [] h = refl
first f None (y ∷ ys) h = cc
first f (Some x) [] h = cc
first f (Some x) (y ∷ ys) h = refl

pub returns : goal.returns
returns c = c.is_some.ensures ∙ first (λ d. d.now) _ _ c.latest_deferred.ensures
