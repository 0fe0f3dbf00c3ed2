use Rattle.std.proofs.Common.{◌≡◌, ℕ, true, false, cond, ◌||◌, List, [], ◌∷◌, Some, ◌==◌, refl, ◌∙◌}
use Rattle.std.specs.Prelude.{is_some}
use Rattle.golf_theory.specs.Maps.{find, keys}
use Rattle.golf_theory.specs.Membership.{is_in}
use Rattle.golf_state_goroutines.specs.Places.{plain_entries}
use Rattle.golf_state_queues.proofs.holders.is_among.Goals as goal

in-found : {X : Type 0} (g : ℕ) (es : List (ℕ × X)) → is_some (find g es) ≡ is_in g (keys es)
in-found g [] = refl
in-found g (e ∷ es) = elim (g == e.0) as (λ b. is_some (cond b (Some e.1) (find g es)) ≡ (b || is_in g (keys es))) [
  | true ↦ refl
  | false ↦ in-found g es
]

pub returns : goal.returns
returns c = c.has.ensures ∙ in-found c.args.g.0 (plain_entries c.args.roster.now.places)
