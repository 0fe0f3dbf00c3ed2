use Rattle.std.proofs.Common.{Some, sym, ap, ◌∙◌}
use Rattle.std.specs.Prelude.{option_map}
use Rattle.golf_data.specs.declared.goroutine.Goroutine.{Goroutine}
use Rattle.golf_model.specs.Views.{goroutine_view}
use Rattle.golf_state_goroutines.proofs.PlaceLaws.{find-plain}
use Rattle.golf_state_goroutines.proofs.roster.Roster.get.Goals as goal

pub returns-in_err-get : goal.returns-in_err-get
returns-in_err-get c = rw c.from_residual.ensures (rw (← c.self.view_is)
    (sym (find-plain c.args.number c.self.inside.places ∙ ap (option_map goroutine_view) (sym c.in_err-get.ensures))))

pub returns : goal.returns
returns c = rw (← c.self.view_is)
    (sym (find-plain c.args.number c.self.inside.places ∙ ap (option_map goroutine_view) (sym c.in_ok-get.ensures)
    ∙ ap (λ (x : Goroutine). Some (goroutine_view x)) (sym c.get-2.ensures)))
