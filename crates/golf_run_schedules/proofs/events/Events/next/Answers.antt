use Rattle.std.proofs.Common.{refl, ap, ◌∙◌}
use Rattle.golf_run_schedules.specs.Events.{EventsLeft, events_left}
use Rattle.golf_run_schedules.proofs.Counting.{none-come}
use Rattle.golf_run_schedules.proofs.events.Events.next.Goals as goal

pub returns-in-None : goal.returns-in-None
returns-in-None c =
    let none = none-come c.args.self.now (rw (← c.self.view_is) c.if-self.false) c.in-None.ensures.0 in (
      none,
      ap events_left c.in-None.ensures.1 ∙ none,
      ap (λ (e : EventsLeft). e.done) c.in-None.ensures.1,
    )
