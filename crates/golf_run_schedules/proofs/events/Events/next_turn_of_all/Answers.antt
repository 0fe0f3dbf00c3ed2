use Rattle.std.proofs.Common.{◌-◌, suc, refl, ap}
use Rattle.golf_run_schedules.specs.declared.schedule.Schedule.{Schedule}
use Rattle.golf_run_schedules.specs.Events.{has_turn_next, EventsLeft}
use Rattle.golf_run_schedules.proofs.Counting.{events_none, events_turn}
use Rattle.golf_run_schedules.proofs.events.Events.next_turn_of_all.Goals as goal

pub returns-in_err-number : goal.returns-in_err-number
returns-in_err-number c =
    let s = c.self.inside in
    let none = c.in_err-number.ensures (s.turns - suc s.done) in
    let both = events_none s.is_collection_next s.schedule c.next_number.new.self s.every s.done s.turns c.if-self.false
    c.if-self-2.false none.0 none.1 in
    rw (c.from_residual.ensures, ← c.self.view_is) (ap has_turn_next both.0, rw none.1 refl)

pub returns : goal.returns
returns c =
    let s = c.self.inside in
    rw (← c.self.view_is) (
      events_turn s.schedule c.next_number.new.self s.every s.done s.turns c.if-self.false c.if-self-2.false
          (c.in_ok-number.ensures (s.turns - suc s.done)) c.is_due-self-inside.ensures,
      refl,
    )
