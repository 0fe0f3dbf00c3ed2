use Rattle.std.proofs.Common.{◌≡◌, ◌+◌, ◌<◌, ◌-◌, suc, false, refl, ap, sym, ◌∙◌, arith}
use Rattle.golf_run_schedules.specs.Events.{has_turn_next}
use Rattle.golf_run_schedules.proofs.Counting.{events_none, events_turn, none-next}
use Rattle.golf_run_schedules.proofs.events.Events.next_turn.Goals as goal

pub returns-in_err-number : goal.returns-in_err-number
returns-in_err-number c =
    let s = c.self.inside in
    let none = c.in_err-number.ensures (s.turns - suc s.done) in
    let idle = none-next s.is_collection_next s.calm s.done c.if-self.true c.self.invariant.none_next in
    let below : s.done < s.turns = omega (arith, c.if-self.true, c.self.invariant.within) in
    let both = events_none s.is_collection_next s.schedule c.next_number.new.self s.every s.done s.turns idle below none.0
    none.1 in
    rw (c.from_residual.ensures, ← c.self.view_is) (ap has_turn_next both.0, rw none.1 refl)

pub returns-then-self : goal.returns-then-self
returns-then-self c =
    let s = c.self.inside in
    let idle = none-next s.is_collection_next s.calm s.done c.if-self.true c.self.invariant.none_next in
    let below : s.done < s.turns = omega (arith, c.if-self.true, c.self.invariant.within) in
    rw (← c.self.view_is) (
      events_turn s.schedule c.next_number.new.self s.every s.done s.turns idle below
          (c.in_ok-number.ensures (s.turns - suc s.done))
          (idle ∙ sym (c.self.invariant.none_due (s.done + 1) (omega arith) (omega (arith, c.if-self.true)))),
      refl,
    )
