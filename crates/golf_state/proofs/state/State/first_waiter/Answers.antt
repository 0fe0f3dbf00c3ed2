use Rattle.std.proofs.Common.{refl, sym, ◌∙◌, subst}
use Rattle.golf_theory.specs.Maps.{Rises}
use Rattle.golf_state.specs.Enqueued.{HasWaiters}
use Rattle.golf_state_goroutines.specs.Places.{plain_entries}
use Rattle.golf_state.proofs.WaiterLaws.{first-blocked}
use Rattle.golf_state.proofs.state.State.first_waiter.Goals as goal

pub returns-then-has_queue-clause-blocked : goal.returns-then-has_queue-clause-blocked
returns-then-has_queue-clause-blocked c =
    rw (← c.self.view_is) (first-blocked c.args.object.0 c.args.side
    (plain_entries c.self.inside.roster.places) _ c.self.invariant.kept.rises refl)

pub returns-then-has_queue-clause-rises : goal.returns-then-has_queue-clause-rises
returns-then-has_queue-clause-rises c = rw (← c.self.view_is) c.self.invariant.kept.rises

pub returns-else-has_queue-clause-blocked : goal.returns-else-has_queue-clause-blocked
returns-else-has_queue-clause-blocked c =
    rw (← c.self.view_is) (first-blocked c.args.object.0 c.args.side
    (plain_entries c.self.inside.roster.places) _ c.self.invariant.kept.rises refl)

pub returns-else-has_queue-clause-rises : goal.returns-else-has_queue-clause-rises
returns-else-has_queue-clause-rises c = rw (← c.self.view_is) c.self.invariant.kept.rises

pub first_in_queue-requires-clause-order : goal.first_in_queue-requires-clause-order
first_in_queue-requires-clause-order c = subst (Rises 0) (sym c.holders.ensures.holders) c.holders.ensures.rises

pub first_in_queue-requires-clause-all : goal.first_in_queue-requires-clause-all
first_in_queue-requires-clause-all c =
    let s = c.self.inside in
    let o = c.args.object.0 in
    let side = c.args.side in
    subst (HasWaiters o side (plain_entries s.roster.places)) (sym c.holders.ensures.holders)
    (c.self.invariant.enqueued.all o side (sym c.has_queue.ensures ∙ c.if-has_queue.true))
