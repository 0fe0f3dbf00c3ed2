use Rattle.std.proofs.Common.{◌≡◌, ℕ, true, List, sym, subst}
use Rattle.golf_theory.specs.Membership.{is_in}
use Rattle.golf_theory.specs.Maps.{keys}
use Rattle.golf_state_goroutines.specs.Places.{plain_entries}
use Rattle.golf_state_queues.specs.WaitQueues.{WaitQueues, IsInOrder, wait_queues_of, TicketsBelow, KeepsWaiters}
use Rattle.golf_state_queues.proofs.Narrowing.{keeps-narrowed, below-narrowed, order-narrowed}
use Rattle.golf_state_queues.proofs.queues.Queues.retain.Goals as goal

pub invariant_of-self : goal.invariant_of-self
invariant_of-self c =
    let gs : List ℕ = keys (plain_entries c.args.roster.now.places) in
    subst IsInOrder (sym c.narrow_all.ensures)
    (order-narrowed gs (wait_queues_of c.self.inside.queues.items) c.self.invariant)

pub returns-clause-queues : goal.returns-clause-queues
returns-clause-queues c = rw (← c.self.view_is) c.narrow_all.ensures

pub returns-clause-kept : goal.returns-clause-kept
returns-clause-kept c =
    let gs : List ℕ = keys (plain_entries c.args.roster.now.places) in
    subst (λ (ls : WaitQueues). KeepsWaiters (λ t g. is_in g gs ≡ true) c.args.self.now ls)
    (sym (returns-clause-queues c))
    (keeps-narrowed gs c.args.self.now)

pub returns-clause-below : goal.returns-clause-below
returns-clause-below c =
    let gs : List ℕ = keys (plain_entries c.args.roster.now.places) in
    subst (λ (ls : WaitQueues). (n : ℕ) → TicketsBelow n c.args.self.now → TicketsBelow n ls)
    (sym (returns-clause-queues c))
    (λ n b. below-narrowed n gs c.args.self.now b)
