use Rattle.std.proofs.Common.{◌≡◌, ℕ, filter, rules, sym, ap, subst, ◌∙◌}
use Rattle.std.proofs.lemmas.Fn.{filter_same}
use Rattle.golf_state_queues.specs.WaitQueues.{WaitQueues, IsInOrder, held, wait_queues_of, has_anyone, TicketsBelow}
use Rattle.golf_state_queues.specs.WaitQueues.{KeepsWaiters}
use Rattle.golf_state_queues.specs.declared.queues.Queue.{Queue}
use Rattle.golf_state_queues.proofs.Standing.{keeps-standing, order-standing, below-standing, queues-standing}
use Rattle.golf_state_queues.proofs.queues.Queues.drop_empty.Goals as goal

pub invariant_of-self : goal.invariant_of-self
invariant_of-self c =
    let qs = c.self.inside.queues.items in
    let left : c.retain.new.self.items ≡ filter (λ (q : Queue). has_anyone (held q.holders)) qs =
    filter_same _ (λ (q : Queue). has_anyone (held q.holders)) _
    (λ x b f' k. search rules) _ _ c.retain.ensures.filtered in
    subst IsInOrder (sym (ap wait_queues_of left ∙ queues-standing qs))
    (order-standing (wait_queues_of qs) c.self.invariant)

pub returns-clause-queues : goal.returns-clause-queues
returns-clause-queues c =
    let qs = c.self.inside.queues.items in
    let left : c.retain.new.self.items ≡ filter (λ (q : Queue). has_anyone (held q.holders)) qs =
    filter_same _ (λ (q : Queue). has_anyone (held q.holders)) _
    (λ x b f' k. search rules) _ _ c.retain.ensures.filtered in
    rw (← c.self.view_is) (ap wait_queues_of left ∙ queues-standing qs)

pub returns-clause-kept : goal.returns-clause-kept
returns-clause-kept c = subst (λ (ls : WaitQueues). KeepsWaiters (λ t g. Unit {0}) c.args.self.now ls)
    (sym (returns-clause-queues c)) (keeps-standing c.args.self.now)

pub returns-clause-below : goal.returns-clause-below
returns-clause-below c =
    let order : IsInOrder c.args.self.now = rw (← c.self.view_is) c.self.invariant in
    subst (λ (ls : WaitQueues). (n : ℕ) → TicketsBelow n c.args.self.now → TicketsBelow n ls)
    (sym (returns-clause-queues c))
    (below-standing c.args.self.now order)
