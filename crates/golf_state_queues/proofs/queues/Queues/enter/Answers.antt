use Rattle.std.proofs.Common.{◌≡◌, ℕ, ◌+◌, ◌<◌, List, [], refl, sym, ap, ◌∙◌, subst, rules, slice_set}
use Rattle.std.specs.Prelude.{insert as insert_item, None}
use Rattle.std.proofs.lemmas.Result.{on_ok_weaker}
use Rattle.golf_theory.specs.Maps.{Entry, find}
use Rattle.golf_state_queues.specs.WaitQueues.{WaitQueues, key, held, wait_queues_of, wait_queue_in, wait_queue_at}
use Rattle.golf_state_queues.specs.WaitQueues.{AddsOnlyIn, TicketsBelow, KeepsWaiters, KeepsIn}
use Rattle.golf_state_queues.specs.declared.queues.Queue.{Queue}
use Rattle.golf_state_queues.proofs.HolderLaws.{QueueAt, Rewritten, queue-there, queue-absent, rises-there, rewritten}
use Rattle.golf_state_queues.proofs.HolderLaws.{holders-was, inserted, place-is, keeps-changed, below-changed}
use Rattle.golf_state_queues.proofs.Adding.{adds-changed}
use Rattle.golf_state_queues.proofs.queues.Queues.enter.Goals as goal

pub join-requires : goal.join-requires
join-requires c =
    let qs = c.self.inside.queues.items in
    let k = key c.args.object.0 c.args.side in
    let q = queue-there qs c.as_slice.result.now c.as_slice-2.result.now k c.key_of-key.result c.place_of-at.result
    c.stands_at.result c.as_slice.ensures.value c.as_slice-2.ensures.value c.key_of-key.ensures
    c.place_of-at.ensures.place c.stands_at.ensures c.self.invariant c.if-stands_at.true in
    rises-there qs k c.place_of-at.result c.index_mut.result.now q c.index_mut.ensures.value c.self.invariant

-- ---- there is a queue of the key

there : (c : goal.After-self-1) → QueueAt c.self.inside.queues.items
    (key c.args.object.0 c.args.side) c.place_of-at.result
there c = queue-there c.self.inside.queues.items c.as_slice.result.now c.as_slice-2.result.now
    (key c.args.object.0 c.args.side) c.key_of-key.result c.place_of-at.result c.stands_at.result
    c.as_slice.ensures.value c.as_slice-2.ensures.value c.key_of-key.ensures c.place_of-at.ensures.place
    c.stands_at.ensures c.self.invariant c.if-stands_at.true

abbrev with-holders : (c : goal.After-self-1) → Queue
with-holders c = record {
  object = c.index_mut.result.now.object;
  side = c.index_mut.result.now.side;
  holders = c.join.new.holders;
}

-- its queue with the goroutine
has-joined : (c : goal.After-self-1) → Rewritten c.self.inside.queues.items
    (slice_set c.self.inside.queues.items c.place_of-at.result (with-holders c)) (key c.args.object.0 c.args.side)
    (held c.join.new.holders)
has-joined c =
    let p = c.index_mut.result.now in
    rewritten c.self.inside.queues.items (key c.args.object.0 c.args.side) c.place_of-at.result p (with-holders c)
    (there c) c.index_mut.ensures.value refl refl c.self.invariant c.join.ensures.rises

-- the queue as it was
was : (c : goal.After-self-1) → held c.index_mut.result.now.holders ≡ wait_queue_at (key c.args.object.0 c.args.side)
    (wait_queues_of c.self.inside.queues.items)
was c = holders-was c.self.inside.queues.items
    (key c.args.object.0 c.args.side) c.place_of-at.result c.index_mut.result.now (there c) c.index_mut.ensures.value

pub invariant_of-self : goal.invariant_of-self
invariant_of-self c = (has-joined c).order

pub returns-then-stands_at-clause-joins : goal.returns-then-stands_at-clause-joins
returns-then-stands_at-clause-joins c =
    on_ok_weaker c.join.result (λ i. subst (λ (es : List (ℕ × ℕ)). Entry es c.args.ticket c.args.goroutine.0)
    (sym (has-joined c).changed.here) i) c.join.ensures.joins

pub returns-then-stands_at-clause-again : goal.returns-then-stands_at-clause-again
returns-then-stands_at-clause-again c =
    let es = held c.join.new.holders in
    rw (← c.self.view_is)
    (on_ok_weaker c.join.result
    (λ i. keeps-changed (key c.args.object.0 c.args.side) es (wait_queues_of c.self.inside.queues.items) _
    (has-joined c).changed (λ t g. (t ≡ c.args.ticket) × (g ≡ c.args.goroutine.0)) (λ t g e was.
    subst (λ (n : ℕ). Entry es n g) (sym e.0) (subst (λ (n : ℕ). Entry es c.args.ticket n) (sym e.1) i)))
    c.join.ensures.joins)

pub returns-then-stands_at-clause-kept : goal.returns-then-stands_at-clause-kept
returns-then-stands_at-clause-kept c =
    let es = held c.join.new.holders in
    rw (← c.self.view_is)
    (keeps-changed (key c.args.object.0 c.args.side) es (wait_queues_of c.self.inside.queues.items) _
    (has-joined c).changed (λ t g. t < c.args.ticket)
    (subst (λ (fs : List (ℕ × ℕ)). KeepsIn (λ t g. t < c.args.ticket) fs es) (was c) c.join.ensures.kept))

pub returns-then-stands_at-clause-only : goal.returns-then-stands_at-clause-only
returns-then-stands_at-clause-only c =
    let es = held c.join.new.holders in
    rw (← c.self.view_is)
    (adds-changed c.args.ticket c.args.goroutine.0 (key c.args.object.0 c.args.side) es
    (wait_queues_of c.self.inside.queues.items) _ (has-joined c).changed
    (subst (λ (fs : List (ℕ × ℕ)). AddsOnlyIn c.args.ticket c.args.goroutine.0 fs es) (was c) c.join.ensures.only))

pub returns-then-stands_at-clause-below : goal.returns-then-stands_at-clause-below
returns-then-stands_at-clause-below c =
    let all : TicketsBelow (c.args.ticket + 1) (wait_queues_of c.self.inside.queues.items) =
    subst (λ (ls : WaitQueues). TicketsBelow (c.args.ticket + 1) ls) (sym c.self.view_is) c.requires.below in
    below-changed (key c.args.object.0 c.args.side) (held c.join.new.holders)
    (wait_queues_of c.self.inside.queues.items) _ (has-joined c).changed
    (c.args.ticket + 1) c.join.ensures.below all

-- ---- there is none

absent : (c : goal.In_ok-insert) → find (key c.args.object.0 c.args.side) (wait_queues_of c.self.inside.queues.items)
    ≡ None
absent c = queue-absent c.self.inside.queues.items c.as_slice.result.now c.as_slice-2.result.now
    (key c.args.object.0 c.args.side) c.key_of-key.result c.place_of-at.result c.stands_at.result
    c.as_slice.ensures.value c.as_slice-2.ensures.value c.key_of-key.ensures c.place_of-at.ensures.place
    c.stands_at.ensures c.self.invariant c.if-stands_at.false

-- a queue of the goroutine
is-new : (c : goal.In_ok-insert) → Rewritten c.self.inside.queues.items c.insert.new.self.items
    (key c.args.object.0 c.args.side) (held c.join-2.new.holders)
is-new c =
    let qs = c.self.inside.queues.items in
    let k = key c.args.object.0 c.args.side in
    let place = place-is qs c.as_slice.result.now k c.key_of-key.result c.place_of-at.result c.as_slice.ensures.value
    c.key_of-key.ensures c.place_of-at.ensures.place in
    let r : Queue = record { object = c.args.object; side = c.args.side; holders = c.join-2.new.holders } in
    let is : c.insert.new.self.items ≡ insert_item qs c.place_of-at.result r = search rules in
    inserted qs c.insert.new.self.items k c.place_of-at.result r
    (absent c) place is refl c.self.invariant c.join-2.ensures.rises

nobody-was : (c : goal.In_ok-insert) → wait_queue_at (key c.args.object.0 c.args.side)
    (wait_queues_of c.self.inside.queues.items) ≡ []
nobody-was c = ap wait_queue_in (absent c)

-- whoever stands in other queues is kept
others-kept : (c : goal.In_ok-insert) (P : ℕ → ℕ → Type 0)
    → KeepsWaiters P (wait_queues_of c.self.inside.queues.items) (wait_queues_of c.insert.new.self.items)
others-kept c P =
    let es = held c.join-2.new.holders in
    keeps-changed (key c.args.object.0 c.args.side) es (wait_queues_of c.self.inside.queues.items)
    (wait_queues_of c.insert.new.self.items) (is-new c).changed P
    (subst (λ (fs : List (ℕ × ℕ)). KeepsIn P fs es) (sym (nobody-was c)) (λ t g e i. absurd i))

pub invariant_of-self-2 : goal.invariant_of-self-2
invariant_of-self-2 c = (is-new c).order

pub returns-clause-joins : goal.returns-clause-joins
returns-clause-joins c = subst (λ (fs : List (ℕ × ℕ)). Entry fs c.args.ticket c.args.goroutine.0)
    (sym (is-new c).changed.here) c.in_ok-join.ensures.joins

pub returns-clause-again : goal.returns-clause-again
returns-clause-again c = rw (← c.self.view_is) (others-kept c (λ t g. (t ≡ c.args.ticket) × (g ≡ c.args.goroutine.0)))

pub returns-clause-kept : goal.returns-clause-kept
returns-clause-kept c = rw (← c.self.view_is) (others-kept c (λ t g. t < c.args.ticket))

pub returns-clause-only : goal.returns-clause-only
returns-clause-only c =
    let es = held c.join-2.new.holders in
    rw (← c.self.view_is)
    (adds-changed c.args.ticket c.args.goroutine.0 (key c.args.object.0 c.args.side) es
    (wait_queues_of c.self.inside.queues.items) (wait_queues_of c.insert.new.self.items) (is-new c).changed
    (subst (λ (fs : List (ℕ × ℕ)). AddsOnlyIn c.args.ticket c.args.goroutine.0 fs es)
    (ap held c.new-holders.ensures ∙ sym (nobody-was c)) c.join-2.ensures.only))

pub returns-clause-below : goal.returns-clause-below
returns-clause-below c =
    let all : TicketsBelow (c.args.ticket + 1) (wait_queues_of c.self.inside.queues.items) =
    subst (λ (ls : WaitQueues). TicketsBelow (c.args.ticket + 1) ls) (sym c.self.view_is) c.requires.below in
    below-changed (key c.args.object.0 c.args.side) (held c.join-2.new.holders)
    (wait_queues_of c.self.inside.queues.items) (wait_queues_of c.insert.new.self.items) (is-new c).changed
    (c.args.ticket + 1) c.join-2.ensures.below all
