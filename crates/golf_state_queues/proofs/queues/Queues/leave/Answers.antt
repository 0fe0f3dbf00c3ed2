use Rattle.std.proofs.Common.{ℕ, not, List, refl, sym, ap, ◌∙◌, subst, slice_set}
use Rattle.golf_theory.specs.Maps.{Rises}
use Rattle.golf_state_queues.specs.WaitQueues.{key, held, wait_queues_of, is_holder, parted}
use Rattle.golf_state_queues.specs.declared.queues.Queue.{Queue}
use Rattle.golf_state_queues.proofs.HolderLaws.{QueueAt, Rewritten, queue-there, queue-absent, rises-there, rewritten}
use Rattle.golf_state_queues.proofs.HolderLaws.{holders-was}
use Rattle.golf_state_queues.proofs.Partings.{Rises-filter, without-changed, without-absent}
use Rattle.golf_state_queues.proofs.queues.Queues.leave.Goals as goal

pub part-requires : goal.part-requires
part-requires c =
    let qs = c.self.inside.queues.items in
    let k = key c.args.object.0 c.args.side in
    let q = queue-there qs c.as_slice.result.now c.as_slice-2.result.now k c.key_of-key.result c.place_of-at.result
    c.stands_at.result c.as_slice.ensures.value c.as_slice-2.ensures.value c.key_of-key.ensures
    c.place_of-at.ensures.place c.stands_at.ensures c.self.invariant c.if-stands_at.true in
    rises-there qs k c.place_of-at.result c.index_mut.result.now q c.index_mut.ensures.value c.self.invariant

-- the queue of the key
there : (c : goal.After-self-1) → QueueAt c.self.inside.queues.items
    (key c.args.object.0 c.args.side) c.place_of-at.result
there c = queue-there c.self.inside.queues.items c.as_slice.result.now c.as_slice-2.result.now
    (key c.args.object.0 c.args.side) c.key_of-key.result c.place_of-at.result c.stands_at.result
    c.as_slice.ensures.value c.as_slice-2.ensures.value c.key_of-key.ensures c.place_of-at.ensures.place
    c.stands_at.ensures c.self.invariant c.if-stands_at.true

abbrev with-holders : (c : goal.After-self-1) → Queue
with-holders c = record {
  object = c.index_mut.result.now.object;
  side = c.index_mut.result.now.side;
  holders = c.part.new.holders;
}

-- its queue without the goroutine
has-left : (c : goal.After-self-1) → Rewritten c.self.inside.queues.items
    (slice_set c.self.inside.queues.items c.place_of-at.result (with-holders c)) (key c.args.object.0 c.args.side)
    (held c.part.new.holders)
has-left c =
    let qs = c.self.inside.queues.items in
    let p = c.index_mut.result.now in
    let before = rises-there qs (key c.args.object.0 c.args.side) c.place_of-at.result p
    (there c) c.index_mut.ensures.value c.self.invariant in
    let rises : Rises 0 (held c.part.new.holders) =
    subst (Rises 0) (sym c.part.ensures) (Rises-filter (λ h. not (is_holder c.args.ticket c.args.goroutine.0 h)) 0
    (held p.holders) before) in
    rewritten qs (key c.args.object.0 c.args.side) c.place_of-at.result p (with-holders c)
    (there c) c.index_mut.ensures.value refl refl c.self.invariant rises

pub invariant_of-self : goal.invariant_of-self
invariant_of-self c = (has-left c).order

pub returns-then-stands_at : goal.returns-then-stands_at
returns-then-stands_at c =
    let qs = c.self.inside.queues.items in
    let k = key c.args.object.0 c.args.side in
    let was = holders-was qs k c.place_of-at.result c.index_mut.result.now (there c) c.index_mut.ensures.value in
    rw (← c.self.view_is)
    (without-changed c.args.ticket c.args.goroutine.0 k (held c.part.new.holders) (wait_queues_of qs) _
    (has-left c).changed (c.part.ensures ∙ ap
    (λ (es : List (ℕ × ℕ)). parted c.args.ticket c.args.goroutine.0 es) was))

pub returns-else-stands_at : goal.returns-else-stands_at
returns-else-stands_at c =
    let qs = c.self.inside.queues.items in
    let k = key c.args.object.0 c.args.side in
    let none = queue-absent qs c.as_slice.result.now c.as_slice-2.result.now k c.key_of-key.result c.place_of-at.result
    c.stands_at.result c.as_slice.ensures.value c.as_slice-2.ensures.value c.key_of-key.ensures
    c.place_of-at.ensures.place c.stands_at.ensures c.self.invariant c.if-stands_at.false in
    rw (← c.self.view_is) (without-absent c.args.ticket c.args.goroutine.0 k (wait_queues_of qs) none)
