use Rattle.std.proofs.Common.{◌≡◌, List, sym, ap, ◌∙◌, subst, arith}
use Rattle.std.proofs.lemmas.Option.{slice_get_within, get_or_from_slice_get}
use Rattle.golf_theory.specs.Maps.{Rises}
use Rattle.golf_state_queues.specs.Lines.{spots}
use Rattle.golf_state_queues.specs.WaitQueues.{key, held, wait_queues_of, wait_queue_in}
use Rattle.golf_state_queues.specs.declared.holders.TicketHolder.{TicketHolder}
use Rattle.golf_state_queues.specs.declared.queues.Queue.{Queue}
use Rattle.golf_state_queues.proofs.HolderLaws.{queue-there, queue-absent, rise-at}
use Rattle.golf_state_queues.proofs.queues.Queues.holders.Goals as goal

pub index-requires : goal.index-requires
index-requires c =
    let qs = c.self.inside.queues.items in
    let k = key c.args.object.0 c.args.side in
    let q = queue-there qs c.as_slice.result.now c.as_slice-2.result.now k c.key_of-key.result c.place_of-at.result
    c.stands_at.result c.as_slice.ensures.value c.as_slice-2.ensures.value c.key_of-key.ensures
    c.place_of-at.ensures.place c.stands_at.ensures c.self.invariant c.if-stands_at.true in
    omega (arith, slice_get_within qs c.place_of-at.result q.queue q.here, c.self.inside.queues.ok.0)

pub returns-then-stands_at-clause-holders : goal.returns-then-stands_at-clause-holders
returns-then-stands_at-clause-holders c =
    let qs = c.self.inside.queues.items in
    let k = key c.args.object.0 c.args.side in
    let q = queue-there qs c.as_slice.result.now c.as_slice-2.result.now k c.key_of-key.result c.place_of-at.result
    c.stands_at.result c.as_slice.ensures.value c.as_slice-2.ensures.value c.key_of-key.ensures
    c.place_of-at.ensures.place c.stands_at.ensures c.self.invariant c.if-stands_at.true in
    let same : c.index.result.now ≡ q.queue = c.index.ensures
    ∙ get_or_from_slice_get qs c.place_of-at.result q.queue c.index.result.now q.here in
    rw (← c.self.view_is)
    (ap (λ (hs : List TicketHolder). held hs) c.as_slice-then-stands_at.ensures.value
    ∙ ap (λ (r : Queue). held r.holders) same ∙ ap wait_queue_in (sym q.found))

pub returns-else-stands_at-clause-holders : goal.returns-else-stands_at-clause-holders
returns-else-stands_at-clause-holders c =
    let qs = c.self.inside.queues.items in
    let k = key c.args.object.0 c.args.side in
    let none = queue-absent qs c.as_slice.result.now c.as_slice-2.result.now k c.key_of-key.result c.place_of-at.result
    c.stands_at.result c.as_slice.ensures.value c.as_slice-2.ensures.value c.key_of-key.ensures
    c.place_of-at.ensures.place c.stands_at.ensures c.self.invariant c.if-stands_at.false in
    rw (← c.self.view_is) (sym (ap wait_queue_in none))

pub returns-then-stands_at-clause-rises : goal.returns-then-stands_at-clause-rises
returns-then-stands_at-clause-rises c = rw (← c.self.view_is)
    (rise-at (key c.args.object.0 c.args.side) (wait_queues_of c.self.inside.queues.items) c.self.invariant.queues)

pub returns-else-stands_at-clause-rises : goal.returns-else-stands_at-clause-rises
returns-else-stands_at-clause-rises c = rw (← c.self.view_is)
    (rise-at (key c.args.object.0 c.args.side) (wait_queues_of c.self.inside.queues.items) c.self.invariant.queues)

pub returns-then-stands_at-clause-order : goal.returns-then-stands_at-clause-order
returns-then-stands_at-clause-order c = subst (λ (hs : List TicketHolder). Rises 0 (spots hs))
    (sym c.as_slice-then-stands_at.ensures.value) c.as_slice-then-stands_at.ensures.rises
