use Rattle.std.proofs.Common.{ℕ, List, subst}
use Rattle.golf_state_queues.specs.WaitQueues.{IsLastBefore}
use Rattle.golf_state_goroutines.specs.Places.{plain_entries}
use Rattle.golf_state.proofs.EnqueuedLaws.{always-enqueued}
use Rattle.golf_state.proofs.WakeLaws.{holder-below}
use Rattle.golf_state.proofs.state.State.holder_before.Goals as goal

pub returns-clause-last : goal.returns-clause-last
returns-clause-last c =
    let s = c.self.inside in
    let o = c.args.object.0 in
    rw (← c.self.view_is)
    (holder-below c.args.ticket o c.args.side
    (plain_entries s.roster.places) _ c.last_before.result c.holders.ensures.rises
    (c.self.invariant.enqueued.all o c.args.side (always-enqueued s.are_mutexes_enqueued c.args.side c.requires))
    (subst (λ (es : List (ℕ × ℕ)). IsLastBefore c.args.ticket es c.last_before.result) c.holders.ensures.holders
    c.last_before.ensures))
