use Rattle.std.proofs.Common.{◌≡◌, Bool, List, rules}
use Rattle.std.specs.Bool.{Decides}
use Rattle.std.specs.Cmp.Lexicographic.{pointwise}
use Rattle.std.proofs.lemmas.Slice.Eq.{slice_eq-Decides}
use Rattle.golf_data.specs.declared.goroutine.Queued.{Queued}
use Rattle.golf_data.specs.contracts.goroutine.QueuedPartialEq.TheImpl as queues
use Rattle.golf_explore.proofs.alike_states.same_queues.Goals as goal

queued-decides : (v w : Queued) → Decides (queues.eq-value.it v w) (v ≡ w)
queued-decides v w = search rules

queues-decide : (vs ws : List Queued) (r : Bool) → r ≡ pointwise queues.eq-value.it vs ws → Decides r (vs ≡ ws)
queues-decide = slice_eq-Decides queued-decides

pub returns : goal.returns
returns c = (queues-decide c.args.queue.now c.args.other.now c.eq.result c.eq.ensures).0
