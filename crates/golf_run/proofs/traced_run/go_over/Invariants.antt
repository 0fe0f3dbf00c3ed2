use Rattle.std.proofs.Common.{length}
use Rattle.golf_run_schedules.specs.Events.{events_left}
use Rattle.golf_run.specs.HasRun.{sinks}
use Rattle.golf_run.proofs.Tracings.{IsTracing}
use Rattle.golf_run.proofs.traced_run.go_over.Given as goal

-- the run is under way, and what its events wrote is known
abbrev pub invariant-loop-event : goal.invariant-loop-event
invariant-loop-event g l = IsTracing l.code l.fn.options (events_left l.events) l.events.done l.state l.accounts.book
    l.accounts.totals
    (sinks (g.O.Sink.written l.fn.out) (g.O.Sink.faults l.fn.out) (g.E.Sink.written l.fn.err)
    (g.E.Sink.faults l.fn.err))
    (sinks (g.O.Sink.written l.out) (g.O.Sink.faults l.out) (g.E.Sink.written l.err) (g.E.Sink.faults l.err))

-- an event less is to come
abbrev pub decreases-loop-event : goal.decreases-loop-event
decreases-loop-event g l = length (events_left l.events)
