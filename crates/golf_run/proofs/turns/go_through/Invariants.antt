use Rattle.std.proofs.Common.{length}
use Rattle.golf_run.specs.PendingEvents.{pending_left}
use Rattle.golf_run.specs.HasRun.{sinks, IsSteady}
use Rattle.golf_run.specs.UnderWay.{IsGoing}
use Rattle.golf_run.proofs.turns.go_through.Given as goal

-- the run is under way, and no write has failed
abbrev pub invariant-loop-book : goal.invariant-loop-book
invariant-loop-book g l = record {
  going : IsGoing l.code l.fn.options (pending_left l.coming) l.coming.events.done l.state l.book l.totals
      (sinks (g.O.Sink.written l.fn.out) (g.O.Sink.faults l.fn.out) (g.E.Sink.written l.fn.err)
      (g.E.Sink.faults l.fn.err))
      (sinks (g.O.Sink.written l.out) (g.O.Sink.faults l.out) (g.E.Sink.written l.err) (g.E.Sink.faults l.err));
  steady : IsSteady
      (sinks (g.O.Sink.written l.fn.out) (g.O.Sink.faults l.fn.out) (g.E.Sink.written l.fn.err)
      (g.E.Sink.faults l.fn.err))
      (sinks (g.O.Sink.written l.out) (g.O.Sink.faults l.out) (g.E.Sink.written l.err) (g.E.Sink.faults l.err));
}

-- an event less is to come
abbrev pub decreases-loop-book : goal.decreases-loop-book
decreases-loop-book g l = length (pending_left l.coming)
