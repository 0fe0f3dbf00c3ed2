use Rattle.std.proofs.Common.{◌≡◌, map, take}
use Rattle.std.specs.Io.KnownBytes.{Appends}
use Rattle.golf_why.specs.Explanations.{reached_from}
use Rattle.golf_run_texts.specs.Output.{joined}
use Rattle.golf_run_texts.specs.Texts.{reached_line}
use Rattle.golf_run.proofs.collection_lines.write_reached.Given as goal

-- the lines of the first sleepers stand
abbrev pub invariant-loop-sleeper : goal.invariant-loop-sleeper
invariant-loop-sleeper g l = record {
  written : Appends (g.E.Sink.written l.fn.err) (g.E.Sink.written l.err)
      (joined (map reached_line (reached_from l.why.graph 0 (take l.sleeper l.why.sleeper_entries))));
  steady : g.E.Sink.faults l.err ≡ g.E.Sink.faults l.fn.err;
}
