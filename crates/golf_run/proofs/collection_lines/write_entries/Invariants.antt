use Rattle.std.proofs.Common.{◌≡◌, map, take}
use Rattle.std.specs.Io.KnownBytes.{Appends}
use Rattle.golf_run_texts.specs.Output.{joined}
use Rattle.golf_run_texts.specs.Texts.{entry_line}
use Rattle.golf_run.proofs.collection_lines.write_entries.Given as goal

-- the first lines stand
abbrev pub invariant-loop-entry : goal.invariant-loop-entry
invariant-loop-entry g l = record {
  written : Appends (g.E.Sink.written l.fn.err) (g.E.Sink.written l.err)
      (joined (map entry_line (take l.entry-index l.entries)));
  steady : g.E.Sink.faults l.err ≡ g.E.Sink.faults l.fn.err;
}
