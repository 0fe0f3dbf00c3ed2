use Rattle.std.proofs.Common.{◌≡◌, ◌++◌, take}
use Rattle.golf_run_texts.specs.Texts.{entry_lines}
use Rattle.golf_run_texts.proofs.lines.add_entries.Given as goal

-- the lines so far
abbrev pub invariant-loop-entry : goal.invariant-loop-entry
invariant-loop-entry l = l.text ≡ l.fn.text ++ entry_lines (take l.entry-index l.entries)
