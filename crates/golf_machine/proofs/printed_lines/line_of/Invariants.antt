use Rattle.golf_machine.proofs.Lines.{IsPrinted}
use Rattle.golf_machine.proofs.printed_lines.line_of.Given as goal

abbrev pub invariant-loop-i : goal.invariant-loop-i
invariant-loop-i l = IsPrinted l.texts l.values l.i l.text
