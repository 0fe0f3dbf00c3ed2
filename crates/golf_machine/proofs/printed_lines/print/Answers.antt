use Rattle.std.proofs.Common.{rules}
use Rattle.golf_machine.proofs.Takings.{taken-none}
use Rattle.golf_machine.proofs.Prints.{prints-missing, prints-line}
use Rattle.golf_machine.proofs.printed_lines.print.Goals as goal

pub returns-in_default-clause-ok : goal.returns-in_default-clause-ok
returns-in_default-clause-ok c = let e = rw c.in_default.is at c.last_values.ensures in
    search (rules, c.requires, taken-none, e)

pub returns-in_default-2-clause-ok : goal.returns-in_default-2-clause-ok
returns-in_default-2-clause-ok c = prints-missing c.requires c.args.acting.line c.args.code.now c.args.count
    c.in-Some.values.now c.in-Some.ensures (rw (c.in_default-2.is, c.as_slice.ensures) at c.in_ok-line.ensures)

pub returns-clause-ok : goal.returns-clause-ok
returns-clause-ok c =
    prints-line c.requires c.args.acting.line c.args.code.now c.args.count c.in-Some.values.now c.in-Some.ensures
    c.in-Some-2.line c.add_output.new.self c.proceed.new.state
    (rw (c.in-Some-2.is, c.as_slice.ensures) at c.in_ok-line.ensures)
    (rw c.as_slice-2.ensures at c.in_ok-add_output.ensures.ok) c.proceed.ensures.state
