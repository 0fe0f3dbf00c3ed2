use Rattle.std.proofs.Common.{◌∙◌, rules}
use Rattle.golf_machine.proofs.Fits.{carried, stands-to-fault}
use Rattle.golf_machine.proofs.instructions.perform.Goals as goal

pub carry_out-requires : goal.carry_out-requires
carry_out-requires c = search (rules, stands-to-fault, c.requires.stands, c.in_ok-outcome.ensures.ok)

pub returns-clause-ok : goal.returns-clause-ok
returns-clause-ok c = search (rules, carried, c.in_ok-outcome.ensures.ok, c.carry_out.ensures)

pub returns-clause-fits : goal.returns-clause-fits
returns-clause-fits c = c.is_fit.ensures ∙ c.in_ok-outcome.ensures.ok.1
