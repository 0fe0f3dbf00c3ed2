use Rattle.golf_machine.proofs.TurnLaws.{stands-there, stays-there}
use Rattle.golf_machine.proofs.goroutine_turn.act.Goals as goal

pub perform-requires-clause-stands : goal.perform-requires-clause-stands
perform-requires-clause-stands c = stands-there c.requires.runs c.requires.at

pub perform-requires-clause-stays : goal.perform-requires-clause-stays
perform-requires-clause-stays c = stays-there c.requires.runs c.requires.at
