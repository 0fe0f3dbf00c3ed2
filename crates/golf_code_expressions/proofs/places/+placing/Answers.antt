use Rattle.golf_code_expressions.proofs.Wholes.{no_place}
use Rattle.golf_code_expressions.proofs.places.+placing.Goals as goal

pub left_side-returns-in_default : goal.left_side-returns-in_default
left_side-returns-in_default t c = no_place c.args.line c.args.e.now c.args.writer.now c.take.new.self
    c.in_default.ensures.none.0 c.in_default.ensures.none.1
