use Rattle.std.proofs.Common.{true, false, refl, arith}
use Rattle.std.proofs.lemmas.Bool.{eq-eqb, ne_eqb}
use Rattle.golf_machine.proofs.Frames.{returns-last}
use Rattle.golf_machine.proofs.frame_ends.return_to.Goals as goal

pub returns-then-g-eq1-clause-ok : goal.returns-then-g-eq1-clause-ok
returns-then-g-eq1-clause-ok c = λ line.
    returns-last c.requires.1 line c.args.value c.end.new.state c.finish.new.self true (omega arith)
    (c.end.ensures line) (eq-eqb c.args.g.0 1 c.if-g-eq1.true) c.finish.ensures

pub returns-else-g-eq1-clause-ok : goal.returns-else-g-eq1-clause-ok
returns-else-g-eq1-clause-ok c = λ line.
    returns-last c.requires.1 line c.args.value c.end.new.state c.end.new.state false (omega arith)
    (c.end.ensures line) (ne_eqb c.args.g.0 1 c.if-g-eq1.false) refl
