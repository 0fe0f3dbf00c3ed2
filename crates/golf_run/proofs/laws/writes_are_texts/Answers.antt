use Rattle.golf_run.proofs.laws.writes_are_texts.Goals as goal
use Rattle.golf_run.proofs.Writing.{out-whole, err-whole}

pub returns : goal.returns
returns c = λ code options. (out-whole code options, err-whole code options)
