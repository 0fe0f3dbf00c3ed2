use Rattle.std.proofs.Common.{◌%◌, arith}
use Rattle.std.proofs.lemmas.Nat.{one_shl}
use Rattle.golf_marks.proofs.bits.mask.Goals as goal

pub returns : goal.returns
returns c = one_shl (c.args.place % 64) 64 (omega arith)
