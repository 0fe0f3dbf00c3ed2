use Rattle.std.proofs.Common.{arith}
use Rattle.golf_code.proofs.comparison.begin_with_code.Goals as goal

pub returns : goal.returns
returns c = let e = c.in_ok-walk.ensures c.args.decls.now in grind (arith, e)
