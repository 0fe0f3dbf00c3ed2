use Rattle.std.proofs.Common.{◌<◌, ℕ, sym, subst, arith}
use Rattle.golf_grey.proofs.Steps.{pushes}
use Rattle.golf_grey.proofs.pool.GreyPool.push.Goals as goal

pub push_as-requires-clause-pushes : goal.push_as-requires-clause-pushes
push_as-requires-clause-pushes c =
    let h = c.requires.hand in
    pushes _ _ _ c.args.hand.now.live h.pushers
    (subst (λ (n : ℕ). c.args.place < n) (sym h.knows.0) c.requires.place, tt)
    (omega (arith, c.requires.room, h.knows.1))
