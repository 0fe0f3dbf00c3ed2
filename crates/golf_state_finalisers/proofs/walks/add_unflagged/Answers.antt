use Rattle.std.proofs.Common.{◌<◌, ℕ, length, arith}
use Rattle.golf_state_finalisers.proofs.Queueing.{queued-next, queued-same}
use Rattle.golf_state_finalisers.proofs.walks.add_unflagged.Goals as goal
use Rattle.golf_state_finalisers.proofs.walks.add_unflagged.Goals.{then-not-stays-at+in_ok-push, else-not-stays-at}

pub loop-at-preserved : goal.loop-at-preserved
loop-at-preserved c =
    let start = c.args.entries.now in
    let stays = c.args.stays.now in
    let fs = c.args.pairs.now in
    let i : ℕ = c.loop-at.at in
    let within : i < length fs = omega (arith, c.loop-at-test.true, c.requires) in
    elim c.if-not-stays-at.branch [
      | then-not-stays-at+in_ok-push w ↦ rw w.entries-is
          (queued-next start stays fs i _ c.loop-at.entries w.push.new.self c.loop-at-test.true within
          w.if-not-stays-at.true c.loop-at.invariant w.in_ok-push.ensures.ok)
      | else-not-stays-at w ↦ rw w.entries-is
          (queued-same start stays fs i c.loop-at.entries c.loop-at-test.true within w.if-not-stays-at.false
          c.loop-at.invariant)
    ]
