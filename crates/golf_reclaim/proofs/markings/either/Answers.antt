use Rattle.std.proofs.Common.{◌<◌, length, false, refl, ap, ◌∙◌, arith}
use Rattle.std.proofs.lemmas.Option.{slice_get-get_or}
use Rattle.golf_reclaim.proofs.Flags.{either-more, either-all, either-long}
use Rattle.golf_reclaim.proofs.markings.either.Goals as goal

pub loop-at-preserved : goal.loop-at-preserved
loop-at-preserved c =
    let others = c.args.others.now in
    let i = c.loop-at.at in
    let within : i < length c.args.flags.now = omega arith in
    let there : i < length others = omega arith in
    either-more c.args.flags.now others i _ within (slice_get-get_or others i false there) refl
    c.loop-at.invariant c.in_ok-push.ensures.ok

pub returns-clause-flags : goal.returns-clause-flags
returns-clause-flags c =
    either-all c.args.flags.now c.args.others.now c.loop-at.at _ (omega arith) (omega arith) c.loop-at.invariant

pub returns-clause-length : goal.returns-clause-length
returns-clause-length c = ap length (returns-clause-flags c) ∙ either-long c.args.flags.now c.args.others.now c.requires
