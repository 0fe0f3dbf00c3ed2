use Rattle.std.proofs.Common.{◌<◌, length, IfSome, subst, arith}
use Rattle.golf_model_futures.proofs.OrderedLeading.{leads-whole}
use Rattle.golf_explore.specs.Sought.{IsReached}
use Rattle.golf_explore.proofs.Seekings.{shows-if}
use Rattle.golf_explore.proofs.shorter_schedules.shows.Goals as goal

pub is_found-requires : goal.is_found-requires
is_found-requires c =
    let code = c.args.code.now in
    let reached = subst (λ o. IfSome o (IsReached code c.args.numbers.now)) c.in-Some.is c.in_ok-reached.ensures in
    leads-whole code c.in-Some.reached.state reached.leads

pub returns : goal.returns
returns c =
    let code = c.args.code.now in
    let reached = subst (λ o. IfSome o (IsReached code c.args.numbers.now)) c.in-Some.is c.in_ok-reached.ensures in
    let some : 0 < length c.args.numbers.now = omega (arith, c.if-numbers-lt1.false) in
    shows-if code c.args.numbers.now c.in-Some.reached reached c.args.sought some c.is_found.result c.is_found.ensures
