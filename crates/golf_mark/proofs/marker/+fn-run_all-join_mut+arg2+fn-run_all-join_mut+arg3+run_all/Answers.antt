use Rattle.std.proofs.Common.{◌≡◌, ◌++◌, List, subst, rules}
use Rattle.golf_mark.specs.declared.marker.Marker.{Marker}
use Rattle.golf_mark.specs.MarkerTurns.{EachRuns}
use Rattle.golf_mark.proofs.Running.{EachRuns-append}
use Rattle.golf_mark.proofs.marker.+fn-run_all-join_mut+arg2+fn-run_all-join_mut+arg3+run_all.Goals as goal

pub returns : goal.returns
returns g t c =
    let marks = c.args.shared.now.marks.now in
    let pool = c.args.shared.now.pool.now in
    let a = c.split_at_mut-front.result.0.now in
    let b = c.split_at_mut-front.result.1.now in
    let front : EachRuns marks pool a c.front-1.given.0 = search rules in
    let back : EachRuns marks pool b c.back-1.given.0 = search rules in
    let whole : a ++ b ≡ c.args.markers.now = search rules in
    subst (λ (l : List Marker). EachRuns marks pool l (c.front-1.given.0 ++ c.back-1.given.0)) whole
    (EachRuns-append marks pool a b c.front-1.given.0 c.back-1.given.0 front back)
