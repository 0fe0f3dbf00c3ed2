use Rattle.std.proofs.Common.{◌<◌, List, Some, length, slice_get, sym, ap, ◌∙◌}
use Rattle.std.proofs.lemmas.Option.{slice_get-get_or}
use Rattle.golf_explore_laws.specs.After.{silent}
use Rattle.golf_explore.specs.declared.visits.Visit.{Visit}
use Rattle.golf_explore.specs.VisitLists.{states}
use Rattle.golf_explore.proofs.Growing.{get-states}
use Rattle.golf_explore.proofs.visits.Visits.find_alike.Goals as goal

pub returns-then-branch : goal.returns-then-branch
returns-then-branch c =
    let visits : List Visit = c.as_slice.result.now in
    let at = c.loop.at in
    let visit : Visit = c.in-Some.visit.now in
    let found = c.in-Some.ensures.lookup.3 in
    let within : at < length visits = found.0 in
    let stands = get-states visits at visit (slice_get-get_or visits at visit within ∙ ap Some (sym (found.1 visit))) in (
      silent visit.state,
      ap (λ (vs : List Visit). slice_get (states vs) at) (sym c.as_slice.ensures) ∙ stands,
      c.in_ok-count_as_one.ensures c.if-branch.true,
    )
