use Rattle.std.proofs.Common.{List, None, subst}
use Rattle.golf_explore.specs.declared.visits.Visit.{Visit}
use Rattle.golf_explore.specs.VisitLists.{HasPushed}
use Rattle.golf_explore.proofs.Growing.{visits-opened}
use Rattle.golf_explore.proofs.Searched.{opening-well}
use Rattle.golf_explore.proofs.full_search.opened.Goals as goal

pub returns : goal.returns
returns c =
    let code = c.args.code.now in
    let new : List Visit = c.push.new.self.list in
    let pushed = subst (λ (vs : List Visit). HasPushed vs new c.in_ok-state.state None) c.in_ok-visits.ensures
    c.in_ok-push.ensures.ok in
    visits-opened code new c.in_ok-state.state c.in_ok-state.ensures pushed (opening-well code)
