use Rattle.golf_explore.specs.VisitLists.{states}
use Rattle.golf_explore.proofs.Sanities.{sane-told, after-told}
use Rattle.golf_explore.proofs.searched_visits.SaneVisits.after_turn.Goals as goal

pub settle_alone-requires-clause-sane : goal.settle_alone-requires-clause-sane
settle_alone-requires-clause-sane c =
    after-told c.args.code.now c.in_ok-state.state c.take.new.state c.args.number c.in_ok-take.ensures
    (sane-told (states c.args.self.now.visits.list) c.args.at c.in_ok-state.state c.args.self.now.sane
    c.in_ok-state.ensures)
