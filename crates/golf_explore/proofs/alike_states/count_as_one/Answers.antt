use Rattle.golf_explore.proofs.Partners.{count-partners}
use Rattle.golf_explore.proofs.alike_states.count_as_one.Goals as goal

pub returns : goal.returns
returns c = count-partners c.args.state.now c.args.other.now c.same_goroutines.result
    (c.is_same_besides.ensures c.if-not-is_same_besides.false) (c.in_ok-record_same.ensures c.if-not-branch.false)
    c.same_goroutines.ensures
