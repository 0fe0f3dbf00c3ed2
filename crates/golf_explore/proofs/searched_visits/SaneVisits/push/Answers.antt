use Rattle.std.proofs.Common.{Some}
use Rattle.golf_explore.proofs.Sanities.{either-told}
use Rattle.golf_explore.proofs.searched_visits.SaneVisits.push.Goals as goal

pub invariant_of-self : goal.invariant_of-self
invariant_of-self c = record {
  sane = either-told c.args.self.now.visits.list c.push.new.self.list c.args.state (Some c.args.came) c.push.result
      c.push.ensures.ok c.push.ensures.err c.args.self.now.sane c.requires;
}
