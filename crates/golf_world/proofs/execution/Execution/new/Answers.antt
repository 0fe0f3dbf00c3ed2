use Rattle.golf_world.proofs.Executions.{execution_begins}
use Rattle.golf_world.proofs.execution.Execution.new.Goals as goal

pub invariant_of-result : goal.invariant_of-result
invariant_of-result g c = execution_begins g.W.WorldName.code g.W.WorldName.passes c.args.state c.new.result
    c.new-2.result.items c.new-3.result.items c.requires.state c.requires.places c.new.ensures c.new-2.ensures.items
    c.new-3.ensures.items
