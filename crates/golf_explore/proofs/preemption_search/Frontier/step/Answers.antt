use Rattle.golf_explore.proofs.preemption_search.Frontier.step.Goals as goal

pub returns-in_default : goal.returns-in_default
returns-in_default c = c.rise.ensures c.args.code.now c.args.aim.sought
