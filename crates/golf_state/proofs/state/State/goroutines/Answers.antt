use Rattle.golf_state.proofs.state.State.goroutines.Goals as goal

pub returns-clause-rises : goal.returns-clause-rises
returns-clause-rises c = rw (← c.self.view_is) c.self.invariant.kept.rises

pub returns-clause-zero : goal.returns-clause-zero
returns-clause-zero c = rw (← c.self.view_is) c.self.invariant.kept.zero
