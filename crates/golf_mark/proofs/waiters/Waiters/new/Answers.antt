use Rattle.golf_mark.proofs.waiters.Waiters.new.Goals as goal

pub returns : goal.returns
returns c = record { members = c.in_ok-waiters.ensures.members }
