use Rattle.std.proofs.lemmas.List.Sorted.{IsNonDecreasingBy-from_sort}
use Rattle.golf_base.specs.declared.ids.GoroutineId.{GoroutineId}
use Rattle.golf_reclaim.proofs.Noting.{staying-among}
use Rattle.golf_reclaim.proofs.ledger.staying_after.Goals as goal

pub returns-clause-members : goal.returns-clause-members
returns-clause-members c = λ n. staying-among c.args.staying.now c.args.new.now c.args.gone.now n
    (rw c.new-after.ensures.items at c.in_ok-add_unlisted.ensures) c.in_ok-add_unlisted-2.ensures
    c.sort.ensures.permutation

pub returns-clause-rises : goal.returns-clause-rises
returns-clause-rises c = IsNonDecreasingBy-from_sort
    (λ (g : GoroutineId). g.0) c.sort.new.self.items c.in_ok-sort.ensures.sorted
