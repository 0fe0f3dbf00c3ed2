use Rattle.std.proofs.Common.{◌≡◌, ◌++◌, ◌∷◌, [], Some, None, MatchOption}
use Rattle.golf_mark.specs.UnderWay.{IsTaken}
use Rattle.golf_mark.proofs.Covering.{taken_last, taken_first}
use Rattle.golf_mark.proofs.worklist.Worklist.take.Goals as goal

pub returns-then-len-lt-MANY-clause-items : goal.returns-then-len-lt-MANY-clause-items
returns-then-len-lt-MANY-clause-items c =
    let old = c.args.self.now in
    let new = c.pop.new.self in
    elim c.pop.result as (λ o. MatchOption o ((old.items ≡ []) × (new ≡ old))
    (λ last. old.items ≡ new.items ++ last ∷ [])
    → MatchOption o ((old.items ≡ []) × (new ≡ old)) (λ place. IsTaken place old.items new.items)) [
      | None ↦ λ none. none
      | Some last ↦ λ is. taken_last last old.items new.items is
    ] c.pop.ensures.items

pub returns-else-len-lt-MANY-clause-items : goal.returns-else-len-lt-MANY-clause-items
returns-else-len-lt-MANY-clause-items c =
    let old = c.args.self.now in
    let new = c.shift.new.self in
    elim c.shift.result as (λ o. MatchOption o ((old.items ≡ []) × (new ≡ old)) (λ first. old.items ≡ first ∷ new.items)
    → MatchOption o ((old.items ≡ []) × (new ≡ old)) (λ place. IsTaken place old.items new.items)) [
      | None ↦ λ none. none
      | Some first ↦ λ is. taken_first first old.items new.items is
    ] c.shift.ensures.items
