use Rattle.std.proofs.Common.{ℕ, not, List, length, sym, ap, ◌∙◌, arith}
use Rattle.std.proofs.lemmas.Bool.{le-ltb}
use Rattle.golf_model.specs.State.{State, not_empty, runnable}
use Rattle.golf_state_goroutines.specs.Places.{plain_entries}
use Rattle.golf_state.proofs.PlaceLaws.{one-awake}
use Rattle.golf_state.proofs.state.State.is_asleep.Goals as goal

pub returns-else-running_count-lt2 : goal.returns-else-running_count-lt2
returns-else-running_count-lt2 c =
    let s = c.self.inside in
    let k = c.self.invariant.kept in
    let many = c.if-running_count-lt2.false in
    let all = ap (λ (xs : List ℕ). length xs) k.running in
    let awake = one-awake s.queue (plain_entries s.roster.places) k.rises
    (omega (arith, many, c.running_count.ensures, all)) in
    le-ltb c.running_count.result 2 many ∙ sym
    (ap not (ap (λ (t : State). not_empty (runnable t)) (sym c.self.view_is) ∙ awake))
