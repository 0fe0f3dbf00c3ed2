use Rattle.std.proofs.Common.{ℕ, Some, sym, ap, ◌∙◌}
use Rattle.golf_model.specs.ReadersWriters.{readers_next}
use Rattle.golf_state.proofs.ReaderLaws.{all-counted}
use Rattle.golf_state.proofs.wake_all.readers_next.Goals as goal
use Rattle.golf_state.proofs.wake_all.readers_next.Goals.{in-Some, in-None}

pub returns-clause-count : goal.returns-clause-count
returns-clause-count c =
    let o = c.args.object.0 in
    let gs = c.args.state.now.goroutines in
    c.readers_before.ensures.count ∙ elim c.match-below.branch [
      | in-Some w ↦ ap (λ (n : ℕ). readers_next (Some n) o gs) w.bound-is
          ∙ ap (λ m. readers_next m o gs) (sym w.in-Some.is)
      | in-None w ↦ ap (λ (n : ℕ). readers_next (Some n) o gs) w.bound-is
          ∙ all-counted _ o gs w.ticket_bound-bound.ensures ∙ ap (λ m. readers_next m o gs) (sym w.in-None.is)
    ]
