use Rattle.std.proofs.Common.{◌≡◌, ℕ, List, sym, ap, ◌∙◌, subst}
use Rattle.golf_theory.specs.Maps.{Rises}
use Rattle.golf_data.specs.declared.goroutine.Goroutine.{Goroutine}
use Rattle.golf_model.specs.Views.{GoroutineView}
use Rattle.golf_state_goroutines.specs.Places.{plain_entries}
use Rattle.golf_state_queues.specs.WaitQueues.{WaitQueues}
use Rattle.golf_state.specs.Enqueued.{AreEnqueued}
use Rattle.golf_state.proofs.Copied.{kept-copied}
use Rattle.golf_state.proofs.state.State.copy.Goals as goal

pub invariant_of-result : goal.invariant_of-result
invariant_of-result c =
    let s = c.self.inside in
    let gs = c.in_ok-roster.roster.places in
    let same : plain_entries gs ≡ plain_entries s.roster.places =
    c.in_ok-roster.ensures.places ∙ ap (λ (ps : List (ℕ × Goroutine)). plain_entries ps) c.blocks-2.ensures in
    record {
      kept = kept-copied s.roster.places gs s.roster.running c.in_ok-roster.roster.running s.next_goroutine same
          c.in_ok-roster.ensures.listed c.in_ok-roster.ensures.ready c.self.invariant.kept;
      enqueued = subst (λ (es : List (ℕ × GoroutineView)). AreEnqueued s.are_mutexes_enqueued es c.in_ok-waiting.waiting
          s.next_ticket) (sym same)
          (subst (λ (ls : WaitQueues). AreEnqueued s.are_mutexes_enqueued (plain_entries s.roster.places) ls
          s.next_ticket) (sym c.in_ok-waiting.ensures) c.self.invariant.enqueued);
      finalisers = subst (λ (fs : List (ℕ × ℕ)). Rises 0 fs) (sym c.in_ok-finalisers.ensures)
          c.self.invariant.finalisers;
    }
