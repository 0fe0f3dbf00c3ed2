use Rattle.std.proofs.Common.{◌≡◌, ℕ, List, length}
use Rattle.golf_theory.specs.Maps.{keys}
use Rattle.golf_state_goroutines.specs.Places.{plain_entries}
use Rattle.golf_state_queues.specs.WaitQueues.{among, wait_queues_of}
use Rattle.golf_state_queues.proofs.Narrowing.{changed_to}
use Rattle.golf_state_queues.proofs.queues.narrow_all.Given as goal

-- the queues so far
abbrev pub invariant-loop-at : goal.invariant-loop-at
invariant-loop-at l = record {
  size : length l.queues.items ≡ length l.initial.queues.items;
  queues : wait_queues_of l.queues.items ≡ changed_to
      (λ (e : ℕ × List (ℕ × ℕ)). (e.0, among (keys (plain_entries l.roster.places)) e.1)) l.at
      (wait_queues_of l.initial.queues.items);
}
