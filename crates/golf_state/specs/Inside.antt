-- The state in memory, and its invariant.
use Rattle.std.specs.Prelude.{◌≡◌, ◌<◌, ◌≤◌, ◌^◌, ℕ, true, List, length, is_some}
use Rattle.golf_theory.specs.Maps.{find, Rises, AllBelow}
use Rattle.golf_model.specs.State.{State}
use Rattle.golf_state_goroutines.specs.Places.{plain_entries, running_of}
use Rattle.golf_state_goroutines.specs.Ready.{AllReady}
use Rattle.golf_state.specs.Enqueued.{AreEnqueued}
use Rattle.golf_data.specs.declared.goroutine.Goroutine.{Goroutine}
use Rattle.golf_state.specs.declared.state.State.TheInside.{Inside}

-- contracts see only the items of operands
abbrev pub plain_state : Inside → State
plain_state s = record {
  globals = s.globals;
  objects = s.heap.objects;
  finalisers = s.finalisers;
  goroutines = plain_entries s.roster.places;
  queue = s.queue;
  output = s.output;
  last_object = s.heap.last;
  next_goroutine = s.next_goroutine;
  next_ticket = s.next_ticket;
  recorded = s.recorded;
}

-- The goroutines are in rising order of number, below the next number, which is below 2^32. Goroutine 0 is there. The
-- list of running goroutines is theirs, and each blocked one is ready to be woken.
pub record AreKept (gs : List (ℕ × Goroutine)) (active : List ℕ) (next : ℕ) : Type 0 where
  pub rises : Rises 0 (plain_entries gs)
  pub below : AllBelow next (plain_entries gs)
  pub zero : is_some (find 0 (plain_entries gs)) ≡ true
  pub running : active ≡ running_of (plain_entries gs)
  pub few : length gs ≤ next
  pub limit : next < 2 ^ 32
  pub ready : AllReady gs

pub record IsCached (s : Inside) : Type 0 where
  pub kept : AreKept s.roster.places s.roster.running s.next_goroutine
  pub enqueued : AreEnqueued s.are_mutexes_enqueued (plain_entries s.roster.places) s.waiting s.next_ticket
  pub finalisers : Rises 0 s.finalisers
