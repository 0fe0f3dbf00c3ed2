-- What holds in every continuation, and the states that moves reach.
use Rattle.std.specs.Prelude.{◌≡◌, ℕ, ◌+◌, ◌≤◌, Bool, List, [], map, Option, None}
use Rattle.golf_theory.specs.Maps.{Entry, IsRising, AllBelow}
use Rattle.golf_theory.specs.Membership.{Every}
use Rattle.golf_data.specs.declared.code.Code.{Code}
use Rattle.golf_data.specs.declared.goroutine.Ending.{Ending}
use Rattle.golf_data.specs.declared.goroutine.Queued.{Queued}
use Rattle.golf_data.specs.declared.report.Entry.{Entry as Reported}
use Rattle.golf_model.specs.Views.{GoroutineView}
use Rattle.golf_model.specs.Values.{refs}
use Rattle.golf_model.specs.State.{State, ending, start}
use Rattle.golf_model.specs.Turn.{step}
use Rattle.golf_model.specs.Refs.{object_refs, goroutine_refs, queue_refs}
use Rattle.golf_model.specs.LiveSet.{dead, live_objects}
use Rattle.golf_model.specs.Collections.{sets_finalisers, plain_collect, real_collect}
use Rattle.golf_model.specs.Runs.{Event, run, stops_by, finaliser_calls}
use Rattle.golf_model.specs.Reports.{entries, without}

-- the goroutine stays as it is now whatever happens: the same frames, mode, waits and ticket
abbrev pub Still : Code → State → ℕ → Type 0
Still code s g = (r : GoroutineView) × Entry s.goroutines g r
    × ((events : List Event) → Entry (run code s events).goroutines g r)

-- the sight right before a collection: the live objects, and the dead goroutines with their waits and lines
pub record Sight : Type 0 where
  pub live : List ℕ
  pub dead : List Reported

-- everything that can be seen of a run
pub record Seen : Type 0 where
  pub output : List ℕ
  pub ending : Option Ending
  pub calls : List Queued
  pub stops : List Sight

-- the sight of a state, without these goroutines
abbrev pub sight : List ℕ → State → Sight
sight gone p = record { live = live_objects p; dead = entries p (without (dead p) gone) }

-- what the events show from this state on; dead goroutines in the list are left out
abbrev pub futures : Code → State → List Event → List ℕ → Seen
futures code s events gone = record {
  output = (run code s events).output;
  ending = ending (run code s events);
  calls = finaliser_calls code s events;
  stops = map (sight gone) (stops_by plain_collect code s events);
}

-- the states that moves reach from the opening state: a turn or a collection moves a state without an ending, and
-- output can be emptied at any time
pub data Leads (code : Code) : State → Type 0 where
  Start : Leads code (start code)
  Turn : (s : State) (c : ℕ) → Leads code s → ending s ≡ None → Leads code (step code s c)
  Collection : (s : State) (recover : Bool) → Leads code s → ending s ≡ None
      → Leads code (real_collect s recover (sets_finalisers code))
  Emptied : (s : State) → Leads code s → Leads code (record s { output = [] })

abbrev pub UpTo : ℕ → List ℕ → Type 0
UpTo n os = Every (λ o. o ≤ n) os

-- numbers were given in order, and no reference is above the last object's number
pub record Numbered (s : State) : Type 0 where
  pub objects_rise : IsRising s.objects
  pub objects_below : AllBelow (s.last_object + 1) s.objects
  pub finalisers_rise : IsRising s.finalisers
  pub finalisers_below : AllBelow (s.last_object + 1) s.finalisers
  pub goroutines_rise : IsRising s.goroutines
  pub goroutines_below : AllBelow s.next_goroutine s.goroutines
  pub globals : UpTo s.last_object (refs s.globals)
  pub queue : UpTo s.last_object (queue_refs s.queue)
  pub in_objects : Every (λ e. UpTo s.last_object (object_refs e.1)) s.objects
  pub in_goroutines : Every (λ e. UpTo s.last_object (goroutine_refs e.1)) s.goroutines
