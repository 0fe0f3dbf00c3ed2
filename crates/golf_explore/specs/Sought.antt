-- What a search looks for, and what it finds.
use Rattle.std.specs.Prelude.{◌≡◌, ℕ, ◌<◌, true, List, [], length, None}
use Rattle.golf_data.specs.declared.code.Code.{Code}
use Rattle.golf_model.specs.State.{State, ending, start}
use Rattle.golf_model.specs.Futures.{Leads}
use Rattle.golf_model.specs.LiveSet.{dead}
use Rattle.golf_explore_laws.specs.After.{after_all}
use Rattle.golf_explore_laws.specs.Laws.{is_panic, is_asleep}
use Rattle.golf_explore.specs.declared.attempts.Reached.{Reached}
use Rattle.golf_explore.specs.declared.preemption_search.Search.{Search}
use Rattle.golf_explore.specs.declared.preemption_search.SearchResult.{SearchResult}
use Rattle.golf_explore.specs.declared.sought.Sought.{Sought}
use Rattle.golf_explore.specs.Results.{run_of}
use Rattle.golf_explore.specs.VisitLists.{GoesPlainly, has_ended_by}

-- what a search under way looks for
abbrev pub sought_of : Search → Sought
sought_of search = search.aim.sought

-- the state is one that is sought
abbrev pub IsFound : Sought → State → Type 0
IsFound Sought.Leak s = (ending s ≡ None) × (dead s ≡ [] → ⊥)
IsFound Sought.Panic s = has_ended_by is_panic s ≡ true
IsFound Sought.Asleep s = has_ended_by is_asleep s ≡ true

-- the turns of these numbers reach the state from the opening state
pub record IsReached (code : Code) (numbers : List ℕ) (r : Reached) : Type 0 where
  pub led : r.state ≡ after_all code (start code) numbers
  pub goes : GoesPlainly code (start code) numbers
  pub leads : Leads code r.state

-- the run of these turns, of which there is at least one, ends in a state that is sought
abbrev pub Shows : Code → Sought → List ℕ → Type 0
Shows code sought numbers = (0 < length numbers) × IsFound sought (run_of code numbers)

-- `Found`: a run of these turns reaches what is sought. Else nothing is claimed.
abbrev pub Finds : Code → Sought → SearchResult → Type 0
Finds code sought (SearchResult.Found numbers) = Shows code sought numbers
Finds code sought (SearchResult.Nothing states) = Unit {0}
Finds code sought SearchResult.Finalisers = Unit {0}
Finds code sought SearchResult.TooMany = Unit {0}
