-- The answer on a file whose schedules are searched.
use Rattle.std.specs.Prelude.{◌≡◌, ℕ, ◌≤◌, true, if◌then◌else◌, List, ◌++◌, length, Some, nat_le}
use Rattle.golf_data.specs.declared.code.Code.{Code}
use Rattle.golf_explore.specs.declared.full_search.Explored.{Explored}
use Rattle.golf_explore.specs.declared.preemption_search.SearchResult.{SearchResult}
use Rattle.golf_explore.specs.declared.sought.Sought.{Sought}
use Rattle.golf_explore.specs.Sought.{Finds}
use Rattle.golf_explore.specs.Results.{TellsSearch}
use Rattle.golf_explore.specs.VisitLists.{has_ended_by}
use Rattle.golf_explore_laws.specs.Laws.{is_panic, is_asleep}
use Rattle.golf_explore_words.specs.declared.line.Question.{Question}
use Rattle.golf_explore_words.specs.declared.line.SearchFor.{SearchFor}
use Rattle.golf_explore_words.specs.declared.line.SearchOptions.{SearchOptions}
use Rattle.golf_run_schedules.specs.Options.{most_turns}
use Rattle.golf_run_texts.specs.declared.status.Status.{Status}
use Rattle.golf_run_texts.specs.declared.status.Status.TheVariants as s
use Rattle.golf_run_texts.specs.Output.{last_of, reports_of, err_of, anyone_reported}
use Rattle.golf_explore_command.specs.Texts.{visited_text, shown_options, found_line, too_many_line, finalisers_text}
use Rattle.golf_explore_command.specs.Texts.{nothing_line, out_of_time_line}
use Rattle.golf_explore_command.specs.declared.search_answers.Searched.{Searched}

-- ---- a run that was found

abbrev pub sought_by : SearchFor → Sought
sought_by SearchFor.Leak = Sought.Leak
sought_by SearchFor.Panic = Sought.Panic
sought_by SearchFor.Asleep = Sought.Asleep

-- The text of a run that was found: its line, and its standard error. That is the lines of its reports, and its last line.
-- There is no such run if there are more numbers than a run may have turns.
abbrev pub found_text : Code → SearchFor → List ℕ → List ℕ
found_text code aim numbers =
    if nat_le (length numbers) most_turns
    then found_line aim numbers ++ err_of code (shown_options aim numbers)
    else found_line aim numbers

-- the run of these numbers is what was sought: it reports a goroutine, or it ends so
abbrev pub RunShows : Code → SearchFor → List ℕ → Type 0
RunShows code SearchFor.Leak numbers = anyone_reported (reports_of code (shown_options SearchFor.Leak numbers)) ≡ true
RunShows code SearchFor.Panic numbers =
    has_ended_by is_panic (last_of code (shown_options SearchFor.Panic numbers)) ≡ true
RunShows code SearchFor.Asleep numbers =
    has_ended_by is_asleep (last_of code (shown_options SearchFor.Asleep numbers)) ≡ true

-- it is, if there is such a run
abbrev pub ShownByRun : Code → SearchFor → List ℕ → Type 0
ShownByRun code aim numbers = length numbers ≤ most_turns → RunShows code aim numbers

-- status and text are those of a run that was found, whatever its length
pub record IsFoundAnswer (code : Code) (aim : SearchFor) (numbers : List ℕ) (status : Status) (text : List ℕ)
    : Type 0 where
  pub shows : ShownByRun code aim numbers
  pub status_is : status ≡ s.Found
  pub text_is : text ≡ found_text code aim numbers

-- ---- all schedules

-- the status of the program for each result of a search
abbrev pub status_for : Explored → Status
status_for (Explored.AllVisited told) = s.Clean
status_for (Explored.Leak numbers) = s.Found
status_for Explored.Finalisers = s.Spent
status_for Explored.TooMany = s.Spent

-- the text of the program for each result
abbrev pub text_for : Code → ℕ → Explored → List ℕ
text_for code most (Explored.AllVisited told) = visited_text told
text_for code most (Explored.Leak numbers) = found_text code SearchFor.Leak numbers
text_for code most Explored.Finalisers = finalisers_text
text_for code most Explored.TooMany = too_many_line most

-- the run of a leak reports a goroutine
abbrev pub ShowsLeak : Code → Explored → Type 0
ShowsLeak code (Explored.AllVisited told) = Unit {0}
ShowsLeak code (Explored.Leak numbers) = ShownByRun code SearchFor.Leak numbers
ShowsLeak code Explored.Finalisers = Unit {0}
ShowsLeak code Explored.TooMany = Unit {0}

-- Status and text are those of a result that holds of the code. All schedules were searched and no run leaks. Or these
-- turns reach a leak, and their run reports it. Or the search was stopped.
pub record IsAnswerOnAll (code : Code) (most : ℕ) (status : Status) (text : List ℕ) : Type 0 where
  pub explored : Explored
  pub tells : TellsSearch code explored
  pub shows : ShowsLeak code explored
  pub status_is : status ≡ status_for explored
  pub text_is : text ≡ text_for code most explored

-- ---- a search by preemptions

abbrev pub status_found : SearchResult → Status
status_found (SearchResult.Found numbers) = s.Found
status_found (SearchResult.Nothing states) = s.Clean
status_found SearchResult.Finalisers = s.Spent
status_found SearchResult.TooMany = s.Spent

abbrev pub search_text : Code → SearchOptions → SearchResult → List ℕ
search_text code options (SearchResult.Found numbers) = found_text code options.aim numbers
search_text code options (SearchResult.Nothing states) = nothing_line states options.preemptions
search_text code options SearchResult.Finalisers = finalisers_text
search_text code options SearchResult.TooMany = too_many_line options.states

-- how a search ended: with a result that holds of the code, or the limit of its seconds is over
abbrev pub IsSearched : Code → SearchOptions → Searched → Type 0
IsSearched code options (Searched.Told result) = Finds code (sought_by options.aim) result
IsSearched code options (Searched.OutOfTime seconds) = options.seconds ≡ Some seconds

abbrev pub status_searched : Searched → Status
status_searched (Searched.Told result) = status_found result
status_searched (Searched.OutOfTime seconds) = s.Spent

abbrev pub searched_text : Code → SearchOptions → Searched → List ℕ
searched_text code options (Searched.Told result) = search_text code options result
searched_text code options (Searched.OutOfTime seconds) = out_of_time_line seconds

abbrev pub ResultShows : Code → SearchFor → SearchResult → Type 0
ResultShows code aim (SearchResult.Found numbers) = ShownByRun code aim numbers
ResultShows code aim (SearchResult.Nothing states) = Unit {0}
ResultShows code aim SearchResult.Finalisers = Unit {0}
ResultShows code aim SearchResult.TooMany = Unit {0}

-- what was found is shown by a run
abbrev pub SearchShows : Code → SearchFor → Searched → Type 0
SearchShows code aim (Searched.Told result) = ResultShows code aim result
SearchShows code aim (Searched.OutOfTime seconds) = Unit {0}

-- Status and text are those of an end that holds of the code. These turns reach what was sought, and their run shows it.
-- Or nothing is claimed.
pub record IsAnswerOnSearch (code : Code) (options : SearchOptions) (status : Status) (text : List ℕ) : Type 0 where
  pub searched : Searched
  pub tells : IsSearched code options searched
  pub shows : SearchShows code options.aim searched
  pub status_is : status ≡ status_searched searched
  pub text_is : text ≡ searched_text code options searched

-- ---- a question

-- status and text are an answer to the question
abbrev pub IsAnswer : Code → Question → Status → List ℕ → Type 0
IsAnswer code (Question.All most) status text = IsAnswerOnAll code most status text
IsAnswer code (Question.Search options) status text = IsAnswerOnSearch code options status text
