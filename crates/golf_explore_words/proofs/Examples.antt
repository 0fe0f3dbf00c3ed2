-- Worked examples: what the definition of a line says of these words.
use Rattle.std.proofs.Common.{◌≡◌, refl, [], ◌∷◌, Some, None, codes, true, false}
use Rattle.clap.proofs.OnLiterals.{clap_on_literals}
use Rattle.golf_run_schedules.specs.declared.schedule.Schedule.{Schedule}
use Rattle.golf_explore_words.specs.Words.{split_of, line_of, request_of}
use Rattle.golf_explore_words.specs.declared.line.ExploreLine.{ExploreLine}
use Rattle.golf_explore_words.specs.declared.line.Question.{Question}
use Rattle.golf_explore_words.specs.declared.line.Request.{Request}
use Rattle.golf_explore_words.specs.declared.line.SearchFor.{SearchFor}

all_alone : line_of (codes "all" ∷ []) ≡ Some (ExploreLine.Ask (Question.All 100000))
unfolding clap_on_literals split_of
all_alone = refl

all_with_states : line_of (codes "all" ∷ codes "--states" ∷ codes "250" ∷ []) ≡ Some
    (ExploreLine.Ask (Question.All 250))
unfolding clap_on_literals split_of
all_with_states = refl

states_in_one_word : line_of (codes "all" ∷ codes "--states=1" ∷ []) ≡ Some (ExploreLine.Ask (Question.All 1))
unfolding clap_on_literals split_of
states_in_one_word = refl

no_states : line_of (codes "all" ∷ codes "--states" ∷ codes "0" ∷ []) ≡ None
unfolding clap_on_literals split_of
no_states = refl

too_many_states : line_of (codes "all" ∷ codes "--states" ∷ codes "1000001" ∷ []) ≡ None
unfolding clap_on_literals split_of
too_many_states = refl

no_words : line_of [] ≡ None
unfolding clap_on_literals split_of
no_words = refl

search_alone : line_of (codes "search" ∷ [])
    ≡ Some (ExploreLine.Ask (Question.Search
    (record { aim = SearchFor.Leak; preemptions = 2; states = 100000; seconds = None })))
unfolding clap_on_literals split_of
search_alone = refl

search_for_a_minute : line_of (codes "search" ∷ codes "--seconds" ∷ codes "60" ∷ [])
    ≡ Some (ExploreLine.Ask (Question.Search
    (record { aim = SearchFor.Leak; preemptions = 2; states = 100000; seconds = Some 60 })))
unfolding clap_on_literals split_of
search_for_a_minute = refl

no_seconds : line_of (codes "search" ∷ codes "--seconds=0" ∷ []) ≡ None
unfolding clap_on_literals split_of
no_seconds = refl

more_seconds_than_a_day : line_of (codes "search" ∷ codes "--seconds=86401" ∷ []) ≡ None
unfolding clap_on_literals split_of
more_seconds_than_a_day = refl

search_for_a_panic : line_of (codes "search" ∷ codes "--for" ∷ codes "panic" ∷ codes "--preemptions=0" ∷ [])
    ≡ Some (ExploreLine.Ask (Question.Search
    (record { aim = SearchFor.Panic; preemptions = 0; states = 100000; seconds = None })))
unfolding clap_on_literals split_of
search_for_a_panic = refl

search_for_an_unknown_word : line_of (codes "search" ∷ codes "--for" ∷ codes "luck" ∷ []) ≡ None
unfolding clap_on_literals split_of
search_for_an_unknown_word = refl

too_many_preemptions : line_of (codes "search" ∷ codes "--preemptions" ∷ codes "17" ∷ []) ≡ None
unfolding clap_on_literals split_of
too_many_preemptions = refl

trace_alone : line_of (codes "trace" ∷ []) ≡ Some (ExploreLine.Trace (record {
  schedule = Schedule.Rotate;
  turns = 1000000;
  every = None;
  markers = 1;
  recover = false;
  why = false;
}))
unfolding clap_on_literals split_of
trace_alone = refl

trace_with_words : line_of (codes "trace" ∷ codes "--schedule" ∷ codes "seed:7" ∷ codes "--every=5" ∷ codes "--why"
    ∷ [])
    ≡ Some (ExploreLine.Trace (record {
      schedule = Schedule.Seed 7;
      turns = 1000000;
      every = Some 5;
      markers = 1;
      recover = false;
      why = true;
    }))
unfolding clap_on_literals split_of
trace_with_words = refl

trace_by_threads : line_of (codes "trace" ∷ codes "--threads" ∷ codes "2" ∷ []) ≡ Some (ExploreLine.TraceThreads 2)
unfolding clap_on_literals split_of
trace_by_threads = refl

trace_by_too_many_threads : line_of (codes "trace" ∷ codes "--threads=17" ∷ []) ≡ None
unfolding clap_on_literals split_of
trace_by_too_many_threads = refl

a_word_of_the_other_program : line_of (codes "run" ∷ []) ≡ None
unfolding clap_on_literals split_of
a_word_of_the_other_program = refl

version_alone : request_of (codes "--version" ∷ []) ≡ Some Request.Version
version_alone = refl

version_is_no_command_line : line_of (codes "--version" ∷ []) ≡ None
unfolding clap_on_literals split_of
version_is_no_command_line = refl

version_with_a_word : request_of (codes "--version" ∷ codes "all" ∷ []) ≡ None
unfolding clap_on_literals split_of
version_with_a_word = refl

version_of_a_search : request_of (codes "all" ∷ codes "--version" ∷ []) ≡ None
unfolding clap_on_literals split_of
version_of_a_search = refl

a_command_line_is_served : request_of (codes "all" ∷ []) ≡ Some
    (Request.Serve (ExploreLine.Ask (Question.All 100000)))
unfolding clap_on_literals split_of
a_command_line_is_served = refl
