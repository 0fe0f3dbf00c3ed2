-- The run of a leak reports somebody, and that of another ending ends so.
-- For: `found_answer`, src/found_runs.rt; `shown_options`, specs/Texts.antt
-- By: the laws of written numbers and of the last collection; for choices alone, induction over their list
use Rattle.std.proofs.Common.{◌≡◌, ℕ, ◌+◌, ◌<◌, ◌≤◌, Bool, true, List, [], ◌∷◌, length, map, take, Option, None, refl, ap}
use Rattle.std.proofs.Common.{◌∙◌, arith}
use Rattle.std.proofs.lemmas.List.{take_all}
use Rattle.golf_data.specs.declared.code.Code.{Code}
use Rattle.golf_model.specs.State.{start}
use Rattle.golf_data.specs.declared.goroutine.Ending.{Ending}
use Rattle.golf_model.specs.LiveSet.{dead, live_list}
use Rattle.golf_model.specs.Runs.{Event, run}
use Rattle.golf_explore_laws.specs.Laws.{is_panic, is_asleep}
use Rattle.golf_explore.specs.declared.sought.Sought.{Sought}
use Rattle.golf_explore.specs.Sought.{IsFound}
use Rattle.golf_explore.specs.VisitLists.{has_ended_by}
use Rattle.golf_explore.specs.Results.{run_of}
use Rattle.golf_explore_words.specs.declared.line.SearchFor.{SearchFor}
use Rattle.golf_run_schedules.specs.Events.{turns_from}
use Rattle.golf_run_schedules.specs.Laws.{turns_then_collect, ChoicesThenCollect}
use Rattle.golf_run_schedules.specs.Options.{most_turns}
use Rattle.golf_run_texts.specs.Output.{events_of, last_of}
use Rattle.golf_run.specs.Laws.{LeaksAreReported}
use Rattle.golf_explore_command.specs.Texts.{every_for, shown_options}
use Rattle.golf_explore_command.specs.Answers.{sought_by, ShownByRun}

-- nobody is dead before the first turn
start-alive : (code : Code) → dead (start code) ≡ []
unfolding live_list
start-alive code = refl

some-turns : (code : Code) (ns : List ℕ) → (dead (run_of code ns) ≡ [] → ⊥) → 0 < length ns
some-turns code [] dies = absurd (dies (start-alive code))
some-turns code (n ∷ ns) dies = omega arith

leak-events : (ns : List ℕ) → ChoicesThenCollect → 0 < length ns → length ns ≤ most_turns
    → events_of (shown_options SearchFor.Leak ns) ≡ turns_then_collect ns
unfolding events_of shown_options
leak-events ns law some few = law ns most_turns some few

leak-shown : (code : Code) (ns : List ℕ) → ChoicesThenCollect → LeaksAreReported → IsFound Sought.Leak (run_of code ns)
    → ShownByRun code SearchFor.Leak ns
leak-shown code ns choices reported found few = reported code (shown_options SearchFor.Leak ns) ns
    (leak-events ns choices (some-turns code ns found.1) few) found.0 found.1

-- ---- a run of choices alone

turns-alone : (k : ℕ) (ns : List ℕ) → turns_from None k ns ≡ map Event.Turn ns
turns-alone k [] = refl
turns-alone k (n ∷ ns) = ap (λ es. Event.Turn n ∷ es) (turns-alone (k + 1) ns)

module _ (aim : SearchFor) (alone : (turns : ℕ) → every_for aim turns ≡ None) (ns : List ℕ)
    (few : length ns ≤ most_turns) where
  end-events : events_of (shown_options aim ns) ≡ map Event.Turn ns
  unfolding events_of shown_options
  end-events =
      ap (λ (every : Option ℕ). turns_from every 1 (take most_turns ns)) (alone (length ns))
      ∙ ap (turns_from None 1) (take_all most_turns ns few)
      ∙ turns-alone 1 ns

  -- it ends as the run of its turns
  end-shown : (code : Code) (is_one : Ending → Bool) → has_ended_by is_one (run_of code ns) ≡ true
      → has_ended_by is_one (last_of code (shown_options aim ns)) ≡ true
  unfolding last_of
  end-shown code is_one h = ap (λ es. has_ended_by is_one (run code (start code) es)) end-events ∙ h

-- the run of what was found shows it
pub found-shown : (code : Code) (aim : SearchFor) (ns : List ℕ) → ChoicesThenCollect → LeaksAreReported
    → IsFound (sought_by aim) (run_of code ns) → ShownByRun code aim ns
found-shown code SearchFor.Leak ns choices reported found few = leak-shown code ns choices reported found few
found-shown code SearchFor.Panic ns choices reported found few =
    end-shown SearchFor.Panic (λ turns. refl) ns few code is_panic found
found-shown code SearchFor.Asleep ns choices reported found few =
    end-shown SearchFor.Asleep (λ turns. refl) ns few code is_asleep found
