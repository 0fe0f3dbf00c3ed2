-- Who is dead at the last collection of a run was reported.
-- For: `leaks_are_reported`, src/laws.rt; `TellsOfEach`, golf_model_futures/specs/ReportedGoroutines.antt
-- By: induction over the list of states right before collections
use Rattle.std.proofs.Common.{◌≡◌, ℕ, false, List, [], ◌∷◌, ◌++◌, map, None, inl, inr, refl, sym}
use Rattle.std.proofs.Common.{ap, ◌∙◌, subst, is_some}
use Rattle.std.proofs.lemmas.Bool.{or_parts, true_from_ne_false}
use Rattle.golf_theory.specs.Membership.{In}
use Rattle.golf_theory.proofs.Lists.{In-push}
use Rattle.golf_data.specs.declared.code.Code.{Code}
use Rattle.golf_data.specs.declared.report.Entry.{Entry}
use Rattle.golf_data.specs.declared.report.Report.{Report}
use Rattle.golf_model.specs.State.{State, start, ending}
use Rattle.golf_model.specs.LiveSet.{dead}
use Rattle.golf_model.specs.Collections.{plain_collect}
use Rattle.golf_model.specs.Runs.{Event, run, stop_in, stops, stops_by}
use Rattle.golf_model.specs.Reports.{without}
use Rattle.golf_model_futures.specs.ReportedGoroutines.{named, TellsOfEach}
use Rattle.golf_model_futures.proofs.MainLaws.{book_tells_of_each}
use Rattle.golf_run_schedules.specs.declared.options.RunOptions.{RunOptions}
use Rattle.golf_run_schedules.specs.Laws.{turns_then_collect}
use Rattle.golf_run_texts.specs.Output.{events_of, reports_of, names_someone, anyone_reported}
use Rattle.golf_run.specs.Laws.{LeaksAreReported}
use Rattle.golf_run.proofs.Appending.{stops-append}

none-named : (es : List Entry) → names_someone es ≡ false → es ≡ []
none-named [] h = refl
none-named (e ∷ es) h = cc

-- nobody is taken from a list by an empty one
without-none : (gs : List ℕ) → without gs [] ≡ gs
without-none [] = refl
without-none (g ∷ gs) = ap (λ (hs : List ℕ). g ∷ hs) (without-none gs)

none-dead : (p : State) (r : Report) → named r ≡ without (dead p) [] → r.reported ≡ [] → dead p ≡ []
none-dead p r tells none = sym (without-none (dead p)) ∙ sym tells
    ∙ ap (λ (es : List Entry). map (λ e. e.goroutine.0) es) none

-- if nobody is reported, nobody was dead
all-alive : (ps : List State) (rs : List Report) → TellsOfEach [] ps rs → anyone_reported rs ≡ false → (p : State)
    → In p ps → dead p ≡ []
all-alive [] rs tells none p i = absurd i
all-alive (q ∷ ps) [] tells none p i = absurd tells
all-alive (q ∷ ps) (r ∷ rs) tells none p i =
    let parts = or_parts (names_someone r.reported) (anyone_reported rs) none in
    let nobody = none-named r.reported parts.0 in
    elim i [
      | inl e ↦ ap dead e ∙ none-dead q r tells.0 nobody
      | inr h ↦ all-alive ps rs (subst (λ (es : List Entry). TellsOfEach ([] ++ map (λ e. e.goroutine.0) es) ps rs)
          nobody
          tells.1) parts.1 p h
    ]

-- a state without an ending is a stop of the collection after it
last-stop : (code : Code) (s : State) → ending s ≡ None → stops_by plain_collect code s (Event.Collect ∷ []) ≡ s ∷ []
last-stop code s on = ap (λ b. stop_in plain_collect code b s Event.Collect ++ []) (ap is_some on)

module _ (code : Code) (options : RunOptions) (ns : List ℕ) (events : events_of options ≡ turns_then_collect ns)
    (on : ending (run code (start code) (map Event.Turn ns)) ≡ None) where
  abbrev last : State
  last = run code (start code) (map Event.Turn ns)

  stops-last : stops code (events_of options) ≡ stops code (map Event.Turn ns) ++ last ∷ []
  stops-last =
      ap (stops code) events ∙ stops-append plain_collect code (map Event.Turn ns) (Event.Collect ∷ []) (start code)
      ∙ ap (λ ps. stops code (map Event.Turn ns) ++ ps) (last-stop code last on)

  is-stop : In last (stops code (events_of options))
  is-stop = subst (In last) (sym stops-last) (In-push last (stops code (map Event.Turn ns)))

  none-reported : anyone_reported (reports_of code options) ≡ false → dead last ≡ []
  unfolding reports_of
  none-reported none = all-alive (stops code (events_of options)) (reports_of code options)
      (book_tells_of_each code (events_of options) options.recover) none last is-stop

pub leaks-reported : LeaksAreReported
leaks-reported code options ns events on dies =
    true_from_ne_false (anyone_reported (reports_of code options))
    (λ none. dies (none-reported code options ns events on none))
