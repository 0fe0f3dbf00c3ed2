-- A run whose collections remove goroutines and free objects prints, calls and reports what the plain run does.
-- For: `real_runs_agree`, src/lib.rt; `real_run`, golf_model/specs/Reports.antt
-- By: induction over the list of events
use Rattle.std.proofs.Common.{◌≡◌, ℕ, Bool, true, false, List, [], ◌∷◌, ◌++◌, refl, sym, ap, ◌∙◌, subst}
use Rattle.golf_theory.specs.Membership.{is_in, any_of}
use Rattle.golf_theory.specs.Maps.{only}
use Rattle.golf_theory.proofs.MapCuts.{only-all}
use Rattle.golf_data.specs.declared.code.Code.{Code}
use Rattle.golf_data.specs.declared.goroutine.Queued.{Queued}
use Rattle.golf_data.specs.declared.report.Book.{Book}
use Rattle.golf_data.specs.declared.report.Report.{Report}
use Rattle.golf_model.specs.State.{State, start, ending}
use Rattle.golf_model.specs.Changes.{Change}
use Rattle.golf_model.specs.Turn.{step, wants_collection}
use Rattle.golf_model.specs.Reach.{reach, sources}
use Rattle.golf_model.specs.Collections.{plain_collect, removed, cut, sets_finalisers, real_collect}
use Rattle.golf_model.specs.Runs.{Event, has_ended, collected_if, happens_in, run_by, run, stop_if, stop_in}
use Rattle.golf_model.specs.Runs.{stops_by, stops, is_taking, first_if, call_in, calls_by, finaliser_calls}
use Rattle.golf_model.specs.Reports.{new_book, report, book_after, reports_from, book_of, real_run, real_reports}
use Rattle.golf_model.specs.Reports.{real_calls}
use Rattle.golf_model.specs.Futures.{Numbered}
use Rattle.golf_model_futures.proofs.Closing.{closed-ground}
use Rattle.golf_model_futures.proofs.Cutting.{parts}
use Rattle.golf_model_futures.proofs.Leading.{numbered-start, numbered-step, numbered-collect}
use Rattle.golf_model_futures.proofs.Removing.{GoneOk, stays_by, kept_by}
use Rattle.golf_model_futures.proofs.SameTurn.{same-ending, same-turn_changes}
use Rattle.golf_model_futures.proofs.SameFutures.{same-has_ended, the_step, the_wants}
use Rattle.golf_model_futures.proofs.Staying.{turn-running}
use Rattle.golf_model_futures.proofs.Modes.{Sim, sim-start, sim-step, sim-collect, none-step}
use Rattle.golf_model_futures.proofs.RealStops.{all-ok, real-cut}
use Rattle.golf_model_futures.proofs.RealReports.{BookOf, same-report, same-book, book-next}

module _ (code : Code) (recover : Bool) where
  abbrev Real : State → State
  Real s = real_collect s recover (sets_finalisers code)

  -- the two runs from these states show the same, with the reports and calls of what comes first
  abbrev Same : State → State → Book → List State → List State → List Queued → List Queued → List Event → Type 0
  Same u t book us ts qs ps es =
      ((run_by Real code u es).output ≡ (run_by plain_collect code t es).output)
      × (ending (run_by Real code u es) ≡ ending (run_by plain_collect code t es))
      × (reports_from recover (sets_finalisers code) book (us ++ stops_by Real code u es) ≡ reports_from recover
      (sets_finalisers code) book (ts ++ stops_by plain_collect code t es))
      × (qs ++ calls_by Real code u es ≡ ps ++ calls_by plain_collect code t es)

  -- what holds at each state of the plain run
  pub record Now (gone : List ℕ) (kept : ℕ → Bool) (t : State) (book : Book) : Type 1 where
    pub numbered : Numbered t
    pub sim : Sim code gone kept t
    pub none : sets_finalisers code ≡ false → t.finalisers ≡ []
    pub told : BookOf gone book

  abbrev Goal : List Event → Type 1
  Goal es = (gone : List ℕ) (kept : ℕ → Bool) (t : State) (book : Book) → Now gone kept t book
      → Same (cut (stays_by gone) kept t) t book [] [] [] [] es

  now-step : (gone : List ℕ) (kept : ℕ → Bool) (t : State) (book : Book) (k : ℕ) → Now gone kept t book
      → Now gone kept (step code t k) book
  now-step gone kept t book k w =
      let r = w.sim.related in record {
        numbered = numbered-step code t k w.numbered;
        sim = sim-step code gone kept t k w.sim;
        none = λ h. none-step r.O w.sim.G code t k (closed-ground r.O w.sim.G t r.closed) h
            (λ g i. let a = turn-running t k g i in r.closed.running g a.0 a.1 a.2) (w.none h);
        told = w.told;
      }

  -- after a stop all that was removed is as if removed at once
  now-collect : (gone : List ℕ) (kept : ℕ → Bool) (t : State) (book : Book) → Now gone kept t book
      → Now (gone ++ removed (cut (stays_by gone) kept t) recover (sets_finalisers code))
      (kept_by t (gone ++ removed (cut (stays_by gone) kept t) recover (sets_finalisers code))) (plain_collect t)
      (book_after recover (sets_finalisers code) book t)
  now-collect gone kept t book w =
      let all : List ℕ = gone ++ removed (cut (stays_by gone) kept t) recover (sets_finalisers code) in record {
        numbered = numbered-collect t w.numbered;
        sim = sim-collect code all (kept_by t all) t
            (sim-start code t w.numbered all (all-ok code gone kept t w.numbered w.sim recover) w.none);
        none = λ h. ap (only (λ o. is_in o (reach t (sources t [])))) (w.none h);
        told = book-next code gone kept t w.numbered w.sim recover book w.told;
      }

  -- the turn takes the same entry from the queue
  the_call : (gone : List ℕ) (kept : ℕ → Bool) (t : State) (k : ℕ) (z : Sim code gone kept t)
      → call_in Real code false (cut (stays_by gone) kept t) (Event.Turn k) ≡ call_in plain_collect code false t
      (Event.Turn k)
  the_call gone kept t k z =
      ap (λ (cs : List Change). first_if plain_collect code (any_of (is_taking plain_collect code) cs) t.queue)
      (same-turn_changes (stays_by gone) kept z.related.O z.G t z.related.closed z.related.within z.within code k)

  module _ (es : List Event) (ih : Goal es) where
    -- a stop
    at_stop : (gone : List ℕ) (kept : ℕ → Bool) (t : State) (book : Book) (qs : List Queued) → Now gone kept t book
        → Same (real_collect (cut (stays_by gone) kept t) recover (sets_finalisers code)) (plain_collect t) book
        (cut (stays_by gone) kept t ∷ []) (t ∷ []) qs qs es
    at_stop gone kept t book qs w =
        let all : List ℕ = gone ++ removed (cut (stays_by gone) kept t) recover (sets_finalisers code) in
        let u : State = cut (stays_by gone) kept t in
        let v : State = cut (stays_by all) (kept_by t all) (plain_collect t) in
        let h = ih all (kept_by t all) (plain_collect t) (book_after recover (sets_finalisers code) book t)
        (now-collect gone kept t book w) in
        let a : real_collect u recover (sets_finalisers code) ≡ v =
        real-cut code gone kept t w.numbered w.sim recover in
        let b : report recover (sets_finalisers code) book u ≡ report recover (sets_finalisers code) book t =
        same-report code gone kept t w.numbered w.sim recover book w.told in
        let c : book_after recover (sets_finalisers code) book u ≡ book_after recover (sets_finalisers code) book t =
        same-book code gone kept t w.numbered w.sim recover book w.told in (
          ap (λ (x : State). (run_by Real code x es).output) a ∙ h.0,
          ap (λ (x : State). ending (run_by Real code x es)) a ∙ h.1,
          ap (λ (x : State). report recover (sets_finalisers code) book u
              ∷ reports_from recover (sets_finalisers code) (book_after recover (sets_finalisers code) book u)
              (stops_by Real code x es)) a
              ∙ ap (λ (x : Report). x ∷ reports_from recover (sets_finalisers code)
              (book_after recover (sets_finalisers code) book u) (stops_by Real code v es)) b
              ∙ ap (λ (x : Book). report recover (sets_finalisers code) book t
              ∷ reports_from recover (sets_finalisers code) x (stops_by Real code v es)) c
              ∙ ap (λ (xs : List Report). report recover (sets_finalisers code) book t ∷ xs) h.2,
          ap (λ (x : State). qs ++ calls_by Real code x es) a ∙ ap (λ (xs : List Queued). qs ++ xs) h.3,
        )

    -- after a turn
    turned : (gone : List ℕ) (kept : ℕ → Bool) (t : State) (book : Book) (b : Bool) (qs : List Queued)
        → Now gone kept t book
        → Same (collected_if Real code b (cut (stays_by gone) kept t)) (collected_if plain_collect code b t) book
        (stop_if Real code b (cut (stays_by gone) kept t)) (stop_if plain_collect code b t) qs qs es
    turned gone kept t book true qs w = at_stop gone kept t book qs w
    turned gone kept t book false qs w = let h =
        ih gone kept t book w in (h.0, h.1, h.2, ap (λ (xs : List Queued). qs ++ xs) h.3)

    happened : (gone : List ℕ) (kept : ℕ → Bool) (t : State) (book : Book) (b : Bool) (e : Event) → Now gone kept t book
        → Same (happens_in Real code b (cut (stays_by gone) kept t) e) (happens_in plain_collect code b t e) book
        (stop_in Real code b (cut (stays_by gone) kept t) e) (stop_in plain_collect code b t e)
        (call_in Real code b (cut (stays_by gone) kept t) e) (call_in plain_collect code b t e) es
    happened gone kept t book true e w = ih gone kept t book w
    happened gone kept t book false (Event.Turn k) w =
        let z = w.sim in
        let t' : State = step code t k in
        let qs : List Queued = call_in plain_collect code false t (Event.Turn k) in
        subst (λ (ps : List Queued). Same (collected_if Real code (wants_collection code (cut (stays_by gone) kept t) k)
        (step code (cut (stays_by gone) kept t) k))
        (collected_if plain_collect code (wants_collection code t k) t') book
        (stop_if Real code (wants_collection code (cut (stays_by gone) kept t) k)
        (step code (cut (stays_by gone) kept t) k))
        (stop_if plain_collect code (wants_collection code t k) t') ps qs es)
        (sym (the_call gone kept t k z))
        (subst (λ (c : Bool). Same (collected_if Real code c (step code (cut (stays_by gone) kept t) k))
        (collected_if plain_collect code (wants_collection code t k) t') book
        (stop_if Real code c (step code (cut (stays_by gone) kept t) k))
        (stop_if plain_collect code (wants_collection code t k) t') qs qs es)
        (sym (the_wants code gone kept z.G z.within z.agreement t z.related k))
        (subst (λ (x : State). Same (collected_if Real code (wants_collection code t k) x)
        (collected_if plain_collect code (wants_collection code t k) t') book
        (stop_if Real code (wants_collection code t k) x)
        (stop_if plain_collect code (wants_collection code t k) t') qs qs es)
        (sym (the_step code gone kept z.G z.within z.agreement t z.related k))
        (turned gone kept t' book (wants_collection code t k) qs (now-step gone kept t book k w))))
    happened gone kept t book false Event.Collect w = at_stop gone kept t book [] w

  same-runs : (es : List Event) → Goal es
  same-runs [] gone kept t book w = let z =
      w.sim in (
        refl,
        same-ending (stays_by gone) kept z.related.O z.G t z.related.closed z.related.within z.within,
        refl,
        refl,
      )
  same-runs (e ∷ es) gone kept t book w =
      let z = w.sim in
      subst (λ (b : Bool). Same (happens_in Real code b (cut (stays_by gone) kept t) e)
      (happens_in plain_collect code (has_ended t) t e) book (stop_in Real code b (cut (stays_by gone) kept t) e)
      (stop_in plain_collect code (has_ended t) t e) (call_in Real code b (cut (stays_by gone) kept t) e)
      (call_in plain_collect code (has_ended t) t e) es)
      (sym (same-has_ended code gone kept z.G z.within z.agreement t z.related))
      (happened es (same-runs es) gone kept t book (has_ended t) e w)

  -- from the opening state
  nobody : GoneOk (start code) (sets_finalisers code) []
  nobody = record { dead = λ g h. absurd h; barred = λ g o h i. absurd h }

  now-start : Now [] (kept_by (start code) []) (start code) new_book
  now-start = record {
    numbered = numbered-start code;
    sim = sim-start code (start code) (numbered-start code) [] nobody (λ h. refl);
    none = λ h. refl;
    told = record { reclaimed = refl; reported = λ g h. absurd h };
  }

  whole : cut (stays_by []) (kept_by (start code) []) (start code) ≡ start code
  whole = parts (start code) _ _ _ _ refl (only-all (stays_by []) (start code).goroutines (λ g r e. refl))

  pub real-runs : (es : List Event) → ((real_run code es recover).output ≡ (run code (start code) es).output)
      × (ending (real_run code es recover) ≡ ending (run code (start code) es))
      × (real_reports code es recover ≡ book_of (stops code es) recover (sets_finalisers code))
      × (real_calls code es recover ≡ finaliser_calls code (start code) es)
  real-runs es = subst (λ (x : State). Same x (start code) new_book [] [] [] [] es) whole
      (same-runs es [] (kept_by (start code) []) (start code) new_book now-start)
