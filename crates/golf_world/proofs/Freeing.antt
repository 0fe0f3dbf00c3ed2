-- Who can run after some events does not depend on whether collections free and remove.
-- For: `real_run`, golf_model/specs/Reports.antt; `runnable`, golf_model/specs/State.antt
-- By: induction over the list of events
use Rattle.std.proofs.Common.{◌≡◌, ℕ, Bool, true, false, List, [], ◌∷◌, ◌++◌, refl, sym, ap, ◌∙◌, subst}
use Rattle.golf_theory.specs.Membership.{is_in}
use Rattle.golf_theory.specs.Maps.{only}
use Rattle.golf_theory.proofs.MapCuts.{only-all}
use Rattle.golf_data.specs.declared.code.Code.{Code}
use Rattle.golf_model.specs.State.{State, start, runnable}
use Rattle.golf_model.specs.Turn.{step, wants_collection}
use Rattle.golf_model.specs.Reach.{reach, sources}
use Rattle.golf_model.specs.Collections.{plain_collect, removed, cut, sets_finalisers, real_collect}
use Rattle.golf_model.specs.Runs.{Event, has_ended, collected_if, happens_in, run_by, run}
use Rattle.golf_model.specs.Reports.{real_run}
use Rattle.golf_model.specs.Futures.{Numbered}
use Rattle.golf_model_futures.proofs.Closing.{closed-ground}
use Rattle.golf_model_futures.proofs.Cutting.{parts}
use Rattle.golf_model_futures.proofs.Leading.{numbered-start, numbered-step, numbered-collect}
use Rattle.golf_model_futures.proofs.Removing.{GoneOk, stays_by, kept_by}
use Rattle.golf_model_futures.proofs.SameTurn.{same-runnable}
use Rattle.golf_model_futures.proofs.SameFutures.{same-has_ended, the_step, the_wants}
use Rattle.golf_model_futures.proofs.Staying.{turn-running}
use Rattle.golf_model_futures.proofs.Modes.{Sim, sim-start, sim-step, sim-collect, none-step}
use Rattle.golf_model_futures.proofs.RealStops.{all-ok, real-cut}

module _ (code : Code) (recover : Bool) where
  abbrev Real : State → State
  Real s = real_collect s recover (sets_finalisers code)

  abbrev Same : State → State → List Event → Type 0
  Same u t es = runnable (run_by Real code u es) ≡ runnable (run_by plain_collect code t es)

  -- what holds at each state of the plain run
  record Now (gone : List ℕ) (kept : ℕ → Bool) (t : State) : Type 1 where
    numbered : Numbered t
    sim : Sim code gone kept t
    none : sets_finalisers code ≡ false → t.finalisers ≡ []

  abbrev Goal : List Event → Type 1
  Goal es = (gone : List ℕ) (kept : ℕ → Bool) (t : State) → Now gone kept t → Same (cut (stays_by gone) kept t) t es

  now-step : (gone : List ℕ) (kept : ℕ → Bool) (t : State) (k : ℕ) → Now gone kept t → Now gone kept (step code t k)
  now-step gone kept t k w =
      let r = w.sim.related in record {
        numbered = numbered-step code t k w.numbered;
        sim = sim-step code gone kept t k w.sim;
        none = λ h. none-step r.O w.sim.G code t k (closed-ground r.O w.sim.G t r.closed) h
            (λ g i. let a = turn-running t k g i in r.closed.running g a.0 a.1 a.2) (w.none h);
      }

  -- after a collection all that was removed is as if removed at once
  now-collect : (gone : List ℕ) (kept : ℕ → Bool) (t : State) → Now gone kept t
      → Now (gone ++ removed (cut (stays_by gone) kept t) recover (sets_finalisers code))
      (kept_by t (gone ++ removed (cut (stays_by gone) kept t) recover (sets_finalisers code))) (plain_collect t)
  now-collect gone kept t w =
      let all : List ℕ = gone ++ removed (cut (stays_by gone) kept t) recover (sets_finalisers code) in record {
        numbered = numbered-collect t w.numbered;
        sim = sim-collect code all (kept_by t all) t
            (sim-start code t w.numbered all (all-ok code gone kept t w.numbered w.sim recover) w.none);
        none = λ h. ap (only (λ o. is_in o (reach t (sources t [])))) (w.none h);
      }

  module _ (es : List Event) (ih : Goal es) where
    at_stop : (gone : List ℕ) (kept : ℕ → Bool) (t : State) → Now gone kept t
        → Same (real_collect (cut (stays_by gone) kept t) recover (sets_finalisers code)) (plain_collect t) es
    at_stop gone kept t w =
        let all : List ℕ = gone ++ removed (cut (stays_by gone) kept t) recover (sets_finalisers code) in
        ap (λ (x : State). runnable (run_by Real code x es)) (real-cut code gone kept t w.numbered w.sim recover)
        ∙ ih all (kept_by t all) (plain_collect t) (now-collect gone kept t w)

    turned : (gone : List ℕ) (kept : ℕ → Bool) (t : State) (b : Bool) → Now gone kept t
        → Same (collected_if Real code b (cut (stays_by gone) kept t)) (collected_if plain_collect code b t) es
    turned gone kept t true w = at_stop gone kept t w
    turned gone kept t false w = ih gone kept t w

    happened : (gone : List ℕ) (kept : ℕ → Bool) (t : State) (b : Bool) (e : Event) → Now gone kept t
        → Same (happens_in Real code b (cut (stays_by gone) kept t) e) (happens_in plain_collect code b t e) es
    happened gone kept t true e w = ih gone kept t w
    happened gone kept t false (Event.Turn k) w =
        let z = w.sim in
        subst (λ (c : Bool). Same (collected_if Real code c (step code (cut (stays_by gone) kept t) k))
        (collected_if plain_collect code (wants_collection code t k) (step code t k)) es)
        (sym (the_wants code gone kept z.G z.within z.agreement t z.related k))
        (subst (λ (x : State). Same (collected_if Real code (wants_collection code t k) x)
        (collected_if plain_collect code (wants_collection code t k) (step code t k)) es)
        (sym (the_step code gone kept z.G z.within z.agreement t z.related k))
        (turned gone kept (step code t k) (wants_collection code t k) (now-step gone kept t k w)))
    happened gone kept t false Event.Collect w = at_stop gone kept t w

  same-runs : (es : List Event) → Goal es
  same-runs [] gone kept t w = let z = w.sim in same-runnable
      (stays_by gone) kept z.related.O z.G t z.related.closed z.related.within z.within
  same-runs (e ∷ es) gone kept t w =
      let z = w.sim in
      subst (λ (b : Bool). Same (happens_in Real code b (cut (stays_by gone) kept t) e)
      (happens_in plain_collect code (has_ended t) t e) es)
      (sym (same-has_ended code gone kept z.G z.within z.agreement t z.related))
      (happened es (same-runs es) gone kept t (has_ended t) e w)

  -- from the opening state
  nobody : GoneOk (start code) (sets_finalisers code) []
  nobody = record { dead = λ g h. absurd h; barred = λ g o h i. absurd h }

  now-start : Now [] (kept_by (start code) []) (start code)
  now-start = record {
    numbered = numbered-start code;
    sim = sim-start code (start code) (numbered-start code) [] nobody (λ h. refl);
    none = λ h. refl;
  }

  whole : cut (stays_by []) (kept_by (start code) []) (start code) ≡ start code
  whole = parts (start code) _ _ _ _ refl (only-all (stays_by []) (start code).goroutines (λ g r e. refl))

  pub same_can_run : (es : List Event) → runnable (real_run code es recover) ≡ runnable (run code (start code) es)
  same_can_run es = subst (λ (x : State). Same x (start code) es) whole
      (same-runs es [] (kept_by (start code) []) (start code) now-start)
