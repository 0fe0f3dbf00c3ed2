-- The machine that frees and reclaims nothing is never stuck.
-- For: `plain_runs_go_on`, src/lib.rt; `PlainGoesOn`, specs/Laws.antt
-- By: the lemmas on what each turn and each collection keep; no induction
use Rattle.std.proofs.Common.{ℕ, Bool, true, false, List, []}
use Rattle.golf_theory.specs.Membership.{In}
use Rattle.golf_data.specs.declared.code.Code.{Code}
use Rattle.golf_model.specs.State.{State, start}
use Rattle.golf_model.specs.Turn.{wants_collection, step}
use Rattle.golf_model.specs.Collections.{plain_collect}
use Rattle.golf_model.specs.Runs.{Event, has_ended, collected_if, happens_in, happens, run, stops}
use Rattle.golf_model.specs.Futures.{Leads}
use Rattle.golf_model_futures.proofs.Leading.{numbered-collect}
use Rattle.golf_model_futures.proofs.Presence.{Sane, sane-start, sane-step, whole-collect}
use Rattle.golf_model_futures.proofs.Stopping.{run-kept, stops-kept}
use Rattle.golf_model_futures.specs.Orderly.{IsOrderly}
use Rattle.golf_model_futures.proofs.Keeping.{order-step}
use Rattle.golf_model_futures.proofs.OrderedLeading.{leads-orderly}
use Rattle.golf_model_typing.specs.Types.{ValueType, Typing}
use Rattle.golf_model_typing.specs.Grows.{Grows}
use Rattle.golf_model_typing.specs.Shapes.{HasShapes}
use Rattle.golf_model_typing.specs.WellTyped.{WellTyped}
use Rattle.golf_model_typing.proofs.Leading.{typed-real}
use Rattle.golf_model_typing.proofs.Turning.{move-on, turns-keep-types, start-is-typed}
use Rattle.golf_code_of.specs.Files.{CodeOf}
use Rattle.golf_code_shapes.specs.FileLaws.{types_of_file}
use Rattle.golf_code_never_stuck.specs.Laws.{PlainGoesOn, PlainRunsGoOn}
use Rattle.golf_code_never_stuck.proofs.Reaching.{files-have-shapes}

module _ (code : Code) (types : Typing) (shapes : HasShapes code types) where
  -- what keeps a state from being stuck
  pub record Sound (s : State) : Type 0 where
    pub known : List (ℕ × ValueType)
    pub typed : WellTyped types known s
    pub sane : Sane s
    pub orderly : IsOrderly s

  pub sound-start : Sound (start code)
  sound-start = record {
    known = [];
    typed = start-is-typed code types shapes;
    sane = sane-start code;
    orderly = leads-orderly code (start code) Leads.Start;
  }

  -- after a turn it is so again, and what is known stays known
  sound-turn : (s : State) (c : ℕ) (h : Sound s) → (next : Sound (step code s c)) × Grows h.known next.known
  sound-turn s c h =
      let t = turns-keep-types code types h.known s c shapes h.typed h.sane.whole h.sane.numbered h.orderly in (
        record {
          known = t.0;
          typed = t.1;
          sane = sane-step code s c h.sane;
          orderly = order-step code s c h.sane.numbered.goroutines_rise h.orderly;
        },
        t.2,
      )

  sound-step : (s : State) (c : ℕ) → Sound s → Sound (step code s c)
  sound-step s c h = (sound-turn s c h).0

  -- a collection that removes nobody queues the same finalisers
  sound-collect : (s : State) → Sound s → Sound (plain_collect s)
  sound-collect s h =
      let w = h.typed in
      let v = typed-real types h.known s w h.sane.numbered false false in record {
        known = h.known;
        typed = record {
          globals = w.globals;
          objects = w.objects;
          goroutines = w.goroutines;
          finalisers = v.finalisers;
          queue = v.queue;
          below = w.below;
          fresh = w.fresh;
        };
        sane = record {
          numbered = numbered-collect s h.sane.numbered;
          whole = whole-collect s h.sane.numbered h.sane.whole;
        };
        orderly = record { goroutines = h.orderly.goroutines; conditions = h.orderly.conditions };
      }

  -- so it is after each event
  sound-if : (collects : Bool) (s : State) (h : Sound s) → (next : Sound (collected_if plain_collect code collects s))
      × Grows h.known next.known
  unfolding sound-collect
  sound-if true s h = (sound-collect s h, λ o t known. known)
  sound-if false s h = (h, λ o t known. known)

  sound-happens : (ended : Bool) (s : State) (e : Event) (h : Sound s)
      → (next : Sound (happens_in plain_collect code ended s e)) × Grows h.known next.known
  sound-happens true s e h = (h, λ o t known. known)
  sound-happens false s (Event.Turn c) h =
      let turn = sound-turn s c h in
      let later = sound-if (wants_collection code s c) (step code s c) turn.0 in
      (later.0, λ o t known. later.1 o t (turn.1 o t known))
  sound-happens false s Event.Collect h = sound-if true s h

  pub sound-event : (s : State) (e : Event) (h : Sound s) → (next : Sound (happens code s e)) × Grows h.known next.known
  sound-event s e h = sound-happens (has_ended s) s e h

  sound-goes-on : (s : State) → Sound s → PlainGoesOn code s
  sound-goes-on s h events c e =
      let k = run-kept code Sound sound-step sound-collect events s h in
      move-on code types k.known (run code s events) c shapes k.typed k.sane.whole k.sane.numbered k.orderly e

  pub runs-go-on : PlainGoesOn code (start code)
      × ((events : List Event) (p : State) → In p (stops code events) → PlainGoesOn code p)
  runs-go-on = (
    sound-goes-on (start code) sound-start,
    λ events p i. sound-goes-on p (stops-kept code Sound sound-step sound-collect events (start code) p sound-start i),
  )

pub plain-runs-go-on : PlainRunsGoOn
plain-runs-go-on file p = let h = files-have-shapes file p in runs-go-on (CodeOf file)
    (record { of = types_of_file file; shapes = h.0 }) h.1
