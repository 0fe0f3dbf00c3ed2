-- What turns and collections keep holds at each state of a plain run and each collection; so the dead stand still.
-- For: `run`, `stops`, golf_model/specs/Runs.antt; `reported_are_still`, src/lib.rt
-- By: induction over the list of events
use Rattle.std.proofs.Common.{ℕ, Bool, true, false, List, [], ◌∷◌, inl, inr, sym, subst}
use Rattle.golf_theory.specs.Membership.{In}
use Rattle.golf_theory.proofs.Lists.{In-cases}
use Rattle.golf_data.specs.declared.code.Code.{Code}
use Rattle.golf_model.specs.State.{State, start}
use Rattle.golf_model.specs.Turn.{step, wants_collection}
use Rattle.golf_model.specs.LiveSet.{dead}
use Rattle.golf_model.specs.Collections.{plain_collect}
use Rattle.golf_model.specs.Runs.{Event, has_ended, collected_if, happens_in, happens, run, stop_if, stop_in}
use Rattle.golf_model.specs.Runs.{stops_by, stops}
use Rattle.golf_model.specs.Futures.{Numbered, Still}
use Rattle.golf_model.proofs.Agreeing.{dead-sound}
use Rattle.golf_model_futures.proofs.DeadStill.{dead_still}
use Rattle.golf_model_futures.proofs.Leading.{numbered-start, numbered-step, numbered-collect}

-- what each turn and each collection keeps
module _ (code : Code) (P : State → Type 0) (kept-step : (s : State) (k : ℕ) → P s → P (step code s k))
    (kept-collect : (s : State) → P s → P (plain_collect s)) where
  collected-kept : (b : Bool) (s : State) → P s → P (collected_if plain_collect code b s)
  collected-kept true s n = kept-collect s n
  collected-kept false s n = n

  happens-kept : (b : Bool) (s : State) (e : Event) → P s → P (happens_in plain_collect code b s e)
  happens-kept true s e n = n
  happens-kept false s (Event.Turn k) n = collected-kept (wants_collection code s k) (step code s k) (kept-step s k n)
  happens-kept false s Event.Collect n = kept-collect s n

  pub run-kept : (es : List Event) (s : State) → P s → P (run code s es)
  run-kept [] s n = n
  run-kept (e ∷ es) s n = run-kept es (happens code s e) (happens-kept (has_ended s) s e n)

  stop_if-kept : (b : Bool) (s p : State) → P s → In p (stop_if plain_collect code b s) → P p
  stop_if-kept true s p n (inl e) = subst P (sym e) n
  stop_if-kept true s p n (inr h) = absurd h
  stop_if-kept false s p n h = absurd h

  stop-kept : (b : Bool) (s p : State) (e : Event) → P s → In p (stop_in plain_collect code b s e) → P p
  stop-kept true s p e n h = absurd h
  stop-kept false s p (Event.Turn k) n h =
      stop_if-kept (wants_collection code s k) (step code s k) p (kept-step s k n) h
  stop-kept false s p Event.Collect n (inl e) = subst P (sym e) n
  stop-kept false s p Event.Collect n (inr h) = absurd h

  pub stops-kept : (es : List Event) (s p : State) → P s → In p (stops_by plain_collect code s es) → P p
  stops-kept [] s p n h = absurd h
  stops-kept (e ∷ es) s p n h = elim (In-cases p (stop_in plain_collect code (has_ended s) s e) _ h) [
    | inl i ↦ stop-kept (has_ended s) s p e n i
    | inr i ↦ stops-kept es (happens code s e) p (happens-kept (has_ended s) s e n) i
  ]

pub reported-still : (code : Code) (es : List Event) (p : State) (g : ℕ) → In p (stops code es) → In g (dead p)
    → Still code p g
reported-still code es p g h i = dead_still code p g
    (stops-kept code Numbered (numbered-step code) numbered-collect es (start code) p (numbered-start code) h)
    (dead-sound p g i)
