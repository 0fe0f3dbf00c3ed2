-- What holds in each state of each run; output and collections change nothing in a plain state.
-- For: the laws of closed lists, src/lib.rt; `IsPlain`, specs/Closed.antt
-- By: induction over the list of events
use Rattle.std.proofs.Common.{◌≡◌, ℕ, Bool, true, false, not, List, [], ◌∷◌, ◌++◌, Option, Some, None, is_some, inl}
use Rattle.std.proofs.Common.{inr, refl, sym, ap, ◌∙◌, subst, append-nil}
use Rattle.golf_theory.specs.Maps.{only, keys_where}
use Rattle.golf_theory.specs.Membership.{In, is_in}
use Rattle.golf_theory.proofs.Lists.{In-cases}
use Rattle.golf_data.specs.declared.code.Code.{Code}
use Rattle.golf_data.specs.declared.goroutine.Ending.{Ending}
use Rattle.golf_data.specs.declared.goroutine.Queued.{Queued}
use Rattle.golf_model.specs.State.{State, ending}
use Rattle.golf_model.specs.Turn.{step, wants_collection}
use Rattle.golf_model.specs.Reach.{reach, sources}
use Rattle.golf_model.specs.LiveSet.{live_list, is_dead, dead}
use Rattle.golf_model.specs.Collections.{plain_collect, queued}
use Rattle.golf_model.specs.Runs.{Event, has_ended, collected_if, happens_in, happens, run, stop_if, stop_in}
use Rattle.golf_model.specs.Runs.{stops_by}
use Rattle.golf_model_futures.specs.EarlierOutput.{prefixed}
use Rattle.golf_model_futures.proofs.Printing.{step-prefixed}
use Rattle.golf_model_futures.proofs.OrderedCollecting.{collecting-goes}
use Rattle.golf_explore_laws.specs.After.{silent}
use Rattle.golf_explore_laws.specs.Closed.{IsPlain}

-- ---- what each turn and each collection of a state without an ending keeps

pub none-from : (m : Option Ending) → is_some m ≡ false → m ≡ None
none-from None h = refl
none-from (Some e) h = cc

module _ (code : Code) (P : State → Type 0)
    (kept-step : (s : State) (k : ℕ) → P s → ending s ≡ None → P (step code s k))
    (kept-collect : (s : State) → P s → ending s ≡ None → P (plain_collect s)) where
  collected-kept : (b : Bool) (s : State) (k : ℕ) → wants_collection code s k ≡ b → P s → ending s ≡ None
      → P (collected_if plain_collect code b (step code s k))
  collected-kept true s k w p goes = kept-collect (step code s k) (kept-step s k p goes)
      (collecting-goes code s k goes w)
  collected-kept false s k w p goes = kept-step s k p goes

  happens-kept : (b : Bool) (s : State) (e : Event) → has_ended s ≡ b → P s → P (happens_in plain_collect code b s e)
  happens-kept true s e h p = p
  happens-kept false s (Event.Turn k) h p =
      collected-kept (wants_collection code s k) s k refl p (none-from (ending s) h)
  happens-kept false s Event.Collect h p = kept-collect s p (none-from (ending s) h)

  pub run-kept : (es : List Event) (s : State) → P s → P (run code s es)
  run-kept [] s p = p
  run-kept (e ∷ es) s p = run-kept es (happens code s e) (happens-kept (has_ended s) s e refl p)

  -- right before a collection there is no ending
  abbrev AtStop : State → Type 0
  AtStop p = P p × (ending p ≡ None)

  stop_if-kept : (b : Bool) (s p : State) (k : ℕ) → wants_collection code s k ≡ b → P s → ending s ≡ None
      → In p (stop_if plain_collect code b (step code s k)) → AtStop p
  stop_if-kept true s p k w n goes (inl e) =
      subst AtStop (sym e) (kept-step s k n goes, collecting-goes code s k goes w)
  stop_if-kept true s p k w n goes (inr h) = absurd h
  stop_if-kept false s p k w n goes h = absurd h

  stop-kept : (b : Bool) (s p : State) (e : Event) → has_ended s ≡ b → P s → In p (stop_in plain_collect code b s e)
      → AtStop p
  stop-kept true s p e h n i = absurd i
  stop-kept false s p (Event.Turn k) h n i =
      stop_if-kept (wants_collection code s k) s p k refl n (none-from (ending s) h) i
  stop-kept false s p Event.Collect h n (inl e) = subst AtStop (sym e) (n, none-from (ending s) h)
  stop-kept false s p Event.Collect h n (inr i) = absurd i

  pub stops-kept : (es : List Event) (s p : State) → P s → In p (stops_by plain_collect code s es) → AtStop p
  stops-kept [] s p n h = absurd h
  stops-kept (e ∷ es) s p n h = elim (In-cases p (stop_in plain_collect code (has_ended s) s e) _ h) [
    | inl i ↦ stop-kept (has_ended s) s p e refl n i
    | inr i ↦ stops-kept es (happens code s e) p (happens-kept (has_ended s) s e refl n) i
  ]

-- ---- output apart

silent-prefix : (s : State) → prefixed s.output (silent s) ≡ s
silent-prefix s = ap (λ (o : List ℕ). record s { output = o }) (append-nil s.output)

pub silent-step : (code : Code) (s : State) (k : ℕ) → silent (step code s k) ≡ silent (step code (silent s) k)
silent-step code s k = ap (λ (t : State). silent (step code t k)) (sym (silent-prefix s))
    ∙ ap silent (step-prefixed s.output code (silent s) k)

silent-live : (s : State) → live_list (silent s) ≡ live_list s
unfolding live_list
silent-live s = refl

pub silent-dead : (s : State) → dead (silent s) ≡ dead s
silent-dead s = ap (λ xs. keys_where (is_dead xs) s.goroutines) (silent-live s)

-- ---- a collection of a state without finalisers

pub collect-plain : (s : State) → s.finalisers ≡ [] → plain_collect s ≡ s
collect-plain s h =
    let rs = reach s (sources s []) in
    ap (λ (fs : List (ℕ × ℕ)). record s {
      finalisers = only (λ o. is_in o rs) fs;
      queue = s.queue
          ++ queued (only (λ o. not (is_in o rs)) fs);
    }) h
    ∙ ap (λ (q : List Queued). record s { finalisers = []; queue = q }) (append-nil s.queue)
    ∙ ap (λ (fs : List (ℕ × ℕ)). record s { finalisers = fs }) (sym h)

module _ (code : Code) (s : State) (goes : ending s ≡ None) where
  collected-is : (b : Bool) (k : ℕ) → wants_collection code s k ≡ b → IsPlain (step code s k)
      → step code s k ≡ collected_if plain_collect code b (step code s k)
  collected-is true k w plain = sym (collect-plain (step code s k) (plain (collecting-goes code s k goes w)))
  collected-is false k w plain = refl

  happens-is : (e : Event) → happens_in plain_collect code false s e ≡ happens code s e
  happens-is e = ap (λ b. happens_in plain_collect code b s e) (sym (ap is_some goes))

  -- after a turn to a plain state the collection that its instruction asks for changes nothing
  pub turn-happens : (k : ℕ) → IsPlain (step code s k) → step code s k ≡ happens code s (Event.Turn k)
  turn-happens k plain = collected-is (wants_collection code s k) k refl plain ∙ happens-is (Event.Turn k)

  pub collection-happens : IsPlain s → s ≡ happens code s Event.Collect
  collection-happens plain = sym (collect-plain s (plain goes)) ∙ happens-is Event.Collect
