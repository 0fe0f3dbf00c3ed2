-- A cut state has the same futures, if what a collection meets is the same.
-- For: `futures`, golf_model/specs/Futures.antt; `cut`, golf_model/specs/Collections.antt
-- By: induction over the list of events
use Rattle.std.proofs.Common.{◌≡◌, ℕ, ◌/◌, Bool, true, false, List, [], ◌∷◌, ◌++◌, map, length, Option, inl, inr, refl}
use Rattle.std.proofs.Common.{sym, ap, ◌∙◌}
use Rattle.std.specs.Prelude.{is_some}
use Rattle.golf_theory.specs.Membership.{In, any_of}
use Rattle.golf_theory.specs.Maps.{Entry, find}
use Rattle.golf_theory.proofs.MapEntries.{Entry-keys}
use Rattle.golf_data.specs.declared.code.Code.{Code}
use Rattle.golf_data.specs.declared.goroutine.Ending.{Ending}
use Rattle.golf_data.specs.declared.goroutine.Queued.{Queued}
use Rattle.golf_model.specs.State.{State, ending, runnable}
use Rattle.golf_model.specs.Changes.{Change}
use Rattle.golf_model.specs.Turn.{turned, cleared_after, step, turn_changes, whose_turn, wants_collection}
use Rattle.golf_model.specs.Views.{GoroutineView}
use Rattle.golf_model.specs.Refs.{refs_of_goroutine}
use Rattle.golf_model.specs.Reach.{reach}
use Rattle.golf_model.specs.Collections.{plain_collect, prevents_removal, sets_finalisers, cut}
use Rattle.golf_model.specs.Runs.{Event, has_ended, collected_if, happens_in, happens, run, stop_if, stop_in}
use Rattle.golf_model.specs.Runs.{stops_by, is_taking, first_if, call_in, calls_by}
use Rattle.golf_model.specs.Futures.{Numbered, Sight, sight, futures}
use Rattle.golf_model_futures.specs.Invariant.{Closed}
use Rattle.golf_model_futures.specs.CutStates.{KeepsFresh}
use Rattle.golf_model_futures.proofs.Collecting.{Joined, closed-collect}
use Rattle.golf_model_futures.proofs.Cutting.{keeps_fresh-all}
use Rattle.golf_model_futures.proofs.Flowing.{Flow}
use Rattle.golf_model_futures.proofs.Removing.{stays_by}
use Rattle.golf_model_futures.proofs.SameTurn.{same-ending, same-wants, same-turn_changes, cut_step}
use Rattle.golf_model_futures.proofs.SameSight.{same-sight}
use Rattle.golf_model_futures.proofs.Staying.{step-closed}

pub map-append : {X Y : Type 0} (f : X → Y) (xs ys : List X) → map f (xs ++ ys) ≡ map f xs ++ map f ys
map-append f [] ys = refl
map-append f (x ∷ xs) ys = ap (λ (r : List _). f x ∷ r) (map-append f xs ys)

-- what a run keeps that makes collections of the cut state and of the state agree
pub record Agreement (code : Code) (gone : List ℕ) (kept : ℕ → Bool) (G : ℕ → Type 0) : Type 1 where
  pub Mode : (ℕ → Type 0) → State → Type 0
  pub steps : (O : ℕ → Type 0) (t : State) (k : ℕ) → Closed t O G → ((o : ℕ) → O o → kept o ≡ true)
      → ((g : ℕ) → G g → stays_by gone g ≡ true) → Mode O t → Mode O (step code t k)
  pub collects : (O : ℕ → Type 0) (t : State) → Mode O t → Mode (Joined t O) (plain_collect t)
  pub flow : (O : ℕ → Type 0) (t : State) → Mode O t → Flow (λ o. kept o ≡ true) (λ g. stays_by gone g ≡ true) t
  -- a removed goroutine is still there without it, and what it reaches is barred
  pub present : (O : ℕ → Type 0) (t : State) → Mode O t → (g : ℕ) → In g gone → (r : GoroutineView)
      × Entry t.goroutines g r
  pub barred : (O : ℕ → Type 0) (t : State) → Numbered t → Closed t O G → Mode O t → (g o : ℕ) → In g gone
      → In o (reach t (refs_of_goroutine (find g t.goroutines))) → prevents_removal t (sets_finalisers code) o ≡ false
  pub agrees : (O : ℕ → Type 0) (t : State) → Mode O t
      → plain_collect (cut (stays_by gone) kept t) ≡ cut (stays_by gone) kept (plain_collect t)

module _ (code : Code) (gone : List ℕ) (kept : ℕ → Bool) (G : ℕ → Type 0)
    (sub_g : (g : ℕ) → G g → stays_by gone g ≡ true) (m : Agreement code gone kept G) where
  -- closed sets within what is kept
  pub record Related (t : State) : Type 1 where
    pub O : ℕ → Type 0
    pub closed : Closed t O G
    pub within : (o : ℕ) → O o → kept o ≡ true
    pub fresh : KeepsFresh (stays_by gone) kept t
    pub mode : m.Mode O t

  pub related-step : (t : State) (k : ℕ) → Related t → Related (step code t k)
  related-step t k r = record {
    O = r.O;
    closed = step-closed code G r.O t r.closed k;
    within = r.within;
    fresh = keeps_fresh-all (stays_by gone) kept (cleared_after code t k) (turned code t k)
        (keeps_fresh-all (stays_by gone) kept
        (turn_changes code (k / length (runnable t)) t (whose_turn t k)) t r.fresh);
    mode = m.steps r.O t k r.closed r.within sub_g r.mode;
  }

  pub related-collect : (t : State) → Related t → Related (plain_collect t)
  related-collect t r = record {
    O = Joined t r.O;
    closed = closed-collect r.O G t r.closed;
    within = λ o h. elim h [
      | inl a ↦ r.within o a
      | inr q ↦
          let e = Entry-keys t.finalisers o q.0 in (m.flow r.O t r.mode).finalised o e.0 e.1
    ];
    fresh = record { objects = r.fresh.objects; goroutines = r.fresh.goroutines };
    mode = m.collects r.O t r.mode;
  }

  related-collected : (t : State) (b : Bool) → Related t → Related (collected_if plain_collect code b t)
  related-collected t true r = related-collect t r
  related-collected t false r = r

  related-in : (t : State) (b : Bool) (e : Event) → Related t → Related (happens_in plain_collect code b t e)
  related-in t true e r = r
  related-in t false (Event.Turn k) r = related-collected (step code t k) (wants_collection code t k)
      (related-step t k r)
  related-in t false Event.Collect r = related-collect t r

  pub related-happens : (t : State) (e : Event) → Related t → Related (happens code t e)
  related-happens t e r = related-in t (has_ended t) e r

  module _ (t : State) (r : Related t) where
    pub same-has_ended : has_ended (cut (stays_by gone) kept t) ≡ has_ended t
    same-has_ended = ap (λ (e : Option Ending). is_some e)
        (same-ending (stays_by gone) kept r.O G t r.closed r.within sub_g)

    pub the_step : (k : ℕ) → step code (cut (stays_by gone) kept t) k ≡ cut (stays_by gone) kept (step code t k)
    the_step k = cut_step (stays_by gone) kept r.O G t r.closed r.within sub_g code k r.fresh

    pub the_wants : (k : ℕ) → wants_collection code (cut (stays_by gone) kept t) k ≡ wants_collection code t k
    the_wants k = same-wants (stays_by gone) kept r.O G t r.closed r.within sub_g code k

    pub the_collect : plain_collect (cut (stays_by gone) kept t) ≡ cut (stays_by gone) kept (plain_collect t)
    the_collect = m.agrees r.O t r.mode

    the_sight : sight gone (cut (stays_by gone) kept t) ≡ sight gone t
    the_sight = same-sight gone kept r.O G t r.closed r.within sub_g (m.flow r.O t r.mode).finalised

  cut-collected : (t : State) (b : Bool) → Related t
      → collected_if plain_collect code b (cut (stays_by gone) kept t) ≡ cut (stays_by gone) kept
      (collected_if plain_collect code b t)
  cut-collected t true r = the_collect t r
  cut-collected t false r = refl

  cut-in : (t : State) (b : Bool) (e : Event) → Related t
      → happens_in plain_collect code b (cut (stays_by gone) kept t) e ≡ cut (stays_by gone) kept
      (happens_in plain_collect code b t e)
  cut-in t true e r = refl
  cut-in t false (Event.Turn k) r =
      ap (λ b. collected_if plain_collect code b (step code (cut (stays_by gone) kept t) k)) (the_wants t r k)
      ∙ ap (collected_if plain_collect code (wants_collection code t k)) (the_step t r k)
      ∙ cut-collected (step code t k) (wants_collection code t k) (related-step t k r)
  cut-in t false Event.Collect r = the_collect t r

  cut-happens : (t : State) (e : Event) → Related t
      → happens code (cut (stays_by gone) kept t) e ≡ cut (stays_by gone) kept (happens code t e)
  cut-happens t e r =
      ap (λ b. happens_in plain_collect code b (cut (stays_by gone) kept t) e) (same-has_ended t r)
      ∙ cut-in t (has_ended t) e r

  pub cut-run : (es : List Event) (t : State) → Related t
      → run code (cut (stays_by gone) kept t) es ≡ cut (stays_by gone) kept (run code t es)
  cut-run [] t r = refl
  cut-run (e ∷ es) t r = ap (λ (u : State). run code u es) (cut-happens t e r)
      ∙ cut-run es (happens code t e) (related-happens t e r)

  pub related-run : (es : List Event) (t : State) → Related t → Related (run code t es)
  related-run [] t r = r
  related-run (e ∷ es) t r = related-run es (happens code t e) (related-happens t e r)

  -- the entries that goroutine 0 takes
  same-call : (t : State) (b : Bool) (e : Event) → Related t
      → call_in plain_collect code b (cut (stays_by gone) kept t) e ≡ call_in plain_collect code b t e
  same-call t true e r = refl
  same-call t false (Event.Turn k) r = ap
      (λ (cs : List Change). first_if plain_collect code (any_of (is_taking plain_collect code) cs) t.queue)
      (same-turn_changes (stays_by gone) kept r.O G t r.closed r.within sub_g code k)
  same-call t false Event.Collect r = refl

  same-calls : (es : List Event) (t : State) → Related t
      → calls_by plain_collect code (cut (stays_by gone) kept t) es ≡ calls_by plain_collect code t es
  same-calls [] t r = refl
  same-calls (e ∷ es) t r =
      ap (λ b. call_in plain_collect code b (cut (stays_by gone) kept t) e
      ++ calls_by plain_collect code (happens code (cut (stays_by gone) kept t) e) es) (same-has_ended t r)
      ∙ ap (λ (qs : List Queued). qs ++ calls_by plain_collect code (happens code (cut (stays_by gone) kept t) e) es)
      (same-call t (has_ended t) e r)
      ∙ ap (λ (u : State). call_in plain_collect code (has_ended t) t e ++ calls_by plain_collect code u es)
      (cut-happens t e r)
      ∙ ap (λ (qs : List Queued). call_in plain_collect code (has_ended t) t e ++ qs)
      (same-calls es (happens code t e) (related-happens t e r))

  -- what is seen at the stops
  same-stop_if : (t u : State) (b : Bool) → sight gone u ≡ sight gone t
      → map (sight gone) (stop_if plain_collect code b u) ≡ map (sight gone) (stop_if plain_collect code b t)
  same-stop_if t u true h = ap (λ (x : Sight). x ∷ []) h
  same-stop_if t u false h = refl

  same-stop : (t : State) (b : Bool) (e : Event) → Related t
      → map (sight gone) (stop_in plain_collect code b (cut (stays_by gone) kept t) e) ≡ map (sight gone)
      (stop_in plain_collect code b t e)
  same-stop t true e r = refl
  same-stop t false (Event.Turn k) r =
      ap (λ b. map (sight gone) (stop_if plain_collect code b (step code (cut (stays_by gone) kept t) k)))
      (the_wants t r k)
      ∙ same-stop_if (step code t k) (step code (cut (stays_by gone) kept t) k) (wants_collection code t k)
      (ap (sight gone) (the_step t r k) ∙ the_sight (step code t k) (related-step t k r))
  same-stop t false Event.Collect r = ap (λ (x : Sight). x ∷ []) (the_sight t r)

  same-stops : (es : List Event) (t : State) → Related t
      → map (sight gone) (stops_by plain_collect code (cut (stays_by gone) kept t) es) ≡ map (sight gone)
      (stops_by plain_collect code t es)
  same-stops [] t r = refl
  same-stops (e ∷ es) t r =
      ap (λ b. map (sight gone) (stop_in plain_collect code b (cut (stays_by gone) kept t) e
      ++ stops_by plain_collect code (happens code (cut (stays_by gone) kept t) e) es)) (same-has_ended t r)
      ∙ map-append (sight gone) (stop_in plain_collect code (has_ended t) (cut (stays_by gone) kept t) e) _
      ∙ ap (λ (xs : List Sight). xs ++ map (sight gone)
      (stops_by plain_collect code (happens code (cut (stays_by gone) kept t) e) es))
      (same-stop t (has_ended t) e r)
      ∙ ap (λ (u : State). map (sight gone) (stop_in plain_collect code (has_ended t) t e)
      ++ map (sight gone) (stops_by plain_collect code u es)) (cut-happens t e r)
      ∙ ap (λ (xs : List Sight). map (sight gone) (stop_in plain_collect code (has_ended t) t e) ++ xs)
      (same-stops es (happens code t e) (related-happens t e r))
      ∙ sym (map-append (sight gone) (stop_in plain_collect code (has_ended t) t e)
      (stops_by plain_collect code (happens code t e) es))

  pub same-futures : (t : State) (es : List Event) → Related t
      → futures code (cut (stays_by gone) kept t) es gone ≡ futures code t es gone
  same-futures t es r =
      let u = cut-run es t r in
      let v = related-run es t r in
      let a = ap (λ (x : State). x.output) u in
      let b = ap ending u ∙ same-ending (stays_by gone) kept v.O G (run code t es) v.closed v.within sub_g in
      let c = same-calls es t r in
      let d = same-stops es t r in
      λ i. record { output = a i; ending = b i; calls = c i; stops = d i }
