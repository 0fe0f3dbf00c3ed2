-- Collections of a state and of the state without what was removed agree, whether the code sets finalisers or not.
-- For: `recovery_unseen`, src/lib.rt; `plain_collect`, `cut`, `sets_finalisers`, golf_model/specs/Collections.antt
-- By: induction over the moves that lead to the state, and over the list of changes
use Rattle.std.proofs.Common.{◌≡◌, ℕ, ◌/◌, Bool, true, false, not, ◌&&◌, inl, ◌==◌, List, [], ◌∷◌, length, Option, Some}
use Rattle.std.proofs.Common.{None, refl, ap, ◌∙◌, subst, slice_get}
use Rattle.std.specs.Prelude.{option_and_then}
use Rattle.std.proofs.lemmas.Bool.{both_ways, or_from, false_from_ne_true}
use Rattle.golf_theory.specs.Membership.{In, is_in, any_of}
use Rattle.golf_theory.specs.Maps.{Entry, find, keys, only}
use Rattle.golf_theory.proofs.Lists.{In-slice_get}
use Rattle.golf_theory.proofs.Tests.{any_of-from, is_in-from, In-from}
use Rattle.golf_theory.proofs.MapEntries.{Entry-keys}
use Rattle.golf_theory.proofs.Derivations.{Reached-least}
use Rattle.golf_theory.proofs.MapFinds.{Entry-below, find-Entry}
use Rattle.golf_data.specs.declared.code.Code.{Code}
use Rattle.golf_data.specs.declared.code.Function.{Function}
use Rattle.golf_data.specs.declared.code.CodeLine.{CodeLine}
use Rattle.golf_model.specs.State.{State, runnable}
use Rattle.golf_model.specs.Views.{GoroutineView}
use Rattle.golf_model.specs.Refs.{goroutine_refs, refs_of_goroutine, has_finaliser}
use Rattle.golf_model.specs.LiveSet.{Node, Live, live_list, has_object}
use Rattle.golf_model.specs.Changes.{Change, apply, apply_all}
use Rattle.golf_model.specs.Turn.{line_at, clears_nothing, turned, cleared_after, step, turn_changes, whose_turn}
use Rattle.golf_model.specs.Reach.{RefersTo, reach, sources}
use Rattle.golf_model.specs.Collections.{plain_collect, is_setting, sets_finalisers, prevents_removal}
use Rattle.golf_model.specs.Futures.{Numbered, Leads}
use Rattle.golf_model.proofs.Agreeing.{reach-sound, live_list-sound, has_object-sound}
use Rattle.golf_model_futures.specs.Invariant.{Closed, Good, Sound, Nothing, Unfinalised, objects_after, last_after}
use Rattle.golf_model_futures.specs.Invariant.{finalisable_after}
use Rattle.golf_model_futures.proofs.Acting.{Ground}
use Rattle.golf_model_futures.proofs.Closing.{closed-ground}
use Rattle.golf_model_futures.proofs.Changing.{Wider, sound-wider}
use Rattle.golf_model_futures.proofs.GoodTurn.{Allows, sound_turn}
use Rattle.golf_model_futures.proofs.Clearing.{finalisers-clearing}
use Rattle.golf_model_futures.proofs.Staying.{turn-running, turn-sound, behind-sound, step-confined}
use Rattle.golf_model_futures.proofs.DeadStill.{LiveObject, LiveGoroutine, closed-live}
use Rattle.golf_model_futures.proofs.Numbering.{Given, Started, numbered-ground}
use Rattle.golf_model_futures.proofs.Leading.{same-requeue, leads-numbered}
use Rattle.golf_model_futures.proofs.Flowing.{Flow, flow_changes, flow-collect}
use Rattle.golf_model_futures.proofs.Removing.{GoneOk, stays_by, kept_by, kept-fresh, stays-fresh, live-kept}
use Rattle.golf_model_futures.proofs.Removing.{live-stays, flow-kept}
use Rattle.golf_model_futures.proofs.Apartness.{Lost, lost-refs, lost-step, Apart, apart-start, apart-confined}
use Rattle.golf_model_futures.proofs.Apartness.{apart-collect}
use Rattle.golf_model_futures.proofs.CutCollecting.{cut_collect, cut_collect-by}
use Rattle.golf_model_futures.proofs.SameFutures.{Agreement, Related, related-step, related-collect}
use Rattle.golf_model_futures.proofs.SameSight.{live-in}

-- a code that sets no finaliser has no line that does
no_setter-at : (at : ℕ) (m : Option Function) (l : CodeLine)
    → ((fn : Function) → m ≡ Some fn → any_of (λ k. is_setting k.instr) fn.body ≡ false)
    → option_and_then (λ fn. slice_get fn.body at) m ≡ Some l → is_setting l.instr ≡ false
no_setter-at at None l h e = cc
no_setter-at at (Some fn) l h e = elim (is_setting l.instr) as (λ b. is_setting l.instr ≡ b → b ≡ false) [
  | true ↦ λ t. absurd (both_ways (any_of (λ k. is_setting k.instr) fn.body) (h fn refl)
      (any_of-from (λ (k : CodeLine). is_setting k.instr) fn.body l (In-slice_get fn.body at l e) t))
  | false ↦ λ t. refl
] refl

no_setter : (code : Code) → sets_finalisers code ≡ false → (f at : ℕ) (l : CodeLine) → line_at code f at ≡ Some l
    → is_setting l.instr ≡ false
no_setter code h f at l e = no_setter-at at (slice_get code.functions f) l
    (λ fn i. elim (any_of (λ k. is_setting k.instr) fn.body) as (λ b. any_of (λ k. is_setting k.instr) fn.body ≡ b
    → b ≡ false) [
      | true ↦ λ t. absurd (both_ways (sets_finalisers code) h
          (any_of-from (λ (g : Function). any_of (λ k. is_setting k.instr) g.body) code.functions fn
          (In-slice_get code.functions f fn i) t))
      | false ↦ λ t. refl
    ] refl) e

allows-none : (O G : ℕ → Type 0) (code : Code) (s : State) (c : Ground s O G) → sets_finalisers code ≡ false
    → Allows O G Nothing code s c
allows-none O G code s c h f at l is t o u = both_ways (is_setting l.instr) (no_setter code h f at l is) t

-- if none is set, there is none
none_after : (O G : ℕ → Type 0) (s : State) (c : Change) → s.finalisers ≡ [] → Good O G Nothing c
    → (apply c s).finalisers ≡ []
none_after O G s (Change.SetFinaliser p k) h a = absurd a.1
none_after O G s (Change.ClearFinaliser p) h a = ap (only (λ q. not (q == p))) h
none_after O G s (Change.Requeue g m) h a = (same-requeue s g m (find g s.goroutines) (find m s.objects)).2 ∙ h
none_after O G s _ h a = h

still_none : (c : Change) (o : ℕ) → finalisable_after c Nothing o → Nothing o
still_none (Change.Make x) o a = a
still_none (Change.Replace p x) o a = a
still_none (Change.SetGlobal i v) o a = a
still_none (Change.Become g r) o a = a
still_none (Change.Block g kind line waits r) o a = a
still_none (Change.Spawn r) o a = a
still_none (Change.Leave g) o a = a
still_none (Change.Finish e) o a = a
still_none (Change.SetFinaliser p k) o a = a
still_none (Change.ClearFinaliser p) o a = a
still_none Change.TakeQueued o a = a
still_none (Change.Output bytes) o a = a
still_none (Change.WakeAll p how) o a = a
still_none (Change.Requeue g m) o a = a

none-changes : (O G : ℕ → Type 0) (n : ℕ) (cs : List Change) (s : State) → s.finalisers ≡ [] → Sound O G Nothing n cs
    → (apply_all cs s).finalisers ≡ []
none-changes O G n [] s h a = h
none-changes O G n (c ∷ cs) s h a =
    let wider : Wider (objects_after c O n) (objects_after c O n) G G (finalisable_after c Nothing) Nothing =
    record { objects = λ o i. i; goroutines = λ g i. i; finalisable = still_none c } in
    none-changes (objects_after c O n) G (last_after c n) cs (apply c s) (none_after O G s c h a.0)
    (sound-wider (last_after c n) cs wider a.1)

pub none-step : (O G : ℕ → Type 0) (code : Code) (s : State) (k : ℕ) (c : Ground s O G) → sets_finalisers code ≡ false
    → ((g : ℕ) → whose_turn s k ≡ Some g → G g) → s.finalisers ≡ [] → (step code s k).finalisers ≡ []
none-step O G code s k c h w e =
    finalisers-clearing code (clears_nothing code s k) (whose_turn s k) (turned code s k)
    ∙ none-changes O G s.last_object (turn_changes code (k / length (runnable s)) s (whose_turn s k)) s e
    (sound_turn O G Nothing code s c (allows-none O G code s c h) (k / length (runnable s)) (whose_turn s k) w)

pub none-leads : (code : Code) → sets_finalisers code ≡ false → (s : State) → Leads code s → s.finalisers ≡ []
none-leads code h s Leads.Start = refl
none-leads code h s (Leads.Turn t k l e) =
    let n = leads-numbered code t l in
    none-step (Given t) (Started t) code t k (numbered-ground t n) h
    (λ g w. let r = turn-running t k g w in Entry-below t.next_goroutine t.goroutines g r.0 n.goroutines_below r.1)
    (none-leads code h t l)
none-leads code h s (Leads.Collection t recover l e) =
    ap (only (λ o. is_in o (reach t (sources t [])))) (none-leads code h t l)
none-leads code h s (Leads.Emptied t l) = none-leads code h t l

-- what is live is a member of closed sets
live-member : (O G : ℕ → Type 0) (t : State) → Closed t O G → (o : ℕ) → Live t (Node.AnObject o) → O o
live-member O G t c o l = live-in O G t c (Node.AnObject o) l

-- what every run keeps of the sets that a collection leaves
module _ (code : Code) (s : State) (n : Numbered s) (gone : List ℕ) (ok : GoneOk s (sets_finalisers code) gone) where
  abbrev Flowing : State → Type 0
  Flowing t = Flow (λ o. kept_by s gone o ≡ true) (λ g. stays_by gone g ≡ true) t

  -- those who were removed stand where they stood
  abbrev Present : State → Type 0
  Present t = (g : ℕ) → In g gone → (r : GoroutineView) × Entry t.goroutines g r

  module _ (O : ℕ → Type 0) (t : State) (k : ℕ) (c : Closed t O (LiveGoroutine s))
      (w : (o : ℕ) → O o → kept_by s gone o ≡ true) (v : (g : ℕ) → LiveGoroutine s g → stays_by gone g ≡ true) where
    flowing-step : Flowing t → Flowing (step code t k)
    flowing-step f =
        let cs = turn_changes code (k / length (runnable t)) t (whose_turn t k) in
        let u = turned code t k in
        let ds = cleared_after code t k in
        let wider : Wider O (λ o. kept_by s gone o ≡ true) (LiveGoroutine s) (λ g. stays_by gone g ≡ true)
        (Unfinalised t) (Unfinalised t) = record { objects = w; goroutines = v; finalisable = λ o h. h } in
        let wider2 : Wider O (λ o. kept_by s gone o ≡ true) (LiveGoroutine s)
        (λ g. stays_by gone g ≡ true) Nothing Nothing =
        record { objects = w; goroutines = v; finalisable = λ o h. h } in
        let turned-flows = flow_changes (λ o. kept_by s gone o ≡ true) (λ g. stays_by gone g ≡ true)
        (Unfinalised t) t.last_object cs t f.new_objects f
        (sound-wider t.last_object cs wider (turn-sound code (LiveGoroutine s) O t c k)) in
        flow_changes (λ o. kept_by s gone o ≡ true)
        (λ g. stays_by gone g ≡ true) Nothing u.last_object ds u turned-flows.new_objects turned-flows
        (sound-wider u.last_object ds wider2 (behind-sound code (LiveGoroutine s) O t c k))

    present-step : Present t → Present (step code t k)
    present-step p g h =
        let e = p g h in (
          e.0,
          (step-confined code (LiveGoroutine s) O t c k).goroutines.there g e.0
              (λ m. cc (v g m, ap not (is_in-from g gone h))) e.1,
        )

    turn-member : (g : ℕ) → whose_turn t k ≡ Some g → LiveGoroutine s g
    turn-member g i = let r = turn-running t k g i in c.running g r.0 r.1 r.2

  -- a code that sets no finaliser: none is there
  module _ (h : sets_finalisers code ≡ false) where
    abbrev NoneMode : (ℕ → Type 0) → State → Type 0
    NoneMode O t = (t.finalisers ≡ []) × Flowing t × Present t

    barred-none : (t : State) → t.finalisers ≡ [] → (o : ℕ) → prevents_removal t (sets_finalisers code) o ≡ false
    barred-none t e o = or_from (has_finaliser t o) _ (ap (λ (fs : List (ℕ × ℕ)). is_in o (keys fs)) e)
        (ap (λ b. b && has_object (live_list t) o) h)

    agreement-none : Agreement code gone (kept_by s gone) (LiveGoroutine s)
    agreement-none = record {
      Mode = NoneMode;
      steps = λ O t k c w v a. (
        none-step O (LiveGoroutine s) code t k (closed-ground O (LiveGoroutine s) t c) h
            (turn-member O t k c w v) a.0,
        flowing-step O t k c w v a.1,
        present-step O t k c w v a.2,
      );
      collects = λ O t a. (
        ap (only (λ o. is_in o (reach t (sources t [])))) a.0,
        flow-collect (λ o. kept_by s gone o ≡ true) (λ g. stays_by gone g ≡ true) t a.1,
        a.2,
      );
      flow = λ O t a. a.1;
      present = λ O t a. a.2;
      barred = λ O t nt c a g o i j. barred-none t a.0 o;
      agrees = λ O t a. cut_collect-by (stays_by gone) (kept_by s gone) t
          (λ o f i. absurd (subst (λ (fs : List (ℕ × ℕ)). Entry fs o f) a.0 i));
    }

  -- a code that sets finalisers: what is removed is apart
  module _ (h : sets_finalisers code ≡ true) where
    ok' : GoneOk s true gone
    ok' = subst (λ b. GoneOk s b gone) h ok

    abbrev ApartMode : (ℕ → Type 0) → State → Type 0
    ApartMode O t = Apart s n gone ok' O t × Flowing t × Present t

    -- what a removed goroutine reaches later was lost from the start
    reached-lost : (O : ℕ → Type 0) (t : State) → Numbered t → ApartMode O t → (g o : ℕ) → In g gone
        → In o (reach t (refs_of_goroutine (find g t.goroutines))) → Lost s n gone ok' o
    reached-lost O t nt a g o i j =
        let e = a.2 g i in
        let xs : List ℕ = refs_of_goroutine (find g t.goroutines) in
        let same : xs ≡ goroutine_refs e.0 = ap refs_of_goroutine
        (find-Entry t.goroutines g e.0 nt.goroutines_rise e.1) in
        Reached-least (λ p. In p xs) (RefersTo t) (Lost s n gone ok')
        (λ p m. lost-refs s n gone ok' g p e.0 i (a.0.goroutines g e.0 i e.1) (subst (λ (ys : List ℕ). In p ys) same m))
        (λ q p l m. lost-step s n gone ok' q p m.0 l (a.0.objects q m.0 l m.1) m.2) o (reach-sound t xs o j)

    barred-apart : (O : ℕ → Type 0) (t : State) → Numbered t → Closed t O (LiveGoroutine s) → ApartMode O t → (g o : ℕ)
        → In g gone → In o (reach t (refs_of_goroutine (find g t.goroutines)))
        → prevents_removal t (sets_finalisers code) o ≡ false
    barred-apart O t nt c a g o i j =
        let l = reached-lost O t nt a g o i j in
        ap (λ b. prevents_removal t b o) h
        ∙ or_from (has_finaliser t o) (has_object (live_list t) o)
        (false_from_ne_true (has_finaliser t o)
        (λ u. let k = Entry-keys t.finalisers o (In-from o (keys t.finalisers) u) in a.0.unfinalised o k.0 l k.1))
        (false_from_ne_true (has_object (live_list t) o)
        (λ u. a.0.outside o l (live-member O (LiveGoroutine s) t c o
        (live_list-sound t (Node.AnObject o) (has_object-sound (live_list t) o u)))))

    agreement-apart : Agreement code gone (kept_by s gone) (LiveGoroutine s)
    agreement-apart = record {
      Mode = ApartMode;
      steps = λ O t k c w v a. (
        apart-confined s n gone ok' O (LiveGoroutine s) t (step code t k) v
            (step-confined code (LiveGoroutine s) O t c k) a.0,
        flowing-step O t k c w v a.1,
        present-step O t k c w v a.2,
      );
      collects = λ O t a. (
        apart-collect s n gone ok' O t a.0,
        flow-collect (λ o. kept_by s gone o ≡ true) (λ g. stays_by gone g ≡ true) t a.1,
        a.2,
      );
      flow = λ O t a. a.1;
      present = λ O t a. a.2;
      barred = barred-apart;
      agrees = λ O t a. cut_collect s n gone ok' (kept_by s gone) t O a.1 a.0;
    }

-- the state lacks what was removed, and goes on as the whole one does
pub record Sim (code : Code) (gone : List ℕ) (kept : ℕ → Bool) (t : State) : Type 1 where
  pub G : ℕ → Type 0
  pub within : (g : ℕ) → G g → stays_by gone g ≡ true
  pub agreement : Agreement code gone kept G
  pub related : Related code gone kept G within agreement t

module _ (code : Code) (s : State) (n : Numbered s) (gone : List ℕ) (ok : GoneOk s (sets_finalisers code) gone)
    (f : sets_finalisers code ≡ false → s.finalisers ≡ []) where
  sim-with : (m : Agreement code gone (kept_by s gone) (LiveGoroutine s)) → m.Mode (LiveObject s) s
      → Sim code gone (kept_by s gone) s
  sim-with m a = record {
    G = LiveGoroutine s;
    within = live-stays s n gone ok.dead;
    agreement = m;
    related = record {
      O = LiveObject s;
      closed = closed-live s n;
      within = λ o h. live-kept s n gone ok.dead o (inl h);
      fresh = record { objects = kept-fresh s n gone ok.dead; goroutines = stays-fresh s n gone ok.dead };
      mode = a;
    };
  }

  sim-by : (b : Bool) → sets_finalisers code ≡ b → Sim code gone (kept_by s gone) s
  unfolding agreement-none agreement-apart ok'
  sim-by true h = sim-with (agreement-apart code s n gone ok h) (
    apart-start s n gone (subst (λ b. GoneOk s b gone) h ok),
    flow-kept s n gone ok.dead,
    λ g i. let d = ok.dead g i in (d.0, d.1),
  )
  sim-by false h = sim-with (agreement-none code s n gone ok h)
      (f h, flow-kept s n gone ok.dead, λ g i. let d = ok.dead g i in (d.0, d.1))

  pub sim-start : Sim code gone (kept_by s gone) s
  sim-start = sim-by (sets_finalisers code) refl

pub sim-step : (code : Code) (gone : List ℕ) (kept : ℕ → Bool) (t : State) (k : ℕ) → Sim code gone kept t
    → Sim code gone kept (step code t k)
sim-step code gone kept t k z = record {
  G = z.G;
  within = z.within;
  agreement = z.agreement;
  related = related-step code gone kept z.G z.within z.agreement t k z.related;
}

pub sim-collect : (code : Code) (gone : List ℕ) (kept : ℕ → Bool) (t : State) → Sim code gone kept t
    → Sim code gone kept (plain_collect t)
sim-collect code gone kept t z = record {
  G = z.G;
  within = z.within;
  agreement = z.agreement;
  related = related-collect code gone kept z.G z.within z.agreement t z.related;
}
