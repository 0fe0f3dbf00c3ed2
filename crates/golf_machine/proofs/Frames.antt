-- Frames that are entered and left, and goroutines that end, as the definitions have them.
-- For: `call`, `defer_call` (src/new_frames.rt) and `return_to`, `unwind_to` (src/frame_ends.rt)
-- By: cases of the operands, the deferred calls and the callers; no induction
use Rattle.std.proofs.Common.{◌≡◌, ℕ, ◌+◌, ◌<◌, ◌≤◌, Bool, true, false, List, [], ◌∷◌, length, Option, Some}
use Rattle.std.proofs.Common.{None, ◌==◌, refl, sym, ap, ◌∙◌, arith, inl, inr}
use Rattle.std.specs.Prelude.{slice_get}
use Rattle.std.proofs.lemmas.Bool.{eq-eqb, le-leb, lt-leb, cases_Bool}
use Rattle.golf_data.specs.declared.value.Value.{Value}
use Rattle.golf_data.specs.declared.code.Code.{Code}
use Rattle.golf_data.specs.declared.goroutine.Deferred.{Deferred}
use Rattle.golf_data.specs.declared.goroutine.Ending.{Ending}
use Rattle.golf_data.specs.declared.goroutine.Fault.{Fault}
use Rattle.golf_data.specs.declared.goroutine.Mode.{Mode}
use Rattle.golf_data.specs.declared.goroutine.PanicKind.{PanicKind}
use Rattle.golf_theory.specs.Maps.{find}
use Rattle.golf_model.specs.Views.{FrameView}
use Rattle.golf_model.specs.State.{State, call_frame, not_empty}
use Rattle.golf_model.specs.Changes.{Change, apply_all, finish, spawn}
use Rattle.golf_model.specs.Wakes.{on_top}
use Rattle.golf_model.specs.Actors.{Actor, next, stands, goes, on_some, choose}
use Rattle.golf_model.specs.Calls.{is_full, enters, calls, spawns, defers, ends, returns_to}
use Rattle.golf_model.specs.Calls.{unwinds_to, leaves_returning, leaves_unwinding}
use Rattle.golf_state.specs.Looked.{frames_of, reframed}
use Rattle.golf_state.specs.FrameChanges.{went, has_deferred, undeferred}
use Rattle.golf_state.specs.Operands.{operands_of}
use Rattle.golf_state.specs.ActorChanges.{does, does_by, Stands}
use Rattle.golf_state.proofs.Doings.{actor_of, apply_all-append}
use Rattle.golf_machine.specs.Acts.{last_of, begins_latest, deferred_of}
use Rattle.golf_machine.specs.Fits.{Fits}
use Rattle.golf_machine.proofs.Fits.{none_left}
use Rattle.golf_machine.proofs.Takings.{taking-is}
use Rattle.golf_machine.proofs.TurnLaws.{first-is}
use Rattle.golf_state.specs.declared.outcome.Outcome.{Outcome}

-- frames that are as they were
pub kept : (g : ℕ) (s : State) (fs ps : List FrameView) → fs ≡ ps → ps ≡ frames_of g s
    → reframed g (frames_of g s) s ≡ s → reframed g fs s ≡ s
kept g s fs ps a b same = ap (λ (xs : List FrameView). reframed g xs s) (a ∙ b) ∙ same

module _ {g after : ℕ} {s : State} (st : Stands g after s) (line : ℕ) where
  -- ---- a frame more

  enters-some : (fs : List FrameView) (x : FrameView) → not_empty (enters (actor_of st line) fs x) ≡ true
  enters-some fs x = elim (cases_Bool (is_full fs)) [ inl t ↦ rw t | inr f ↦ rw f ]

  -- ---- a call

  module _ (code : Code) (f n : ℕ) where
    abbrev calling : Actor → List Value → List Value → List Change
    calling a arguments rest = on_some (enters a (next a.frame rest ∷ a.callers)) (call_frame code f arguments false)

    module _ (vs : List Value) (taken : Some vs ≡ last_of n (operands_of g s)) where
      pub calls-missing : None ≡ call_frame code f vs false → Fits Outcome.Stuck (λ a. calls code a f n) g line s s
      calls-missing e = let t = rw st.found at taken in
          rw (st.found, taking-is n st.frame.operands (calling (actor_of st line)), ← t, ← e) (refl, refl)

      pub calls-full : (x : FrameView) → Some x ≡ call_frame code f vs false → 10000 ≤ length (frames_of g s)
          → Fits (Outcome.Panic PanicKind.StackOverflow) (λ a. calls code a f n) g line s s
      calls-full x e l =
          let t = rw st.found at taken in
          let full : 10000 ≤ length (st.frame ∷ st.callers) = rw st.found at l in
          rw (
            st.found,
            taking-is n st.frame.operands (calling (actor_of st line)),
            ← t,
            ← e,
            le-leb 10000 (length (st.frame ∷ st.callers)) full,
          ) ((refl, refl), refl)

      pub calls-enter : (x : FrameView) (fs : List FrameView) → Some x ≡ call_frame code f vs false
          → length (frames_of g s) < 10000 → fs ≡ x ∷ on_top (went after n []) (frames_of g s)
          → Fits Outcome.Done (λ a. calls code a f n) g line s (reframed g fs s)
      calls-enter x fs e l is =
          let t = rw st.found at taken in
          let few : length (st.frame ∷ st.callers) < 10000 = rw st.found at l in
          let are = rw (st.found, st.next) at is in
          rw (
            st.found,
            taking-is n st.frame.operands (calling (actor_of st line)),
            ← t,
            ← e,
            lt-leb 10000 (length (st.frame ∷ st.callers)) few,
            are,
          ) (refl, refl)

    -- ---- a goroutine more

    abbrev spawning : Actor → List Value → List Value → List Change
    spawning a arguments rest = on_some (λ x. Change.Spawn
        (record { frames = x ∷ []; mode = Mode.Running; started = a.line }) ∷ goes a rest)
        (call_frame code f arguments true)

    module _ (vs : List Value) (taken : Some vs ≡ last_of n (operands_of g s)) where
      pub spawns-missing : None ≡ call_frame code f vs true → Fits Outcome.Stuck (λ a. spawns code a f n) g line s s
      spawns-missing e = let t = rw st.found at taken in
          rw (st.found, taking-is n st.frame.operands (spawning (actor_of st line)), ← t, ← e) (refl, refl)

      pub spawns-enter : (x : FrameView) (s1 s2 : State) (st1 : Stands g after s1) → Some x ≡ call_frame code f vs true
          → s1 ≡ spawn (record { frames = x ∷ []; mode = Mode.Running; started = line }) s → st1.frame ≡ st.frame
          → st1.callers ≡ st.callers → st1.started ≡ st.started
          → s2 ≡ does (λ a. stands a (went after n [] a.frame)) g line s1
          → Fits Outcome.Done (λ a. spawns code a f n) g line s s2
      spawns-enter x s1 s2 st1 e is same below since went_on =
          let t = rw st.found at taken in
          rw (st.found, taking-is n st.frame.operands (spawning (actor_of st line)), ← t, ← e)
          (rw (st1.found, same, below, since, is, st.next) at went_on, refl)

  -- ---- a call that is deferred

  module _ (f n : ℕ) where
    abbrev deferring : Actor → List Value → List Value → List Change
    deferring a arguments rest = stands a (record
        a.frame {
          at = a.frame.at + 1;
          operands = rest;
          deferred = record { function = f; arguments = arguments }
              ∷ a.frame.deferred;
        })

    pub defers-some : (vs : List Value) (fs : List FrameView) → Some vs ≡ last_of n (operands_of g s)
        → fs ≡ on_top (has_deferred after n (record { function = f; arguments = vs })) (frames_of g s)
        → Fits Outcome.Done (λ a. defers a f n) g line s (reframed g fs s)
    defers-some vs fs e is =
        let t = rw st.found at e in
        let are = rw (st.found, st.next) at is in
        rw (st.found, taking-is n st.frame.operands (deferring (actor_of st line)), ← t, are) (refl, refl)

  -- ---- a deferred call

  module _ (code : Code) (d : Deferred) (latest : Some d ≡ slice_get (deferred_of g s) 0) where
    deferred-by : (o : Option FrameView) → o ≡ call_frame code d.function d.arguments true
        → does_by (λ a. begins_latest code a a.frame.deferred) g line (find g s.goroutines) ≡ on_some
        (enters (actor_of st line) (undeferred st.frame ∷ st.callers)) o
    deferred-by o e = let l = rw st.found at latest in rw (st.found, first-is st.frame.deferred d l, e)

    -- a rule fits exactly if the code has the function
    pub deferred-misses : None ≡ call_frame code d.function d.arguments true
        → false ≡ not_empty (does_by (λ a. begins_latest code a a.frame.deferred) g line (find g s.goroutines))
    deferred-misses e = rw (deferred-by None e)

    pub deferred-fits : (x : FrameView) → Some x ≡ call_frame code d.function d.arguments true
        → true ≡ not_empty (does_by (λ a. begins_latest code a a.frame.deferred) g line (find g s.goroutines))
    deferred-fits x e = rw (deferred-by (Some x) e) (sym (enters-some (undeferred st.frame ∷ st.callers) x))

    pub deferred-full : (x : FrameView) (s1 : State) → Some x ≡ call_frame code d.function d.arguments true
        → 10000 ≤ length (frames_of g s) → s1 ≡ finish
        (Ending.Panicked PanicKind.StackOverflow (record { 0 = g }) line) s
        → s1 ≡ does (λ a. begins_latest code a a.frame.deferred) g line s
    deferred-full x s1 e l is =
        let full : 10000 ≤ length (st.frame ∷ st.callers) = rw st.found at l in
        rw (deferred-by (Some x) e, le-leb 10000 (length (undeferred st.frame ∷ st.callers)) full) is

    pub deferred-enter : (x : FrameView) (fs : List FrameView) → Some x ≡ call_frame code d.function d.arguments true
        → length (frames_of g s) < 10000 → fs ≡ x ∷ on_top undeferred (frames_of g s)
        → reframed g fs s ≡ does (λ a. begins_latest code a a.frame.deferred) g line s
    deferred-enter x fs e l is =
        let few : length (st.frame ∷ st.callers) < 10000 = rw st.found at l in
        let are = rw st.found at is in
        rw (deferred-by (Some x) e, lt-leb 10000 (length (undeferred st.frame ∷ st.callers)) few, st.found, are)

  -- ---- a goroutine that ends

  pub ends-zero : (fs : List FrameView) → g ≡ 0 → fs ≡ [] → reframed g fs s ≡ does ends g line s
  ends-zero fs z e = rw (st.found, eq-eqb g 0 z) cc

  returns-some : (v : Option Value) (fs : List FrameView) → not_empty (returns_to (actor_of st line) v fs) ≡ true
  returns-some v [] = elim (cases_Bool (g == 0)) [ inl t ↦ rw t | inr f ↦ rw f ]
  returns-some v (f ∷ fs) = refl

  unwinds-some : (x : Fault) (fs : List FrameView) → not_empty (unwinds_to (actor_of st line) x fs) ≡ true
  unwinds-some x [] = elim (cases_Bool (g == 0)) [ inl t ↦ rw t | inr f ↦ rw f ]
  unwinds-some x (f ∷ fs) = refl

  -- without deferred calls
  module _ (b : Bool) (is : b ≡ not_empty (deferred_of g s)) (not : b ≡ false) where
    pub none : st.frame.deferred ≡ []
    none = none_left _ (rw st.found at (sym is ∙ not))

    pub leaves-fit : (code : Code) (v : Option Value)
        → true ≡ not_empty (does_by (λ a. leaves_returning code a v a.frame.deferred) g line (find g s.goroutines))
    leaves-fit code v = rw (st.found, none) (sym (returns-some v st.callers))

    pub unwinds-fit : (code : Code) (x : Fault)
        → true ≡ not_empty (does_by (λ a. leaves_unwinding code a x a.frame.deferred) g line (find g s.goroutines))
    unwinds-fit code x = rw (st.found, none) (sym (unwinds-some x st.callers))

  -- a return whose frame is gone
  pub returns-done : (act : Actor → List Change) (v : Option Value) (t : State)
      → act (actor_of st line) ≡ returns_to (actor_of st line) v st.callers
      → t ≡ does (λ a. returns_to a v a.callers) g line s → Fits Outcome.Done act g line s t
  returns-done act v t e is = rw (st.found, e) (rw st.found at is, sym (returns-some v st.callers))

  no_callers : (fs : List FrameView) → length (frames_of g s) ≤ 1 → length fs ≡ length st.callers → fs ≡ []
  no_callers [] l e = refl
  no_callers (f ∷ fs) l e = absurd (let m : length (st.frame ∷ st.callers) ≤ 1 = rw st.found at l in omega arith)

  pub returns-last : (v : Option Value) (s1 s2 : State) (b : Bool) → length (frames_of g s) ≤ 1
      → s1 ≡ does ends g line s → (g == 1) ≡ b → s2 ≡ apply_all (choose b (Change.Finish Ending.Returned ∷ []) []) s1
      → s2 ≡ does (λ a. returns_to a v a.callers) g line s
  returns-last v s1 s2 b l e t is = let first = rw st.found at e in
      rw (st.found, no_callers st.callers l refl, apply_all-append, t, ← first) is

  pub unwinds-last : (x : Fault) (s1 s2 : State) → length (frames_of g s) ≤ 1 → s1 ≡ does ends g line s
      → s2 ≡ finish (Ending.Panicked x.kind (record { 0 = g }) x.line) s1
      → s2 ≡ does (λ a. unwinds_to a x a.callers) g line s
  unwinds-last x s1 s2 l e is = let first = rw st.found at e in
      rw (st.found, no_callers st.callers l refl, apply_all-append, ← first) is
