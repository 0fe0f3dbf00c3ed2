-- The turn of another goroutine reads and changes nothing of a goroutine that runs.
-- For: the laws of closed lists, src/lib.rt; `turn_changes`, golf_model/specs/Turn.antt
-- By: induction over the list of changes; the changes are those of the state without the goroutine that runs
use Rattle.std.proofs.Common.{◌≡◌, ℕ, ◌<◌, Bool, true, false, not, List, [], ◌∷◌, Option, Some, None, inl, inr}
use Rattle.std.proofs.Common.{refl, sym, ap, ◌∙◌, subst, arith, ◌==◌}
use Rattle.std.proofs.lemmas.Bool.{ne_eqb, eq-eqb}
use Rattle.golf_theory.specs.Maps.{Entry, find, only}
use Rattle.golf_theory.specs.Membership.{In, Every}
use Rattle.golf_theory.proofs.Lists.{Every-from}
use Rattle.golf_theory.proofs.MapEntries.{Entry-put}
use Rattle.golf_theory.proofs.MapFinds.{find-only, find-put_other, find-add_old, find-map_values}
use Rattle.golf_theory.proofs.MapCuts.{only-put_out}
use Rattle.golf_data.specs.declared.code.Code.{Code}
use Rattle.golf_data.specs.declared.code.CodeLine.{CodeLine}
use Rattle.golf_data.specs.declared.goroutine.Leaving.{Leaving}
use Rattle.golf_data.specs.declared.goroutine.Mode.{Mode}
use Rattle.golf_data.specs.declared.value.Object.{Object}
use Rattle.golf_model.specs.Views.{FrameView, GoroutineView}
use Rattle.golf_model.specs.Values.{refs}
use Rattle.golf_model.specs.State.{State}
use Rattle.golf_model.specs.Waiters.{waits_of}
use Rattle.golf_model.specs.Wakes.{woken_by, released}
use Rattle.golf_model.specs.Changes.{Change, become, apply, apply_all, moved, requeue}
use Rattle.golf_model.specs.Refs.{object_refs, deferred_refs, leaving_refs, frames_refs, goroutine_refs, queue_refs}
use Rattle.golf_model.specs.Refs.{waited}
use Rattle.golf_model.specs.Turn.{line_at, acting, performs, frame_changes, goroutine_changes, turn_of, turn_changes}
use Rattle.golf_model.specs.Collections.{cut}
use Rattle.golf_model_futures.specs.Invariant.{FrameIn, Good, Sound, objects_after, last_after, finalisable_after}
use Rattle.golf_model_futures.proofs.Acting.{Ground}
use Rattle.golf_model_futures.proofs.GoodTurn.{sound_turn}
use Rattle.golf_model_futures.proofs.Leading.{same-requeue}
use Rattle.golf_model_futures.proofs.SameChanges.{same_changes}
use Rattle.golf_explore_laws.specs.Local.{IsChangeOf}
use Rattle.golf_explore_laws.proofs.Commuting.{woken-runs, local-changes-commute}

-- each object
abbrev pub Any : ℕ → Type 0
Any o = Unit {0}

any : (os : List ℕ) → Every Any os
any os = Every-from Any os (λ o i. tt)

any-frame : (f : FrameView) → FrameIn Any f
any-frame f = record {
  slots = any (refs f.slots);
  operands = any (refs f.operands);
  deferred = any (deferred_refs f.deferred);
  leaving = any (leaving_refs f.leaving);
}

-- the goroutines except for this one
abbrev pub Other : ℕ → ℕ → Type 0
Other g h = h ≡ g → ⊥

module _ (g : ℕ) where
  abbrev stays : ℕ → Bool
  stays h = not (h == g)

  other-stays : (h : ℕ) → Other g h → stays h ≡ true
  other-stays h other = ap not (ne_eqb h g other)

  -- the state without the goroutine
  abbrev without : State → State
  without s = cut stays (λ o. true) s

  -- the goroutine runs, if it is there
  abbrev pub Runs : State → Type 0
  Runs s = (r : GoroutineView) → Entry s.goroutines g r → r.mode ≡ Mode.Running

  -- ---- the same changes

  module _ (s : State) (runs : Runs s) where
    waits-not : (h : ℕ) (r : GoroutineView) (o : ℕ) → Entry s.goroutines h r → In o (waited (waits_of r.mode))
        → Other g h
    waits-not h r o e w same =
        let on : r.mode ≡ Mode.Running = runs r (subst (λ k. Entry s.goroutines k r) same e) in
        subst (λ m. In o (waited (waits_of m))) on w

    -- what a turn of another goroutine needs
    ground : Ground s Any (Other g)
    ground = record {
      globals = any (refs s.globals);
      queue = any (queue_refs s.queue);
      objects = λ p x m e. any (object_refs x);
      goroutines = λ h r m e. any (goroutine_refs r);
      awake = λ h r o e w m. waits-not h r o e w;
    }

    module _ (code : Code) (h : ℕ) (other : Other g h) (choice : ℕ) where
      same-performs : (q : GoroutineView) (f : FrameView) (fs : List FrameView) (m : Option CodeLine)
          → performs code h q f fs choice (without s) m ≡ performs code h q f fs choice s m
      same-performs q f fs None = refl
      same-performs q f fs (Some l) =
          same_changes stays (λ o. true) Any (Other g) s ground (λ o i. refl) other-stays (acting h q f fs l.line)
          (record { number = other; frame = any-frame f; callers = any (frames_refs fs) }) code l.instr choice

      same-frame : (q : GoroutineView) (f : FrameView) (fs : List FrameView) (leaving : Leaving)
          → frame_changes code h q f fs choice (without s) leaving ≡ frame_changes code h q f fs choice s leaving
      same-frame q f fs Leaving.No = same-performs q f fs (line_at code f.function f.at)
      same-frame q f fs (Leaving.Returning v) = refl
      same-frame q f fs (Leaving.Unwinding x) = refl

      same-goroutine : (q : GoroutineView) (fs : List FrameView)
          → goroutine_changes code h q choice (without s) fs ≡ goroutine_changes code h q choice s fs
      same-goroutine q [] = refl
      same-goroutine q (f ∷ fs) = same-frame q f fs f.leaving

      same-turn_of : (m : Option GoroutineView)
          → turn_of code h choice (without s) m ≡ turn_of code h choice s m
      same-turn_of None = refl
      same-turn_of (Some q) = same-goroutine q q.frames

      same-without : turn_changes code choice (without s) (Some h) ≡ turn_changes code choice s (Some h)
      same-without =
          ap (turn_of code h choice (without s)) (find-only stays s.goroutines h (other-stays h other))
          ∙ same-turn_of (find h s.goroutines)

      -- the changes are changes of others
      pub sound-other : Sound Any (Other g) Any s.last_object (turn_changes code choice s (Some h))
      sound-other = sound_turn Any (Other g) Any code s ground (λ f at l is t o u. tt) choice (Some h)
          (λ k e. let same : h ≡ k = cc in subst (Other g) same other)

  without-become : (q : GoroutineView) (s : State) → without (become g q s) ≡ without s
  without-become q s =
      let t : State = record s { objects = only (λ o. true) s.objects } in
      ap (λ (gs : List (ℕ × GoroutineView)). record t { goroutines = gs })
      (only-put_out stays g q s.goroutines (ap not (eq-eqb g g refl)))

  become-runs : (q : GoroutineView) (s : State) → q.mode ≡ Mode.Running → Runs s → Runs (become g q s)
  become-runs q s goes runs r e = elim (Entry-put g q s.goroutines g r e) [
    | inl b ↦ ap (λ (z : GoroutineView). z.mode) b.1 ∙ goes
    | inr b ↦ runs r b
  ]

  -- another goroutine has the same changes if this one becomes something that runs
  pub same-turn : (code : Code) (h choice : ℕ) (q : GoroutineView) (s : State) → Other g h → q.mode ≡ Mode.Running
      → Runs s → turn_changes code choice (become g q s) (Some h) ≡ turn_changes code choice s (Some h)
  same-turn code h choice q s other goes runs =
      sym (same-without (become g q s) (become-runs q s goes runs) code h other choice)
      ∙ ap (λ (t : State). turn_changes code choice t (Some h)) (without-become q s)
      ∙ same-without s runs code h other choice

  -- ---- the changes leave the goroutine alone

  module _ (O F : ℕ → Type 0) where
    not-of : (c : Change) → Good O (Other g) F c → IsChangeOf g c → ⊥
    not-of (Change.Become k r) a same = a.0 same
    not-of (Change.Block k kind line waits r) a same = a.0 same
    not-of (Change.Requeue k m) a same = a.0 same
    not-of _ a same = same

    requeued : (k m : ℕ) (x : Option GoroutineView) (y : Option Object) (s : State) → Other g k
        → find g (requeue k m x y s).goroutines ≡ find g s.goroutines
    requeued k m None y s other = refl
    requeued k m (Some q) None s other = refl
    requeued k m (Some q) (Some (Object.Mutex false)) s other =
        find-put_other k (released q) s.goroutines g (λ e. other (sym e))
    requeued k m (Some q) (Some (Object.Mutex true)) s other =
        find-put_other k (record q { mode = moved m s.next_ticket q.mode }) s.goroutines g (λ e. other (sym e))
    requeued k m (Some q) (Some _) s other = refl

    entry-stays : (c : Change) (s : State) (r : GoroutineView) → find g s.goroutines ≡ Some r → r.mode ≡ Mode.Running
        → Good O (Other g) F c → find g (apply c s).goroutines ≡ Some r
    entry-stays (Change.Become k q) s r found on a =
        find-put_other k q s.goroutines g (λ e. a.0 (sym e)) ∙ found
    entry-stays (Change.Block k kind line waits q) s r found on a =
        find-put_other k (record q { mode = Mode.Blocked kind line waits s.next_ticket }) s.goroutines g
        (λ e. a.0 (sym e)) ∙ found
    entry-stays (Change.Spawn q) s r found on a = find-add_old s.next_goroutine q s.goroutines g r found
    entry-stays (Change.Leave k) s r found on a =
        find-only (λ h. not (h == k)) s.goroutines g (ap not (ne_eqb g k (λ e. a (sym e)))) ∙ found
    entry-stays (Change.WakeAll o how) s r found on a =
        find-map_values (λ h. woken_by how o) s.goroutines g r found ∙ ap Some (woken-runs how o r on)
    entry-stays (Change.Requeue k m) s r found on a =
        requeued k m (find k s.goroutines) (find m s.objects) s a.0 ∙ found
    entry-stays _ s r found on a = found

  -- its number was given, and stays so
  still-given : (c : Change) (s : State) → g < s.next_goroutine → g < (apply c s).next_goroutine
  still-given (Change.Spawn r) s below = omega (arith, below)
  still-given (Change.Requeue k m) s below = subst (λ n. g < n)
      (sym (same-requeue s k m (find k s.goroutines) (find m s.objects)).1) below
  still-given _ s below = below

  -- the new entry of the goroutine can be exchanged with changes of others
  pub changes-commute : (O F : ℕ → Type 0) (n : ℕ) (cs : List Change) (q : GoroutineView) (s : State)
      → q.mode ≡ Mode.Running → g < s.next_goroutine → Sound O (Other g) F n cs
      → apply_all cs (become g q s) ≡ become g q (apply_all cs s)
  changes-commute O F n [] q s goes below a = refl
  changes-commute O F n (c ∷ cs) q s goes below a =
      ap (apply_all cs) (local-changes-commute c g q s goes (not-of O F c a.0) (λ e. omega (arith, below, e)))
      ∙ changes-commute (objects_after c O n) (finalisable_after c F) (last_after c n) cs q (apply c s) goes
      (still-given c s below) a.1

  -- its entry stays
  pub entry-kept : (O F : ℕ → Type 0) (n : ℕ) (cs : List Change) (r : GoroutineView) (s : State)
      → find g s.goroutines ≡ Some r → r.mode ≡ Mode.Running → Sound O (Other g) F n cs
      → find g (apply_all cs s).goroutines ≡ Some r
  entry-kept O F n [] r s found on a = found
  entry-kept O F n (c ∷ cs) r s found on a =
      entry-kept (objects_after c O n) (finalisable_after c F) (last_after c n) cs r (apply c s)
      (entry-stays O F c s r found on a.0) on a.1
