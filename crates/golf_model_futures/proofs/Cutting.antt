-- A change of a state that is cut down is that change cut down.
-- For: `cut`, golf_model/specs/Collections.antt; `KeepsFresh`, specs/CutStates.antt
-- By: cases of the change, then induction over the list of changes
use Rattle.std.proofs.Common.{◌≡◌, ℕ, ◌+◌, ◌<◌, ◌≤◌, Bool, true, false, not, List, [], ◌∷◌, Option, Some, None, refl}
use Rattle.std.proofs.Common.{sym, ap, ◌∙◌, arith, ◌==◌}
use Rattle.golf_theory.specs.Maps.{find, only}
use Rattle.golf_theory.proofs.MapCuts.{only-put, only-add, only-swap, only-map_values}
use Rattle.golf_theory.proofs.MapFinds.{find-only}
use Rattle.golf_model_futures.specs.CutStates.{KeepsFresh}
use Rattle.golf_data.specs.declared.value.Object.{Object}
use Rattle.golf_data.specs.declared.goroutine.Mode.{Mode}
use Rattle.golf_model.specs.Views.{GoroutineView}
use Rattle.golf_model.specs.State.{State}
use Rattle.golf_model.specs.Wakes.{woken_by, released}
use Rattle.golf_model.specs.Changes.{Change, apply, apply_all, make, spawn, moved, requeue, requeue_at, requeue_by}
use Rattle.golf_model.specs.Collections.{cut}
use Rattle.golf_model_futures.specs.Invariant.{Good, Sound, last_after, finalisable_after}
use Rattle.golf_model_futures.proofs.Changing.{fresh-after, rest-sound}

-- two states that differ in objects and goroutines alone
pub parts : (t : State) (os ps : List (ℕ × Object)) (gs hs : List (ℕ × GoroutineView)) → os ≡ ps → gs ≡ hs
    → ◌≡◌ {A = State} (record t { objects = os; goroutines = gs }) (record t { objects = ps; goroutines = hs })
parts t os ps gs hs a b = λ i. record t { objects = a i; goroutines = b i }

module _ (stays kept : ℕ → Bool) where
  abbrev pub Kept : ℕ → Type 0
  Kept o = kept o ≡ true

  abbrev pub Stays : ℕ → Type 0
  Stays g = stays g ≡ true

  cut-requeue_by : (s : State) (g m : ℕ) (locked : Bool) (r : GoroutineView)
      → requeue_by locked g m r (cut stays kept s) ≡ cut stays kept (requeue_by locked g m r s)
  cut-requeue_by s g m false r = parts s _ _ _ _ (sym (only-put kept m (Object.Mutex true) s.objects))
      (sym (only-put stays g (released r) s.goroutines))
  cut-requeue_by s g m true r =
      let q : GoroutineView = record r { mode = moved m s.next_ticket r.mode } in
      parts (record s { next_ticket = s.next_ticket + 1 }) _ _ _ _ refl (sym (only-put stays g q s.goroutines))

  cut-requeue_at : (s : State) (g m : ℕ) (x : Object) (r : GoroutineView)
      → requeue_at x g m r (cut stays kept s) ≡ cut stays kept (requeue_at x g m r s)
  cut-requeue_at s g m (Object.Mutex locked) r = cut-requeue_by s g m locked r
  cut-requeue_at s g m _ r = refl

  cut-requeue : (s : State) (g m : ℕ) (r : Option GoroutineView) (x : Option Object)
      → requeue g m r x (cut stays kept s) ≡ cut stays kept (requeue g m r x s)
  cut-requeue s g m None x = refl
  cut-requeue s g m (Some r) None = refl
  cut-requeue s g m (Some r) (Some x) = cut-requeue_at s g m x r

  -- once for each kind of change
  pub cut_change : (F : ℕ → Type 0) (s : State) (c : Change) → KeepsFresh stays kept s → Good Kept Stays F c
      → apply c (cut stays kept s) ≡ cut stays kept (apply c s)
  cut_change F s (Change.Make x) f a = parts (make x s) _ _ _ _
      (sym (only-add kept (s.last_object + 1) x s.objects (f.objects (s.last_object + 1) (omega arith)))) refl
  cut_change F s (Change.Replace p x) f a = parts s _ _ _ _ (sym (only-put kept p x s.objects)) refl
  cut_change F s (Change.Become g r) f a = parts s _ _ _ _ refl (sym (only-put stays g r s.goroutines))
  cut_change F s (Change.Block g kind line waits r) f a =
      let q : GoroutineView = record r { mode = Mode.Blocked kind line waits s.next_ticket } in
      parts (record s { next_ticket = s.next_ticket + 1 }) _ _ _ _ refl (sym (only-put stays g q s.goroutines))
  cut_change F s (Change.Spawn r) f a = parts (spawn r s) _ _ _ _ refl
      (sym (only-add stays s.next_goroutine r s.goroutines (f.goroutines s.next_goroutine (omega arith))))
  cut_change F s (Change.Leave g) f a = parts s _ _ _ _ refl (only-swap (λ h. not (h == g)) stays s.goroutines)
  cut_change F s (Change.WakeAll o how) f a =
      parts s _ _ _ _ refl (sym (only-map_values (λ g. woken_by how o) stays s.goroutines))
  cut_change F s (Change.Requeue g m) f a =
      ap (λ (r : Option GoroutineView). requeue g m r (find m (only kept s.objects)) (cut stays kept s))
      (find-only stays s.goroutines g a.0)
      ∙ ap (λ (x : Option Object). requeue g m (find g s.goroutines) x (cut stays kept s))
      (find-only kept s.objects m a.1)
      ∙ cut-requeue s g m (find g s.goroutines) (find m s.objects)
  cut_change F s _ f a = refl

-- numbers are given in rising order
grows-by : (s : State) (g m : ℕ) (locked : Bool) (r : GoroutineView)
    → (s.last_object ≤ (requeue_by locked g m r s).last_object)
    × (s.next_goroutine ≤ (requeue_by locked g m r s).next_goroutine)
grows-by s g m true r = (omega arith, omega arith)
grows-by s g m false r = (omega arith, omega arith)

grows-at : (s : State) (g m : ℕ) (x : Object) (r : GoroutineView) → (s.last_object ≤ (requeue_at x g m r s).last_object)
    × (s.next_goroutine ≤ (requeue_at x g m r s).next_goroutine)
grows-at s g m (Object.Mutex locked) r = grows-by s g m locked r
grows-at s g m _ r = (omega arith, omega arith)

grows-requeue : (s : State) (g m : ℕ) (r : Option GoroutineView) (x : Option Object)
    → (s.last_object ≤ (requeue g m r x s).last_object) × (s.next_goroutine ≤ (requeue g m r x s).next_goroutine)
grows-requeue s g m None x = (omega arith, omega arith)
grows-requeue s g m (Some r) None = (omega arith, omega arith)
grows-requeue s g m (Some r) (Some x) = grows-at s g m x r

pub grows : (s : State) (c : Change) → (s.last_object ≤ (apply c s).last_object)
    × (s.next_goroutine ≤ (apply c s).next_goroutine)
grows s (Change.Requeue g m) = grows-requeue s g m (find g s.goroutines) (find m s.objects)
grows s _ = (omega arith, omega arith)

module _ (stays kept : ℕ → Bool) where
  pub keeps_fresh : (s : State) (c : Change) → KeepsFresh stays kept s → KeepsFresh stays kept (apply c s)
  keeps_fresh s c f = record {
    objects = λ o l. f.objects o (let h = (grows s c).0 in omega arith);
    goroutines = λ g l. f.goroutines g (let h = (grows s c).1 in omega arith);
  }

  pub keeps_fresh-all : (cs : List Change) (s : State) → KeepsFresh stays kept s
      → KeepsFresh stays kept (apply_all cs s)
  keeps_fresh-all [] s f = f
  keeps_fresh-all (c ∷ cs) s f = keeps_fresh-all cs (apply c s) (keeps_fresh s c f)

  -- sound changes of the cut state are those changes cut
  pub cut_changes : (F : ℕ → Type 0) (n : ℕ) (cs : List Change) (s : State) → ((o : ℕ) → n < o → Kept stays kept o)
      → KeepsFresh stays kept s → Sound (Kept stays kept) (Stays stays kept) F n cs
      → apply_all cs (cut stays kept s) ≡ cut stays kept (apply_all cs s)
  cut_changes F n [] s h f a = refl
  cut_changes F n (c ∷ cs) s h f a =
      ap (apply_all cs) (cut_change stays kept F s c f a.0)
      ∙ cut_changes (finalisable_after c F) (last_after c n) cs (apply c s)
      (fresh-after (Kept stays kept) (Stays stays kept) n c h) (keeps_fresh s c f)
      (rest-sound (Kept stays kept) (Stays stays kept) F n c cs h a.1)
