-- What a goroutine that runs becomes, and a change that is not its own, can be exchanged.
-- For: `local_changes_commute`, src/lib.rt; `IsOf`, specs/Local.antt
-- By: cases of the change; induction over the map of goroutines
use Rattle.std.proofs.Common.{◌≡◌, ℕ, ◌+◌, Bool, true, false, not, cond, List, [], ◌∷◌, Option, Some, None, refl, sym}
use Rattle.std.proofs.Common.{ap, ◌∙◌, ◌==◌}
use Rattle.std.proofs.lemmas.Bool.{ne_eqb}
use Rattle.golf_theory.specs.Maps.{find, put, add, map_values}
use Rattle.golf_theory.proofs.MapFinds.{find-put_other, put-swap}
use Rattle.golf_theory.proofs.MapCuts.{only-put, map_values-put}
use Rattle.golf_data.specs.declared.value.Object.{Object}
use Rattle.golf_data.specs.declared.goroutine.Mode.{Mode}
use Rattle.golf_data.specs.declared.goroutine.Side.{Side}
use Rattle.golf_data.specs.declared.goroutine.Wait.{Wait}
use Rattle.golf_model.specs.Views.{GoroutineView}
use Rattle.golf_model.specs.State.{State}
use Rattle.golf_model.specs.Waiters.{waits_of, ticket_of, wait_on, wait_for}
use Rattle.golf_model.specs.Wakes.{Waking, released, woken_by, closed_on, released_by, is_below}
use Rattle.golf_model.specs.Changes.{Change, become, apply, moved, requeue, requeue_at}
use Rattle.golf_explore_laws.specs.Local.{LocalChangesCommute}

-- ---- maps

module _ {X : Type 0} where
  add-put : (g n : ℕ) (v x : X) (es : List (ℕ × X)) → (g ≡ n → ⊥) → add n x (put g v es) ≡ put g v (add n x es)
  add-put g n v x [] d = ap (λ b. (n, cond b v x) ∷ []) (sym (ne_eqb g n d))
  add-put g n v x (e ∷ es) d = ap (λ (r : List (ℕ × X)). (e.0, cond (g == e.0) v e.1) ∷ r) (add-put g n v x es d)

-- ---- waking and requeueing

none-either : (b : Bool) → cond {A = Option Wait} b None None ≡ None
none-either true = refl
none-either false = refl

pub woken-runs : (how : Waking) (o : ℕ) (r : GoroutineView) → r.mode ≡ Mode.Running → woken_by how o r ≡ r
woken-runs (Waking.Closing zero) o r e = ap (λ m. closed_on zero (wait_on o (waits_of m)) r) e
woken-runs Waking.AtZero o r e = ap (λ m. released_by (wait_for o Side.Group (waits_of m)) r) e
woken-runs (Waking.ToReaders below) o r e =
    ap (λ m. released_by (cond (is_below below (ticket_of m)) (wait_for o Side.Read (waits_of m)) None) r) e
    ∙ ap (λ w. released_by w r) (none-either (is_below below (ticket_of Mode.Running)))

module _ (g : ℕ) (r : GoroutineView) where
  -- another goroutine becomes something
  other : (k : ℕ) (q : GoroutineView) (s : State) → (k ≡ g → ⊥) → become k q (become g r s) ≡ become g r (become k q s)
  other k q s n = ap (λ (gs : List (ℕ × GoroutineView)). record s { goroutines = gs })
      (put-swap k g q r s.goroutines n)

  passed-at : (x : Object) (k m : ℕ) (q : GoroutineView) (s : State) → (k ≡ g → ⊥)
      → requeue_at x k m q (become g r s) ≡ become g r (requeue_at x k m q s)
  passed-at (Object.Mutex false) k m q s n =
      ap (λ (t : State). apply (Change.Replace m (Object.Mutex true)) t) (other k (released q) s n)
  passed-at (Object.Mutex true) k m q s n =
      ap (λ (t : State). record t { next_ticket = s.next_ticket + 1 })
      (other k (record q { mode = moved m s.next_ticket q.mode }) s n)
  passed-at _ k m q s n = refl

  passed : (o : Option GoroutineView) (x : Option Object) (k m : ℕ) (s : State) → (k ≡ g → ⊥)
      → requeue k m o x (become g r s) ≡ become g r (requeue k m o x s)
  passed None x k m s n = refl
  passed (Some q) None k m s n = refl
  passed (Some q) (Some x) k m s n = passed-at x k m q s n

pub local-changes-commute : LocalChangesCommute
local-changes-commute (Change.Become k q) g r s runs n d = other g r k q s n
local-changes-commute (Change.Block k kind line waits q) g r s runs n d =
    ap (λ (t : State). record t { next_ticket = s.next_ticket + 1 })
    (other g r k (record q { mode = Mode.Blocked kind line waits s.next_ticket }) s n)
local-changes-commute (Change.Spawn q) g r s runs n d =
    ap (λ (gs : List (ℕ × GoroutineView)). record s { goroutines = gs; next_goroutine = s.next_goroutine + 1 })
    (add-put g s.next_goroutine r q s.goroutines d)
local-changes-commute (Change.Leave k) g r s runs n d =
    ap (λ (gs : List (ℕ × GoroutineView)). record s { goroutines = gs }) (only-put (λ h. not (h == k)) g r s.goroutines)
local-changes-commute (Change.WakeAll o how) g r s runs n d =
    ap (λ (gs : List (ℕ × GoroutineView)). record s { goroutines = gs })
    (map_values-put (λ h. woken_by how o) g r s.goroutines
    ∙ ap (λ q. put g q (map_values (λ h. woken_by how o) s.goroutines)) (woken-runs how o r runs))
local-changes-commute (Change.Requeue k m) g r s runs n d =
    ap (λ q. requeue k m q (find m s.objects) (become g r s)) (find-put_other g r s.goroutines k n)
    ∙ passed g r (find k s.goroutines) (find m s.objects) k m s n
local-changes-commute _ g r s runs n d = refl
