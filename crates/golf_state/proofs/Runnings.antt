-- Who still runs, and who is still blocked, once others have changed.
-- For: `runs`, `is_blocked` (golf_state/specs/Looked.antt) and `proceed` (src/outcome.rt)
-- By: cases of the goroutine's mode and of whose number it is; no induction
use Rattle.std.proofs.Common.{◌≡◌, ℕ, true, false, List, Option, Some, None, ◌==◌, refl, sym, ap, ◌∙◌, subst, inl, inr}
use Rattle.std.specs.Prelude.{IfSome}
use Rattle.std.proofs.lemmas.Bool.{eqb-true, eqb-false, true≢false}
use Rattle.golf_data.specs.declared.value.Value.{Value}
use Rattle.golf_data.specs.declared.value.Object.{Object}
use Rattle.golf_data.specs.declared.goroutine.Mode.{Mode}
use Rattle.golf_data.specs.declared.goroutine.Side.{Side}
use Rattle.golf_data.specs.declared.goroutine.Wait.{Wait}
use Rattle.golf_data.specs.declared.goroutine.WaitKind.{WaitKind}
use Rattle.golf_theory.specs.Maps.{find, put}
use Rattle.golf_theory.proofs.MapFinds.{cases_find, find-put, find-put_other, find-map_values}
use Rattle.golf_model.specs.Views.{FrameView, GoroutineView}
use Rattle.golf_model.specs.State.{State, is_running}
use Rattle.golf_model.specs.Waiters.{Waiter, waits_of, wait_on, wait_for}
use Rattle.golf_model.specs.Wakes.{Waking, woken_by, closed_on, closed_for, released_by, reads_next, released}
use Rattle.golf_model.specs.Changes.{apply_all, become, block, move_wait, moved, requeue, requeue_at, wake_all}
use Rattle.golf_model.specs.Mutexes.{hands_over}
use Rattle.golf_state.specs.declared.frames.Wakening.{Wakening}
use Rattle.golf_state.specs.declared.waiters.Waiting.{Waiting}
use Rattle.golf_state.specs.declared.frames.Wakening.TheVariants as k
use Rattle.golf_state.specs.Wakenings.{wakened}
use Rattle.golf_state.specs.Looked.{on_goroutine, looked_up, reframed, advanced, runs, is_running_in, is_blocked}
use Rattle.golf_state.specs.Looked.{is_blocked_in}
use Rattle.golf_state.specs.MutexHandover.{handed_over}
use Rattle.golf_state.proofs.Readiness.{wakened-runs}

pub found-running : (g : ℕ) (s : State) → runs g s ≡ true → (r : GoroutineView) × (find g s.goroutines ≡ Some r)
    × (is_running r.mode ≡ true)
found-running g s h =
    elim (cases_find g s.goroutines) [
      | inl e ↦ absurd (true≢false (sym h ∙ ap is_running_in e))
      | inr r ↦ (r.0, r.1, sym (ap is_running_in r.1) ∙ h)
    ]

-- it runs with other frames
pub runs-reframed : (g : ℕ) (fs : List FrameView) (s : State) → runs g s ≡ true → runs g (reframed g fs s) ≡ true
runs-reframed g fs s h =
    let f = found-running g s h in
    ap (λ (o : Option GoroutineView). runs g (on_goroutine (λ r. become g (record r { frames = fs })) o s)) f.1
    ∙ ap is_running_in (find-put g (record f.0 { frames = fs }) s.goroutines f.0 f.1)
    ∙ f.2

-- it blocks
pub blocks-there : (g : ℕ) (kind : WaitKind) (line : ℕ) (waits : List Wait) (after taken : ℕ) (s : State)
    → runs g s ≡ true → is_blocked g (looked_up g (λ r. block g kind line waits (advanced after taken r)) s) ≡ true
blocks-there g kind line waits after taken s h =
    let f = found-running g s h in
    let r = advanced after taken f.0 in
    ap (λ (o : Option GoroutineView). is_blocked g
    (on_goroutine (λ r. block g kind line waits (advanced after taken r)) o s)) f.1
    ∙ ap is_blocked_in (find-put g (record r { mode = Mode.Blocked kind line waits s.next_ticket }) s.goroutines f.0
    f.1)

-- one that runs becomes another
pub runs-become : (g x : ℕ) (r : GoroutineView) (s : State) → is_running r.mode ≡ true → runs g s ≡ true
    → runs g (become x r s) ≡ true
runs-become g x r s k h =
    let f = found-running g s h in
    elim (g == x) as (λ b. g == x ≡ b → is_running_in (find g (put x r s.goroutines)) ≡ true) [
      | true ↦ λ t. subst (λ y. is_running_in (find g (put y r s.goroutines)) ≡ true) (eqb-true g x t)
          (ap is_running_in (find-put g r s.goroutines f.0 f.1) ∙ k)
      | false ↦ λ t. ap is_running_in (find-put_other x r s.goroutines g (eqb-false g x t)) ∙ h
    ] refl

pub runs-woken : (g x : ℕ) (how : Wakening) (s : State) → runs g s ≡ true
    → runs g (looked_up x (λ r. become x (wakened how r)) s) ≡ true
runs-woken g x how s h =
    elim (find x s.goroutines) as (λ (o : Option GoroutineView). runs g
    (on_goroutine (λ r. become x (wakened how r)) o s) ≡ true) [
      | None ↦ h
      | Some r ↦ runs-become g x (wakened how r) s (wakened-runs how r) h
    ]

pub runs-handed : (g o : ℕ) (m : Option Waiting) (s : State) → runs g s ≡ true → runs g (handed_over o m s) ≡ true
runs-handed g o None s h = h
runs-handed g o (Some x) s h = runs-woken g x.goroutine.0 k.Released s h

closed-for-runs : (zero : Value) (w : Wait) (side : Side) (r : GoroutineView) → is_running r.mode ≡ true
    → is_running (closed_for zero w side r).mode ≡ true
closed-for-runs zero w Side.Receive r h = refl
closed-for-runs zero w Side.Send r h = refl
closed-for-runs zero w Side.Lock r h = h
closed-for-runs zero w Side.Group r h = h
closed-for-runs zero w Side.Read r h = h
closed-for-runs zero w Side.Write r h = h
closed-for-runs zero w Side.Cond r h = h

closed-on-runs : (zero : Value) (m : Option Wait) (r : GoroutineView) → is_running r.mode ≡ true
    → is_running (closed_on zero m r).mode ≡ true
closed-on-runs zero None r h = h
closed-on-runs zero (Some w) r h = closed-for-runs zero w w.side r h

released-by-runs : (m : Option Wait) (r : GoroutineView) → is_running r.mode ≡ true
    → is_running (released_by m r).mode ≡ true
released-by-runs None r h = h
released-by-runs (Some w) r h = refl

woken-by-runs : (how : Waking) (o : ℕ) (r : GoroutineView) → is_running r.mode ≡ true
    → is_running (woken_by how o r).mode ≡ true
woken-by-runs (Waking.Closing zero) o r h = closed-on-runs zero (wait_on o (waits_of r.mode)) r h
woken-by-runs Waking.AtZero o r h = released-by-runs (wait_for o Side.Group (waits_of r.mode)) r h
woken-by-runs (Waking.ToReaders below) o r h = released-by-runs (reads_next below o r) r h

pub runs-all : (g o : ℕ) (how : Waking) (s : State) → runs g s ≡ true → runs g (wake_all o how s) ≡ true
runs-all g o how s h =
    let f = found-running g s h in
    ap is_running_in (find-map_values (λ g. woken_by how o) s.goroutines g f.0 f.1) ∙ woken-by-runs how o f.0 f.2

moved-runs : (m ticket : ℕ) (mode : Mode) → is_running mode ≡ true → is_running (moved m ticket mode) ≡ true
moved-runs m ticket Mode.Running h = refl
moved-runs m ticket (Mode.Blocked kind line waits old) h = absurd (true≢false (sym h))

runs-moved : (g x m : ℕ) (r : GoroutineView) (s : State) → find x s.goroutines ≡ Some r → runs g s ≡ true
    → runs g (move_wait x m r s) ≡ true
runs-moved g x m r s e h =
    let v = record r { mode = moved m s.next_ticket r.mode } in
    elim (g == x) as (λ b. g == x ≡ b → is_running_in (find g (put x v s.goroutines)) ≡ true) [
      | true ↦ λ t.
          let same = eqb-true g x t in
          let running = sym (ap is_running_in e) ∙ ap (λ y. runs y s) (sym same) ∙ h in
          ap (λ y. is_running_in (find y (put x v s.goroutines))) same
          ∙ ap is_running_in (find-put x v s.goroutines r e) ∙ moved-runs m s.next_ticket r.mode running
      | false ↦ λ t. ap is_running_in (find-put_other x v s.goroutines g (eqb-false g x t)) ∙ h
    ] refl

passed-at : (x : Object) (g h m : ℕ) (r : GoroutineView) (s : State) → find h s.goroutines ≡ Some r → runs g s ≡ true
    → runs g (requeue_at x h m r s) ≡ true
passed-at (Object.Struct fields) g h m r s e k = k
passed-at (Object.Slice elements) g h m r s e k = k
passed-at (Object.Chan c) g h m r s e k = k
passed-at (Object.Mutex true) g h m r s e k = runs-moved g h m r s e k
passed-at (Object.Mutex false) g h m r s e k = runs-become g h (released r) s refl k
passed-at (Object.Group n) g h m r s e k = k
passed-at (Object.Rw n) g h m r s e k = k
passed-at (Object.Cond v) g h m r s e k = k

pub runs-passed : (g h m : ℕ) (s : State) → runs g s ≡ true
    → runs g (requeue h m (find h s.goroutines) (find m s.objects) s) ≡ true
runs-passed g h m s k =
    elim (find h s.goroutines) as (λ (o : Option GoroutineView). find h s.goroutines ≡ o
    → runs g (requeue h m o (find m s.objects) s) ≡ true) [
      | None ↦ λ e. k
      | Some r ↦ λ e. elim (find m s.objects) as (λ (x : Option Object). runs g (requeue h m (Some r) x s)
          ≡ true) [ None ↦ k | Some x ↦ passed-at x g h m r s e k ]
    ] refl

-- one that is blocked stays so while another one is handed a mutex
pub blocked-handed : (g o : ℕ) (m : Option Waiter) (s : State) → IfSome m (λ w. w.number ≡ g → ⊥)
    → is_blocked g s ≡ true → is_blocked g (apply_all (hands_over o m) s) ≡ true
blocked-handed g o None s n h = h
blocked-handed g o (Some w) s n h = ap is_blocked_in
    (find-put_other w.number (released w.goroutine) s.goroutines g (λ e. n (sym e))) ∙ h
