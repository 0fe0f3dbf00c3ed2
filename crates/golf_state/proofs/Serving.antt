-- A waiter that goes on while the goroutine in its turn does.
-- For: `handed_over` (golf_state/specs/MutexHandover.antt)
-- By: induction over the entries of the map for two that are put; otherwise cases of whether there is a waiter
use Rattle.std.proofs.Common.{◌≡◌, ℕ, true, false, not, List, Option, Some, None, refl, sym, ap}
use Rattle.std.proofs.Common.{◌∙◌}
use Rattle.std.specs.Prelude.{option_map, IfSome}
use Rattle.std.proofs.lemmas.Bool.{true≢false}
use Rattle.golf_data.specs.declared.goroutine.Mode.{Mode}
use Rattle.golf_data.specs.declared.goroutine.Wait.{Wait}
use Rattle.golf_data.specs.declared.goroutine.WaitKind.{WaitKind}
use Rattle.golf_theory.specs.Maps.{find, put}
use Rattle.golf_theory.proofs.MapFinds.{find-put_other, put-swap}
use Rattle.golf_model.specs.Views.{GoroutineView}
use Rattle.golf_model.specs.State.{State, is_running}
use Rattle.golf_model.specs.Waiters.{Waiter}
use Rattle.golf_model.specs.Changes.{apply_all, become, block}
use Rattle.golf_model.specs.Wakes.{released}
use Rattle.golf_model.specs.Mutexes.{hands_over}
use Rattle.golf_state.specs.declared.waiters.Waiting.{Waiting}
use Rattle.golf_state.specs.declared.frames.Wakening.{Wakening}
use Rattle.golf_state.specs.declared.frames.Wakening.TheVariants as k
use Rattle.golf_state.specs.Waited.{waiting_of}
use Rattle.golf_state.specs.Wakenings.{wakened}
use Rattle.golf_state.specs.Looked.{on_goroutine, looked_up, is_running_in, is_blocked_in, is_blocked}
use Rattle.golf_state.specs.ActorChanges.{Stands}
use Rattle.golf_state.specs.MutexHandover.{IsBlockedIn, is_blocked_where, handed_over}

-- the first waiter, from what was told of it
pub record IsServed (s : State) (m : Option Waiter) (x : Waiting) : Type 0 where
  pub waiter : Waiter
  pub is : m ≡ Some waiter
  pub told : x ≡ waiting_of waiter
  pub found : find waiter.number s.goroutines ≡ Some waiter.goroutine
  pub blocked : is_running waiter.goroutine.mode ≡ false

pub served-from : (s : State) (m : Option Waiter) (x : Waiting) → Some x ≡ option_map waiting_of m → IsBlockedIn s m
    → IsServed s m x
served-from s None x e b = cc
served-from s (Some w) x e b = record { waiter = w; is = refl; told = cc; found = b.0; blocked = b.1 }

pub served-none : (m : Option Waiter) → None ≡ option_map waiting_of m → m ≡ None
served-none None e = refl
served-none (Some w) e = cc

-- the goroutines of t are those of s, but for those whose turn it is
pub record Beside (s t : State) : Type 0 where
  pub others : (n : ℕ) (r : GoroutineView) → find n s.goroutines ≡ Some r → is_running r.mode ≡ false
      → find n t.goroutines ≡ Some r

pub beside-same : (s t : State) → t.goroutines ≡ s.goroutines → Beside s t
beside-same s t e = record { others = λ n r f b. ap (find n) e ∙ f }

module _ (g after : ℕ) (s : State) (st : Stands g after s) where
  -- one that is blocked is another
  pub apart : (n : ℕ) (r : GoroutineView) → find n s.goroutines ≡ Some r → is_running r.mode ≡ false → n ≡ g → ⊥
  apart n r f b e = true≢false (sym (ap is_running_in st.found) ∙ ap (λ k. is_running_in (find k s.goroutines)) (sym e)
      ∙ ap is_running_in f ∙ b)

  pub beside-put : (t : State) (v : GoroutineView) → t.goroutines ≡ put g v s.goroutines → Beside s t
  beside-put t v e = record {
    others = λ n r f b. ap (find n) e ∙ find-put_other g v s.goroutines n (apart n r f b)
        ∙ f;
  }

module _ (s : State) (m : Option Waiter) (x : Waiting) (w : IsServed s m x) (t : State) (b : Beside s t) where
  pub served-found : find w.waiter.number t.goroutines ≡ Some w.waiter.goroutine
  served-found = b.others w.waiter.number w.waiter.goroutine w.found w.blocked

  -- it can be woken
  pub served-blocked : is_blocked x.goroutine.0 t ≡ true
  served-blocked = ap (λ (y : Waiting). is_blocked y.goroutine.0 t) w.told ∙ ap is_blocked_in served-found
      ∙ ap not w.blocked

  -- and goes on
  pub served-woken : (how : Wakening) → looked_up x.goroutine.0 (λ r. become x.goroutine.0 (wakened how r)) t
      ≡ become w.waiter.number (wakened how w.waiter.goroutine) t
  served-woken how =
      ap (λ (y : Waiting). looked_up y.goroutine.0 (λ r. become y.goroutine.0 (wakened how r)) t) w.told
      ∙ ap (λ (o : Option GoroutineView). on_goroutine (λ r. become w.waiter.number (wakened how r)) o t) served-found

-- the first waiter, if there is one, is handed the mutex
pub handed-ready : (s : State) (m : Option Waiter) (x : Option Waiting) → x ≡ option_map waiting_of m → IsBlockedIn s m
    → (t : State) → Beside s t → is_blocked_where x t ≡ true
handed-ready s m None e i t b = refl
handed-ready s m (Some x) e i t b = served-blocked s m x (served-from s m x e i) t b

pub handed-is : (s : State) (m : Option Waiter) (x : Option Waiting) → x ≡ option_map waiting_of m → IsBlockedIn s m
    → (t : State) → Beside s t → (o : ℕ) → handed_over o x t ≡ apply_all (hands_over o m) t
handed-is s m None e i t b o = ap (λ (k : Option Waiter). apply_all (hands_over o k) t) (sym (served-none m e))
handed-is s m (Some x) e i t b o =
    let w = served-from s m x e i in
    served-woken s m x w t b k.Released ∙ ap (λ (k : Option Waiter). apply_all (hands_over o k) t) (sym w.is)

-- a goroutine that blocks, and a mutex that is handed over, in either order
pub handed-swap : (g : ℕ) (s : State) (kind : WaitKind) (line : ℕ) (waits : List Wait) (r : GoroutineView) (o : ℕ)
    (m : Option Waiter) → IfSome m (λ w. w.number ≡ g → ⊥)
    → apply_all (hands_over o m) (block g kind line waits r s) ≡ block g kind line waits r
    (apply_all (hands_over o m) s)
handed-swap g s kind line waits r o None n = refl
handed-swap g s kind line waits r o (Some w) n =
    ap (λ (es : List (ℕ × GoroutineView)). record (block g kind line waits r s) { goroutines = es })
    (put-swap w.number g (released w.goroutine)
    (record r { mode = Mode.Blocked kind line waits s.next_ticket }) s.goroutines n)

pub apart-some : (g after : ℕ) (s : State) → Stands g after s → (m : Option Waiter) → IsBlockedIn s m
    → IfSome m (λ w. w.number ≡ g → ⊥)
apart-some g after s st None i = tt
apart-some g after s st (Some w) i = apart g after s st w.number w.goroutine i.0 i.1
