-- Who gets a reader and writer mutex, once the goroutine in its turn has gone on.
-- For: `write_unlock_at` and `read_unlock_at`, src/readers_writers.rt; `next_in`, specs/Served.antt
-- By: cases of who waits first, a reader or a writer; no induction
use Rattle.std.proofs.Common.{◌≡◌, ℕ, true, false, cond, [], Option, Some, None, refl, ap, ◌∙◌}
use Rattle.std.specs.Prelude.{nat_lt, negsuc}
use Rattle.golf_data.specs.declared.goroutine.Side.{Side}
use Rattle.golf_data.specs.declared.value.Object.{Object}
use Rattle.golf_model.specs.State.{State}
use Rattle.golf_model.specs.Waiters.{Waiter, waiter_ticket, first}
use Rattle.golf_model.specs.Changes.{apply_all, replace}
use Rattle.golf_model.specs.Wakes.{Waking}
use Rattle.golf_model.specs.Actors.{choose, stands}
use Rattle.golf_model.specs.ReadersWriters.{to_readers, to_writer, serves_first}
use Rattle.golf_state.specs.MutexHandover.{IsBlockedIn}
use Rattle.golf_state.specs.Waited.{waiting_of}
use Rattle.golf_state.specs.declared.frames.Wakening.TheVariants as k
use Rattle.golf_state.specs.ActorChanges.{does, Stands}
use Rattle.golf_state.specs.FrameChanges.{went}
use Rattle.golf_state.specs.Looked.{runs}
use Rattle.golf_state.proofs.Runnings.{runs-woken, runs-all}
use Rattle.golf_state.proofs.Serving.{Beside, IsServed, beside-put, served-blocked, served-woken}
use Rattle.golf_sync.specs.Served.{next_in, served_by, is_ready_for, readers_of}
use Rattle.golf_sync.specs.declared.readers_writers.Served.{Served}
use Rattle.golf_sync.proofs.Notices.{gone-on}

module _ (o : ℕ) (s t : State) (b : Beside s t) where
  abbrev as-served : (w : Waiter) → IsBlockedIn s (Some w) → IsServed s (Some w) (waiting_of w)
  as-served w i = record { waiter = w; is = refl; told = refl; found = i.0; blocked = i.1 }

  writer-is : (w : Waiter) → IsBlockedIn s (Some w)
      → served_by o (Served.Writer (waiting_of w)) t ≡ apply_all (to_writer o w) t
  writer-is w i = served-woken s (Some w) (waiting_of w) (as-served w i) (replace o (Object.Rw (negsuc 0)) t)
      (record { others = b.others }) k.Released

  pub serves-is : (m r : Option Waiter) → IsBlockedIn s m
      → served_by o (next_in o s.goroutines m r) t ≡ apply_all (serves_first o s.goroutines m r) t
  serves-is None r i = refl
  serves-is (Some w) None i = writer-is w i
  serves-is (Some w) (Some v) i =
      elim (nat_lt (waiter_ticket v) (waiter_ticket w)) as (λ c. served_by o
      (cond c (readers_of o (Some (waiter_ticket w)) s.goroutines) (Served.Writer (waiting_of w))) t ≡ apply_all
      (choose c (to_readers o (Some (waiter_ticket w)) s.goroutines) (to_writer o w)) t) [
        | true ↦ refl
        | false ↦ writer-is w i
      ]

  writer-ready : (w : Waiter) → IsBlockedIn s (Some w) → is_ready_for (Served.Writer (waiting_of w)) t ≡ true
  writer-ready w i = served-blocked s (Some w) (waiting_of w) (as-served w i) t b

  pub serves-ready : (m r : Option Waiter) → IsBlockedIn s m → is_ready_for (next_in o s.goroutines m r) t ≡ true
  serves-ready None r i = refl
  serves-ready (Some w) None i = writer-ready w i
  serves-ready (Some w) (Some v) i =
      elim (nat_lt (waiter_ticket v) (waiter_ticket w)) as (λ c. is_ready_for
      (cond c (readers_of o (Some (waiter_ticket w)) s.goroutines) (Served.Writer (waiting_of w))) t ≡ true) [
        | true ↦ refl
        | false ↦ writer-ready w i
      ]

-- the goroutine in its turn has gone on, and then whoever waits first is served
module _ (g after o line : ℕ) (s t : State) (x : Served) (st : Stands g after s)
    (is : t ≡ does (λ a. stands a (went after 1 [] a.frame)) g line s)
    (next : x ≡ next_in o s.goroutines (first o Side.Write s.goroutines) (first o Side.Read s.goroutines))
    (blocked : IsBlockedIn s (first o Side.Write s.goroutines)) where
  beside : Beside s t
  beside = beside-put g after s st t _ (ap (λ (u : State). u.goroutines) (gone-on g after line s t st is))

  pub next-ready : is_ready_for x t ≡ true
  next-ready = ap (λ (y : Served). is_ready_for y t) next
      ∙ serves-ready o s t beside (first o Side.Write s.goroutines) (first o Side.Read s.goroutines) blocked

  pub next-is : served_by o x t ≡ apply_all
      (serves_first o s.goroutines (first o Side.Write s.goroutines) (first o Side.Read s.goroutines)) t
  next-is = ap (λ (y : Served). served_by o y t) next
      ∙ serves-is o s t beside (first o Side.Write s.goroutines) (first o Side.Read s.goroutines) blocked

-- who runs still does once they have it
pub served-runs : (g o : ℕ) (x : Served) (s : State) → runs g s ≡ true → runs g (served_by o x s) ≡ true
served-runs g o (Served.Readers count below) s h =
    runs-all g o (Waking.ToReaders below) (replace o (Object.Rw count) s) h
served-runs g o (Served.Writer w) s h = runs-woken g w.goroutine.0 k.Released (replace o (Object.Rw (negsuc 0)) s) h
