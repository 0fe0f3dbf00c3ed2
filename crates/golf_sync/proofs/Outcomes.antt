-- What the changes of package sync come to.
-- For: `outcome_of`, `has_block` (golf_state/specs/Outcomes.antt) and the calls of this crate
-- By: induction over the list of waiters; otherwise cases
use Rattle.std.proofs.Common.{◌≡◌, ℕ, true, false, List, [], ◌∷◌, ◌++◌, Option, Some, None, nat_lt, refl}
use Rattle.golf_data.specs.declared.goroutine.Side.{Side}
use Rattle.golf_data.specs.declared.goroutine.Wait.{Wait}
use Rattle.golf_data.specs.declared.goroutine.WaitKind.{WaitKind}
use Rattle.golf_model.specs.Views.{FrameView, GoroutineView}
use Rattle.golf_model.specs.Actors.{Actor, blocks, choose}
use Rattle.golf_model.specs.Waiters.{Waiter, first, waiter_ticket}
use Rattle.golf_model.specs.Mutexes.{hands_over}
use Rattle.golf_model.specs.ReadersWriters.{to_readers, to_writer, serves_first, serves}
use Rattle.golf_model.specs.Conditions.{requeues}
use Rattle.golf_state.specs.Outcomes.{has_block, outcome_of}
use Rattle.golf_state.specs.declared.outcome.Outcome.{Outcome}

pub passes-free : (m : ℕ) (ws : List Waiter) → has_block (requeues m ws) ≡ false
passes-free m [] = refl
passes-free m (w ∷ ws) = passes-free m ws

pub hands-free : (o : ℕ) (m : Option Waiter) → has_block (hands_over o m) ≡ false
hands-free o None = refl
hands-free o (Some w) = refl

pub serves-free : (o : ℕ) (gs : List (ℕ × GoroutineView)) → has_block (serves o gs) ≡ false
serves-free o gs = free (first o Side.Write gs) (first o Side.Read gs)
  where
    free : (w r : Option Waiter) → has_block (serves_first o gs w r) ≡ false
    free None r = refl
    free (Some w) None = refl
    free (Some w) (Some r) = elim (nat_lt (waiter_ticket r) (waiter_ticket w)) as (λ b. has_block
        (choose b (to_readers o (Some (waiter_ticket w)) gs) (to_writer o w)) ≡ false) [ true ↦ refl | false ↦ refl ]

-- a mutex is handed over, and then the goroutine blocks
pub blocks-behind : (o : ℕ) (m : Option Waiter) (a : Actor) (f : FrameView) (kind : WaitKind) (waits : List Wait)
    → outcome_of (hands_over o m ++ blocks a f kind waits) ≡ Outcome.Blocked
blocks-behind o None a f kind waits = refl
blocks-behind o (Some w) a f kind waits = refl
