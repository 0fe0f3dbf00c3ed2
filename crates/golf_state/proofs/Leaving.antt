-- Goroutines that leave their queues, and those that a collection leaves there.
-- For: `leave_queues` (src/waiters.rt) and `retain_goroutines` (src/state.rt)
-- By: induction over the list of entries with their flags; otherwise cases of the goroutine's mode
use Rattle.std.proofs.Common.{◌≡◌, ℕ, ◌+◌, Bool, true, false, cond, List, [], ◌∷◌, Option, Some, None, inl, inr, refl}
use Rattle.std.proofs.Common.{sym, subst}
use Rattle.golf_data.specs.declared.goroutine.Mode.{Mode}
use Rattle.golf_data.specs.declared.goroutine.Wait.{Wait}
use Rattle.golf_data.specs.declared.goroutine.WaitKind.{WaitKind}
use Rattle.golf_theory.specs.Maps.{Entry, keys}
use Rattle.golf_theory.specs.Membership.{is_in}
use Rattle.golf_theory.proofs.MapEntries.{In-keys}
use Rattle.golf_theory.proofs.Tests.{is_in-from}
use Rattle.golf_theory.specs.Flags.{kept}
use Rattle.golf_model.specs.Views.{GoroutineView}
use Rattle.golf_model.specs.Waiters.{ticket_of, waits_of}
use Rattle.golf_state_queues.specs.WaitQueues.{WaitQueues, listed, key, keys_of, leaves, TicketsBelow, IsWithout}
use Rattle.golf_state_queues.specs.WaitQueues.{KeepsWaiters}
use Rattle.golf_state_queues.proofs.Partings.{without-none, keeps-without, keeps-others}
use Rattle.golf_state.specs.Left.{leaves_in, leaves_where}
use Rattle.golf_state.specs.Enqueued.{AreEnqueued}

Entry-kept : {X : Type 0} (flags : List Bool) (es : List (ℕ × X)) (k : ℕ) (x : X) → Entry (kept flags es) k x
    → Entry es k x
Entry-kept [] es k x h = absurd h
Entry-kept (b ∷ bs) [] k x h = h
Entry-kept {X} (b ∷ bs) (e ∷ es) k x h =
    elim b as (λ c. Entry (cond c (e ∷ kept bs es) (kept bs es)) k x → Entry (e ∷ es) k x) [
      | true ↦ λ i. elim i [ inl d ↦ inl d | inr j ↦ inr (Entry-kept bs es k x j) ]
      | false ↦ λ i. inr (Entry-kept bs es k x i)
    ] h

-- those who are kept stand in the queue if the others are gone from it
pub enqueued-kept : (listed : Bool) (flags : List Bool) (es : List (ℕ × GoroutineView)) (old new : WaitQueues)
    (next : ℕ) → AreEnqueued listed es old next
    → KeepsWaiters (λ t h. is_in h (keys (kept flags es)) ≡ true) old new
    → ((n : ℕ) → TicketsBelow n old → TicketsBelow n new)
    → AreEnqueued listed (kept flags es) new next
enqueued-kept listed flags es old new next a others below = record {
  below = below (next + 1) a.below;
  early = λ g v h. a.early g v (Entry-kept flags es g v h);
  all = λ o side q g v w h e.
      others (key o side) (ticket_of v.mode) g (is_in-from g (keys (kept flags es)) (In-keys (kept flags es) g v h))
      (a.all o side q g v w (Entry-kept flags es g v h) e);
}

-- ---- who leaves

-- a blocked goroutine leaves the queues of its waits
pub left-blocked : {kind : WaitKind} {line ticket : ℕ} {waits : List Wait} (g : ℕ) (m : Mode) (seen : List Wait)
    (old new : WaitQueues) → m ≡ Mode.Blocked kind line waits ticket → seen ≡ waits
    → IsWithout (leaves ticket g (keys_of seen)) old new → IsWithout (leaves_in g m) old new
left-blocked {ticket = ticket} g m seen old new e s w =
    subst (λ (n : Mode). IsWithout (leaves_in g n) old new) (sym e)
    (subst (λ (ws : List Wait). IsWithout (leaves ticket g (keys_of ws)) old new) s w)

-- a running one stands in none
pub left-running : (g : ℕ) (m : Mode) (ls : WaitQueues) → m ≡ Mode.Running → IsWithout (leaves_in g m) ls ls
left-running g m ls e = subst (λ (n : Mode). IsWithout (leaves_in g n) ls ls) (sym e)
    (without-none (leaves_in g Mode.Running) ls (λ k h. refl))

-- ---- the others stand where they stood

pub others-stay : (g : ℕ) (m : Mode) (old new : WaitQueues) → IsWithout (leaves_in g m) old new
    → KeepsWaiters (λ t h. h ≡ g → ⊥) old new
others-stay g m old new w = keeps-others (ticket_of m) g (keys_of (waits_of m)) old new w

pub others-stay-where : (g : ℕ) (o : Option GoroutineView) (old new : WaitQueues) → IsWithout (leaves_where g o) old new
    → KeepsWaiters (λ t h. h ≡ g → ⊥) old new
others-stay-where g None old new w = keeps-without (λ t h. h ≡ g → ⊥) (leaves_where g None) old new (λ k t h n. refl) w
others-stay-where g (Some r) old new w = others-stay g r.mode old new w
