-- Queues of which those alone are left in which someone stands.
-- For: `drop_empty`, src/queues.rt; `standing`, specs/WaitQueues.antt
-- By: induction over the list of queues
use Rattle.std.proofs.Common.{◌≡◌, ℕ, suc, true, false, cond, List, [], ◌∷◌, filter, Option, Some, ◌==◌, refl, sym, ap}
use Rattle.std.proofs.Common.{◌∙◌, subst, arith}
use Rattle.std.proofs.lemmas.Bool.{eqb-true, true≢false}
use Rattle.golf_theory.specs.Maps.{Entry, find, Rises, AllBelow}
use Rattle.golf_theory.proofs.MapFinds.{find_below}
use Rattle.golf_theory.proofs.MapOrder.{Rises-less}
use Rattle.golf_state_queues.specs.WaitQueues.{WaitQueues, IsInOrder, AllRise, key, held, wait_queues_of, wait_queue_in}
use Rattle.golf_state_queues.specs.WaitQueues.{wait_queue_at, has_anyone, standing, TicketsBelow, KeepsWaiters}
use Rattle.golf_state_queues.specs.declared.queues.Queue.{Queue}

someone : (es : List (ℕ × ℕ)) (t g : ℕ) → Entry es t g → has_anyone es ≡ true
someone [] t g h = absurd h
someone (e ∷ es) t g h = refl

-- a queue in which someone stands is as it was
holders-standing : (k t g : ℕ) (ls : WaitQueues) → Entry (wait_queue_at k ls) t g
    → wait_queue_at k (standing ls) ≡ wait_queue_at k ls
holders-standing k t g [] h = refl
holders-standing k t g (e ∷ ls) h =
    elim (has_anyone e.1) as (λ x. has_anyone e.1 ≡ x
    → wait_queue_in (find k (cond x (e ∷ standing ls) (standing ls))) ≡ wait_queue_in
    (cond (k == e.0) (Some e.1) (find k ls))) [
      | true ↦ λ q. elim (k == e.0) as (λ b. Entry (wait_queue_in (cond b (Some e.1) (find k ls))) t g
          → wait_queue_in (cond b (Some e.1) (find k (standing ls))) ≡ wait_queue_in (cond b (Some e.1) (find k ls))) [
            | true ↦ λ i. refl
            | false ↦ λ i. holders-standing k t g ls i
          ] h
      | false ↦ λ q. elim (k == e.0) as (λ b. Entry (wait_queue_in (cond b (Some e.1) (find k ls))) t g
          → wait_queue_in (find k (standing ls)) ≡ wait_queue_in (cond b (Some e.1) (find k ls))) [
            | true ↦ λ i. absurd (true≢false (sym (someone e.1 t g i) ∙ q))
            | false ↦ λ i. holders-standing k t g ls i
          ] h
    ] refl

pub keeps-standing : (ls : WaitQueues) → KeepsWaiters (λ t g. Unit {0}) ls (standing ls)
keeps-standing ls = λ k t g u i. subst (λ (es : List (ℕ × ℕ)). Entry es t g) (sym (holders-standing k t g ls i)) i

Rises-standing : (j : ℕ) (ls : WaitQueues) → Rises j ls → Rises j (standing ls)
Rises-standing j [] r = tt
Rises-standing j (e ∷ ls) r =
    elim (has_anyone e.1) as (λ x. Rises j (cond x (e ∷ standing ls) (standing ls))) [
      | true ↦ (r.0, Rises-standing (suc e.0) ls r.1)
      | false ↦ Rises-less j (suc e.0) (standing ls) (omega (arith, r.0)) (Rises-standing (suc e.0) ls r.1)
    ]

AllRise-standing : (ls : WaitQueues) → AllRise ls → AllRise (standing ls)
AllRise-standing [] a = tt
AllRise-standing (e ∷ ls) a =
    elim (has_anyone e.1) as (λ x. AllRise (cond x (e ∷ standing ls) (standing ls))) [
      | true ↦ (a.0, AllRise-standing ls a.1)
      | false ↦ AllRise-standing ls a.1
    ]

pub order-standing : (ls : WaitQueues) → IsInOrder ls → IsInOrder (standing ls)
order-standing ls o = record { keys = Rises-standing 0 ls o.keys; queues = AllRise-standing ls o.queues }

holders-below : (n k j : ℕ) (ls : WaitQueues) → Rises j ls → AllBelow n (wait_queue_at k ls)
    → AllBelow n (wait_queue_at k (standing ls))
holders-below n k j [] r b = b
holders-below n k j (e ∷ ls) r b =
    elim (has_anyone e.1) as (λ x. AllBelow n (wait_queue_in (find k (cond x (e ∷ standing ls) (standing ls))))) [
      | true ↦ elim (k == e.0) as (λ c. AllBelow n (wait_queue_in (cond c (Some e.1) (find k ls)))
          → AllBelow n (wait_queue_in (cond c (Some e.1) (find k (standing ls))))) [
            | true ↦ λ i. i
            | false ↦ λ i. holders-below n k (suc e.0) ls r.1 i
          ] b
      | false ↦ elim (k == e.0) as (λ c. k == e.0 ≡ c → AllBelow n (wait_queue_in (cond c (Some e.1) (find k ls)))
          → AllBelow n (wait_queue_in (find k (standing ls)))) [
            | true ↦ λ q i.
                let same = eqb-true k e.0 q in
                subst (λ (o : Option (List (ℕ × ℕ))). AllBelow n (wait_queue_in o))
                (sym (find_below k (suc e.0) (standing ls) (omega (arith, same)) (Rises-standing (suc e.0) ls r.1))) tt
            | false ↦ λ q i. holders-below n k (suc e.0) ls r.1 i
          ] refl b
    ]

pub below-standing : (ls : WaitQueues) → IsInOrder ls → (n : ℕ) → TicketsBelow n ls → TicketsBelow n (standing ls)
below-standing ls o n b = λ k. holders-below n k 0 ls o.keys (b k)

-- in memory
pub queues-standing : (qs : List Queue) → wait_queues_of (filter (λ q. has_anyone (held q.holders)) qs) ≡ standing
    (wait_queues_of qs)
queues-standing [] = refl
queues-standing (q ∷ qs) =
    let e : ℕ × List (ℕ × ℕ) = (key q.object.0 q.side, held q.holders) in
    let rest = queues-standing qs in
    elim (has_anyone (held q.holders)) as (λ x. wait_queues_of
    (cond x (q ∷ filter (λ p. has_anyone (held p.holders)) qs) (filter (λ p. has_anyone (held p.holders)) qs))
    ≡ cond x (e ∷ standing (wait_queues_of qs)) (standing (wait_queues_of qs))) [
      | true ↦ ap (λ (ls : WaitQueues). e ∷ ls) rest
      | false ↦ rest
    ]
