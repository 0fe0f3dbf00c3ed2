-- Queues that one more stands in.
-- For: `join`, src/holders.rt; `enter`, `enter_all`, src/queues.rt; `AddsOnly`, specs/WaitQueues.antt
-- By: cases of the key of a queue; induction over the list of waits
use Rattle.std.proofs.Common.{◌≡◌, ℕ, zero, suc, ◌<◌, Bool, true, false, ◌&&◌, ◌||◌, List, [], ◌∷◌, length, get_or}
use Rattle.std.proofs.Common.{◌++◌, ◌==◌, inl, inr, refl, sym, ap, ◌∙◌, subst, arith}
use Rattle.std.proofs.lemmas.Bool.{cases_eq, eq-eqb, true≢false}
use Rattle.golf_data.specs.declared.goroutine.Wait.{Wait}
use Rattle.golf_theory.specs.Maps.{Entry}
use Rattle.golf_theory.specs.Membership.{is_in}
use Rattle.golf_theory.proofs.MapEntries.{Entry-add}
use Rattle.golf_state_queues.specs.WaitQueues.{WaitQueues, key, keys_of, wait_queue_at, is_holder, leaves, AddsOnly}
use Rattle.golf_state_queues.specs.WaitQueues.{AddsOnlyIn}
use Rattle.golf_state_queues.proofs.HolderLaws.{Changed}

is_holder-self : (t g u h : ℕ) → u ≡ t → h ≡ g → is_holder t g (u, h) ≡ true
is_holder-self t g u h p q = ap (λ b. b && (u == t)) (eq-eqb h g q) ∙ eq-eqb u t p

-- the goroutine stands after some of those who stood in the queue
pub adds-last : (t g : ℕ) (old cut : List (ℕ × ℕ)) → ((u h : ℕ) → Entry cut u h → Entry old u h)
    → AddsOnlyIn t g old (cut ++ (t, g) ∷ [])
adds-last t g old cut a = λ u h n i. elim (Entry-add t g cut u h i) [
  | inl e ↦ absurd (true≢false (sym (is_holder-self t g u h e.0 e.1) ∙ n))
  | inr e ↦ a u h e
]

-- one queue is another one
pub adds-changed : (t g k : ℕ) (es : List (ℕ × ℕ)) (old new : WaitQueues) → Changed k es old new
    → AddsOnlyIn t g (wait_queue_at k old) es → AddsOnly t g (k ∷ []) old new
adds-changed t g k es old new c a = λ j u h n i. elim (cases_eq j k) [
  | inl e ↦
      let other : is_holder t g (u, h) ≡ false = sym (ap (λ b. (b || false) && is_holder t g (u, h)) (eq-eqb j k e))
      ∙ n in
      let there : Entry es u h = subst (λ (fs : List (ℕ × ℕ)). Entry fs u h) c.here
      (subst (λ (m : ℕ). Entry (wait_queue_at m new) u h) e i) in
      subst (λ (m : ℕ). Entry (wait_queue_at m old) u h) (sym e) (a u h other there)
  | inr d ↦ subst (λ (fs : List (ℕ × ℕ)). Entry fs u h) (c.others j d) i
]

-- ---- along waits

either-true : (a : Bool) → (a || true) ≡ true
either-true true = refl
either-true false = refl

is_in-one : (k i : ℕ) (ws : List Wait) (d : Wait) → i < length ws → is_in k (keys_of (get_or ws i d ∷ [])) ≡ true
    → is_in k (keys_of ws) ≡ true
is_in-one k i [] d l h = absurd (omega (arith, l))
is_in-one k zero (w ∷ ws) d l h = elim (k == key w.object.0 w.side) as (λ b. (b || false) ≡ true
    → (b || is_in k (keys_of ws)) ≡ true) [
      | true ↦ λ q. refl
      | false ↦ λ q. absurd (true≢false (sym q))
    ] h
is_in-one k (suc i) (w ∷ ws) d l h =
    ap (λ b. (k == key w.object.0 w.side) || b) (is_in-one k i ws d (omega (arith, l)) h)
    ∙ either-true (k == key w.object.0 w.side)

-- the goroutine may stand in the queue of one wait more
pub adds-more : (t g i : ℕ) (ws : List Wait) (d : Wait) (old mid new : WaitQueues) → i < length ws
    → AddsOnly t g (keys_of ws) old mid → AddsOnly t g (keys_of (get_or ws i d ∷ [])) mid new
    → AddsOnly t g (keys_of ws) old new
adds-more t g i ws d old mid new l a b = λ k u h n x.
    let one = keys_of (get_or ws i d ∷ []) in
    let other : leaves t g one k (u, h) ≡ false =
    elim (is_in k one) as (λ c. is_in k one ≡ c → (c && is_holder t g (u, h)) ≡ false) [
      | true ↦ λ q. sym (ap (λ c. c && is_holder t g (u, h)) (is_in-one k i ws d l q)) ∙ n
      | false ↦ λ q. refl
    ] refl in
    a k u h n (b k u h other x)
