-- Queues of which those alone are left whose goroutines are among some.
-- For: `narrow`, `is_among`, src/holders.rt; `retain`, src/queues.rt; `narrowed`, specs/WaitQueues.antt
-- By: induction over the list of queues, and over the list of goroutines
use Rattle.std.proofs.Common.{◌≡◌, ℕ, zero, suc, ◌<◌, ◌≤◌, true, false, cond, ◌||◌, List, [], ◌∷◌, map, filter, length}
use Rattle.std.proofs.Common.{nat_lt, Some, ◌==◌, inl, inr, refl, sym, ap, ◌∙◌, subst, arith, slice_get, slice_set}
use Rattle.std.proofs.lemmas.Bool.{eq-eqb, ne_eqb, ltb-true, ltb-false, cases_eq}
use Rattle.golf_base.specs.declared.ids.GoroutineId.{GoroutineId}
use Rattle.golf_theory.specs.Maps.{Entry, find, Rises, AllBelow, rank}
use Rattle.golf_theory.specs.Membership.{is_in}
use Rattle.golf_state_queues.specs.declared.holders.TicketHolder.{TicketHolder}
use Rattle.golf_state_queues.proofs.Partings.{Entry-filter, AllBelow-filter, Rises-filter}
use Rattle.golf_state_queues.specs.WaitQueues.{WaitQueues, IsInOrder, AllRise, held, wait_queue_in, wait_queue_at}
use Rattle.golf_state_queues.specs.WaitQueues.{has_key, among, narrowed, listed, TicketsBelow, KeepsWaiters}

-- ---- whether a goroutine is among some

absent : (k j : ℕ) (gs : List GoroutineId) → k < j → Rises j (listed gs) → is_in k (map (λ g. g.0) gs) ≡ false
absent k j [] l r = refl
absent k j (g ∷ gs) l r =
    ap (λ b. b || is_in k (map (λ h. h.0) gs)) (ne_eqb k g.0 (λ e. omega (arith, e, l, r.0)))
    ∙ absent k (suc g.0) gs (omega (arith, l, r.0)) r.1

pub found-listed : (k j : ℕ) (gs : List GoroutineId) → Rises j (listed gs)
    → has_key k (slice_get (listed gs) (rank k (listed gs))) ≡ is_in k (map (λ g. g.0) gs)
found-listed k j [] r = refl
found-listed k j (g ∷ gs) r = elim (nat_lt g.0 k) as (λ t. nat_lt g.0 k ≡ t
    → has_key k (slice_get (listed (g ∷ gs)) (cond t (suc (rank k (listed gs))) 0)) ≡ is_in k
    (map (λ h. h.0) (g ∷ gs))) [
      | true ↦ λ t.
          let l = ltb-true g.0 k t in
          found-listed k (suc g.0) gs r.1 ∙ ap (λ b. b || is_in k (map (λ h. h.0) gs))
          (sym (ne_eqb k g.0 (λ e. omega (arith, e, l))))
      | false ↦ λ t.
          let l = ltb-false g.0 k t in
          elim (cases_eq k g.0) [
            | inl e ↦ eq-eqb g.0 k (sym e) ∙ ap (λ b. b || is_in k (map (λ h. h.0) gs)) (sym (eq-eqb k g.0 e))
            | inr n ↦
                ne_eqb g.0 k (λ e. n (sym e)) ∙ sym (absent k (suc g.0) gs (less k g.0 l n) r.1)
                ∙ ap (λ b. b || is_in k (map (λ h. h.0) gs)) (sym (ne_eqb k g.0 n))
          ]
    ] refl
  where
    less : (k g : ℕ) → k ≤ g → (k ≡ g → ⊥) → k < suc g
    less k g l n = omega (arith, l)

-- ---- queues

holders-narrowed : (k : ℕ) (gs : List ℕ) (ls : WaitQueues)
    → wait_queue_at k (narrowed gs ls) ≡ among gs (wait_queue_at k ls)
holders-narrowed k gs [] = refl
holders-narrowed k gs (e ∷ ls) = elim (k == e.0) as (λ b. wait_queue_in
    (cond b (Some (among gs e.1)) (find k (narrowed gs ls))) ≡ among gs
    (wait_queue_in (cond b (Some e.1) (find k ls)))) [
      | true ↦ refl
      | false ↦ holders-narrowed k gs ls
    ]

pub keeps-narrowed : (gs : List ℕ) (ls : WaitQueues) → KeepsWaiters (λ t g. is_in g gs ≡ true) ls (narrowed gs ls)
keeps-narrowed gs ls = λ k t g p i. subst (λ (es : List (ℕ × ℕ)). Entry es t g) (sym (holders-narrowed k gs ls))
    (Entry-filter (λ e. is_in e.1 gs) (wait_queue_at k ls) t g p i)

pub below-narrowed : (n : ℕ) (gs : List ℕ) (ls : WaitQueues) → TicketsBelow n ls → TicketsBelow n (narrowed gs ls)
below-narrowed n gs ls b = λ k. subst (AllBelow n) (sym (holders-narrowed k gs ls))
    (AllBelow-filter (λ e. is_in e.1 gs) n (wait_queue_at k ls) (b k))

keys-narrowed : (j : ℕ) (gs : List ℕ) (ls : WaitQueues) → Rises j ls → Rises j (narrowed gs ls)
keys-narrowed j gs [] r = tt
keys-narrowed j gs (e ∷ ls) r = (r.0, keys-narrowed (suc e.0) gs ls r.1)

all-narrowed : (gs : List ℕ) (ls : WaitQueues) → AllRise ls → AllRise (narrowed gs ls)
all-narrowed gs [] a = tt
all-narrowed gs (e ∷ ls) a = (Rises-filter (λ h. is_in h.1 gs) 0 e.1 a.0, all-narrowed gs ls a.1)

pub order-narrowed : (gs : List ℕ) (ls : WaitQueues) → IsInOrder ls → IsInOrder (narrowed gs ls)
order-narrowed gs ls o = record { keys = keys-narrowed 0 gs ls o.keys; queues = all-narrowed gs ls o.queues }

-- ---- one after the other

module _ {X : Type 0} (f : X → X) where
  -- the first n are changed
  abbrev pub changed_to : ℕ → List X → List X
  changed_to zero xs = xs
  changed_to (suc n) [] = []
  changed_to (suc n) (x ∷ xs) = f x ∷ changed_to n xs

  pub changed-read : (n : ℕ) (xs : List X) → slice_get (changed_to n xs) n ≡ slice_get xs n
  changed-read zero xs = refl
  changed-read (suc n) [] = refl
  changed-read (suc n) (x ∷ xs) = changed-read n xs

  pub changed-more : (n : ℕ) (xs : List X) (x : X) → slice_get xs n ≡ Some x
      → slice_set (changed_to n xs) n (f x) ≡ changed_to (suc n) xs
  changed-more n [] x h = absurd (cc)
  changed-more zero (y ∷ xs) x h = let same : y ≡ x = cc in ap (λ (z : X). f z ∷ xs) (sym same)
  changed-more (suc n) (y ∷ xs) x h = ap (λ (zs : List X). f y ∷ zs) (changed-more n xs x h)

  pub changed-all : (n : ℕ) (xs : List X) → length xs ≤ n → changed_to n xs ≡ map f xs
  changed-all zero [] l = refl
  changed-all zero (x ∷ xs) l = absurd (omega (arith, l))
  changed-all (suc n) [] l = refl
  changed-all (suc n) (x ∷ xs) l = ap (λ (zs : List X). f x ∷ zs) (changed-all n xs (omega (arith, l)))

pub map-set : {X Y : Type 0} (f : X → Y) (xs : List X) (i : ℕ) (x : X)
    → map f (slice_set xs i x) ≡ slice_set (map f xs) i (f x)
map-set f [] zero x = refl
map-set f [] (suc i) x = refl
map-set f (y ∷ xs) zero x = refl
map-set f (y ∷ xs) (suc i) x = ap (λ zs. f y ∷ zs) (map-set f xs i x)

-- in memory
pub held-among : (gs : List ℕ) (hs : List TicketHolder)
    → held (filter (λ h. is_in h.goroutine.0 gs) hs) ≡ among gs (held hs)
held-among gs [] = refl
held-among gs (h ∷ hs) =
    let e : ℕ × ℕ = (h.ticket, h.goroutine.0) in
    let kept : List TicketHolder = filter (λ (i : TicketHolder). is_in i.goroutine.0 gs) hs in
    let rest = held-among gs hs in
    elim (is_in h.goroutine.0 gs) as (λ x. is_in h.goroutine.0 gs ≡ x
    → held (cond x (h ∷ kept) kept) ≡ among gs (cond h.is_gone (held hs) (e ∷ held hs))) [
      | true ↦ λ q. elim h.is_gone as (λ b. cond b (held kept) (e ∷ held kept) ≡ among gs
          (cond b (held hs) (e ∷ held hs))) [
            | true ↦ rest
            | false ↦ ap (λ (es : List (ℕ × ℕ)). e ∷ es) rest
                ∙ sym (ap (λ x. cond x (e ∷ among gs (held hs)) (among gs (held hs))) q)
          ]
      | false ↦ λ q. elim h.is_gone as (λ b. held kept ≡ among gs (cond b (held hs) (e ∷ held hs))) [
        | true ↦ rest
        | false ↦ rest ∙ sym (ap (λ x. cond x (e ∷ among gs (held hs)) (among gs (held hs))) q)
      ]
    ] refl
