-- Queues without those who left.
-- For: `part`, src/holders.rt; `leave`, `leave_all`, src/queues.rt; `IsWithout`, specs/WaitQueues.antt
-- By: induction over the list of holders, and over the list of waits
use Rattle.std.proofs.Common.{◌≡◌, ℕ, zero, suc, ◌<◌, Bool, true, false, cond, not, ◌&&◌, ◌||◌, List, [], ◌∷◌, take}
use Rattle.std.proofs.Common.{length, get_or, filter, Some, None, ◌==◌, nat_lt, inl, inr, refl, sym, ap, ◌∙◌, subst}
use Rattle.std.proofs.Common.{arith, slice_get}
use Rattle.std.specs.Prelude.{remove}
use Rattle.std.proofs.lemmas.Bool.{cases_eq, ltb-true, ltb-false, eq-eqb, ne_eqb, true≢false}
use Rattle.std.proofs.lemmas.Option.{slice_get_within}
use Rattle.golf_data.specs.declared.goroutine.Wait.{Wait}
use Rattle.golf_theory.specs.Maps.{Entry, find, Rises, AllBelow, rank}
use Rattle.golf_theory.specs.Membership.{is_in}
use Rattle.golf_theory.proofs.MapOrder.{Rises-less}
use Rattle.golf_theory.proofs.Lists.{Every-from, filter-all, filter-same}
use Rattle.golf_state_queues.specs.Lines.{spots}
use Rattle.golf_state_queues.specs.WaitQueues.{WaitQueues, key, keys_of, held, wait_queue_in, wait_queue_at, is_holder}
use Rattle.golf_state_queues.specs.WaitQueues.{is_held_in, parted, leaves, IsWithout, TicketsBelow, KeepsWaiters}
use Rattle.golf_state_queues.specs.declared.holders.TicketHolder.{TicketHolder}
use Rattle.golf_state_queues.proofs.Held.{Rises-held}
use Rattle.golf_state_queues.proofs.HolderLaws.{Changed}

-- ---- entries that satisfy a test

module _ {X : Type 0} where
  filter-alike : (p q : X → Bool) (xs : List X) → ((x : X) → p x ≡ q x) → filter p xs ≡ filter q xs
  filter-alike p q xs h = filter-same p q xs (Every-from (λ x. p x ≡ q x) xs (λ x i. h x))

  filter-every : (p : X → Bool) (xs : List X) → ((x : X) → p x ≡ true) → filter p xs ≡ xs
  filter-every p xs h = filter-all p xs (Every-from (λ x. p x ≡ true) xs (λ x i. h x))

  filter-filter : (p q : X → Bool) (xs : List X) → filter p (filter q xs) ≡ filter (λ x. q x && p x) xs
  filter-filter p q [] = refl
  filter-filter p q (x ∷ xs) =
      let rest = filter-filter p q xs in
      elim (q x) as (λ b. filter p (cond b (x ∷ filter q xs) (filter q xs)) ≡ cond (b && p x)
      (x ∷ filter (λ y. q y && p y) xs) (filter (λ y. q y && p y) xs)) [
        | true ↦ ap (λ (r : List X). cond (p x) (x ∷ r) r) rest
        | false ↦ rest
      ]

  pub Entry-filter : (p : ℕ × X → Bool) (es : List (ℕ × X)) (k : ℕ) (x : X) → p (k, x) ≡ true → Entry es k x
      → Entry (filter p es) k x
  Entry-filter p [] k x h i = absurd i
  Entry-filter p (e ∷ es) k x h i =
      elim (p e) as (λ b. p e ≡ b → Entry (cond b (e ∷ filter p es) (filter p es)) k x) [
        | true ↦ λ q. elim i [ inl a ↦ inl a | inr a ↦ inr (Entry-filter p es k x h a) ]
        | false ↦ λ q. elim i [
          | inl a ↦ absurd (true≢false (sym h ∙ ap (λ n. p (n, x)) a.0 ∙ ap (λ y. p (e.0, y)) a.1 ∙ q))
          | inr a ↦ Entry-filter p es k x h a
        ]
      ] refl

  pub Rises-filter : (p : ℕ × X → Bool) (j : ℕ) (es : List (ℕ × X)) → Rises j es → Rises j (filter p es)
  Rises-filter p j [] r = tt
  Rises-filter p j (e ∷ es) r = elim (p e) as (λ b. Rises j (cond b (e ∷ filter p es) (filter p es))) [
    | true ↦ (r.0, Rises-filter p (suc e.0) es r.1)
    | false ↦ Rises-less j (suc e.0) (filter p es) (omega (arith, r.0)) (Rises-filter p (suc e.0) es r.1)
  ]

  pub AllBelow-filter : (p : ℕ × X → Bool) (n : ℕ) (es : List (ℕ × X)) → AllBelow n es → AllBelow n (filter p es)
  AllBelow-filter p n [] a = tt
  AllBelow-filter p n (e ∷ es) a = elim (p e) as (λ b. AllBelow n (cond b (e ∷ filter p es) (filter p es))) [
    | true ↦ (a.0, AllBelow-filter p n es a.1)
    | false ↦ AllBelow-filter p n es a.1
  ]

-- ---- one queue

and-false : (a : Bool) → (a && false) ≡ false
and-false true = refl
and-false false = refl

-- if all tickets are later ones nobody leaves
parted-above : (t g j : ℕ) (es : List (ℕ × ℕ)) → t < j → Rises j es → parted t g es ≡ es
parted-above t g j [] l r = refl
parted-above t g j (e ∷ es) l r =
    ap (λ b. cond (not ((e.1 == g) && b)) (e ∷ parted t g es) (parted t g es))
    (ne_eqb e.0 t (λ a. omega (arith, a, l, r.0)))
    ∙ ap (λ b. cond (not b) (e ∷ parted t g es) (parted t g es)) (and-false (e.1 == g))
    ∙ ap (λ (z : List (ℕ × ℕ)). e ∷ z) (parted-above t g (suc e.0) es (omega (arith, l, r.0)) r.1)

further : (b : Bool) (e : ℕ × ℕ) (es fs gs : List (ℕ × ℕ)) → cond b fs es ≡ gs → cond b (e ∷ fs) (e ∷ es) ≡ e ∷ gs
further true e es fs gs h = ap (λ (z : List (ℕ × ℕ)). e ∷ z) h
further false e es fs gs h = ap (λ (z : List (ℕ × ℕ)). e ∷ z) h

here : (b : Bool) (e : ℕ × ℕ) (es gs : List (ℕ × ℕ)) → gs ≡ es → cond b es (e ∷ es) ≡ cond (not b) (e ∷ gs) gs
here true e es gs h = sym h
here false e es gs h = ap (λ (z : List (ℕ × ℕ)). e ∷ z) (sym h)

both-same : (b : Bool) (es : List (ℕ × ℕ)) → cond b es es ≡ es
both-same true es = refl
both-same false es = refl

-- whoever leaves is at the rank of its ticket
parted-rank : (t g j : ℕ) (hs : List TicketHolder) (b : Bool) → Rises j (spots hs)
    → is_held_in t g (slice_get hs (rank t (spots hs))) ≡ b
    → cond b (held (remove hs (rank t (spots hs)))) (held hs) ≡ parted t g (held hs)
parted-rank t g j [] true r h = refl
parted-rank t g j [] false r h = refl
parted-rank t g j (h ∷ hs) b r i =
    let e : ℕ × ℕ = (h.ticket, h.goroutine.0) in
    let n = rank t (spots hs) in
    let es = held hs in
    elim (nat_lt h.ticket t) as (λ x. nat_lt h.ticket t ≡ x → is_held_in t g (slice_get (h ∷ hs) (cond x (suc n) 0)) ≡ b
    → cond b (held (remove (h ∷ hs) (cond x (suc n) 0))) (held (h ∷ hs)) ≡ parted t g (held (h ∷ hs))) [
      | true ↦ λ q k.
          let before = ltb-true h.ticket t q in
          let rest = parted-rank t g (suc h.ticket) hs b r.1 k in
          let fs = held (remove hs n) in
          elim h.is_gone as (λ z. cond b (cond z fs (e ∷ fs)) (cond z es (e ∷ es)) ≡ parted t g (cond z es (e ∷ es))) [
            | true ↦ rest
            | false ↦
                further b e es fs (parted t g es) rest
                ∙ sym (ap (λ c. cond (not ((h.goroutine.0 == g) && c)) (e ∷ parted t g es) (parted t g es))
                (ne_eqb h.ticket t (λ a. omega (arith, a, before)))
                ∙ ap (λ c. cond (not c) (e ∷ parted t g es) (parted t g es)) (and-false (h.goroutine.0 == g)))
          ]
      | false ↦ λ q k.
          let late = ltb-false h.ticket t q in
          let above = parted-above t g (suc h.ticket) es (omega (arith, late)) (Rises-held (suc h.ticket) hs r.1) in
          elim h.is_gone as (λ z. (not z && is_holder t g e) ≡ b
          → cond b es (cond z es (e ∷ es)) ≡ parted t g (cond z es (e ∷ es))) [
            | true ↦ λ m. both-same b es ∙ sym above
            | false ↦ λ m. here b e es (parted t g es) above
                ∙ ap (λ c. cond (not c) (e ∷ parted t g es) (parted t g es)) (sym m)
          ] k
    ] refl i

-- in memory, as it is looked up
module _ (t g at : ℕ) (hs seen again : List TicketHolder) (b : Bool) (r : Rises 0 (spots hs)) (e : seen ≡ hs)
    (f : again ≡ hs) (is : at ≡ rank t (spots seen)) (h : b ≡ is_held_in t g (slice_get again at)) where
  test : is_held_in t g (slice_get hs at) ≡ b
  test = sym (h ∙ ap (λ (xs : List TicketHolder). is_held_in t g (slice_get xs at)) f)

  place : at ≡ rank t (spots hs)
  place = is ∙ ap (λ (xs : List TicketHolder). rank t (spots xs)) e

  parted-is : cond b (held (remove hs at)) (held hs) ≡ parted t g (held hs)
  parted-is =
      ap (λ (n : ℕ). cond b (held (remove hs n)) (held hs)) place
      ∙ parted-rank t g 0 hs b r (ap (λ (n : ℕ). is_held_in t g (slice_get hs n)) (sym place) ∙ test)

  pub parted-there : b ≡ true → held (remove hs at) ≡ parted t g (held hs)
  parted-there q = subst (λ c. cond c (held (remove hs at)) (held hs) ≡ parted t g (held hs)) q parted-is

  pub parted-absent : b ≡ false → held hs ≡ parted t g (held hs)
  parted-absent q = subst (λ c. cond c (held (remove hs at)) (held hs) ≡ parted t g (held hs)) q parted-is

  pub holder-within : b ≡ true → at < length hs
  holder-within q = elim (slice_get hs at) as (λ o. slice_get hs at ≡ o → is_held_in t g o ≡ true → at < length hs) [
    | None ↦ λ s i. absurd (true≢false (sym i))
    | Some x ↦ λ s i. slice_get_within hs at x s
  ] refl (test ∙ q)

-- ---- all queues

-- if nobody leaves all stay
pub without-none : (p : ℕ → ℕ × ℕ → Bool) (ls : WaitQueues) → ((k : ℕ) (h : ℕ × ℕ) → p k h ≡ false) → IsWithout p ls ls
without-none p ls n = λ k. sym (filter-every (λ h. not (p k h)) (wait_queue_at k ls) (λ h. ap not (n k h)))

-- a queue in which the goroutine is not asked to leave
other-holders : (t g j k : ℕ) (es : List (ℕ × ℕ)) → (j ≡ k → ⊥) → es ≡ filter (λ h. not (leaves t g (k ∷ []) j h)) es
other-holders t g j k es d = sym (filter-every (λ h. not (leaves t g (k ∷ []) j h)) es
    (λ h. ap (λ b. not ((b || false) && is_holder t g h)) (ne_eqb j k d)))

-- one queue is as it is without the goroutine
pub without-changed : (t g k : ℕ) (es : List (ℕ × ℕ)) (old new : WaitQueues) → Changed k es old new
    → es ≡ parted t g (wait_queue_at k old) → IsWithout (leaves t g (k ∷ [])) old new
without-changed t g k es old new c e = λ j. elim (cases_eq j k) [
  | inl s ↦
      subst (λ (n : ℕ). wait_queue_at n new ≡ filter (λ h. not (leaves t g (k ∷ []) n h)) (wait_queue_at n old)) (sym s)
      (c.here ∙ e ∙ filter-alike (λ h. not (is_holder t g h)) (λ h. not (leaves t g (k ∷ []) k h)) (wait_queue_at k old)
      (λ h. ap (λ b. not ((b || false) && is_holder t g h)) (sym (eq-eqb k k refl))))
  | inr d ↦ c.others j d ∙ other-holders t g j k (wait_queue_at j old) d
]

-- there is no such queue
pub without-absent : (t g k : ℕ) (ls : WaitQueues) → find k ls ≡ None → IsWithout (leaves t g (k ∷ [])) ls ls
without-absent t g k ls none = λ j. elim (cases_eq j k) [
  | inl s ↦ subst (λ (es : List (ℕ × ℕ)). es ≡ filter (λ h. not (leaves t g (k ∷ []) j h)) es)
      (sym (ap (λ (n : ℕ). wait_queue_at n ls) s ∙ ap wait_queue_in none)) refl
  | inr d ↦ other-holders t g j k (wait_queue_at j ls) d
]

neither : (a b : Bool) → (not a && not b) ≡ not (a || b)
neither true b = refl
neither false b = refl

-- some leave, and then others
pub without-then : (p q r : ℕ → ℕ × ℕ → Bool) (old mid new : WaitQueues)
    → ((k : ℕ) (h : ℕ × ℕ) → r k h ≡ (p k h || q k h)) → IsWithout p old mid → IsWithout q mid new → IsWithout r old new
without-then p q r old mid new s a b = λ k.
    b k ∙ ap (λ (es : List (ℕ × ℕ)). filter (λ h. not (q k h)) es) (a k)
    ∙ filter-filter (λ h. not (q k h)) (λ h. not (p k h)) (wait_queue_at k old)
    ∙ filter-alike (λ h. not (p k h) && not (q k h)) (λ h. not (r k h)) (wait_queue_at k old)
    (λ h. neither (p k h) (q k h) ∙ ap not (sym (s k h)))

or-assoc : (a b c : Bool) → (a || (b || c)) ≡ ((a || b) || c)
or-assoc true b c = refl
or-assoc false b c = refl

in-more : (k i : ℕ) (ws : List Wait) (d : Wait) → i < length ws
    → is_in k (keys_of (take (suc i) ws)) ≡ (is_in k (keys_of (take i ws)) || is_in k (keys_of (get_or ws i d ∷ [])))
in-more k i [] d l = absurd (omega (arith, l))
in-more k zero (w ∷ ws) d l = refl
in-more k (suc i) (w ∷ ws) d l =
    ap (λ b. (k == key w.object.0 w.side) || b) (in-more k i ws d (omega (arith, l)))
    ∙ or-assoc (k == key w.object.0 w.side) (is_in k (keys_of (take i ws))) (is_in k (keys_of (get_or ws i d ∷ [])))

in-either : (a b c : Bool) → ((a || b) && c) ≡ ((a && c) || (b && c))
in-either true b true = refl
in-either true true false = refl
in-either true false false = refl
in-either false b c = refl

-- the goroutine leaves one more queue
pub without-more : (t g i : ℕ) (ws : List Wait) (d : Wait) (old mid new : WaitQueues) → i < length ws
    → IsWithout (leaves t g (keys_of (take i ws))) old mid
    → IsWithout (leaves t g (keys_of (get_or ws i d ∷ []))) mid new
    → IsWithout (leaves t g (keys_of (take (suc i) ws))) old new
without-more t g i ws d old mid new l a b =
    let before = keys_of (take i ws) in
    let one = keys_of (get_or ws i d ∷ []) in
    without-then (leaves t g before) (leaves t g one) (leaves t g (keys_of (take (suc i) ws))) old mid new
    (λ k h. ap (λ c. c && is_holder t g h) (in-more k i ws d l)
    ∙ in-either (is_in k before) (is_in k one) (is_holder t g h))
    a b

-- ---- who stays

-- one who is not asked to leave stands where it stood
pub keeps-without : (P : ℕ → ℕ → Type 0) (p : ℕ → ℕ × ℕ → Bool) (old new : WaitQueues)
    → ((k t g : ℕ) → P t g → p k (t, g) ≡ false) → IsWithout p old new → KeepsWaiters P old new
keeps-without P p old new n w = λ k t g h i.
    subst (λ (es : List (ℕ × ℕ)). Entry es t g) (sym (w k))
    (Entry-filter (λ x. not (p k x)) (wait_queue_at k old) t g (ap not (n k t g h)) i)

pub below-without : (p : ℕ → ℕ × ℕ → Bool) (old new : WaitQueues) → IsWithout p old new → (n : ℕ) → TicketsBelow n old
    → TicketsBelow n new
below-without p old new w = λ n b k. subst (AllBelow n) (sym (w k))
    (AllBelow-filter (λ x. not (p k x)) n (wait_queue_at k old) (b k))

pub leaves-other : (t g : ℕ) (ks : List ℕ) (k u h : ℕ) → (h ≡ g → ⊥) → leaves t g ks k (u, h) ≡ false
leaves-other t g ks k u h n = ap (λ b. is_in k ks && (b && (u == t))) (ne_eqb h g n) ∙ and-false (is_in k ks)

-- another goroutine stands where it stood
pub keeps-others : (t g : ℕ) (ks : List ℕ) (old new : WaitQueues) → IsWithout (leaves t g ks) old new
    → KeepsWaiters (λ u h. h ≡ g → ⊥) old new
keeps-others t g ks old new w = keeps-without (λ u h. h ≡ g → ⊥) (leaves t g ks) old new
    (λ k u h n. leaves-other t g ks k u h n) w
