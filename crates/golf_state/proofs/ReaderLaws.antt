-- Readers that are served, counted along their queue.
-- For: `readers_next` (golf_model/specs/ReadersWriters.antt) and `readers_before`, `readers_next` (src/wake_all.rt)
-- By: induction over the entries of the map of goroutines
use Rattle.std.proofs.Common.{◌≡◌, ℕ, suc, ◌+◌, ◌<◌, ◌≤◌, Bool, true, false, cond, List, [], ◌∷◌, length, Option, Some}
use Rattle.std.proofs.Common.{None, ◌==◌, nat_lt, ◌⊎◌, inl, inr, refl, sym, ap, ◌∙◌, subst, arith}
use Rattle.std.specs.Prelude.{option_map, is_some}
use Rattle.std.proofs.lemmas.Bool.{cases_lt, eqb-true, eq-eqb, ltb-true, lt-ltb}
use Rattle.golf_theory.specs.Maps.{Entry, find, Rises}
use Rattle.golf_theory.proofs.MapFinds.{find_below}
use Rattle.golf_data.specs.declared.goroutine.Mode.{Mode}
use Rattle.golf_data.specs.declared.goroutine.Side.{Side}
use Rattle.golf_data.specs.declared.goroutine.Wait.{Wait}
use Rattle.golf_data.specs.declared.goroutine.WaitKind.{WaitKind}
use Rattle.golf_model.specs.Views.{GoroutineView}
use Rattle.golf_model.specs.Waiters.{Waiter, waiter_of, waits_of, wait_for, ticket_of}
use Rattle.golf_model.specs.Wakes.{reads_next}
use Rattle.golf_model.specs.ReadersWriters.{one_if, readers_next}
use Rattle.golf_state_queues.specs.declared.holders.TicketHolder.{TicketHolder}
use Rattle.golf_state.specs.Seen.{waiter_held, waiter_by}
use Rattle.golf_state.specs.WokenAll.{IsHolderBelow, AreWokenBelow}
use Rattle.golf_state.specs.Woken.{wakening_of, released_where}
use Rattle.golf_state.specs.declared.frames.Wakening.{Wakening}
use Rattle.golf_state.specs.declared.wake_causes.Waking.{Waking}

-- ---- what is counted of one goroutine

abbrev as_one : Bool → ℕ
as_one true = 1
as_one false = 0

-- a reader counts if its ticket is below n
abbrev reads : ℕ → Bool → ℕ → ℕ
reads n false ticket = 0
reads n true ticket = as_one (nat_lt ticket n)

-- and if it has the ticket
abbrev has : ℕ → Bool → ℕ → ℕ
has t false ticket = 0
has t true ticket = as_one (ticket == t)

abbrev waits-to-read : ℕ → GoroutineView → Bool
waits-to-read o r = is_some (wait_for o Side.Read (waits_of r.mode))

one-reads : (n : ℕ) (m : Option Wait) (t : ℕ) → one_if (cond (nat_lt t n) m None) ≡ reads n (is_some m) t
one-reads n None t = elim (nat_lt t n) as (λ b. one_if {X = Wait} (cond b None None) ≡ 0) [ true ↦ refl | false ↦ refl ]
one-reads n (Some w) t = elim (nat_lt t n) as (λ b. one_if {X = Wait} (cond b (Some w) None) ≡ as_one b) [
  | true ↦
      refl
  | false ↦ refl
]

one-below : (n o : ℕ) (r : GoroutineView)
    → one_if (reads_next (Some n) o r) ≡ reads n (waits-to-read o r) (ticket_of r.mode)
one-below n o r = one-reads n (wait_for o Side.Read (waits_of r.mode)) (ticket_of r.mode)

one-held : (o t g : ℕ) (r : GoroutineView)
    → one_if (waiter_held o Side.Read t g (Some r)) ≡ has t (waits-to-read o r) (ticket_of r.mode)
one-held o t g r = held (wait_for o Side.Read (waits_of r.mode))
  where
    at : (b : Bool) (w : Wait) → one_if {X = Waiter}
        (cond b (Some (record { number = g; goroutine = r; wait = w })) None) ≡ as_one b
    at true w = refl
    at false w = refl

    off : (b : Bool) → one_if {X = Waiter} (cond b None None) ≡ 0
    off true = refl
    off false = refl

    held : (m : Option Wait) → one_if {X = Waiter}
        (cond (ticket_of r.mode == t) (option_map
        (λ w. let x : Waiter = record { number = g; goroutine = r; wait = w } in x) m) None) ≡ has t (is_some m)
        (ticket_of r.mode)
    held None = off (ticket_of r.mode == t)
    held (Some w) = at (ticket_of r.mode == t) w

ltb-not : (a b : ℕ) → b ≤ a → nat_lt a b ≡ false
ltb-not a b m = elim (nat_lt a b) as (λ c. nat_lt a b ≡ c
    → c ≡ false) [ true ↦ λ q. absurd (let k = ltb-true a b q in omega (arith, k, m)) | false ↦ λ q. refl ] refl

-- the counts with this ticket, and those below it
counts-here : (n t : ℕ) (waits : Bool) (ticket : ℕ) → t < n → (waits ≡ true → ticket < n → (ticket < t) ⊎ (ticket ≡ t))
    → reads n waits ticket ≡ has t waits ticket + reads t waits ticket
counts-here n t false ticket l h = refl
counts-here n t true ticket l h = elim (cases_lt ticket n) [
  | inr m ↦ at (ltb-not ticket n m) (ltb-not ticket t (omega (arith, l, m)))
      (eqb-not ticket t (λ e. omega (arith, e, l, m)))
  | inl m ↦ elim (h refl m) [
    | inl k ↦ below (lt-ltb ticket n m) (lt-ltb ticket t k) (eqb-not ticket t (λ e. omega (arith, e, k)))
    | inr e ↦ here (lt-ltb ticket n m) (ltb-not ticket t (omega (arith, e))) (eq-eqb ticket t e)
  ]
]
  where
    eqb-not : (a b : ℕ) → (a ≡ b → ⊥) → (a == b) ≡ false
    eqb-not a b d = elim (a == b) as (λ c. a == b ≡ c
        → c ≡ false) [ true ↦ λ q. absurd (d (eqb-true a b q)) | false ↦ λ q. refl ] refl

    at : nat_lt ticket n ≡ false → nat_lt ticket t ≡ false → (ticket == t) ≡ false
        → as_one (nat_lt ticket n) ≡ as_one (ticket == t) + as_one (nat_lt ticket t)
    at a b e = let x = ap as_one a in let y = ap as_one b in let z = ap as_one e in omega (arith, x, y, z)

    below : nat_lt ticket n ≡ true → nat_lt ticket t ≡ true → (ticket == t) ≡ false
        → as_one (nat_lt ticket n) ≡ as_one (ticket == t) + as_one (nat_lt ticket t)
    below a b e = let x = ap as_one a in let y = ap as_one b in let z = ap as_one e in omega (arith, x, y, z)

    here : nat_lt ticket n ≡ true → nat_lt ticket t ≡ false → (ticket == t) ≡ true
        → as_one (nat_lt ticket n) ≡ as_one (ticket == t) + as_one (nat_lt ticket t)
    here a b e = let x = ap as_one a in let y = ap as_one b in let z = ap as_one e in omega (arith, x, y, z)

-- ---- all of them

waiter-is : (o g : ℕ) (r : GoroutineView) → waits-to-read o r ≡ true → (w : Waiter)
    × (waiter_of o Side.Read (g, r) ≡ Some w)
waiter-is o g r h = elim (wait_for o Side.Read (waits_of r.mode)) as (λ m. is_some m ≡ true → (w : Waiter)
    × (option_map (λ y. let x : Waiter = record { number = g; goroutine = r; wait = y } in x) m ≡ Some w)) [
      | None ↦ λ i. absurd (cc)
      | Some y ↦ λ i. (record { number = g; goroutine = r; wait = y }, refl)
    ] h

-- whoever waits to read with a ticket below n has one below t, or is g with the ticket t
abbrev AreSplit : ℕ → ℕ → ℕ → ℕ → List (ℕ × GoroutineView) → Type 0
AreSplit n t g o gs = (h : ℕ) (r : GoroutineView) (w : Waiter) → Entry gs h r → waiter_of o Side.Read (h, r) ≡ Some w
    → ticket_of r.mode < n → (ticket_of r.mode < t) ⊎ ((h ≡ g) × (ticket_of r.mode ≡ t))

readers-split : (n t g o j : ℕ) (gs : List (ℕ × GoroutineView)) → t < n → Rises j gs → AreSplit n t g o gs
    → readers_next (Some n) o gs ≡ one_if (waiter_by o Side.Read gs (t, g)) + readers_next (Some t) o gs
readers-split n t g o j [] l r h = refl
readers-split n t g o j (e ∷ gs) l r h =
    let more = readers-split n t g o (suc e.0) gs l r.1 (λ k v w i. h k v w (inr i)) in
    let a = one-below n o e.1 in
    let b = one-below t o e.1 in
    elim (g == e.0) as (λ c. g == e.0 ≡ c → one_if (reads_next (Some n) o e.1) + readers_next (Some n) o gs ≡ one_if
    (waiter_held o Side.Read t g (cond c (Some e.1) (find g gs))) +
    (one_if (reads_next (Some t) o e.1) + readers_next (Some t) o gs)) [
      | true ↦ λ q.
          let none : find g gs ≡ None = find_below g (suc e.0) gs (let s = eqb-true g e.0 q in omega (arith, s)) r.1 in
          let rest : one_if (waiter_by o Side.Read gs (t, g)) ≡ 0 =
          ap (λ (m : Option GoroutineView). one_if (waiter_held o Side.Read t g m)) none in
          let here = counts-here n t (waits-to-read o e.1) (ticket_of e.1.mode) l
          (λ s m. let w = waiter-is o e.0 e.1
          s in elim (h e.0 e.1 w.0 (inl (refl, refl)) w.1 m) [ inl x ↦ inl x | inr x ↦ inr x.1 ]) in
          let held = one-held o t g e.1 in
          omega (arith, more, a, b, rest, here, held)
      | false ↦ λ q.
          let here = counts-away n t (waits-to-read o e.1) (ticket_of e.1.mode) l
          (λ s m. let w = waiter-is o e.0 e.1 s in elim (h e.0 e.1 w.0 (inl (refl, refl)) w.1 m) [
            | inl x ↦ x
            | inr x ↦ absurd (let y = eq-eqb g e.0 (sym x.0) in cc)
          ]) in
          omega (arith, more, a, b, here)
    ] refl
  where
    counts-away : (n t : ℕ) (waits : Bool) (ticket : ℕ) → t < n → (waits ≡ true → ticket < n → ticket < t)
        → reads n waits ticket ≡ reads t waits ticket
    counts-away n t false ticket l h = refl
    counts-away n t true ticket l h = elim (cases_lt ticket n) [
      | inl m ↦ ap as_one (lt-ltb ticket n m ∙ sym (lt-ltb ticket t (h refl m)))
      | inr m ↦ ap as_one (ltb-not ticket n m ∙ sym (ltb-not ticket t (omega (arith, l, m))))
    ]

-- one more in the queue is passed
pub holder-counted : (n o : ℕ) (gs : List (ℕ × GoroutineView)) (h : TicketHolder) → Rises 0 gs
    → IsHolderBelow n o Side.Read gs (Some h)
    → readers_next (Some n) o gs ≡ one_if (waiter_by o Side.Read gs (h.ticket, h.goroutine.0)) + readers_next
    (Some h.ticket) o gs
holder-counted n o gs h rises last = readers-split n h.ticket h.goroutine.0 o 0 gs last.0 rises split
  where
    split : AreSplit n h.ticket h.goroutine.0 o gs
    split k r w i q l = last.1 k r w i q l

-- and if none is left, none is counted
pub none-counted : (n o : ℕ) (gs : List (ℕ × GoroutineView)) → IsHolderBelow n o Side.Read gs None
    → readers_next (Some n) o gs ≡ 0
none-counted n o [] last = refl
none-counted n o (e ∷ gs) last =
    let more = none-counted n o gs (λ g r w i. last g r w (inr i)) in
    let a = one-below n o e.1 in
    let here = away (waits-to-read o e.1) refl in
    omega (arith, more, a, here)
  where
    away : (b : Bool) → waits-to-read o e.1 ≡ b → reads n b (ticket_of e.1.mode) ≡ 0
    away false q = refl
    away true q =
        let w = waiter-is o e.0 e.1 q in
        ap as_one (ltb-not (ticket_of e.1.mode) n (last e.0 e.1 w.0 (inl (refl, refl)) w.1))

-- no more are counted than there are
pub readers-few : (below : Option ℕ) (o : ℕ) (gs : List (ℕ × GoroutineView)) → readers_next below o gs ≤ length gs
readers-few below o [] = omega arith
readers-few below o (e ∷ gs) = let more = readers-few below o gs in let one =
    at-most (reads_next below o e.1) in omega (arith, more, one)
  where
    at-most : (m : Option Wait) → one_if m ≤ 1
    at-most None = omega arith
    at-most (Some w) = omega arith

one-true : (m : Option Waiter) → is_some m ≡ true → one_if m ≡ 1
one-true None h = cc
one-true (Some w) h = refl

one-false : (m : Option Waiter) → is_some m ≡ false → one_if m ≡ 0
one-false None h = refl
one-false (Some w) h = cc

-- the one in the queue is a reader, or none
pub counted-one : (n o : ℕ) (gs : List (ℕ × GoroutineView)) (h : TicketHolder) → Rises 0 gs
    → IsHolderBelow n o Side.Read gs (Some h) → is_some (waiter_by o Side.Read gs (h.ticket, h.goroutine.0)) ≡ true
    → readers_next (Some n) o gs ≡ 1 + readers_next (Some h.ticket) o gs
counted-one n o gs h rises last q = holder-counted n o gs h rises last
    ∙ ap (λ (k : ℕ). k + readers_next (Some h.ticket) o gs)
    (one-true (waiter_by o Side.Read gs (h.ticket, h.goroutine.0)) q)

pub counted-none : (n o : ℕ) (gs : List (ℕ × GoroutineView)) (h : TicketHolder) → Rises 0 gs
    → IsHolderBelow n o Side.Read gs (Some h) → is_some (waiter_by o Side.Read gs (h.ticket, h.goroutine.0)) ≡ false
    → readers_next (Some n) o gs ≡ readers_next (Some h.ticket) o gs
counted-none n o gs h rises last q = let a = holder-counted n o gs h rises last in let b =
    one-false (waiter_by o Side.Read gs (h.ticket, h.goroutine.0)) q in omega (arith, a, b)

-- all are counted if all have tickets below n
pub all-counted : (n o : ℕ) (gs : List (ℕ × GoroutineView)) → AreWokenBelow n o Side.Read (Waking.ToReaders None) gs
    → readers_next (Some n) o gs ≡ readers_next None o gs
all-counted n o [] below = refl
all-counted n o (e ∷ gs) below =
    let more = all-counted n o gs (λ g r w k i. below g r w k (inr i)) in
    let here = same e.1.mode refl in
    omega (arith, more, here)
  where
    counted : (kind : WaitKind) (line : ℕ) (waits : List Wait) (ticket : ℕ)
        → e.1.mode ≡ Mode.Blocked kind line waits ticket → (m : Option Wait) → wait_for o Side.Read waits ≡ m
        → one_if (cond (nat_lt ticket n) (wait_for o Side.Read waits) None) ≡ one_if (wait_for o Side.Read waits)
    counted kind line waits ticket q None f = ap (λ (m : Option Wait). one_if (cond (nat_lt ticket n) m None)) f
        ∙ one-reads n None ticket ∙ ap (λ (m : Option Wait). one_if m) (sym f)
    counted kind line waits ticket q (Some y) f =
        let w = waiter-is o e.0 e.1 (ap (λ (m : Mode). is_some (wait_for o Side.Read (waits_of m))) q
        ∙ ap (λ (m : Option Wait). is_some m) f) in
        let woken : wakening_of e.1.mode o (Waking.ToReaders None) ≡ Some Wakening.Released =
        ap (λ (m : Mode). wakening_of m o (Waking.ToReaders None)) q
        ∙ ap (λ (m : Option Wait). released_where m) f in
        let l : ticket < n = subst (λ (m : Mode). ticket_of m < n) q
        (below e.0 e.1 w.0 Wakening.Released (inl (refl, refl)) w.1 woken) in
        ap (λ (b : Bool). one_if (cond b (wait_for o Side.Read waits) None)) (lt-ltb ticket n l)

    same : (m : Mode) → e.1.mode ≡ m → one_if (reads_next (Some n) o e.1) ≡ one_if (reads_next None o e.1)
    same Mode.Running q =
        one-below n o e.1 ∙ ap (λ (m : Mode). reads n (is_some (wait_for o Side.Read (waits_of m))) (ticket_of m)) q
        ∙ ap (λ (m : Mode). one_if (wait_for o Side.Read (waits_of m))) (sym q)
    same (Mode.Blocked kind line waits ticket) q =
        ap (λ (m : Mode). one_if (cond (nat_lt (ticket_of m) n) (wait_for o Side.Read (waits_of m)) None)) q
        ∙ counted kind line waits ticket q (wait_for o Side.Read waits) refl
        ∙ ap (λ (m : Mode). one_if (wait_for o Side.Read (waits_of m))) (sym q)
