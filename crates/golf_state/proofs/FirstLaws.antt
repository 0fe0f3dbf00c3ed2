-- The first waiter, by the queue of those who stood there.
-- For: `first_held` (golf_state/specs/Seen.antt) and `first_in_queue` (src/waiters.rt)
-- By: induction over the entries of the queue
use Rattle.std.proofs.Common.{◌≡◌, ℕ, suc, ◌≤◌, true, false, cond, List, [], ◌∷◌, Option, Some, None, ◌==◌, inl, inr}
use Rattle.std.proofs.Common.{refl, sym, ap, ◌∙◌, subst, arith}
use Rattle.std.proofs.lemmas.Bool.{eqb-true, eq-eqb}
use Rattle.golf_data.specs.declared.goroutine.Side.{Side}
use Rattle.golf_theory.specs.Membership.{In, Every}
use Rattle.golf_theory.specs.Maps.{Entry, find, Rises, IsRising}
use Rattle.golf_theory.proofs.MapFinds.{find-Entry, Entry-above}
use Rattle.golf_theory.proofs.MapEntries.{Entry-find}
use Rattle.golf_model.specs.Views.{GoroutineView}
use Rattle.golf_model.specs.Laws.{head, TicketsRise}
use Rattle.golf_model.specs.Waiters.{Waiter, waiter_ticket, waiter_of, ticket_of, first, waiters}
use Rattle.golf_model.proofs.Firsts.{first-head, waiters-sound, waiters-complete, waiters-rise}
use Rattle.golf_state.specs.Seen.{waiter_held, waiter_by, or_later, first_held}
use Rattle.golf_state.specs.Enqueued.{HasWaiters}
use Rattle.golf_state.proofs.WaiterLaws.{head-in, waiter-parts}

no-head : {X : Type 0} (xs : List X) (x : X) → head xs ≡ None → In x xs → ⊥
no-head [] x h i = i
no-head (y ∷ ys) x h i = cc

every-in : {X : Type 0} (P : X → Type 0) (xs : List X) → Every P xs → (x : X) → In x xs → P x
every-in P [] a x h = absurd h
every-in P (y ∷ ys) a x (inl e) = subst P (sym e) a.0
every-in P (y ∷ ys) a x (inr h) = every-in P ys a.1 x h

-- the head of the queue has the least ticket
least : (ws : List Waiter) (w u : Waiter) → TicketsRise ws → head ws ≡ Some w → In u ws
    → waiter_ticket w ≤ waiter_ticket u
least [] w u r h i = absurd i
least (v ∷ vs) w u r h (inl e) = let same : v ≡ w =
    cc in omega (arith, ap (λ (x : Waiter). waiter_ticket x) (sym same), ap (λ (x : Waiter). waiter_ticket x) e)
least (v ∷ vs) w u r h (inr i) =
    let same : v ≡ w = cc in
    let l : waiter_ticket v ≤ waiter_ticket u =
    every-in (λ (x : Waiter). waiter_ticket v ≤ waiter_ticket x) vs r.0 u i in
    omega (arith, l, ap (λ (x : Waiter). waiter_ticket x) same)

module _ (o : ℕ) (side : Side) (gs : List (ℕ × GoroutineView)) (rises : IsRising gs) where
  among : (g : ℕ) (r : GoroutineView) (u : Waiter) → find g gs ≡ Some r → waiter_of o side (g, r) ≡ Some u
      → In u (waiters o side gs)
  among g r u f q = waiters-complete o side gs u ((g, r), Entry-find g gs r f, q)

  -- one who stands in the queue and waits there
  pub record Holds (h : ℕ × ℕ) (u : Waiter) : Type 0 where
    goroutine : GoroutineView
    found : find h.1 gs ≡ Some goroutine
    ticket : ticket_of goroutine.mode ≡ h.0
    waits : waiter_of o side (h.1, goroutine) ≡ Some u

  holds : (h : ℕ × ℕ) (u : Waiter) → waiter_by o side gs h ≡ Some u → Holds h u
  holds h u q = elim (find h.1 gs) as (λ m. find h.1 gs ≡ m → waiter_held o side h.0 h.1 m ≡ Some u → Holds h u) [
    | None ↦ λ e i. absurd (cc)
    | Some r ↦ λ e i. elim (ticket_of r.mode == h.0) as (λ b. ticket_of r.mode == h.0 ≡ b
        → cond b (waiter_of o side (h.1, r)) None ≡ Some u → Holds h u) [
          | true ↦ λ t k. record { goroutine = r; found = e; ticket = eqb-true (ticket_of r.mode) h.0 t; waits = k }
          | false ↦ λ t k. absurd (cc)
        ] refl i
  ] refl q

  -- if nobody waits
  none-held : first o side gs ≡ None → (hs : List (ℕ × ℕ)) → first_held o side gs hs ≡ None
  none-held n [] = refl
  none-held n (h ∷ hs) = elim (waiter_by o side gs h) as (λ m. waiter_by o side gs h ≡ m
      → or_later m (first_held o side gs hs) ≡ None) [
        | None ↦ λ q. none-held n hs
        | Some u ↦ λ q. absurd (let k = holds h u q in no-head (waiters o side gs) u (sym (first-head o side gs) ∙ n)
            (among h.1 k.goroutine u k.found k.waits))
      ] refl

  some-held : (w : Waiter) → first o side gs ≡ Some w → find w.number gs ≡ Some w.goroutine
      → waiter_of o side (w.number, w.goroutine) ≡ Some w
      → (j : ℕ) (hs : List (ℕ × ℕ)) → Rises j hs → Entry hs (waiter_ticket w) w.number
      → first_held o side gs hs ≡ Some w
  some-held w f found waits j [] r i = absurd i
  some-held w f found waits j (h ∷ hs) r (inl e) =
      ap (λ (n : ℕ). or_later (waiter_held o side h.0 n (find n gs)) (first_held o side gs hs)) (sym e.1)
      ∙ ap (λ (m : Option GoroutineView). or_later (waiter_held o side h.0 w.number m) (first_held o side gs hs)) found
      ∙ ap (λ b. or_later (cond b (waiter_of o side (w.number, w.goroutine)) None) (first_held o side gs hs))
      (eq-eqb (waiter_ticket w) h.0 e.0)
      ∙ ap (λ (m : Option Waiter). or_later m (first_held o side gs hs)) waits
  some-held w f found waits j (h ∷ hs) r (inr i) =
      elim (waiter_by o side gs h) as (λ m. waiter_by o side gs h ≡ m → or_later m (first_held o side gs hs) ≡ Some w) [
        | None ↦ λ q. some-held w f found waits (suc h.0) hs r.1 i
        | Some u ↦ λ q. absurd
            (let k = holds h u q in
            let p = waiter-parts o side (h.1, k.goroutine) u k.waits in
            let l = least (waiters o side gs) w u (waiters-rise o side gs) (sym (first-head o side gs) ∙ f)
            (among h.1 k.goroutine u k.found k.waits) in
            let a = Entry-above (suc h.0) hs (waiter_ticket w) w.number r.1 i in
            let same : waiter_ticket u ≡ h.0 = ap (λ (v : GoroutineView). ticket_of v.mode) (sym p.1) ∙ k.ticket in
            omega (arith, l, a, same))
      ] refl

  -- the first of the queue who waits is the first waiter
  pub first-in-queue : (hs : List (ℕ × ℕ)) → Rises 0 hs → HasWaiters o side gs hs
      → first_held o side gs hs ≡ first o side gs
  first-in-queue hs r all = elim (first o side gs) as (λ m. first o side gs ≡ m → first_held o side gs hs ≡ m) [
    | None ↦ λ f. none-held f hs
    | Some w ↦ λ f.
        let i = waiters-sound o side gs w (head-in (waiters o side gs) w (sym (first-head o side gs) ∙ f)) in
        let p = waiter-parts o side i.0 w i.2 in
        let entry : Entry gs w.number w.goroutine =
        subst (λ (n : ℕ). Entry gs n w.goroutine) p.0 (subst (λ (v : GoroutineView). Entry gs i.0.0 v) p.1 i.1) in
        let waits : waiter_of o side (w.number, w.goroutine) ≡ Some w =
        ap (λ (n : ℕ). waiter_of o side (n, w.goroutine)) (sym p.0)
        ∙ ap (λ (v : GoroutineView). waiter_of o side (i.0.0, v)) (sym p.1) ∙ i.2 in
        some-held w f (find-Entry gs w.number w.goroutine rises entry) waits 0 hs r
        (all w.number w.goroutine w entry waits)
  ] refl
