-- The first waiter on an object has the first waiter of an alike state as its partner.
-- For: `first`, golf_model/specs/Waiters.antt; `IsAlike`, specs/Alike.antt
-- By: the order of the waiters' list; cases of what is first
use Rattle.std.proofs.Common.{◌≡◌, ℕ, ◌≤◌, false, List, [], ◌∷◌, Option, Some, None, inl, inr, refl, sym, ap, ◌∙◌}
use Rattle.std.proofs.Common.{subst, arith, ◌⊎◌}
use Rattle.std.specs.Prelude.{option_map}
use Rattle.std.proofs.lemmas.Bool.{ltb-false, le-ltb}
use Rattle.golf_theory.specs.Membership.{In, Every}
use Rattle.golf_theory.specs.Maps.{Entry, find, IsRising}
use Rattle.golf_theory.proofs.MapEntries.{Entry-find}
use Rattle.golf_theory.proofs.MapFinds.{find-Entry}
use Rattle.golf_data.specs.declared.goroutine.Mode.{Mode}
use Rattle.golf_data.specs.declared.goroutine.Side.{Side}
use Rattle.golf_data.specs.declared.goroutine.Wait.{Wait}
use Rattle.golf_model.specs.Views.{GoroutineView}
use Rattle.golf_model.specs.State.{State, is_running}
use Rattle.golf_model.specs.Waiters.{Waiter, waiter_ticket, waits_of, ticket_of, wait_for, waiter_of, first, waiters}
use Rattle.golf_model.specs.Laws.{head, TicketsRise}
use Rattle.golf_model.proofs.Firsts.{first-head, waiters-complete, waiters-rise}
use Rattle.golf_model_futures.specs.Orderly.{IsOrderly}
use Rattle.golf_model_futures.proofs.WaitLaws.{first-is, wait_for-waited}
use Rattle.golf_explore_laws.specs.Alike.{blank, AlikeBy}
use Rattle.golf_explore_laws.proofs.Alike.Partners.{same-waits, partner-of, alike-flip, flips, In-flips}

Every-at : {X : Type 0} (P : X → Type 0) (xs : List X) → Every P xs → (x : X) → In x xs → P x
Every-at P [] a x h = absurd h
Every-at P (y ∷ ys) a x (inl e) = subst P (sym e) a.0
Every-at P (y ∷ ys) a x (inr h) = Every-at P ys a.1 x h

head-least : (ws : List Waiter) (v : Waiter) → TicketsRise ws → In v ws
    → (w : Waiter) × (head ws ≡ Some w) × (waiter_ticket w ≤ waiter_ticket v)
head-least [] v r i = absurd i
head-least (w ∷ ws) v r (inl e) = let same = ap waiter_ticket e in (w, refl, omega (arith, same))
head-least (w ∷ ws) v r (inr i) = (w, refl, Every-at (λ u. waiter_ticket w ≤ waiter_ticket u) ws r.0 v i)

-- there is a first waiter, and it is not after this one
first-some : (o : ℕ) (side : Side) (gs : List (ℕ × GoroutineView)) (g : ℕ) (r : GoroutineView) (x : Wait)
    → Entry gs g r → wait_for o side (waits_of r.mode) ≡ Some x
    → (w : Waiter) × (first o side gs ≡ Some w) × (waiter_ticket w ≤ ticket_of r.mode)
first-some o side gs g r x e f =
    let v : Waiter = record { number = g; goroutine = r; wait = x } in
    let is : waiter_of o side (g, r) ≡ Some v =
    ap (option_map (λ y. let u : Waiter = record { number = g; goroutine = r; wait = y } in u)) f in
    let p = head-least (waiters o side gs) v (waiters-rise o side gs)
    (waiters-complete o side gs v ((g, r), e, is)) in
    (p.0, first-head o side gs ∙ p.1, p.2)

maybe : (m : Option Waiter) → (m ≡ None) ⊎ ((w : Waiter) × (m ≡ Some w))
maybe None = inl refl
maybe (Some w) = inr (w, refl)

module _ (ps : List (ℕ × ℕ)) (s t : State) (al : AlikeBy ps s t) (rs : IsRising s.goroutines)
    (rt : IsRising t.goroutines) (os : IsOrderly s) (ot : IsOrderly t) (o : ℕ) (side : Side) where
  -- both are first, and partners
  pub record Partners (w v : Waiter) : Type 0 where
    pub pair : In (w.number, v.number) ps
    pub wait : v.wait ≡ w.wait
    pub view : blank w.goroutine ≡ blank v.goroutine

  abbrev pub FirstAlike : Option Waiter → Option Waiter → Type 0
  FirstAlike m n = ((m ≡ None) × (n ≡ None)) ⊎ ((w : Waiter) × (v : Waiter) × (m ≡ Some w) × (n ≡ Some v)
      × Partners w v)

  is-blocked : (r : GoroutineView) (x : Wait) → wait_for o side (waits_of r.mode) ≡ Some x
      → is_running r.mode ≡ false
  is-blocked r x f = by-mode r.mode x f where
    by-mode : (m : Mode) (x : Wait) → wait_for o side (waits_of m) ≡ Some x → is_running m ≡ false
    by-mode Mode.Running x f = cc
    by-mode (Mode.Blocked kind line waits ticket) x f = refl

  -- if one is first in the second state, some are first in the first
  some-left : (v : Waiter) → first o side t.goroutines ≡ Some v → first o side s.goroutines ≡ None → ⊥
  some-left v f n =
      let is = first-is o side t.goroutines v f in
      let fv = find-Entry t.goroutines v.number v.goroutine rt is.entry in
      let p = al.right v.number v.goroutine fv in
      let back = alike-flip ps s t al in
      let q = back.left v.number v.goroutine fv in
      let u = partner-of (flips ps) t s back v.number q.0 q.1 v.goroutine fv in
      let w = first-some o side s.goroutines q.0 u.0 v.wait (Entry-find q.0 s.goroutines u.0 u.1)
      (ap (wait_for o side) (sym (same-waits v.goroutine u.0 u.2)) ∙ is.found) in
      cc (w.1, n)

  some-right : (w : Waiter) → first o side s.goroutines ≡ Some w
      → (v : Waiter) × (first o side t.goroutines ≡ Some v) × Partners w v
  some-right w f =
      let is = first-is o side s.goroutines w f in
      let fw = find-Entry s.goroutines w.number w.goroutine rs is.entry in
      let p = al.left w.number w.goroutine fw in
      let h = p.0 in
      let q = partner-of ps s t al w.number h p.1 w.goroutine fw in
      let qwait : wait_for o side (waits_of q.0.mode) ≡ Some w.wait =
      ap (wait_for o side) (sym (same-waits w.goroutine q.0 q.2)) ∙ is.found in
      let eq' = Entry-find h t.goroutines q.0 q.1 in
      let v = first-some o side t.goroutines h q.0 w.wait eq' qwait in
      let isv = first-is o side t.goroutines v.0 v.1 in
      let fv = find-Entry t.goroutines v.0.number v.0.goroutine rt isv.entry in
      let back = alike-flip ps s t al in
      let k = al.right v.0.number v.0.goroutine fv in
      let kk = back.left v.0.number v.0.goroutine fv in
      let kp = (alike-flip (flips ps) t s back) in
      let u = partner-of (flips ps) t s back v.0.number kk.0 kk.1 v.0.goroutine fv in
      let uwait : wait_for o side (waits_of u.0.mode) ≡ Some v.0.wait =
      ap (wait_for o side) (sym (same-waits v.0.goroutine u.0 u.2)) ∙ isv.found in
      let z = first-some o side s.goroutines kk.0 u.0 v.0.wait (Entry-find kk.0 s.goroutines u.0 u.1) uwait in
      let zw : z.0 ≡ w = cc (z.1, f) in
      let low : waiter_ticket w ≤ ticket_of u.0.mode =
      subst (λ (x : Waiter). waiter_ticket x ≤ ticket_of u.0.mode) zw z.2 in
      let ord = back.order v.0.number kk.0 h w.number kk.1 (In-back w.number h p.1) v.0.goroutine u.0 q.0 w.goroutine
      fv u.1 q.1 fw o (wait_for-waited o side (waits_of v.0.goroutine.mode) v.0.wait isv.found)
      (wait_for-waited o side (waits_of q.0.mode) w.wait qwait) in
      let above : ticket_of q.0.mode ≤ ticket_of v.0.goroutine.mode =
      ltb-false (ticket_of v.0.goroutine.mode) (ticket_of q.0.mode)
      (ord ∙ le-ltb (ticket_of u.0.mode) (ticket_of w.goroutine.mode) low) in
      let below = v.2 in
      let same : v.0.number ≡ h = ot.goroutines.different v.0.number h v.0.goroutine q.0
      (record { entry = isv.entry; blocked = is-blocked v.0.goroutine v.0.wait isv.found })
      (record { entry = eq'; blocked = is-blocked q.0 w.wait qwait }) (omega (arith, above, below)) in
      let views : v.0.goroutine ≡ q.0 = some-inner v.0.goroutine q.0
      (sym fv ∙ ap (λ c. find c t.goroutines) same ∙ q.1) in
      let waits : v.0.wait ≡ w.wait = wait-inner v.0.wait w.wait (sym isv.found
      ∙ ap (λ (c : GoroutineView). wait_for o side (waits_of c.mode)) views ∙ qwait) in (
        v.0,
        v.1,
        record {
          pair = subst (λ c. In (w.number, c) ps) (sym same) p.1;
          wait = waits;
          view = q.2 ∙ ap blank (sym views);
        },
      ) where
        some-inner : (x y : GoroutineView) → Some x ≡ Some y → x ≡ y
        some-inner x y e = cc

        wait-inner : (x y : Wait) → Some x ≡ Some y → x ≡ y
        wait-inner x y e = cc

        In-back : (a b : ℕ) → In (a, b) ps → In (b, a) (flips ps)
        In-back a b i = In-flips a b ps i

  pub first-alike : FirstAlike (first o side s.goroutines) (first o side t.goroutines)
  first-alike = elim (maybe (first o side s.goroutines)) [
    | inl n ↦ elim (maybe (first o side t.goroutines)) [
      | inl m ↦ inl (n, m)
      | inr v ↦ absurd (some-left v.0 v.1 n)
    ]
    | inr w ↦ let v = some-right w.0 w.1 in inr (w.0, v.0, w.1, v.1, v.2)
  ]
