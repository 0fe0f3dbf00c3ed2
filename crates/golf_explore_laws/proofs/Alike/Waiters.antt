-- The waiters on an object and those of an alike state are partners, one by one.
-- For: `waiters`, golf_model/specs/Waiters.antt; `IsAlike`, specs/Alike.antt
-- By: induction over the list of goroutines, and over both lists of waiters
use Rattle.std.proofs.Common.{◌≡◌, ℕ, suc, ◌<◌, ◌≤◌, true, false, cond, List, [], ◌∷◌, Option, Some, None, inl, inr}
use Rattle.std.proofs.Common.{◌⊎◌, refl, sym, ap, ◌∙◌, subst, arith}
use Rattle.std.specs.Prelude.{nat_lt, option_map}
use Rattle.std.proofs.lemmas.Bool.{ltb-true, ltb-false, lt-ltb}
use Rattle.golf_theory.specs.Membership.{In, Every}
use Rattle.golf_theory.specs.Maps.{Entry, find, Rises, IsRising}
use Rattle.golf_theory.proofs.Lists.{Every-at, Every-from}
use Rattle.golf_theory.proofs.MapEntries.{Entry-find}
use Rattle.golf_theory.proofs.MapFinds.{find-Entry, Entry-above}
use Rattle.golf_data.specs.declared.goroutine.Mode.{Mode}
use Rattle.golf_data.specs.declared.goroutine.Side.{Side}
use Rattle.golf_data.specs.declared.goroutine.Wait.{Wait}
use Rattle.golf_model.specs.Views.{GoroutineView}
use Rattle.golf_model.specs.State.{State, is_running}
use Rattle.golf_model.specs.Waiters.{Waiter, waiter_ticket, waits_of, ticket_of, wait_for, waiter_of, by_ticket, enter}
use Rattle.golf_model.specs.Waiters.{first, waiters}
use Rattle.golf_model.specs.Laws.{head}
use Rattle.golf_model.proofs.Firsts.{first-head, waiters-sound, waiters-complete}
use Rattle.golf_model_futures.specs.Orderly.{IsBlocked, IsOrderly}
use Rattle.golf_model_futures.proofs.WaitLaws.{wait_for-waited}
use Rattle.golf_explore_laws.specs.Alike.{blank, WaitsOn, AlikeBy}
use Rattle.golf_explore_laws.proofs.Alike.Partners.{same-waits, partner-of, alike-flip, flips, In-flips}

-- ---- the tickets of waiters rise strictly

-- each waiter has a lower ticket than those after it
abbrev AreStrict : List Waiter → Type 0
AreStrict [] = Unit {0}
AreStrict (w ∷ ws) = Every (λ v. waiter_ticket w < waiter_ticket v) ws × AreStrict ws

by_ticket-in : (w : Waiter) (ws : List Waiter) (v : Waiter) → In v (by_ticket w ws) → (v ≡ w) ⊎ In v ws
by_ticket-in w [] v h = h
by_ticket-in w (x ∷ xs) v h =
    elim (nat_lt (waiter_ticket x) (waiter_ticket w)) as (λ b. In v (cond b (x ∷ by_ticket w xs) (w ∷ x ∷ xs)) → (v ≡ w)
    ⊎ In v (x ∷ xs)) [
      | true ↦ λ i. elim i [
        | inl e ↦ inr (inl e)
        | inr a ↦ elim (by_ticket-in w xs v a) [ inl e ↦ inl e | inr k ↦ inr (inr k) ]
      ]
      | false ↦ λ i. i
    ] h

by_ticket-strict : (w : Waiter) (ws : List Waiter) → AreStrict ws
    → ((v : Waiter) → In v ws → waiter_ticket v ≡ waiter_ticket w → ⊥) → AreStrict (by_ticket w ws)
by_ticket-strict w [] s d = (tt, tt)
by_ticket-strict w (x ∷ xs) s d =
    elim (nat_lt (waiter_ticket x) (waiter_ticket w)) as (λ b. nat_lt (waiter_ticket x) (waiter_ticket w) ≡ b
    → AreStrict (cond b (x ∷ by_ticket w xs) (w ∷ x ∷ xs))) [
      | true ↦ λ t. let l = ltb-true (waiter_ticket x) (waiter_ticket w) t in (
        Every-from (λ v. waiter_ticket x < waiter_ticket v) (by_ticket w xs) (λ v i. elim (by_ticket-in w xs v i) [
          | inl e ↦ subst (λ (u : Waiter). waiter_ticket x < waiter_ticket u) (sym e) l
          | inr k ↦ Every-at (λ u. waiter_ticket x < waiter_ticket u) xs v s.0 k
        ]),
        by_ticket-strict w xs s.1 (λ v i. d v (inr i)),
      )
      | false ↦ λ t.
          let l = ltb-false (waiter_ticket x) (waiter_ticket w) t in
          let n = d x (inl refl) in (
            (
              omega (arith, l, n),
              Every-from (λ v. waiter_ticket w < waiter_ticket v) xs (λ v i.
                  let k = Every-at (λ u. waiter_ticket x < waiter_ticket u) xs v s.0 i in omega (arith, l, k)),
            ),
            s,
          )
    ] refl

module _ (o : ℕ) (side : Side) where
  fields-of : (g : ℕ) (r : GoroutineView) (m : Option Wait) (w : Waiter)
      → option_map (λ x. let y : Waiter = record { number = g; goroutine = r; wait = x } in y) m ≡ Some w
      → (w.number ≡ g) × (w.goroutine ≡ r) × (m ≡ Some w.wait)
  fields-of g r None w e = cc
  fields-of g r (Some x) w e =
      let same : ◌≡◌ {A = Waiter} (record { number = g; goroutine = r; wait = x }) w = cc in (
        sym (ap (λ (z : Waiter). z.number) same),
        sym (ap (λ (z : Waiter). z.goroutine) same),
        ap (λ (z : Waiter). Some z.wait) same,
      )

  -- a waiter of a list is one of its goroutines, and waits there
  pub waits-there : (gs : List (ℕ × GoroutineView)) (w : Waiter) → In w (waiters o side gs)
      → Entry gs w.number w.goroutine × (wait_for o side (waits_of w.goroutine.mode) ≡ Some w.wait)
  waits-there gs w i =
      let x = waiters-sound o side gs w i in
      let f = fields-of x.0.0 x.0.1 (wait_for o side (waits_of x.0.1.mode)) w x.2 in (
        subst (λ k. Entry gs k w.goroutine) (sym f.0) (subst (Entry gs x.0.0) (sym f.1) x.1),
        ap (λ (r : GoroutineView). wait_for o side (waits_of r.mode)) f.1 ∙ f.2,
      )

  blocked-there : (m : Mode) (x : Wait) → wait_for o side (waits_of m) ≡ Some x → is_running m ≡ false
  blocked-there Mode.Running x f = cc
  blocked-there (Mode.Blocked kind line waits ticket) x f = refl

  abbrev Different : List (ℕ × GoroutineView) → Type 0
  Different gs = (g h : ℕ) (q r : GoroutineView) → IsBlocked gs g q → IsBlocked gs h r
      → ticket_of q.mode ≡ ticket_of r.mode → g ≡ h

  entered-strict : (e : ℕ × GoroutineView) (es : List (ℕ × GoroutineView)) (m : Option Waiter)
      → waiter_of o side e ≡ m → Rises (suc e.0) es → Different (e ∷ es) → AreStrict (waiters o side es)
      → AreStrict (enter m (waiters o side es))
  entered-strict e es None q r d s = s
  entered-strict e es (Some w) q r d s = by_ticket-strict w (waiters o side es) s (λ v i t.
      let x = waits-there es v i in
      let f = fields-of e.0 e.1 (wait_for o side (waits_of e.1.mode)) w q in
      let own : ticket_of v.goroutine.mode ≡ ticket_of e.1.mode =
      t ∙ ap (λ (z : GoroutineView). ticket_of z.mode) f.1 in
      let same = d v.number e.0 v.goroutine e.1
      (record { entry = inr x.0; blocked = blocked-there v.goroutine.mode v.wait x.1 })
      (record { entry = inl (refl, refl); blocked = blocked-there e.1.mode w.wait f.2 }) own in
      let low = Entry-above (suc e.0) es v.number v.goroutine r x.0 in
      omega (arith, same, low))

  pub waiters-strict : (j : ℕ) (es : List (ℕ × GoroutineView)) → Rises j es → Different es
      → AreStrict (waiters o side es)
  waiters-strict j [] r d = tt
  waiters-strict j (e ∷ es) r d = entered-strict e es (waiter_of o side e) refl r.1 d
      (waiters-strict (suc e.0) es r.1 (λ g h x y a b. d g h x y
      (record { entry = inr a.entry; blocked = a.blocked }) (record { entry = inr b.entry; blocked = b.blocked })))

-- ---- two lists, one by one

-- the lists have the same length, and this holds of each two waiters at the same place
abbrev pub ArePaired : (Waiter → Waiter → Type 0) → List Waiter → List Waiter → Type 0
ArePaired P [] vs = vs ≡ []
ArePaired P (w ∷ ws) vs = (v : Waiter) × (us : List Waiter) × (vs ≡ v ∷ us) × P w v × ArePaired P ws us

clash : (a b c d : ℕ) → nat_lt a b ≡ nat_lt c d → c < d → b ≤ a → ⊥
clash a b c d e l m = let k = ltb-true a b (e ∙ lt-ltb c d l) in omega (arith, k, m)

module _ (P : Waiter → Waiter → Type 0)
    (order : (w v u x : Waiter) → P w v → P u x
    → nat_lt (waiter_ticket w) (waiter_ticket u) ≡ nat_lt (waiter_ticket v) (waiter_ticket x)) where
  abbrev To : List Waiter → List Waiter → Type 0
  To ws vs = (w : Waiter) → In w ws → (v : Waiter) × In v vs × P w v

  abbrev Back : List Waiter → List Waiter → Type 0
  Back ws vs = (v : Waiter) → In v vs → (w : Waiter) × In w ws × P w v

  module _ (w : Waiter) (ws : List Waiter) (v : Waiter) (vs : List Waiter) (s : AreStrict (w ∷ ws))
      (r : AreStrict (v ∷ vs)) (to : To (w ∷ ws) (v ∷ vs)) (back : Back (w ∷ ws) (v ∷ vs)) where
    not-after : (u : Waiter) → In u (w ∷ ws) → waiter_ticket w ≤ waiter_ticket u
    not-after u (inl e) = let same = ap waiter_ticket e in omega (arith, same)
    not-after u (inr i) = let l = Every-at (λ x. waiter_ticket w < waiter_ticket x) ws u s.0 i in omega (arith, l)

    heads-paired : P w v
    heads-paired =
        let p = to w (inl refl) in
        elim p.1 [
          | inl e ↦ subst (P w) e p.2
          | inr j ↦
              let q = back v (inl refl) in
              absurd (clash (waiter_ticket q.0) (waiter_ticket w) (waiter_ticket v) (waiter_ticket p.0)
              (order q.0 v w p.0 q.2 p.2) (Every-at (λ x. waiter_ticket v < waiter_ticket x) vs p.0 r.0 j)
              (not-after q.0 q.1))
        ]

    to-rest : To ws vs
    to-rest u i =
        let p = to u (inr i) in
        elim p.1 [
          | inl e ↦
              let same = ap waiter_ticket e in
              absurd (clash (waiter_ticket v) (waiter_ticket p.0) (waiter_ticket w) (waiter_ticket u)
              (sym (order w v u p.0 heads-paired p.2)) (Every-at (λ x. waiter_ticket w < waiter_ticket x) ws u s.0 i)
              (omega (arith, same)))
          | inr j ↦ (p.0, j, p.2)
        ]

    back-rest : Back ws vs
    back-rest u i =
        let p = back u (inr i) in
        elim p.1 [
          | inl e ↦
              let same = ap waiter_ticket e in
              absurd (clash (waiter_ticket w) (waiter_ticket p.0) (waiter_ticket v) (waiter_ticket u)
              (order w v p.0 u heads-paired p.2) (Every-at (λ x. waiter_ticket v < waiter_ticket x) vs u r.0 i)
              (omega (arith, same)))
          | inr j ↦ (p.0, j, p.2)
        ]

  pairs-up : (ws vs : List Waiter) → AreStrict ws → AreStrict vs → To ws vs → Back ws vs → ArePaired P ws vs
  pairs-up [] [] s r to back = refl
  pairs-up [] (v ∷ vs) s r to back = absurd ((back v (inl refl)).1)
  pairs-up (w ∷ ws) [] s r to back = absurd ((to w (inl refl)).1)
  pairs-up (w ∷ ws) (v ∷ vs) s r to back = (
    v,
    vs,
    refl,
    heads-paired w ws v vs s r to back,
    pairs-up ws vs s.1 r.1 (to-rest w ws v vs s r to back) (back-rest w ws v vs s r to back),
  )

-- ---- the waiters of alike states

module _ (ps : List (ℕ × ℕ)) (s t : State) (al : AlikeBy ps s t) (rs : IsRising s.goroutines)
    (rt : IsRising t.goroutines) (os : IsOrderly s) (ot : IsOrderly t) (o : ℕ) where
  -- the two are partners, and wait on the object
  pub record WaitTogether (w v : Waiter) : Type 0 where
    pub pair : In (w.number, v.number) ps
    pub left : find w.number s.goroutines ≡ Some w.goroutine
    pub right : find v.number t.goroutines ≡ Some v.goroutine
    pub here : WaitsOn o w.goroutine
    pub there : WaitsOn o v.goroutine
    pub view : blank w.goroutine ≡ blank v.goroutine

  pub together-order : (w v u x : Waiter) → WaitTogether w v → WaitTogether u x
      → nat_lt (waiter_ticket w) (waiter_ticket u) ≡ nat_lt (waiter_ticket v) (waiter_ticket x)
  together-order w v u x p q = al.order w.number v.number u.number x.number p.pair q.pair w.goroutine v.goroutine
      u.goroutine x.goroutine p.left p.right q.left q.right o p.here q.here

  module _ (side : Side) where
    waits : (r : GoroutineView) (x : Wait) → wait_for o side (waits_of r.mode) ≡ Some x → WaitsOn o r
    waits r x f = wait_for-waited o side (waits_of r.mode) x f

    as-waiter : (gs : List (ℕ × GoroutineView)) (g : ℕ) (r : GoroutineView) (x : Wait) → find g gs ≡ Some r
        → wait_for o side (waits_of r.mode) ≡ Some x
        → In (record { number = g; goroutine = r; wait = x }) (waiters o side gs)
    as-waiter gs g r x f e = waiters-complete o side gs (record { number = g; goroutine = r; wait = x }) (
      (g, r),
      Entry-find g gs r f,
      ap (option_map (λ y. let u : Waiter = record { number = g; goroutine = r; wait = y } in u)) e,
    )

    to-partner : (w : Waiter) → In w (waiters o side s.goroutines)
        → (v : Waiter) × In v (waiters o side t.goroutines) × WaitTogether w v
    to-partner w i =
        let x = waits-there o side s.goroutines w i in
        let f = find-Entry s.goroutines w.number w.goroutine rs x.0 in
        let p = al.left w.number w.goroutine f in
        let q = partner-of ps s t al w.number p.0 p.1 w.goroutine f in
        let e : wait_for o side (waits_of q.0.mode) ≡ Some w.wait =
        ap (wait_for o side) (sym (same-waits w.goroutine q.0 q.2)) ∙ x.1 in (
          record { number = p.0; goroutine = q.0; wait = w.wait },
          as-waiter t.goroutines p.0 q.0 w.wait q.1 e,
          record {
            pair = p.1;
            left = f;
            right = q.1;
            here = waits w.goroutine w.wait x.1;
            there = waits q.0 w.wait e;
            view = q.2;
          },
        )

    to-partner_back : (v : Waiter) → In v (waiters o side t.goroutines)
        → (w : Waiter) × In w (waiters o side s.goroutines) × WaitTogether w v
    to-partner_back v i =
        let x = waits-there o side t.goroutines v i in
        let f = find-Entry t.goroutines v.number v.goroutine rt x.0 in
        let p = al.right v.number v.goroutine f in
        let q = partner-of (flips ps) t s (alike-flip ps s t al) v.number p.0 (In-flips p.0 v.number ps p.1)
        v.goroutine f in
        let e : wait_for o side (waits_of q.0.mode) ≡ Some v.wait =
        ap (wait_for o side) (sym (same-waits v.goroutine q.0 q.2)) ∙ x.1 in (
          record { number = p.0; goroutine = q.0; wait = v.wait },
          as-waiter s.goroutines p.0 q.0 v.wait q.1 e,
          record {
            pair = p.1;
            left = q.1;
            right = f;
            here = waits q.0 v.wait e;
            there = waits v.goroutine v.wait x.1;
            view = sym q.2;
          },
        )

    pub waiters-paired : ArePaired WaitTogether (waiters o side s.goroutines) (waiters o side t.goroutines)
    waiters-paired = pairs-up WaitTogether together-order (waiters o side s.goroutines) (waiters o side t.goroutines)
        (waiters-strict o side 0 s.goroutines rs os.goroutines.different)
        (waiters-strict o side 0 t.goroutines rt ot.goroutines.different) to-partner to-partner_back

    -- both states have a first waiter, and these are partners, or neither has one
    abbrev pub FirstTogether : Type 0
    FirstTogether = ((first o side s.goroutines ≡ None) × (first o side t.goroutines ≡ None))
        ⊎ ((w : Waiter) × (v : Waiter) × (first o side s.goroutines ≡ Some w) × (first o side t.goroutines ≡ Some v)
        × WaitTogether w v)

    first-of : (ws vs : List Waiter) → waiters o side s.goroutines ≡ ws → waiters o side t.goroutines ≡ vs
        → ArePaired WaitTogether ws vs → FirstTogether
    first-of [] vs d e p = inl (
      first-head o side s.goroutines ∙ ap head d,
      first-head o side t.goroutines ∙ ap head (e ∙ p),
    )
    first-of (w ∷ ws) vs d e p = inr (
      w,
      p.0,
      first-head o side s.goroutines ∙ ap head d,
      first-head o side t.goroutines ∙ ap head (e ∙ p.2),
      p.3,
    )

    pub first-together : FirstTogether
    first-together = first-of (waiters o side s.goroutines) (waiters o side t.goroutines) refl refl waiters-paired
