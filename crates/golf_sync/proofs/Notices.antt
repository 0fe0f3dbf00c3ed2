-- Waiters of a condition that are requeued.
-- For: `notify_by` and `requeue_all`, src/conditions.rt; `notified`, specs/Notified.antt
-- By: induction over the list of goroutines, and over the list of waiters
use Rattle.std.proofs.Common.{◌≡◌, ℕ, suc, ◌+◌, ◌<◌, ◌≤◌, Bool, true, false, cond, ◌&&◌, List, [], ◌∷◌, length, Option}
use Rattle.std.proofs.Common.{Some, None, ◌==◌, refl, sym, ap, ◌∙◌, inl, inr, arith}
use Rattle.std.specs.Prelude.{nat_lt, IsSome, is_some, option_map}
use Rattle.std.proofs.lemmas.Bool.{eqb-true, eq-eqb}
use Rattle.golf_data.specs.declared.value.Object.{Object}
use Rattle.golf_data.specs.declared.goroutine.Mode.{Mode}
use Rattle.golf_data.specs.declared.goroutine.Side.{Side}
use Rattle.golf_theory.specs.Membership.{In}
use Rattle.golf_theory.specs.Maps.{Entry, find, put, Rises, IsRising}
use Rattle.golf_theory.proofs.MapFinds.{find-put, Entry-above, find-Entry}
use Rattle.golf_theory.proofs.Placing.{put_below}
use Rattle.golf_model.specs.Views.{GoroutineView}
use Rattle.golf_model.specs.State.{State, is_running}
use Rattle.golf_model.specs.Waiters.{Waiter, waiter_ticket, waiter_of, waits_of, wait_for, first, by_ticket, enter}
use Rattle.golf_model.specs.Waiters.{waiters}
use Rattle.golf_model.specs.Wakes.{released}
use Rattle.golf_model.specs.Changes.{apply_all, requeue, moved, behind_first}
use Rattle.golf_model.specs.Actors.{stands, standing}
use Rattle.golf_model.specs.Conditions.{first_only, requeues}
use Rattle.golf_model.specs.Laws.{head}
use Rattle.golf_model.proofs.Firsts.{first-head, waiters-sound}
use Rattle.golf_state.specs.declared.waiters.Waiting.{Waiting}
use Rattle.golf_state.specs.Waited.{waiting_of}
use Rattle.golf_state.specs.ActorChanges.{does, Stands}
use Rattle.golf_state.specs.FrameChanges.{went}
use Rattle.golf_state.specs.Looked.{runs}
use Rattle.golf_state.proofs.Doings.{does-is, actor_of}
use Rattle.golf_state.proofs.Runnings.{runs-passed}
use Rattle.golf_sync.specs.Objects.{mutex_of}
use Rattle.golf_sync.specs.Notified.{notified}

pub length-put : {X : Type 0} (k : ℕ) (v : X) (es : List (ℕ × X)) → length (put k v es) ≡ length es
length-put k v [] = refl
length-put k v (e ∷ es) = ap suc (length-put k v es)

pub head-cons : {X : Type 0} (xs : List X) (x : X) → head xs ≡ Some x → xs ≡ x ∷ behind_first xs
head-cons {X} [] x h = cc
head-cons {X} (y ∷ ys) x h = let same : y ≡ x = cc in ap (λ (z : X). z ∷ ys) same

pub head-none : {X : Type 0} (xs : List X) → head xs ≡ None → xs ≡ []
head-none [] h = refl
head-none (y ∷ ys) h = cc

number-of : (o : ℕ) (side : Side) (e : ℕ × GoroutineView) (u : Waiter) → waiter_of o side e ≡ Some u → u.number ≡ e.0
number-of o side e u h =
    elim (wait_for o side (waits_of e.1.mode)) as (λ m. option_map
    (λ v. let x : Waiter = record { number = e.0; goroutine = e.1; wait = v } in x) m ≡ Some u → u.number ≡ e.0) [
      | None ↦ λ i. cc
      | Some v ↦ λ i. cc
    ] h

-- waiters of later goroutines have later numbers
above : (o j : ℕ) (side : Side) (es : List (ℕ × GoroutineView)) (w : Waiter) → Rises j es → In w (waiters o side es)
    → j ≤ w.number
above o j side es w r i =
    let h = waiters-sound o side es w i in
    let n = number-of o side h.0 w h.2 in
    let a = Entry-above j es h.0.0 h.0.1 r h.1 in
    omega (arith, n, a)

module _ (o : ℕ) (side : Side) (k : ℕ) (v : GoroutineView) (out : waiter_of o side (k, v) ≡ None) where
  -- a goroutine that does not wait there, before and after
  pub waiters-same : (gs : List (ℕ × GoroutineView))
      → ((x : GoroutineView) → Entry gs k x → waiter_of o side (k, x) ≡ None)
      → waiters o side (put k v gs) ≡ waiters o side gs
  waiters-same [] h = refl
  waiters-same (e ∷ es) h =
      let rest = waiters-same es (λ x i. h x (inr i)) in
      elim (k == e.0) as (λ b. k == e.0 ≡ b → enter (waiter_of o side (e.0, cond b v e.1)) (waiters o side (put k v es))
      ≡ enter (waiter_of o side e) (waiters o side es)) [
        | true ↦ λ t.
            let same = eqb-true k e.0 t in
            let new : waiter_of o side (e.0, v) ≡ None = ap (λ n. waiter_of o side (n, v)) (sym same) ∙ out in
            let old : waiter_of o side e ≡ None = ap (λ n. waiter_of o side (n, e.1)) (sym same)
            ∙ h e.1 (inl (same, refl)) in
            ap (λ (m : Option Waiter). enter m (waiters o side (put k v es))) new ∙ rest
            ∙ sym (ap (λ (m : Option Waiter). enter m (waiters o side es)) old)
        | false ↦ λ t. ap (enter (waiter_of o side e)) rest
      ] refl

  here : (j : ℕ) (es : List (ℕ × GoroutineView)) (w : Waiter) (ws : List Waiter) (m : Option Waiter) (us : List Waiter)
      → us ≡ waiters o side es → Rises j es → w.number < j → enter m us ≡ w ∷ ws → us ≡ ws
  here j es w ws None us e r l h = absurd
      (let i : In w us = rw h (inl refl) in let a = above o j side es w r (rw (← e) i) in omega arith)
  here j es w ws (Some u) [] e r l h = cc
  here j es w ws (Some u) (x ∷ xs) e r l h =
      elim (nat_lt (waiter_ticket x) (waiter_ticket u)) as (λ b. cond b (x ∷ by_ticket u xs) (u ∷ x ∷ xs) ≡ w ∷ ws → x
      ∷ xs ≡ ws) [
        | true ↦ λ i. absurd (let same : x ≡ w = cc in let a = above o j side es x r (rw (← e) (inl refl)) in let n = ap
            (λ (y : Waiter). y.number) same in omega (arith, a, n))
        | false ↦ λ i. cc
      ] h

  later : (e : ℕ × GoroutineView) (w : Waiter) (ws : List Waiter) (m : Option Waiter) (us : List Waiter)
      (vs : List Waiter) → waiter_of o side e ≡ m → (e.0 ≡ k → ⊥) → w.number ≡ k
      → ((xs : List Waiter) → us ≡ w ∷ xs → vs ≡ xs) → enter m us ≡ w ∷ ws → enter m vs ≡ ws
  later e w ws None us vs q n is more h = more ws h
  later e w ws (Some u) [] vs q n is more h =
      absurd (let same : u ≡ w = cc in n (sym (number-of o side e u q) ∙ ap (λ (y : Waiter). y.number) same ∙ is))
  later e w ws (Some u) (x ∷ xs) vs q n is more h =
      elim (nat_lt (waiter_ticket x) (waiter_ticket u)) as (λ b. cond b (x ∷ by_ticket u xs) (u ∷ x ∷ xs) ≡ w ∷ ws
      → by_ticket u vs ≡ ws) [
        | true ↦ λ i.
            let same : x ≡ w = cc in
            let tail : by_ticket u xs ≡ ws = cc in
            ap (by_ticket u) (more xs (ap (λ (y : Waiter). y ∷ xs) same)) ∙ tail
        | false ↦ λ i. absurd (let same : u ≡ w = cc in n
            (sym (number-of o side e u q) ∙ ap (λ (y : Waiter). y.number) same ∙ is))
      ] h

  -- the first one waits no more
  pub waiters-less : (j : ℕ) (gs : List (ℕ × GoroutineView)) (w : Waiter) (ws : List Waiter) → Rises j gs → w.number ≡ k
      → waiters o side gs ≡ w ∷ ws → waiters o side (put k v gs) ≡ ws
  waiters-less j [] w ws r is h = cc
  waiters-less j (e ∷ es) w ws r is h =
      elim (k == e.0) as (λ b. k == e.0 ≡ b → enter (waiter_of o side (e.0, cond b v e.1)) (waiters o side (put k v es))
      ≡ ws) [
        | true ↦ λ t.
            let same = eqb-true k e.0 t in
            ap (λ n. enter (waiter_of o side (n, v)) (waiters o side (put k v es))) (sym same)
            ∙ ap (λ (m : Option Waiter). enter m (waiters o side (put k v es))) out
            ∙ ap (waiters o side) (put_below k v (suc e.0) es (omega (arith, same)) r.1)
            ∙ here (suc e.0) es w ws (waiter_of o side e) (waiters o side es) refl r.1 (omega (arith, same, is)) h
        | false ↦ λ t. later e w ws (waiter_of o side e) (waiters o side es) (waiters o side (put k v es)) refl
            (λ q. cc (eq-eqb k e.0 (sym q))) is (λ xs i. waiters-less (suc e.0) es w xs r.1 is i) h
      ] refl

-- one that runs waits for nothing
pub runs-out : (o : ℕ) (side : Side) (k : ℕ) (r : GoroutineView) → is_running r.mode ≡ true
    → waiter_of o side (k, r) ≡ None
runs-out o side k r h = elim r.mode as (λ m. is_running m ≡ true
    → option_map (λ w. let x : Waiter = record { number = k; goroutine = r; wait = w } in x)
    (wait_for o side (waits_of m)) ≡ None) [
      | Mode.Running ↦ λ i. refl
      | Mode.Blocked kind line waits ticket ↦ λ i. cc
    ] h

pub notified-same : {old : GoroutineView} (all : Bool) (o g : ℕ) (s t : State) (v : GoroutineView)
    → IsRising s.goroutines → find g s.goroutines ≡ Some old → is_running old.mode ≡ true → is_running v.mode ≡ true
    → t.goroutines ≡ put g v s.goroutines
    → notified all o t.goroutines ≡ notified all o s.goroutines
notified-same {old} all o g s t v rising found ran runs e =
    let same : waiters o Side.Cond t.goroutines ≡ waiters o Side.Cond s.goroutines =
    ap (waiters o Side.Cond) e
    ∙ waiters-same o Side.Cond g v (runs-out o Side.Cond g v runs) s.goroutines (λ x i.
    let same : x ≡ old = cc (find-Entry s.goroutines g x rising i) in
    runs-out o Side.Cond g x (ap (λ (r : GoroutineView). is_running r.mode) same ∙ ran)) in
    elim all as (λ b. notified b o t.goroutines ≡ notified b o s.goroutines) [
      | true ↦ same
      | false ↦ ap first_only (first-head o Side.Cond t.goroutines ∙ ap head same
          ∙ sym (first-head o Side.Cond s.goroutines))
    ]

-- ---- one waiter is requeued

moved-out : (o k m ticket : ℕ) (r : GoroutineView) (mode : Mode)
    → option_map (λ w. let x : Waiter = record { number = k; goroutine = r; wait = w } in x)
    (wait_for o Side.Cond (waits_of (moved m ticket mode))) ≡ None
moved-out o k m ticket r Mode.Running = refl
moved-out o k m ticket r (Mode.Blocked kind line [] old) = refl
moved-out o k m ticket r (Mode.Blocked kind line (w ∷ ws) old) =
    elim (m == o) as (λ b. option_map (λ w. let x : Waiter = record { number = k; goroutine = r; wait = w } in x)
    (cond (b && false) (Some (record w { object = record { 0 = m }; side = Side.Lock })) None) ≡ None) [
      | true ↦
          refl
      | false ↦ refl
    ]

pub record Passed (o m : ℕ) (s t : State) (ws : List Waiter) : Type 0 where
  pub waiters : waiters o Side.Cond t.goroutines ≡ ws
  pub tickets : t.next_ticket ≤ s.next_ticket + 1
  pub mutex : IsSome (mutex_of (find m t.objects))

-- w is the first who waits, r its goroutine, and x the mutex
pub record WaitsFirst (o m : ℕ) (s : State) (w : Waiter) (ws : List Waiter) (r : Option GoroutineView)
    (x : Option Object) : Type 0 where
  pub rises : IsRising s.goroutines
  pub goroutine : r ≡ Some w.goroutine
  pub object : find m s.objects ≡ x
  pub mutex : IsSome (mutex_of x)
  pub first : waiters o Side.Cond s.goroutines ≡ w ∷ ws

pub passed : (o m : ℕ) (s : State) (w : Waiter) (ws : List Waiter) (r : Option GoroutineView) (x : Option Object)
    → WaitsFirst o m s w ws r x → Passed o m s (requeue w.number m r x s) ws
passed o m s w ws (Some r) (Some (Object.Mutex false)) h = record {
  waiters = waiters-less o Side.Cond w.number (released r) refl 0 s.goroutines w ws h.rises refl h.first;
  tickets = omega arith;
  mutex = rw (find-put m (Object.Mutex true) s.objects (Object.Mutex false) h.object) refl;
}
passed o m s w ws (Some r) (Some (Object.Mutex true)) h = record {
  waiters = waiters-less o Side.Cond w.number (record r { mode = moved m s.next_ticket r.mode })
      (moved-out o w.number m s.next_ticket (record r { mode = moved m s.next_ticket r.mode }) r.mode) 0 s.goroutines w
      ws h.rises refl h.first;
  tickets = omega arith;
  mutex = rw h.object refl;
}
passed o m s w ws _ _ h = let same = h.goroutine in let mutex = h.mutex in cc

by_ticket-count : (w : Waiter) (ws : List Waiter) → length (by_ticket w ws) ≡ suc (length ws)
by_ticket-count w [] = refl
by_ticket-count w (v ∷ vs) = elim (nat_lt (waiter_ticket v) (waiter_ticket w)) as (λ b. length
    (cond b (v ∷ by_ticket w vs) (w ∷ v ∷ vs)) ≡ suc (suc (length vs))) [
      | true ↦ ap suc (by_ticket-count w vs)
      | false ↦
          refl
    ]

enter-count : (m : Option Waiter) (ws : List Waiter) → length (enter m ws) ≤ suc (length ws)
enter-count None ws = omega arith
enter-count (Some w) ws = omega (arith, by_ticket-count w ws)

-- no more wait than there are
pub waiters-count : (o : ℕ) (side : Side) (gs : List (ℕ × GoroutineView)) → length (waiters o side gs) ≤ length gs
waiters-count o side [] = omega arith
waiters-count o side (e ∷ es) = let h = waiters-count o side es in omega
    (arith, enter-count (waiter_of o side e) (waiters o side es), h)

-- ---- who is requeued

pub none-of : (m : Option Waiter) (r : Option Waiting) → r ≡ option_map waiting_of m → is_some r ≡ false → m ≡ None
none-of None r e h = refl
none-of (Some w) r e h = cc

some-of : (m : Option Waiter) (r : Option Waiting) → r ≡ option_map waiting_of m → is_some r ≡ true → (w : Waiter)
    × (m ≡ Some w)
some-of None r e h = cc
some-of (Some w) r e h = (w, refl)

pub notified-none : (all : Bool) (o : ℕ) (gs : List (ℕ × GoroutineView)) → first o Side.Cond gs ≡ None
    → notified all o gs ≡ []
notified-none true o gs h = head-none (waiters o Side.Cond gs) (sym (first-head o Side.Cond gs) ∙ h)
notified-none false o gs h = ap first_only h

pub notified-some : (all : Bool) (o : ℕ) (gs : List (ℕ × GoroutineView)) (w : Waiter) → first o Side.Cond gs ≡ Some w
    → (ws : List Waiter) × (notified all o gs ≡ w ∷ ws)
notified-some true o gs w h = (
  behind_first (waiters o Side.Cond gs),
  head-cons (waiters o Side.Cond gs) w (sym (first-head o Side.Cond gs) ∙ h),
)
notified-some false o gs w h = ([], ap first_only h)

-- who was told of is the first of those who are
pub notified-from : (all : Bool) (o : ℕ) (gs : List (ℕ × GoroutineView)) (r : Option Waiting)
    → r ≡ option_map waiting_of (first o Side.Cond gs) → is_some r ≡ true → (w : Waiter) × (ws : List Waiter)
    × (notified all o gs ≡ w ∷ ws)
notified-from all o gs r e h =
    let w = some-of (first o Side.Cond gs) r e h in
    let rest = notified-some all o gs w.0 w.1 in
    (w.0, rest.0, rest.1)

-- who runs still does once they are requeued
pub passes-run : (g m : ℕ) (ws : List Waiter) (s : State) → runs g s ≡ true
    → runs g (apply_all (requeues m ws) s) ≡ true
passes-run g m [] s h = h
passes-run g m (w ∷ ws) s h = passes-run g m ws (requeue w.number m (find w.number s.goroutines) (find m s.objects) s)
    (runs-passed g w.number m s h)

-- the goroutine in its turn has gone on, and then they are requeued
module _ (g after line : ℕ) (s t : State) (st : Stands g after s)
    (is : t ≡ does (λ a. stands a (went after 1 [] a.frame)) g line s) where
  pub gone-on : t ≡ apply_all (stands (actor_of st line) (went after 1 [] st.frame)) s
  gone-on = is ∙ does-is g after s st (λ a. stands a (went after 1 [] a.frame)) line

  pub ticket-same : t.next_ticket ≡ s.next_ticket
  ticket-same = ap (λ (u : State). u.next_ticket) gone-on

  pub count-same : length t.goroutines ≡ length s.goroutines
  count-same = ap (λ (u : State). length u.goroutines) gone-on
      ∙ length-put g (standing (actor_of st line) (went after 1 [] st.frame)) s.goroutines

  pub requeued : (all : Bool) (o m : ℕ) (u : State) → IsRising s.goroutines → runs g t ≡ true
      → u ≡ apply_all (requeues m (notified all o t.goroutines)) t
      → (u ≡ apply_all (requeues m (notified all o s.goroutines)) t) × (runs g u ≡ true)
  requeued all o m u rising ran e =
      let same = notified-same all o g s t _ rising st.found refl refl (ap (λ (v : State). v.goroutines) gone-on) in
      let then = e ∙ ap (λ (ws : List Waiter). apply_all (requeues m ws) t) same in
      (then, ap (runs g) then ∙ passes-run g m (notified all o s.goroutines) t ran)
