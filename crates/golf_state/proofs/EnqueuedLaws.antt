-- Goroutines still stand in the queues that they wait in, after a change of goroutines.
-- For: `AreEnqueued` (golf_state/specs/Enqueued.antt) and `block`, `wake` (src/state.rt)
-- By: cases of the goroutine's mode; induction over the list of waits for one that blocks
use Rattle.std.proofs.Common.{◌≡◌, ℕ, ◌+◌, ◌*◌, ◌<◌, ◌≤◌, Bool, true, false, cond, not, ◌&&◌, List, [], ◌∷◌, Option}
use Rattle.std.proofs.Common.{Some, None, ◌==◌, ◌⊎◌, inl, inr, refl, sym, ap, ◌∙◌, subst, arith}
use Rattle.std.specs.Prelude.{option_map}
use Rattle.std.proofs.lemmas.Bool.{cases_eq, eqb-true, eq-eqb, true≢false}
use Rattle.golf_data.specs.declared.goroutine.Mode.{Mode}
use Rattle.golf_data.specs.declared.goroutine.Side.{Side}
use Rattle.golf_data.specs.declared.goroutine.Wait.{Wait}
use Rattle.golf_data.specs.declared.goroutine.WaitKind.{WaitKind}
use Rattle.golf_theory.specs.Maps.{Entry, find, put, add, only, IsRising}
use Rattle.golf_theory.proofs.MapFinds.{find-Entry, find-put}
use Rattle.golf_theory.proofs.MapEntries.{Entry-find, Entry-put, Entry-add, Entry-only}
use Rattle.golf_theory.proofs.MapOrder.{Rises-put, AllBelow-more}
use Rattle.golf_model.specs.Views.{GoroutineView}
use Rattle.golf_model.specs.State.{is_running}
use Rattle.golf_model.specs.Waiters.{Waiter, waiter_of, waits_of, wait_for, same_side, side_number, ticket_of}
use Rattle.golf_model.specs.Changes.{moved}
use Rattle.golf_state_queues.specs.WaitQueues.{WaitQueues, key, wait_queue_at, TicketsBelow, KeepsWaiters, StandsInAll}
use Rattle.golf_state.specs.Enqueued.{IsEarly, has_queue, AreEnqueued}

-- ---- one goroutine, before and after

-- it stands in the queues that it waits in
pub record Stands (listed : Bool) (queues : WaitQueues) (next g : ℕ) (r : GoroutineView) : Type 0 where
  pub stands : (o : ℕ) (side : Side) (w : Waiter) → has_queue listed side ≡ true → waiter_of o side (g, r) ≡ Some w
      → Entry (wait_queue_at (key o side) queues) (ticket_of r.mode) g
  pub early : IsEarly next r.mode

-- it waits as before, and stands where it stood
pub record Stays (gs : List (ℕ × GoroutineView)) (old new : WaitQueues) (g : ℕ) (r : GoroutineView) : Type 0 where
  pub was : GoroutineView
  pub there : Entry gs g was
  pub mode : was.mode ≡ r.mode
  pub kept : (k : ℕ) → Entry (wait_queue_at k old) (ticket_of was.mode) g
      → Entry (wait_queue_at k new) (ticket_of was.mode) g

waiter-same : (o : ℕ) (side : Side) (g : ℕ) (r v : GoroutineView) (w : Waiter) → r.mode ≡ v.mode
    → waiter_of o side (g, v) ≡ Some w → (u : Waiter) × (waiter_of o side (g, r) ≡ Some u)
waiter-same o side g r v w e h =
    elim (wait_for o side (waits_of v.mode)) as (λ m. wait_for o side (waits_of v.mode) ≡ m
    → option_map (λ y. let x : Waiter = record { number = g; goroutine = v; wait = y } in x) m ≡ Some w
    → (u : Waiter) × (waiter_of o side (g, r) ≡ Some u)) [
      | None ↦ λ q i. absurd (cc)
      | Some y ↦ λ q i. (
        record { number = g; goroutine = r; wait = y },
        ap (λ (m : Option Wait). option_map (λ z. let x : Waiter = record { number = g; goroutine = r; wait = z } in x)
            m) (ap (λ (k : Mode). wait_for o side (waits_of k)) e ∙ q),
      )
    ] refl h

early-more : (m n : ℕ) (k : Mode) → m ≤ n → IsEarly m k → IsEarly n k
early-more m n Mode.Running l e = tt
early-more m n (Mode.Blocked kind line waits ticket) l e = omega (arith, l, e)

-- if fewer have queues
fewer-enqueued : (listed still : Bool) (side : Side) → (still ≡ true → listed ≡ true) → has_queue still side ≡ true
    → has_queue listed side ≡ true
fewer-enqueued listed still Side.Receive more q = refl
fewer-enqueued listed still Side.Send more q = refl
fewer-enqueued listed still Side.Lock more q = more q
fewer-enqueued listed still Side.Group more q = refl
fewer-enqueued listed still Side.Read more q = refl
fewer-enqueued listed still Side.Write more q = refl
fewer-enqueued listed still Side.Cond more q = refl

-- what has a queue without those of mutexes has one with them
pub always-enqueued : (listed : Bool) (side : Side) → has_queue false side ≡ true → has_queue listed side ≡ true
always-enqueued listed side q = fewer-enqueued listed false side (λ e. absurd (true≢false (sym e))) q

-- each goroutine stands in its queues, or stays
pub enqueued : {listed still : Bool} {gs hs : List (ℕ × GoroutineView)} {old new : WaitQueues} {m n : ℕ}
    → AreEnqueued listed gs old m → (still ≡ true → listed ≡ true) → m ≤ n → TicketsBelow (n + 1) new
    → ((g : ℕ) (r : GoroutineView) → Entry hs g r → Stands still new n g r ⊎ Stays gs old new g r)
    → AreEnqueued still hs new n
enqueued {listed} {still} {gs} {hs} {old} {new} {m} {n} a more l b each = record {
  below = b;
  early = λ g r i. elim (each g r i) [
    | inl f ↦ f.early
    | inr s ↦ early-more m n r.mode l (subst (IsEarly m) s.mode (a.early g s.was s.there))
  ];
  all = λ o side q g r w i h. elim (each g r i) [
    | inl f ↦ f.stands o side w q h
    | inr s ↦
        let u = waiter-same o side g s.was r w s.mode h in
        subst (λ (k : Mode). Entry (wait_queue_at (key o side) new) (ticket_of k) g) s.mode
        (s.kept (key o side) (a.all o side (fewer-enqueued listed still side more q) g s.was u.0 s.there u.1))
  ];
}

more-below : (m n : ℕ) (ls : WaitQueues) → m ≤ n → TicketsBelow m ls → TicketsBelow n ls
more-below m n ls l b = λ k. AllBelow-more m n (wait_queue_at k ls) l (b k)

waiting-for : (o : ℕ) (side : Side) (g : ℕ) (r : GoroutineView) (w : Waiter) → waiter_of o side (g, r) ≡ Some w
    → (y : Wait) × (wait_for o side (waits_of r.mode) ≡ Some y) × (is_running r.mode ≡ false)
waiting-for o side g r w h =
    elim (wait_for o side (waits_of r.mode)) as (λ m. wait_for o side (waits_of r.mode) ≡ m
    → option_map (λ y. let x : Waiter = record { number = g; goroutine = r; wait = y } in x) m ≡ Some w → (y : Wait)
    × (m ≡ Some y) × (is_running r.mode ≡ false)) [
      | None ↦ λ q i. absurd (cc)
      | Some y ↦ λ q i. (y, refl, blocked r.mode y q)
    ] refl h
  where
    blocked : (md : Mode) (y : Wait) → wait_for o side (waits_of md) ≡ Some y → is_running md ≡ false
    blocked Mode.Running y q = absurd (cc)
    blocked (Mode.Blocked kind line waits ticket) y q = refl

early-ticket : (n : ℕ) (md : Mode) → is_running md ≡ false → IsEarly n md → ticket_of md < n
early-ticket n Mode.Running r e = absurd (cc)
early-ticket n (Mode.Blocked kind line waits ticket) r e = e

early-runs : (n : ℕ) (md : Mode) → is_running md ≡ true → IsEarly n md
early-runs n Mode.Running h = tt
early-runs n (Mode.Blocked kind line waits ticket) h = absurd (cc)

runs-stands : (listed : Bool) (ls : WaitQueues) (n g : ℕ) (r : GoroutineView) → is_running r.mode ≡ true
    → Stands listed ls n g r
runs-stands listed ls n g r h = record {
  stands = λ o side w q i. absurd (true≢false (sym h ∙ (waiting-for o side g r w i).2));
  early = early-runs n r.mode h;
}

-- the entry of a number that was put
pub put-there : (g : ℕ) (v old : GoroutineView) (gs : List (ℕ × GoroutineView)) (r : GoroutineView) → IsRising gs
    → find g gs ≡ Some old → Entry (put g v gs) g r → r ≡ v
put-there g v old gs r rises f i =
    let a = find-Entry (put g v gs) g r (Rises-put 0 g v gs rises) i in
    let b = find-put g v gs old f in
    cc

-- ---- changes

-- whoever else has an earlier ticket stands where he stood; g stands in the queue of mutex k, if mutexes have queues
pub record EntersQueue (still : Bool) (old new : WaitQueues) (m g k : ℕ) : Type 0 where
  pub below : TicketsBelow (m + 1) new
  pub kept : (j t h : ℕ) → (h ≡ g → ⊥) → t < m → Entry (wait_queue_at j old) t h → Entry (wait_queue_at j new) t h
  pub there : still ≡ true → Entry (wait_queue_at (key k Side.Lock) new) m g

module _ (listed : Bool) (gs : List (ℕ × GoroutineView)) (old new : WaitQueues) (m : ℕ)
    (a : AreEnqueued listed gs old m) (rises : IsRising gs) where
  -- one goroutine changes, and the others stand where they stood
  pub enqueued-put : (n g : ℕ) (was v : GoroutineView) → find g gs ≡ Some was → m ≤ n → TicketsBelow (n + 1) new
      → KeepsWaiters (λ t h. h ≡ g → ⊥) old new → Stands listed new n g v ⊎ Stays gs old new g v
      → AreEnqueued listed (put g v gs) new n
  enqueued-put n g was v f l b kept here =
      enqueued a (λ e. e) l b (λ k r i. elim (cases_eq k g) [
        | inl e ↦
            let is = put-there g v was gs r rises f (subst (λ (j : ℕ). Entry (put g v gs) j r) e i) in
            subst (λ (j : ℕ). Stands listed new n j r ⊎ Stays gs old new j r) (sym e)
            (subst (λ (x : GoroutineView). Stands listed new n g x ⊎ Stays gs old new g x) (sym is) here)
        | inr d ↦ elim (Entry-put g v gs k r i) [
          | inl x ↦ absurd (d x.0)
          | inr x ↦ inr (record { was = r; there = x; mode = refl; kept = λ j y. kept j (ticket_of r.mode) k d y })
        ]
      ])

  -- a goroutine goes on
  pub enqueued-woken : (g : ℕ) (was v : GoroutineView) → find g gs ≡ Some was
      → ((n : ℕ) → TicketsBelow n old → TicketsBelow n new) → KeepsWaiters (λ t h. h ≡ g → ⊥) old new
      → is_running v.mode ≡ true
      → AreEnqueued listed (put g v gs) new m
  enqueued-woken g was v f b kept h = enqueued-put m g was v f (omega arith) (b (m + 1) a.below) kept
      (inl (runs-stands listed new m g v h))

  elsewhere : (b : Bool) (w x : Wait) → cond (b && false) (Some w) None ≡ Some x → ⊥
  elsewhere true w x h = cc
  elsewhere false w x h = cc

  moved-early : (k n : ℕ) (md : Mode) → IsEarly (n + 1) (moved k n md)
  moved-early k n Mode.Running = tt
  moved-early k n (Mode.Blocked kind line waits ticket) = omega arith

  -- who waits for a mutex from now on stands in its queue
  moved-side : (still : Bool) (o k g n : ℕ) (side : Side) (w x : Wait) → has_queue still side ≡ true
      → cond ((k == o) && same_side Side.Lock side) (Some w) None ≡ Some x
      → (still ≡ true → Entry (wait_queue_at (key k Side.Lock) new) n g) → Entry (wait_queue_at (key o side) new) n g
  moved-side still o k g n Side.Lock w x q h there =
      elim (k == o) as (λ b. k == o ≡ b → cond (b && true) (Some w) None ≡ Some x
      → Entry (wait_queue_at (key o Side.Lock) new) n g) [
        | true ↦ λ e i. subst (λ (j : ℕ). Entry (wait_queue_at (key j Side.Lock) new) n g) (eqb-true k o e) (there q)
        | false ↦ λ e i. absurd (cc)
      ] refl h
  moved-side still o k g n Side.Receive w x q h there = absurd (elsewhere (k == o) w x h)
  moved-side still o k g n Side.Send w x q h there = absurd (elsewhere (k == o) w x h)
  moved-side still o k g n Side.Group w x q h there = absurd (elsewhere (k == o) w x h)
  moved-side still o k g n Side.Read w x q h there = absurd (elsewhere (k == o) w x h)
  moved-side still o k g n Side.Write w x q h there = absurd (elsewhere (k == o) w x h)
  moved-side still o k g n Side.Cond w x q h there = absurd (elsewhere (k == o) w x h)

  moved-stands : (still : Bool) (o k g n : ℕ) (side : Side) (x : Wait) (md : Mode) → has_queue still side ≡ true
      → wait_for o side (waits_of (moved k n md)) ≡ Some x
      → (still ≡ true → Entry (wait_queue_at (key k Side.Lock) new) n g)
      → Entry (wait_queue_at (key o side) new) (ticket_of (moved k n md)) g
  moved-stands still o k g n side x Mode.Running q h there = absurd (cc)
  moved-stands still o k g n side x (Mode.Blocked kind line [] ticket) q h there = absurd (cc)
  moved-stands still o k g n side x (Mode.Blocked kind line (w ∷ ws) ticket) q h there =
      moved-side still o k g n side (record w { object = record { 0 = k }; side = Side.Lock }) x q h there

  -- a goroutine waits for a mutex from now on, with the next ticket
  pub enqueued-moved : (still : Bool) (g k : ℕ) (was v : GoroutineView) (md : Mode) → (still ≡ true → listed ≡ true)
      → find g gs ≡ Some was → v.mode ≡ moved k m md → EntersQueue still old new m g k
      → AreEnqueued still (put g v gs) new (m + 1)
  enqueued-moved still g k was v md more f e enters =
      enqueued a more (omega arith) (more-below (m + 1) (m + 1 + 1) new (omega arith) enters.below)
      (λ j r i. elim (cases_eq j g) [
        | inl q ↦
            let is = put-there g v was gs r rises f (subst (λ (h : ℕ). Entry (put g v gs) h r) q i) in
            inl (subst (λ (h : ℕ). Stands still new (m + 1) h r) (sym q)
            (subst (λ (x : GoroutineView). Stands still new (m + 1) g x) (sym is) here))
        | inr d ↦ elim (Entry-put g v gs j r i) [
          | inl x ↦ absurd (d x.0)
          | inr x ↦ other j r d x
        ]
      ])
    where
      here : Stands still new (m + 1) g v
      here = record {
        stands = λ o side w q h.
            let y = waiting-for o side g v w h in
            subst (λ (z : Mode). Entry (wait_queue_at (key o side) new) (ticket_of z) g) (sym e)
            (moved-stands still o k g m side y.0 md q
            (ap (λ (z : Mode). wait_for o side (waits_of z)) (sym e) ∙ y.1) enters.there);
        early = subst (IsEarly (m + 1)) (sym e) (moved-early k m md);
      }

      other : (j : ℕ) (r : GoroutineView) → (j ≡ g → ⊥) → Entry gs j r → Stands still new (m + 1) j r
          ⊎ Stays gs old new j r
      other j r d x = elim (is_running r.mode) as (λ b. is_running r.mode ≡ b → Stands still new (m + 1) j r
          ⊎ Stays gs old new j r) [
            | true ↦ λ q. inl (runs-stands still new (m + 1) j r q)
            | false ↦ λ q. inr (record {
              was = r;
              there = x;
              mode = refl;
              kept = λ h y. enters.kept h (ticket_of r.mode) j d (early-ticket m r.mode q (a.early j r x)) y;
            })
          ] refl

  -- a goroutine is gone
  pub enqueued-left : (g : ℕ) → ((n : ℕ) → TicketsBelow n old → TicketsBelow n new)
      → KeepsWaiters (λ t h. h ≡ g → ⊥) old new
      → AreEnqueued listed (only (λ h. not (h == g)) gs) new m
  enqueued-left g b kept =
      enqueued a (λ e. e) (omega arith) (b (m + 1) a.below) (λ k r i.
      let p = Entry-only (λ h. not (h == g)) gs k r i in
      inr (record {
        was = r;
        there = p.1;
        mode = refl;
        kept = λ j y. kept j (ticket_of r.mode) k (λ e. true≢false (sym p.0 ∙ ap not (eq-eqb k g e))) y;
      }))

-- one goroutine more, which runs
pub enqueued-spawned : (listed : Bool) (gs : List (ℕ × GoroutineView)) (ls : WaitQueues) (m g : ℕ) (v : GoroutineView)
    → AreEnqueued listed gs ls m → is_running v.mode ≡ true → AreEnqueued listed (add g v gs) ls m
enqueued-spawned listed gs ls m g v a h =
    enqueued a (λ e. e) (omega arith) a.below (λ k r i. elim (Entry-add g v gs k r i) [
      | inl x ↦ inl (runs-stands listed ls m k r (ap (λ (y : GoroutineView). is_running y.mode) x.1 ∙ h))
      | inr x ↦ inr (record { was = r; there = x; mode = refl; kept = λ j y. y })
    ])

-- it waits as before
pub enqueued-same : (listed : Bool) (gs : List (ℕ × GoroutineView)) (ls : WaitQueues) (m g : ℕ) (was v : GoroutineView)
    → AreEnqueued listed gs ls m → IsRising gs → find g gs ≡ Some was → was.mode ≡ v.mode
    → AreEnqueued listed (put g v gs) ls m
enqueued-same listed gs ls m g was v a rises f e =
    enqueued-put listed gs ls ls m a rises m g was v f (omega arith) a.below (λ k t h d i. i)
    (inr (record { was = was; there = Entry-find g gs was f; mode = e; kept = λ k i. i }))

-- ---- a goroutine that blocks

-- a wait that fits is one of the queue
in-queue : (t g o : ℕ) (side : Side) (ws : List Wait) (w : Wait) (ls : WaitQueues) → StandsInAll t g ws ls
    → wait_for o side ws ≡ Some w → Entry (wait_queue_at (key o side) ls) t g
in-queue t g o side [] w ls s h = absurd (cc)
in-queue t g o side (v ∷ ws) w ls s h =
    elim (v.object.0 == o) as (λ b. v.object.0 == o ≡ b
    → cond (b && same_side v.side side) (Some v) (wait_for o side ws) ≡ Some w
    → Entry (wait_queue_at (key o side) ls) t g) [
      | false ↦ λ e i. in-queue t g o side ws w ls s.1 i
      | true ↦ λ e i. elim (same_side v.side side) as (λ b. same_side v.side side ≡ b
          → cond b (Some v) (wait_for o side ws) ≡ Some w → Entry (wait_queue_at (key o side) ls) t g) [
            | false ↦ λ f j. in-queue t g o side ws w ls s.1 j
            | true ↦ λ f j.
                let object = eqb-true v.object.0 o e in
                let number = eqb-true (side_number v.side) (side_number side) f in
                let same : key v.object.0 v.side ≡ key o side = ap (λ (n : ℕ). n * 7 + side_number v.side) object
                ∙ ap (λ (n : ℕ). o * 7 + n) number in
                subst (λ (k : ℕ). Entry (wait_queue_at k ls) t g) same s.0
          ] refl i
    ] refl h

-- nobody changes, and whoever has an earlier ticket stands where he stood
pub enqueued-joined : (listed : Bool) (gs : List (ℕ × GoroutineView)) (old new : WaitQueues) (m : ℕ)
    → AreEnqueued listed gs old m → TicketsBelow (m + 1) new → KeepsWaiters (λ t h. t < m) old new
    → AreEnqueued listed gs new m
enqueued-joined listed gs old new m a b kept = record {
  below = b;
  early = a.early;
  all = λ o side q g r w i h.
      let y = waiting-for o side g r w h in
      kept (key o side) (ticket_of r.mode) g (early-ticket m r.mode y.2 (a.early g r i)) (a.all o side q g r w i h);
}

-- whoever has an earlier ticket stands where he stood, and g stands in the queues of all its waits
pub record JoinsAll (old new : WaitQueues) (m g : ℕ) (waits : List Wait) : Type 0 where
  pub below : TicketsBelow (m + 1) new
  pub kept : KeepsWaiters (λ t h. t < m) old new
  pub stands : StandsInAll m g waits new

pub enqueued-blocked : {listed : Bool} {gs : List (ℕ × GoroutineView)} {old : WaitQueues} (new : WaitQueues) (m g : ℕ)
    (v : GoroutineView) (kind : WaitKind) (line : ℕ) (waits : List Wait)
    → AreEnqueued listed gs old m → v.mode ≡ Mode.Blocked kind line waits m → JoinsAll old new m g waits
    → AreEnqueued listed (put g v gs) new (m + 1)
enqueued-blocked {listed} {gs} {old} new m g v kind line waits a e joins =
    let base = enqueued-joined listed gs old new m a joins.below joins.kept in
    let there : (k : ℕ) (r : GoroutineView) → Entry (put g v gs) k r → ((k ≡ g) × (r ≡ v)) ⊎ Entry gs k r =
    λ k r i. Entry-put g v gs k r i in
    record {
      below = more-below (m + 1) (m + 1 + 1) new (omega arith) joins.below;
      early = λ k r i. elim (there k r i) [
        | inl x ↦ subst (IsEarly (m + 1)) (sym (ap (λ (y : GoroutineView). y.mode) x.1 ∙ e)) (omega arith)
        | inr x ↦ early-more m (m + 1) r.mode (omega arith) (a.early k r x)
      ];
      all = λ o side q k r w i h. elim (there k r i) [
        | inr x ↦ base.all o side q k r w x h
        | inl x ↦
            let mode : r.mode ≡ Mode.Blocked kind line waits m = ap (λ (y : GoroutineView). y.mode) x.1 ∙ e in
            let y = waiting-for o side k r w h in
            let fits : wait_for o side waits ≡ Some y.0 = ap (λ (z : Mode). wait_for o side (waits_of z)) (sym mode)
            ∙ y.1 in
            subst (λ (z : Mode). Entry (wait_queue_at (key o side) new) (ticket_of z) k) (sym mode)
            (subst (λ (j : ℕ). Entry (wait_queue_at (key o side) new) m j) (sym x.0)
            (in-queue m g o side waits y.0 new joins.stands fits))
      ];
    }
