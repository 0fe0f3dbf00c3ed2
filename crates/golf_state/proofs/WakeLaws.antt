-- All who wait on an object are woken, one after the other.
-- For: `HasWoken` (golf_state/specs/WokenAll.antt) and `wake_side`, `wake_all` (src/wake_all.rt)
-- By: induction over the entries of the map of goroutines; otherwise cases of how they are woken
use Rattle.std.proofs.Common.{◌≡◌, ℕ, suc, ◌<◌, ◌≤◌, Bool, true, false, cond, ◌&&◌, List, [], ◌∷◌, Option, Some, None}
use Rattle.std.proofs.Common.{◌==◌, inl, inr, refl, sym, ap, ◌∙◌, subst, arith}
use Rattle.std.specs.Prelude.{option_map}
use Rattle.std.proofs.lemmas.Bool.{cases_eq, cases_lt, eqb-true, eq-eqb}
use Rattle.golf_theory.specs.Maps.{Entry, find, put, map_values, Rises, IsRising}
use Rattle.golf_theory.proofs.MapFinds.{find-Entry, Entry-one, find_below, put-none}
use Rattle.golf_theory.proofs.MapEntries.{Entry-put}
use Rattle.golf_data.specs.declared.value.Value.{Value}
use Rattle.golf_data.specs.declared.goroutine.Mode.{Mode}
use Rattle.golf_data.specs.declared.goroutine.Side.{Side}
use Rattle.golf_data.specs.declared.goroutine.Wait.{Wait}
use Rattle.golf_model.specs.Views.{GoroutineView}
use Rattle.golf_model.specs.State.{State, is_running}
use Rattle.golf_model.specs.Waiters.{Waiter, waiter_of, waits_of, wait_for, wait_on, same_side, ticket_of}
use Rattle.golf_model.specs.Wakes.{Waking as Woken, is_below, woken_by}
use Rattle.golf_model.specs.Changes.{become, wake_all}
use Rattle.golf_state_queues.specs.WaitQueues.{IsLastBefore}
use Rattle.golf_state_queues.specs.declared.holders.TicketHolder.{TicketHolder}
use Rattle.golf_state.specs.Enqueued.{HasWaiters}
use Rattle.golf_state.specs.Looked.{looked_up, on_goroutine}
use Rattle.golf_state.specs.Wakenings.{wakened}
use Rattle.golf_state.specs.Woken.{waking_of, wakening_of, wakening_on, wakening_by_close, wakened_by, released_where}
use Rattle.golf_state.specs.WokenAll.{wakening_in, AreWokenBelow, NobodyWoken, IsHolderBelow, HasWoken}
use Rattle.golf_state.specs.declared.frames.Wakening.{Wakening}
use Rattle.golf_state.specs.declared.wake_causes.Waking.{Waking}
use Rattle.golf_state.proofs.EnqueuedLaws.{put-there}
use Rattle.golf_state.proofs.Readiness.{wakened-runs}
use Rattle.golf_state.proofs.WaiterLaws.{waiter-parts}
use Rattle.golf_state.proofs.Wakings.{woken-is}

-- ---- one goroutine

-- who runs is not woken
runs-same : (how : Woken) (o : ℕ) (r : GoroutineView) → is_running r.mode ≡ true → woken_by how o r ≡ r
runs-same how o r h = elim r.mode as (λ m. is_running m ≡ true
    → woken_by how o (record { frames = r.frames; mode = m; started = r.started })
    ≡ record { frames = r.frames; mode = m; started = r.started }) [
      | Mode.Blocked kind line waits ticket ↦ λ i. absurd (cc)
      | Mode.Running ↦ λ i. elim how as (λ w. ◌≡◌ {A = GoroutineView}
          (woken_by w o (record { frames = r.frames; mode = Mode.Running; started = r.started }))
          (record { frames = r.frames; mode = Mode.Running; started = r.started })) [
            | Woken.Closing zero ↦ refl
            | Woken.AtZero ↦ refl
            | Woken.ToReaders below ↦ runs-unread below
          ]
    ] h
  where
    runs-unread : (below : Option ℕ) → ◌≡◌ {A = GoroutineView}
        (woken_by (Woken.ToReaders below) o (record { frames = r.frames; mode = Mode.Running; started = r.started }))
        (record { frames = r.frames; mode = Mode.Running; started = r.started })
    runs-unread None = refl
    runs-unread (Some n) = sym (woken-is r.frames r.started Mode.Running o (Waking.ToReaders (Some n)))

-- it goes on as it is woken
woken-some : (how : Waking) (o : ℕ) (r : GoroutineView) (k : Wakening) → wakening_of r.mode o how ≡ Some k
    → woken_by (waking_of how) o r ≡ wakened k r
woken-some how o r k h = sym (woken-is r.frames r.started r.mode o how) ∙ ap (λ (m : Option Wakening). wakened_by m r) h

woken-none : (how : Waking) (o : ℕ) (r : GoroutineView) → wakening_of r.mode o how ≡ None
    → woken_by (waking_of how) o r ≡ r
woken-none how o r h = sym (woken-is r.frames r.started r.mode o how) ∙ ap (λ (m : Option Wakening). wakened_by m r) h

-- who waits does not run
waits-not : (o : ℕ) (side : Side) (g : ℕ) (r : GoroutineView) (w : Waiter) → waiter_of o side (g, r) ≡ Some w
    → is_running r.mode ≡ true → ⊥
waits-not o side g r w h t = let p = waiter-parts o side (g, r) w h in absurd (cc)

-- ---- all of them

-- one that has gone on is not woken again
map-put : (f : GoroutineView → GoroutineView) (j g : ℕ) (v was : GoroutineView) (gs : List (ℕ × GoroutineView))
    → f v ≡ f was → Rises j gs → find g gs ≡ Some was → map_values (λ h. f) (put g v gs) ≡ map_values (λ h. f) gs
map-put f j g v was [] e r h = refl
map-put f j g v was (x ∷ gs) e r h = elim (g == x.0) as (λ b. g == x.0 ≡ b → cond b (Some x.1) (find g gs) ≡ Some was
    → ◌≡◌ {A = List (ℕ × GoroutineView)} ((x.0, f (cond b v x.1)) ∷ map_values (λ h. f) (put g v gs))
    ((x.0, f x.1) ∷ map_values (λ h. f) gs)) [
      | true ↦ λ q i.
          let same : x.1 ≡ was = cc in
          let away : put g v gs ≡ gs = put-none g v gs
          (find_below g (suc x.0) gs (let n = eqb-true g x.0 q in omega (arith, n)) r.1) in
          ap (λ (y : GoroutineView). (x.0, y) ∷ map_values (λ h. f) (put g v gs)) (e ∙ ap f (sym same))
          ∙ ap (λ (es : List (ℕ × GoroutineView)). (x.0, f x.1) ∷ map_values (λ h. f) es) away
      | false ↦ λ q i. ap (λ (es : List (ℕ × GoroutineView)). (x.0, f x.1) ∷ es)
          (map-put f (suc x.0) g v was gs e r.1 i)
    ] refl h

map-same : (f : GoroutineView → GoroutineView) (gs : List (ℕ × GoroutineView))
    → ((g : ℕ) (r : GoroutineView) → Entry gs g r → f r ≡ r) → map_values (λ h. f) gs ≡ gs
map-same f [] h = refl
map-same f (x ∷ gs) h =
    ap (λ (y : GoroutineView). (x.0, y) ∷ map_values (λ h. f) gs) (h x.0 x.1 (inl (refl, refl)))
    ∙ ap (λ (es : List (ℕ × GoroutineView)). x ∷ es) (map-same f gs (λ g r i. h g r (inr i)))

-- a goroutine that is woken goes on: the same are woken in the end, and nobody else waits than before
pub one-woken : (o g : ℕ) (how : Waking) (s : State) (r : GoroutineView) (k : Wakening) → IsRising s.goroutines
    → find g s.goroutines ≡ Some r → wakening_of r.mode o how ≡ Some k → HasWoken o how s (become g (wakened k r) s)
one-woken o g how s r k rises f h =
    let v = wakened k r in
    let all = woken_by (waking_of how) o in
    record {
      same = ap (λ (es : List (ℕ × GoroutineView)). record s { goroutines = es })
          (map-put all 0 g v r s.goroutines (runs-same (waking_of how) o v (wakened-runs k r)
          ∙ sym (woken-some how o r k h)) rises f);
      nobody = λ side none j x w l i y z. elim (Entry-put g v s.goroutines j x i) [
        | inr e ↦ none j x w l e y z
        | inl e ↦ waits-not o side j x w y (ap (λ (u : GoroutineView). is_running u.mode) e.1 ∙ wakened-runs k r)
      ];
    }

pub woken-more : (o : ℕ) (how : Waking) (s t u : State) → HasWoken o how s t → HasWoken o how t u → HasWoken o how s u
woken-more o how s t u a b = record { same = b.same ∙ a.same; nobody = λ side none. b.nobody side (a.nobody side none) }

-- ---- along a queue

not-same : (a b : ℕ) → a ≤ b → (a ≡ b → ⊥) → a < b
not-same a b l d = elim (cases_lt a b) [ inl m ↦ m | inr m ↦ absurd (d (omega (arith, l, m))) ]

-- the last in the queue whose ticket is below n
pub holder-below : (n o : ℕ) (side : Side) (gs : List (ℕ × GoroutineView)) (line : List (ℕ × ℕ))
    (h : Option TicketHolder) → Rises 0 line → HasWaiters o side gs line → IsLastBefore n line h
    → IsHolderBelow n o side gs h
holder-below n o side gs line None rises all last = λ g r w i q. last (ticket_of r.mode) g (all g r w i q)
holder-below n o side gs line (Some h) rises all last = (
  last.1,
  λ g r w i q l.
      let e = all g r w i q in
      let m = last.2 (ticket_of r.mode) g e l in
      elim (cases_eq (ticket_of r.mode) h.ticket) [
        | inl t ↦ inr (
          Entry-one line (ticket_of r.mode) g h.goroutine.0 rises e
              (subst (λ (u : ℕ). Entry line u h.goroutine.0) (sym t) last.0),
          t,
        )
        | inr d ↦ inl (not-same (ticket_of r.mode) h.ticket m d)
      ],
)

-- all who are woken have tickets below n, and of those with tickets below n the holder is the last
pub record IsLastWoken (n o : ℕ) (side : Side) (how : Waking) (gs : List (ℕ × GoroutineView))
    (h : TicketHolder) : Type 0 where
  pub rises : IsRising gs
  pub last : IsHolderBelow n o side gs (Some h)
  pub below : AreWokenBelow n o side how gs

-- the one with this ticket is not woken
pub passed : (n o : ℕ) (side : Side) (how : Waking) (gs : List (ℕ × GoroutineView)) (h : TicketHolder)
    → IsLastWoken n o side how gs h → wakening_in (find h.goroutine.0 gs) o how ≡ None
    → AreWokenBelow h.ticket o side how gs
passed n o side how gs h l none = λ g r w k i q z.
    elim (l.last.1 g r w i q (l.below g r w k i q z)) [
      | inl m ↦ m
      | inr e ↦
          let f : find h.goroutine.0 gs ≡ Some r = ap (λ (j : ℕ). find j gs) (sym e.0) ∙ find-Entry gs g r l.rises i in
          let some : wakening_in (find h.goroutine.0 gs) o how ≡ Some k =
          ap (λ (m : Option GoroutineView). wakening_in m o how) f ∙ z in
          absurd (cc)
    ]

-- and if it is, it has gone on
pub woken-passed : (n o : ℕ) (side : Side) (how : Waking) (gs : List (ℕ × GoroutineView)) (h : TicketHolder)
    (r : GoroutineView) (k : Wakening) → IsLastWoken n o side how gs h → find h.goroutine.0 gs ≡ Some r
    → AreWokenBelow h.ticket o side how (put h.goroutine.0 (wakened k r) gs)
woken-passed n o side how gs h r k l f = λ g x w y i q z.
    let v = wakened k r in
    let runs-absurd : x ≡ v → ⊥ = λ e. waits-not o side g x w q
    (ap (λ (u : GoroutineView). is_running u.mode) e ∙ wakened-runs k r) in
    elim (cases_eq g h.goroutine.0) [
      | inl e ↦ absurd (runs-absurd (put-there h.goroutine.0 v r gs x l.rises f
          (subst (λ (j : ℕ). Entry (put h.goroutine.0 v gs) j x) e i)))
      | inr d ↦ elim (Entry-put h.goroutine.0 v gs g x i) [
        | inl e ↦ absurd (d e.0)
        | inr j ↦ elim (l.last.1 g x w j q (l.below g x w y j q z)) [
          | inl m ↦ m
          | inr m ↦ absurd (d m.0)
        ]
      ]
    ]

-- ---- on which sides those stand who are woken

wait-side : (o : ℕ) (ws : List Wait) (w : Wait) → wait_on o ws ≡ Some w → (v : Wait) × (wait_for o w.side ws ≡ Some v)
wait-side o [] w h = absurd (cc)
wait-side o (x ∷ ws) w h = elim (x.object.0 == o) as (λ b. cond b (Some x) (wait_on o ws) ≡ Some w → (v : Wait)
    × (cond (b && same_side x.side w.side) (Some x) (wait_for o w.side ws) ≡ Some v)) [
      | false ↦ λ i. wait-side o ws w i
      | true ↦ λ i.
          let same : x ≡ w = cc in (
            x,
            ap (λ b. cond b (Some x) (wait_for o w.side ws))
                (ap (λ (y : Wait). same_side x.side y.side) (sym same) ∙ side-same x.side),
          )
    ] h
  where
    side-same : (side : Side) → same_side side side ≡ true
    side-same side = eq-eqb _ _ refl

waiter-some : (o : ℕ) (side : Side) (g : ℕ) (r : GoroutineView) (v : Wait) → wait_for o side (waits_of r.mode) ≡ Some v
    → (w : Waiter) × (waiter_of o side (g, r) ≡ Some w)
waiter-some o side g r v h = (
  record { number = g; goroutine = r; wait = v },
  ap (λ (m : Option Wait). option_map (λ y. let x : Waiter = record { number = g; goroutine = r; wait = y } in x) m)
      h,
)

-- if nobody who waits there is woken, on any side, all stay as they are
all-same : (o : ℕ) (how : Waking) (s : State)
    → ((g : ℕ) (r : GoroutineView) (k : Wakening) → Entry s.goroutines g r → wakening_of r.mode o how ≡ Some k → ⊥)
    → wake_all o (waking_of how) s ≡ s
all-same o how s h = ap (λ (es : List (ℕ × GoroutineView)). record s { goroutines = es })
    (map-same (woken_by (waking_of how) o) s.goroutines (λ g r i.
    elim (wakening_of r.mode o how) as (λ m. wakening_of r.mode o how ≡ m → woken_by (waking_of how) o r ≡ r) [
      | None ↦ λ q. woken-none how o r q
      | Some k ↦ λ q. absurd (h g r k i q)
    ] refl))

-- a close wakes those who receive and those who send
pub closed-same : (o : ℕ) (zero : Value) (s : State) → NobodyWoken o Side.Receive (Waking.Closing zero) s.goroutines
    → NobodyWoken o Side.Send (Waking.Closing zero) s.goroutines → wake_all o (Woken.Closing zero) s ≡ s
closed-same o zero s receive send = all-same o (Waking.Closing zero) s (λ g r k i h. at g r k i r.mode refl h)
  where
    on : (g : ℕ) (r : GoroutineView) (k : Wakening) → Entry s.goroutines g r
        → wakening_of r.mode o (Waking.Closing zero) ≡ Some k → (line : ℕ) (w : Wait) (side : Side) → w.side ≡ side
        → wait_on o (waits_of r.mode) ≡ Some w → wakening_by_close zero w line side ≡ Some k → ⊥
    on g r k i h line w Side.Receive e q z =
        let v = wait-side o (waits_of r.mode) w q in
        let u = waiter-some o Side.Receive g r v.0 (ap (λ (x : Side). wait_for o x (waits_of r.mode)) (sym e) ∙ v.1) in
        receive g r u.0 k i u.1 h
    on g r k i h line w Side.Send e q z =
        let v = wait-side o (waits_of r.mode) w q in
        let u = waiter-some o Side.Send g r v.0 (ap (λ (x : Side). wait_for o x (waits_of r.mode)) (sym e) ∙ v.1) in
        send g r u.0 k i u.1 h
    on g r k i h line w Side.Lock e q z = absurd (cc)
    on g r k i h line w Side.Group e q z = absurd (cc)
    on g r k i h line w Side.Read e q z = absurd (cc)
    on g r k i h line w Side.Write e q z = absurd (cc)
    on g r k i h line w Side.Cond e q z = absurd (cc)

    at : (g : ℕ) (r : GoroutineView) (k : Wakening) → Entry s.goroutines g r → (m : Mode) → r.mode ≡ m
        → wakening_of r.mode o (Waking.Closing zero) ≡ Some k → ⊥
    at g r k i Mode.Running e h = let z : None ≡ Some k =
        ap (λ (m : Mode). wakening_of m o (Waking.Closing zero)) (sym e) ∙ h in absurd (cc)
    at g r k i (Mode.Blocked kind line waits ticket) e h =
        let z : wakening_on zero line (wait_on o waits) ≡ Some k =
        ap (λ (m : Mode). wakening_of m o (Waking.Closing zero)) (sym e) ∙ h in
        elim (wait_on o waits) as (λ m. wait_on o waits ≡ m → wakening_on zero line m ≡ Some k → ⊥) [
          | None ↦ λ q y. absurd (cc)
          | Some w ↦ λ q y. on g r k i h line w w.side refl (ap (λ (m : Mode). wait_on o (waits_of m)) e ∙ q) y
        ] refl z

-- a group at zero wakes those who wait for it
pub group-same : (o : ℕ) (s : State) → NobodyWoken o Side.Group Waking.AtZero s.goroutines
    → wake_all o Woken.AtZero s ≡ s
group-same o s none = all-same o Waking.AtZero s (λ g r k i h. at g r k i r.mode refl h)
  where
    at : (g : ℕ) (r : GoroutineView) (k : Wakening) → Entry s.goroutines g r → (m : Mode) → r.mode ≡ m
        → wakening_of r.mode o Waking.AtZero ≡ Some k → ⊥
    at g r k i Mode.Running e h = let z : None ≡ Some k = ap (λ (m : Mode). wakening_of m o Waking.AtZero) (sym e)
        ∙ h in absurd (cc)
    at g r k i (Mode.Blocked kind line waits ticket) e h =
        let z : released_where (wait_for o Side.Group waits) ≡ Some k =
        ap (λ (m : Mode). wakening_of m o Waking.AtZero) (sym e) ∙ h in
        elim (wait_for o Side.Group waits) as (λ m. wait_for o Side.Group waits ≡ m → released_where m ≡ Some k → ⊥) [
          | None ↦ λ q y. absurd (cc)
          | Some w ↦ λ q y. let u = waiter-some o Side.Group g r w
              (ap (λ (m : Mode). wait_for o Side.Group (waits_of m)) e ∙ q) in none g r u.0 k i u.1 h
        ] refl z

-- readers are those who wait to read
pub readers-same : (o : ℕ) (below : Option ℕ) (s : State)
    → NobodyWoken o Side.Read (Waking.ToReaders below) s.goroutines → wake_all o (Woken.ToReaders below) s ≡ s
readers-same o below s none = all-same o (Waking.ToReaders below) s (λ g r k i h. at g r k i r.mode refl h)
  where
    no-wait : (b : Bool) (k : Wakening) → released_where (cond b None None) ≡ Some k → ⊥
    no-wait true k h = absurd (cc)
    no-wait false k h = absurd (cc)

    at : (g : ℕ) (r : GoroutineView) (k : Wakening) → Entry s.goroutines g r → (m : Mode) → r.mode ≡ m
        → wakening_of r.mode o (Waking.ToReaders below) ≡ Some k → ⊥
    at g r k i Mode.Running e h = let z : None ≡ Some k =
        ap (λ (m : Mode). wakening_of m o (Waking.ToReaders below)) (sym e) ∙ h in absurd (cc)
    at g r k i (Mode.Blocked kind line waits ticket) e h =
        let z : released_where (cond (is_below below ticket) (wait_for o Side.Read waits) None) ≡ Some k =
        ap (λ (m : Mode). wakening_of m o (Waking.ToReaders below)) (sym e) ∙ h in
        elim (wait_for o Side.Read waits) as (λ m. wait_for o Side.Read waits ≡ m
        → released_where (cond (is_below below ticket) m None) ≡ Some k → ⊥) [
          | None ↦ λ q y. absurd (no-wait (is_below below ticket) k y)
          | Some w ↦ λ q y. let u = waiter-some o Side.Read g r w
              (ap (λ (m : Mode). wait_for o Side.Read (waits_of m)) e ∙ q) in none g r u.0 k i u.1 h
        ] refl z

-- ---- one step along a queue

pub record Stepped (h : TicketHolder) (o : ℕ) (side : Side) (how : Waking) (s t : State) : Type 0 where
  pub woken : HasWoken o how s t
  pub below : AreWokenBelow h.ticket o side how t.goroutines

pub stepped : (n o : ℕ) (side : Side) (how : Waking) (s t : State) (h : TicketHolder) (k : Wakening)
    → IsLastWoken n o side how s.goroutines h
    → Some k ≡ wakening_in (find h.goroutine.0 s.goroutines) o how
    → t ≡ looked_up h.goroutine.0 (λ r. become h.goroutine.0 (wakened k r)) s → Stepped h o side how s t
stepped n o side how s t h k l some new =
    elim (find h.goroutine.0 s.goroutines) as (λ m. find h.goroutine.0 s.goroutines ≡ m → Some k ≡ wakening_in m o how
    → t ≡ on_goroutine (λ r. become h.goroutine.0 (wakened k r)) m s → Stepped h o side how s t) [
      | None ↦ λ f i e. absurd (cc)
      | Some r ↦ λ f i e. record {
        woken = subst (HasWoken o how s) (sym e) (one-woken o h.goroutine.0 how s r k l.rises f (sym i));
        below = subst (λ (u : State). AreWokenBelow h.ticket o side how u.goroutines) (sym e)
            (woken-passed n o side how s.goroutines h r k l f);
      }
    ] refl some new

-- ---- all have gone on

pub closed-all : (o : ℕ) (how : Waking) (zero : Value) (s t u : State) → how ≡ Waking.Closing zero → HasWoken o how s t
    → NobodyWoken o Side.Receive how t.goroutines → HasWoken o how t u → NobodyWoken o Side.Send how u.goroutines
    → u ≡ wake_all o (waking_of how) s
closed-all o how zero s t u e a receive b send =
    let none = subst (λ (w : Waking). NobodyWoken o Side.Receive w u.goroutines) e (b.nobody Side.Receive receive) in
    let same = closed-same o zero u none (subst (λ (w : Waking). NobodyWoken o Side.Send w u.goroutines) e send) in
    sym same ∙ ap (λ (w : Waking). wake_all o (waking_of w) u) (sym e) ∙ b.same ∙ a.same

pub group-all : (o : ℕ) (how : Waking) (s t : State) → how ≡ Waking.AtZero → HasWoken o how s t
    → NobodyWoken o Side.Group how t.goroutines → t ≡ wake_all o (waking_of how) s
group-all o how s t e a none = sym (group-same o t
    (subst (λ (w : Waking). NobodyWoken o Side.Group w t.goroutines) e none))
    ∙ ap (λ (w : Waking). wake_all o (waking_of w) t) (sym e) ∙ a.same

pub readers-all : (o : ℕ) (how : Waking) (below : Option ℕ) (s t : State) → how ≡ Waking.ToReaders below
    → HasWoken o how s t → NobodyWoken o Side.Read how t.goroutines → t ≡ wake_all o (waking_of how) s
readers-all o how below s t e a none = sym
    (readers-same o below t (subst (λ (w : Waking). NobodyWoken o Side.Read w t.goroutines) e none))
    ∙ ap (λ (w : Waking). wake_all o (waking_of w) t) (sym e) ∙ a.same
