-- Readers and writers that are served, and goroutines that are requeued, are partners.
-- For: `serves`, golf_model/specs/ReadersWriters.antt; `requeues`, golf_model/specs/Conditions.antt; `IsAlike`,
-- specs/Alike.antt
-- By: induction over the list of goroutines, and over both lists of waiters; cases of the first waiters
use Rattle.std.proofs.Common.{◌≡◌, ℕ, ◌+◌, Bool, true, false, cond, List, [], ◌∷◌, Option, Some, None, inl, inr, refl}
use Rattle.std.proofs.Common.{sym, ap, ◌∙◌, subst, arith}
use Rattle.std.specs.Prelude.{nat_lt, option_map, pos}
use Rattle.golf_theory.specs.Membership.{In}
use Rattle.golf_theory.specs.Maps.{find, IsRising}
use Rattle.golf_data.specs.declared.goroutine.Mode.{Mode}
use Rattle.golf_data.specs.declared.goroutine.Side.{Side}
use Rattle.golf_data.specs.declared.goroutine.Wait.{Wait}
use Rattle.golf_model.specs.Views.{GoroutineView}
use Rattle.golf_model.specs.State.{State}
use Rattle.golf_model.specs.Waiters.{Waiter, waiter_ticket, waits_of, ticket_of, wait_for, waiter_of, by_ticket, enter}
use Rattle.golf_model.specs.Waiters.{first, waiters}
use Rattle.golf_model.specs.Wakes.{Waking, reads_next, is_below, released}
use Rattle.golf_model.specs.Changes.{Change, become}
use Rattle.golf_model.specs.ReadersWriters.{counted, one_if, readers_next, to_readers, to_writer, serves_first, serves}
use Rattle.golf_model.specs.Actors.{choose}
use Rattle.golf_model.specs.Conditions.{requeues}
use Rattle.golf_model_futures.specs.Orderly.{IsOrderly}
use Rattle.golf_model_futures.proofs.WaitLaws.{wait_for-waited}
use Rattle.golf_explore_laws.specs.Alike.{blank, AlikeBy}
use Rattle.golf_explore_laws.proofs.Alike.Partners.{same-waits, waits-moved}
use Rattle.golf_explore_laws.proofs.Alike.Changes.{put-cases}
use Rattle.golf_explore_laws.proofs.Alike.Waking.{woken-readers, WakeAlike}
use Rattle.golf_explore_laws.proofs.Alike.ChangeLists.{AllSimple, AllSame, all-simple}
use Rattle.golf_explore_laws.proofs.Alike.Waiters.{ArePaired, WaitTogether, together-order, waiters-paired}
use Rattle.golf_explore_laws.proofs.Alike.Waiters.{first-together}

-- ---- how many readers are served

-- 1 for a waiter with a ticket below this one
abbrev weight : Option ℕ → Waiter → ℕ
weight below w = cond (is_below below (waiter_ticket w)) 1 0

abbrev weight_or : Option ℕ → Option Waiter → ℕ
weight_or below None = 0
weight_or below (Some w) = weight below w

abbrev total : Option ℕ → List Waiter → ℕ
total below [] = 0
total below (w ∷ ws) = weight below w + total below ws

module _ (below : Option ℕ) where
  total-by_ticket : (w : Waiter) (ws : List Waiter) → total below (by_ticket w ws) ≡ weight below w + total below ws
  total-by_ticket w [] = refl
  total-by_ticket w (x ∷ xs) =
      elim (nat_lt (waiter_ticket x) (waiter_ticket w)) as (λ b. total below (cond b (x ∷ by_ticket w xs) (w ∷ x ∷ xs))
      ≡ weight below w + (weight below x + total below xs)) [
        | true ↦ let rest = total-by_ticket w xs in omega (arith, rest)
        | false ↦ refl
      ]

  total-enter : (m : Option Waiter) (ws : List Waiter) → total below (enter m ws) ≡ weight_or below m + total below ws
  total-enter None ws = omega arith
  total-enter (Some w) ws = total-by_ticket w ws

  weighed : (g : ℕ) (r : GoroutineView) (b : Bool) (m : Option Wait) → is_below below (ticket_of r.mode) ≡ b
      → one_if (cond b m None) ≡ weight_or below (option_map (λ x. let y : Waiter =
      record { number = g; goroutine = r; wait = x } in y) m)
  weighed g r true None e = refl
  weighed g r false None e = refl
  weighed g r true (Some x) e = ap (λ c. cond c 1 0) (sym e)
  weighed g r false (Some x) e = ap (λ c. cond c 1 0) (sym e)

  readers-total : (o : ℕ) (gs : List (ℕ × GoroutineView))
      → readers_next below o gs ≡ total below (waiters o Side.Read gs)
  readers-total o [] = refl
  readers-total o (e ∷ es) =
      let one = weighed e.0 e.1 (is_below below (ticket_of e.1.mode)) (wait_for o Side.Read (waits_of e.1.mode)) refl in
      let rest = readers-total o es in
      let all = total-enter (waiter_of o Side.Read e) (waiters o Side.Read es) in
      omega (arith, one, rest, all)

total-paired : (P : Waiter → Waiter → Type 0) (below under : Option ℕ)
    → ((w v : Waiter) → P w v → weight below w ≡ weight under v) → (ws vs : List Waiter) → ArePaired P ws vs
    → total below ws ≡ total under vs
total-paired P below under h [] vs p = ap (total under) (sym p)
total-paired P below under h (w ∷ ws) vs p =
    let one = h w p.0 p.3 in
    let rest = total-paired P below under h ws p.1 p.4 in
    let all = ap (total under) p.2 in
    omega (arith, one, rest, all)

-- ---- who is served

none-both : (b c : Bool) → cond {A = Option Wait} b None None ≡ cond c None None
none-both true true = refl
none-both true false = refl
none-both false true = refl
none-both false false = refl

some-both : (b c : Bool) (m : Option Wait) → ((x : Wait) → m ≡ Some x → b ≡ c) → cond b m None ≡ cond c m None
some-both b c None h = none-both b c
some-both b c (Some x) h = ap (λ d. cond {A = Option Wait} d (Some x) None) (h x refl)

module _ (ps : List (ℕ × ℕ)) (s t : State) (al : AlikeBy ps s t) (rs : IsRising s.goroutines)
    (rt : IsRising t.goroutines) (os : IsOrderly s) (ot : IsOrderly t) (o : ℕ) where
  abbrev Together : Waiter → Waiter → Type 0
  Together = WaitTogether ps s t al rs rt os ot o

  -- these tickets have the same place among those of the waiters on the object
  abbrev SameBelow : Option ℕ → Option ℕ → Type 0
  SameBelow below under = (w v : Waiter) → Together w v
      → is_below below (waiter_ticket w) ≡ is_below under (waiter_ticket v)

  none-below : SameBelow None None
  none-below w v p = refl

  writer-below : (w v : Waiter) → Together w v → SameBelow (Some (waiter_ticket w)) (Some (waiter_ticket v))
  writer-below w v p u x q = together-order ps s t al rs rt os ot o u x w v q p

  count-same : (below under : Option ℕ) → SameBelow below under
      → readers_next below o s.goroutines ≡ readers_next under o t.goroutines
  count-same below under same =
      readers-total below o s.goroutines
      ∙ total-paired Together below under (λ w v p. ap (λ b. cond b 1 0) (same w v p))
      (waiters o Side.Read s.goroutines) (waiters o Side.Read t.goroutines)
      (waiters-paired ps s t al rs rt os ot o Side.Read)
      ∙ sym (readers-total under o t.goroutines)

  module _ (below under : Option ℕ) (same : SameBelow below under) where
    reads-same : (k l : ℕ) → In (k, l) ps → (r q : GoroutineView) → find k s.goroutines ≡ Some r
        → find l t.goroutines ≡ Some q → blank r ≡ blank q → reads_next below o r ≡ reads_next under o q
    reads-same k l j r q fr fq e =
        some-both (is_below below (ticket_of r.mode)) (is_below under (ticket_of q.mode))
        (wait_for o Side.Read (waits_of r.mode)) (λ x f.
        let here = wait_for-waited o Side.Read (waits_of r.mode) x f in
        same (record { number = k; goroutine = r; wait = x }) (record { number = l; goroutine = q; wait = x }) (record {
          pair = j;
          left = fr;
          right = fq;
          here = here;
          there = waits-moved o r q e here;
          view = e;
        }))
        ∙ ap (λ ws. cond (is_below under (ticket_of q.mode)) (wait_for o Side.Read ws) None) (same-waits r q e)

    run-reads : (x y : GoroutineView) → x.mode ≡ Mode.Running → blank x ≡ blank y
        → reads_next below o x ≡ reads_next under o y
    run-reads x y on e =
        ap (λ m. cond (is_below below (ticket_of x.mode)) (wait_for o Side.Read (waits_of m)) None) on
        ∙ none-both (is_below below (ticket_of x.mode)) (is_below under (ticket_of y.mode))
        ∙ ap (λ ws. cond (is_below under (ticket_of y.mode)) (wait_for o Side.Read ws) None)
        (ap waits_of (sym on) ∙ same-waits x y e)

    module _ (g h : ℕ) (i : In (g, h) ps) (r : GoroutineView) (on : r.mode ≡ Mode.Running) where
      -- after a goroutine and its partner became something that runs
      wakes-same : WakeAlike ps (become g r s) (become h r t) o (Waking.ToReaders below) (Waking.ToReaders under)
      wakes-same k l j x y fx fy e = elim (put-cases g r s.goroutines k x fx) [
        | inl p ↦ woken-readers below under o x y e
            (run-reads x y (ap (λ (z : GoroutineView). z.mode) p.1 ∙ on) e)
        | inr p ↦ elim (put-cases h r t.goroutines l y fy) [
          | inl q ↦ woken-readers below under o x y e (sym-reads x y q.1 e)
          | inr q ↦ woken-readers below under o x y e (reads-same k l j x y p.1 q.1 e)
        ]
      ] where
        sym-reads : (x y : GoroutineView) → y ≡ r → blank x ≡ blank y → reads_next below o x ≡ reads_next under o y
        sym-reads x y f e =
            let runs_y : y.mode ≡ Mode.Running = ap (λ (z : GoroutineView). z.mode) f ∙ on in
            ap (λ ws. cond (is_below below (ticket_of x.mode)) (wait_for o Side.Read ws) None)
            (same-waits x y e ∙ ap waits_of runs_y)
            ∙ none-both (is_below below (ticket_of x.mode)) (is_below under (ticket_of y.mode))
            ∙ ap (λ m. cond (is_below under (ticket_of y.mode)) (wait_for o Side.Read (waits_of m)) None) (sym runs_y)

      readers-same : AllSame ps s t (Change.Become g r ∷ to_readers o below s.goroutines)
          (Change.Become h r ∷ to_readers o under t.goroutines)
      readers-same = (
        _,
        _,
        refl,
        (h, i, on, refl),
        (
          _,
          _,
          refl,
          ap (λ n. counted o (pos n)) (sym (count-same below under same)),
          (_, [], refl, (Waking.ToReaders under, wakes-same, refl), refl),
        ),
      )

  module _ (g h : ℕ) (i : In (g, h) ps) (r : GoroutineView) (on : r.mode ≡ Mode.Running) where
    abbrev All : List Change → List Change → Type 0
    All cs ds = AllSame ps s t (Change.Become g r ∷ cs) (Change.Become h r ∷ ds)

    writer-same : (w v : Waiter) → Together w v → All (to_writer o w) (to_writer o v)
    writer-same w v p = all-simple ps s t (Change.Become g r ∷ to_writer o w) (Change.Become h r ∷ to_writer o v) (
      _,
      _,
      refl,
      (h, i, on, refl),
      (
        _,
        _,
        refl,
        refl,
        (
          _,
          [],
          refl,
          (
            v.number,
            p.pair,
            refl,
            ap (λ (x : GoroutineView). Change.Become v.number (released x)) (sym p.view),
          ),
          refl,
        ),
      ),
    )

    chosen-same : (b : Bool) (w v : Waiter) → Together w v
        → All (choose b (to_readers o (Some (waiter_ticket w)) s.goroutines) (to_writer o w))
        (choose b (to_readers o (Some (waiter_ticket v)) t.goroutines) (to_writer o v))
    chosen-same true w v p = readers-same (Some (waiter_ticket w)) (Some (waiter_ticket v)) (writer-below w v p) g h i r
        on
    chosen-same false w v p = writer-same w v p

    abbrev First : Side → State → Option Waiter
    First side u = first o side u.goroutines

    -- after a goroutine and its partner became the same, which runs, the same waiters are served
    pub serves-same : All (serves o s.goroutines) (serves o t.goroutines)
    serves-same = elim (first-together ps s t al rs rt os ot o Side.Write) [
      | inl e ↦
          subst (λ m. All (serves_first o s.goroutines m (First Side.Read s)) (serves o t.goroutines)) (sym e.0)
          (subst (λ m. All (to_readers o None s.goroutines) (serves_first o t.goroutines m (First Side.Read t)))
          (sym e.1) (readers-same None None none-below g h i r on))
      | inr x ↦
          subst (λ m. All (serves_first o s.goroutines m (First Side.Read s)) (serves o t.goroutines)) (sym x.2)
          (subst (λ m. All (serves_first o s.goroutines (Some x.0) (First Side.Read s))
          (serves_first o t.goroutines m (First Side.Read t))) (sym x.3) (with-writer x.0 x.1 x.4))
    ] where
      with-writer : (w v : Waiter) → Together w v
          → All (serves_first o s.goroutines (Some w) (First Side.Read s))
          (serves_first o t.goroutines (Some v) (First Side.Read t))
      with-writer w v p = elim (first-together ps s t al rs rt os ot o Side.Read) [
        | inl e ↦
            subst (λ m. All (serves_first o s.goroutines (Some w) m)
            (serves_first o t.goroutines (Some v) (First Side.Read t))) (sym e.0)
            (subst (λ m. All (to_writer o w) (serves_first o t.goroutines (Some v) m)) (sym e.1) (writer-same w v p))
        | inr y ↦
            subst (λ m. All (serves_first o s.goroutines (Some w) m)
            (serves_first o t.goroutines (Some v) (First Side.Read t))) (sym y.2)
            (subst (λ m. All (serves_first o s.goroutines (Some w) (Some y.0))
            (serves_first o t.goroutines (Some v) m)) (sym y.3)
            (subst (λ c. All (serves_first o s.goroutines (Some w) (Some y.0))
            (choose c (to_readers o (Some (waiter_ticket v)) t.goroutines) (to_writer o v)))
            (together-order ps s t al rs rt os ot o y.0 y.1 w v y.4 p)
            (chosen-same (nat_lt (waiter_ticket y.0) (waiter_ticket w)) w v p)))
      ]

  -- each of the waiters is requeued
  pub requeues-same : (m : ℕ) (ws vs : List Waiter) → ArePaired Together ws vs
      → AllSimple ps (requeues m ws) (requeues m vs)
  requeues-same m [] vs p = ap (requeues m) p
  requeues-same m (w ∷ ws) vs p = (
    Change.Requeue p.0.number m,
    requeues m p.1,
    ap (requeues m) p.2,
    (p.0.number, p.3.pair, refl),
    requeues-same m ws p.1 p.4,
  )
