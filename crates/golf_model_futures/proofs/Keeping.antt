-- Changes, turns and collections keep goroutines in order.
-- For: `order_is_kept`, src/lib.rt; `apply`, golf_model/specs/Changes.antt
-- By: induction over the list of changes; cases of each change
use Rattle.std.proofs.Common.{◌≡◌, ℕ, ◌+◌, ◌≤◌, ◌/◌, Bool, true, false, not, List, [], ◌∷◌, length, Option, Some, None}
use Rattle.std.proofs.Common.{◌==◌, ◌⊎◌, inl, inr, refl, sym, ap, ◌∙◌, subst, arith}
use Rattle.std.proofs.lemmas.Bool.{eqb-true, eqb-false}
use Rattle.golf_theory.specs.Maps.{Entry, IsRising, find, put, add, only, keys, map_values}
use Rattle.golf_theory.specs.Membership.{In, Every}
use Rattle.golf_theory.proofs.Lists.{In-left, In-filter_old, Every-weaker}
use Rattle.golf_theory.proofs.MapEntries.{Entry-find, Entry-put, Entry-add, Entry-only, Entry-map_values_back}
use Rattle.golf_theory.proofs.MapFinds.{find-put, find-put_other, find-add_old}
use Rattle.golf_theory.proofs.MapKeys.{keys-put, keys-add, keys-only, keys-map_values}
use Rattle.golf_data.specs.declared.value.Value.{Value}
use Rattle.golf_data.specs.declared.value.Object.{Object}
use Rattle.golf_data.specs.declared.code.Code.{Code}
use Rattle.golf_data.specs.declared.goroutine.Mode.{Mode}
use Rattle.golf_data.specs.declared.goroutine.Side.{Side}
use Rattle.golf_data.specs.declared.goroutine.Wait.{Wait}
use Rattle.golf_model.specs.Views.{GoroutineView}
use Rattle.golf_model.specs.Values.{reference}
use Rattle.golf_model.specs.State.{State, is_running, not_empty, runnable}
use Rattle.golf_model.specs.Waiters.{ticket_of, waits_of, wait_for, wait_on}
use Rattle.golf_model.specs.Wakes.{Waking, released, closed_for, closed_on, released_by, reads_next, woken_by}
use Rattle.golf_model.specs.Changes.{Change, apply, apply_all, moved, requeue, requeue_at, requeue_by}
use Rattle.golf_model.specs.Turn.{turned, clears_nothing, cleared_after, step, turn_changes, whose_turn}
use Rattle.golf_model_futures.specs.Orderly.{IsBlocked, InOrder, HasMutex, IsOrderly, SameKind, KeepsOrder}
use Rattle.golf_model_futures.specs.Orderly.{AllKeepOrder}
use Rattle.golf_model_futures.proofs.Instructions.{keep_turn, keep_clearing}

-- runs and is blocked
runs-blocked : {A : Type 0} (m : Mode) → is_running m ≡ true → is_running m ≡ false → A
runs-blocked m t f = cc

-- a goroutine that is replaced by one that runs
module _ (gs : List (ℕ × GoroutineView)) (n : ℕ) (h : InOrder gs n) where
  was-blocked : (g : ℕ) (r : GoroutineView) → is_running r.mode ≡ true → (k : ℕ) (q : GoroutineView)
      → IsBlocked (put g r gs) k q → IsBlocked gs k q
  was-blocked g r t k q b = elim (Entry-put g r gs k q b.entry) [
    | inl a ↦ runs-blocked q.mode (ap (λ (z : GoroutineView). is_running z.mode) a.1 ∙ t) b.blocked
    | inr a ↦ record { entry = a; blocked = b.blocked }
  ]

  pub order-run : (g : ℕ) (r : GoroutineView) → is_running r.mode ≡ true → InOrder (put g r gs) n
  order-run g r t = record {
    finaliser_goroutine = subst (In 0) (sym (keys-put g r gs)) h.finaliser_goroutine;
    frames = λ k q b. h.frames k q (was-blocked g r t k q b);
    below = λ k q b. h.below k q (was-blocked g r t k q b);
    different = λ j k p q a b e. h.different j k p q (was-blocked g r t j p a) (was-blocked g r t k q b) e;
  }

  pub order-later : (m : ℕ) → n ≤ m → InOrder gs m
  order-later m l = record {
    finaliser_goroutine = h.finaliser_goroutine;
    frames = h.frames;
    below = λ k q b. let a = h.below k q b in omega arith;
    different = h.different;
  }

  -- one that takes the next ticket
  module _ (g : ℕ) (r : GoroutineView) (has_frame : not_empty r.frames ≡ true) (is : ticket_of r.mode ≡ n) where
    the_new : (k : ℕ) (q : GoroutineView) → IsBlocked (put g r gs) k q → ((k ≡ g) × (q ≡ r)) ⊎ IsBlocked gs k q
    the_new k q b = elim (Entry-put g r gs k q b.entry) [
      | inl a ↦ inl a
      | inr a ↦ inr
          (record { entry = a; blocked = b.blocked })
    ]

    its_ticket : (q : GoroutineView) → q ≡ r → ticket_of q.mode ≡ n
    its_ticket q e = ap (λ (z : GoroutineView). ticket_of z.mode) e ∙ is

    pub order-block : InOrder (put g r gs) (n + 1)
    order-block = record {
      finaliser_goroutine = subst (In 0) (sym (keys-put g r gs)) h.finaliser_goroutine;
      frames = λ k q b. elim (the_new k q b) [
        | inl a ↦ ap (λ (z : GoroutineView). not_empty z.frames) a.1
            ∙ has_frame
        | inr a ↦ h.frames k q a
      ];
      below = λ k q b. elim (the_new k q b) [
        | inl a ↦ (let t = its_ticket q a.1 in omega arith)
        | inr a ↦
            (let l = h.below k q a in omega arith)
      ];
      different = λ j k p q a b e. elim (the_new j p a) [
        | inl x ↦ elim (the_new k q b) [
          | inl y ↦ x.0 ∙ sym y.0
          | inr y ↦ (let t = its_ticket p x.1 in let l = h.below k q y in absurd (omega arith))
        ]
        | inr x ↦ elim (the_new k q b) [
          | inl y ↦ (let t = its_ticket q y.1 in let l = h.below j p x in absurd (omega arith))
          | inr y ↦ h.different j k p q x y e
        ]
      ];
    }

  -- one more that runs
  pub order-spawn : (g : ℕ) (r : GoroutineView) → is_running r.mode ≡ true → InOrder (add g r gs) n
  order-spawn g r t =
      let was : (k : ℕ) (q : GoroutineView) → IsBlocked (add g r gs) k q → IsBlocked gs k q =
      λ k q b. elim (Entry-add g r gs k q b.entry) [
        | inl a ↦ runs-blocked q.mode (ap (λ (z : GoroutineView). is_running z.mode) a.1 ∙ t) b.blocked
        | inr a ↦ record { entry = a; blocked = b.blocked }
      ] in record {
        finaliser_goroutine = subst (In 0) (sym (keys-add g r gs)) (In-left 0 (keys gs) (g ∷ []) h.finaliser_goroutine);
        frames = λ k q b. h.frames k q (was k q b);
        below = λ k q b. h.below k q (was k q b);
        different = λ j k p q a b e. h.different j k p q (was j p a) (was k q b) e;
      }

  -- some leave, and goroutine 0 does not
  pub order-only : (p : ℕ → Bool) → p 0 ≡ true → InOrder (only p gs) n
  order-only p t =
      let was : (k : ℕ) (q : GoroutineView) → IsBlocked (only p gs) k q → IsBlocked gs k q =
      λ k q b. record { entry = (Entry-only p gs k q b.entry).1; blocked = b.blocked } in record {
        finaliser_goroutine = subst (In 0) (sym (keys-only p gs)) (In-filter_old p 0 (keys gs) t h.finaliser_goroutine);
        frames = λ k q b. h.frames k q (was k q b);
        below = λ k q b. h.below k q (was k q b);
        different = λ j k u q a b e. h.different j k u q (was j u a) (was k q b) e;
      }

  -- some are woken
  pub order-woken : (f : ℕ → GoroutineView → GoroutineView)
      → ((g : ℕ) (r : GoroutineView) → (is_running (f g r).mode ≡ true) ⊎ (f g r ≡ r)) → InOrder (map_values f gs) n
  order-woken f wakes =
      let was : (k : ℕ) (q : GoroutineView) → IsBlocked (map_values f gs) k q → IsBlocked gs k q = λ k q b.
      let r = Entry-map_values_back f gs k q b.entry in
      elim (wakes k r.0) [
        | inl t ↦ runs-blocked q.mode (ap (λ (z : GoroutineView). is_running z.mode) r.2 ∙ t) b.blocked
        | inr e ↦ record { entry = subst (Entry gs k) (sym (r.2 ∙ e)) r.1; blocked = b.blocked }
      ] in record {
        finaliser_goroutine = subst (In 0) (sym (keys-map_values f gs)) h.finaliser_goroutine;
        frames = λ k q b. h.frames k q (was k q b);
        below = λ k q b. h.below k q (was k q b);
        different = λ j k p q a b e. h.different j k p q (was j p a) (was k q b) e;
      }

-- who is woken runs, and the others stay as they are
closed_for-wakes : (zero : Value) (w : Wait) (side : Side) (r : GoroutineView)
    → (is_running (closed_for zero w side r).mode ≡ true) ⊎ (closed_for zero w side r ≡ r)
closed_for-wakes zero w Side.Receive r = inl refl
closed_for-wakes zero w Side.Send r = inl refl
closed_for-wakes zero w _ r = inr refl

closed_on-wakes : (zero : Value) (m : Option Wait) (r : GoroutineView) → (is_running (closed_on zero m r).mode ≡ true)
    ⊎ (closed_on zero m r ≡ r)
closed_on-wakes zero None r = inr refl
closed_on-wakes zero (Some w) r = closed_for-wakes zero w w.side r

released_by-wakes : (m : Option Wait) (r : GoroutineView) → (is_running (released_by m r).mode ≡ true)
    ⊎ (released_by m r ≡ r)
released_by-wakes None r = inr refl
released_by-wakes (Some w) r = inl refl

woken-wakes : (how : Waking) (o : ℕ) (r : GoroutineView) → (is_running (woken_by how o r).mode ≡ true)
    ⊎ (woken_by how o r ≡ r)
woken-wakes (Waking.Closing zero) o r = closed_on-wakes zero (wait_on o (waits_of r.mode)) r
woken-wakes Waking.AtZero o r = released_by-wakes (wait_for o Side.Group (waits_of r.mode)) r
woken-wakes (Waking.ToReaders below) o r = released_by-wakes (reads_next below o r) r

-- objects of one kind
kind-same : (x : Object) → SameKind x x
kind-same (Object.Struct fields) = (fields, refl)
kind-same (Object.Slice elements) = (elements, refl)
kind-same (Object.Chan c) = (c, refl)
kind-same (Object.Mutex d) = (d, refl)
kind-same (Object.Group n) = (n, refl)
kind-same (Object.Rw n) = (n, refl)
kind-same (Object.Cond w) = refl

-- every object is still there, and of its kind
abbrev pub SameKinds : List (ℕ × Object) → List (ℕ × Object) → Type 0
SameKinds xs ys = (o : ℕ) (x : Object) → find o xs ≡ Some x → (y : Object) × (find o ys ≡ Some y) × SameKind x y

pub kinds-same : (xs : List (ℕ × Object)) → SameKinds xs xs
kinds-same xs o x e = (x, e, kind-same x)

-- so a condition that is waited on still has its mutex
mutex-kept : (xs ys : List (ℕ × Object)) → SameKinds xs ys → (w : Wait) → HasMutex xs w → HasMutex ys w
mutex-kept xs ys k w h = λ side.
    let m = h side in
    let c = k w.object.0 (Object.Cond (reference m.0)) m.2 in
    let l = k m.0 (Object.Mutex m.1) m.3 in
    (m.0, l.2.0, c.1 ∙ ap (λ (x : Object). Some x) c.2, l.1 ∙ ap (λ (x : Object). Some x) l.2.1)

mutexes-kept : (xs ys : List (ℕ × Object)) → SameKinds xs ys → (ws : List Wait) → Every (HasMutex xs) ws
    → Every (HasMutex ys) ws
mutexes-kept xs ys k ws h = Every-weaker (HasMutex xs) (HasMutex ys) (mutex-kept xs ys k) ws h

-- an object that is replaced by one of its kind, and one that is made
kinds-put : (xs : List (ℕ × Object)) (o : ℕ) (x y : Object) → find o xs ≡ Some x → SameKind x y
    → SameKinds xs (put o y xs)
kinds-put xs o x y e k p z i = elim (p == o) as (λ b. p == o ≡ b → (u : Object) × (find p (put o y xs) ≡ Some u)
    × SameKind z u) [
      | true ↦ λ t.
          let same : p ≡ o = eqb-true p o t in
          let is : z ≡ x = cc (ap (λ n. find n xs) same, i, e) in
          (y, ap (λ n. find n (put o y xs)) same ∙ find-put o y xs x e, subst (λ (u : Object). SameKind u y) (sym is) k)
      | false ↦ λ t. (z, find-put_other o y xs p (eqb-false p o t) ∙ i, kind-same z)
    ] refl

kinds-add : (xs : List (ℕ × Object)) (o : ℕ) (y : Object) → SameKinds xs (add o y xs)
kinds-add xs o y p z i = (z, find-add_old o y xs p z i, kind-same z)

-- two that are of the kind of a third one
kind-third : (x y z : Object) → SameKind x y → SameKind x z → SameKind z y
kind-third (Object.Cond v) y z a b = subst (λ (u : Object). SameKind u y) (sym b) a
kind-third _ y z a b = subst (λ (u : Object). SameKind u y) (sym b.1) a

kind-joined : (x y z : Object) → SameKind x y → SameKind y z → SameKind x z
kind-joined (Object.Cond v) y z a b = subst (λ (u : Object). SameKind u z) a b
kind-joined _ y z a b = subst (λ (u : Object). SameKind u z) a.1 b

kinds-joined : (xs ys zs : List (ℕ × Object)) → SameKinds xs ys → SameKinds ys zs → SameKinds xs zs
kinds-joined xs ys zs a b o x e = let i = a o x e in let j = b o i.0 i.1 in (j.0, j.1, kind-joined x i.0 j.0 i.2 j.2)

-- a state after a change that keeps order, and kinds of objects
module _ (xs : List (ℕ × Object)) (s : State) (k : SameKinds xs s.objects) (h : IsOrderly s) where
  -- with other objects of the same kinds
  with-objects : (ys : List (ℕ × Object)) → SameKinds s.objects ys → (g : ℕ) (r : GoroutineView)
      → Entry s.goroutines g r → Every (HasMutex ys) (waits_of r.mode)
  with-objects ys a g r e = mutexes-kept s.objects ys a (waits_of r.mode) (h.conditions g r e)

  no-waits : (ys : List (ℕ × Object)) (m : Mode) → is_running m ≡ true → Every (HasMutex ys) (waits_of m)
  no-waits ys Mode.Running t = tt
  no-waits ys (Mode.Blocked kind line waits ticket) t = cc

  -- a goroutine is replaced, and objects stay of their kinds
  put-conditions : (ys : List (ℕ × Object)) → SameKinds s.objects ys → (g : ℕ) (r : GoroutineView)
      → Every (HasMutex ys) (waits_of r.mode) → (j : ℕ) (q : GoroutineView) → Entry (put g r s.goroutines) j q
      → Every (HasMutex ys) (waits_of q.mode)
  put-conditions ys a g r c j q e = elim (Entry-put g r s.goroutines j q e) [
    | inl i ↦ subst (λ (z : GoroutineView). Every (HasMutex ys) (waits_of z.mode)) (sym i.1) c
    | inr i ↦ with-objects ys a j q i
  ]

  same : SameKinds s.objects s.objects
  same = kinds-same s.objects

  -- requeueing
  moved-alone : (ys : List (ℕ × Object)) (m ticket : ℕ) (mode : Mode)
      → Every (HasMutex ys) (waits_of (moved m ticket mode))
  moved-alone ys m ticket Mode.Running = tt
  moved-alone ys m ticket (Mode.Blocked kind line [] old) = tt
  moved-alone ys m ticket (Mode.Blocked kind line (w ∷ ws) old) = ((λ e. cc), tt)

  order-moved : (g m : ℕ) (r : GoroutineView) (mode : Mode) → r.mode ≡ mode → Entry s.goroutines g r
      → InOrder (put g (record r { mode = moved m s.next_ticket mode }) s.goroutines) (s.next_ticket + 1)
  order-moved g m r Mode.Running e i = let q : GoroutineView =
      record r { mode = Mode.Running } in order-later (put g q s.goroutines) s.next_ticket
      (order-run s.goroutines s.next_ticket h.goroutines g q refl) (s.next_ticket + 1) (omega arith)
  order-moved g m r (Mode.Blocked kind line waits ticket) e i =
      order-block s.goroutines s.next_ticket h.goroutines g
      (record r { mode = moved m s.next_ticket (Mode.Blocked kind line waits ticket) })
      (h.goroutines.frames g r (record { entry = i; blocked = ap is_running e })) refl

  abbrev Kept : State → Type 0
  Kept t = SameKinds s.objects t.objects × IsOrderly t

  passed-by : (g m : ℕ) (locked : Bool) (r : GoroutineView) → Entry s.goroutines g r
      → find m s.objects ≡ Some (Object.Mutex locked) → Kept (requeue_by locked g m r s)
  passed-by g m false r i e =
      let a = kinds-put s.objects m (Object.Mutex false) (Object.Mutex true) e (true, refl) in (
        a,
        record {
          goroutines = order-run s.goroutines s.next_ticket h.goroutines g (released r) refl;
          conditions = put-conditions (put m (Object.Mutex true) s.objects) a g (released r) tt;
        },
      )
  passed-by g m true r i e = (
    same,
    record {
      goroutines = order-moved g m r r.mode refl i;
      conditions = put-conditions s.objects same g (record r { mode = moved m s.next_ticket r.mode })
          (moved-alone s.objects m s.next_ticket r.mode);
    },
  )

  passed-at : (g m : ℕ) (x : Object) (r : GoroutineView) → Entry s.goroutines g r → find m s.objects ≡ Some x
      → Kept (requeue_at x g m r s)
  passed-at g m (Object.Mutex locked) r i e = passed-by g m locked r i e
  passed-at g m _ r i e = (same, h)

  passed : (g m : ℕ) (r : Option GoroutineView) (x : Option Object) → find g s.goroutines ≡ r → find m s.objects ≡ x
      → Kept (requeue g m r x s)
  passed g m None x i e = (same, h)
  passed g m (Some r) None i e = (same, h)
  passed g m (Some r) (Some x) i e = passed-at g m x r (Entry-find g s.goroutines r i) e

  -- who is woken waits on nothing, and the others wait as before
  woken-conditions : (how : Waking) (o j : ℕ) (q : GoroutineView)
      → Entry (map_values (λ g. woken_by how o) s.goroutines) j q → Every (HasMutex s.objects) (waits_of q.mode)
  woken-conditions how o j q e =
      let r = Entry-map_values_back (λ g. woken_by how o) s.goroutines j q e in
      elim (woken-wakes how o r.0) [
        | inl t ↦ no-waits s.objects q.mode (ap (λ (z : GoroutineView). is_running z.mode) r.2 ∙ t)
        | inr i ↦ subst (λ (z : GoroutineView). Every (HasMutex s.objects) (waits_of z.mode)) (sym (r.2 ∙ i))
            (h.conditions j r.0 r.1)
      ]

  not_zero : (g : ℕ) → (g ≡ 0 → ⊥) → not (0 == g) ≡ true
  not_zero g n = elim (0 == g) as (λ b. 0 == g ≡ b
      → not b ≡ true) [ true ↦ λ t. absurd (n (sym (eqb-true 0 g t))) | false ↦ λ t. refl ] refl

  replaced : (o : ℕ) (x y : Object) → find o xs ≡ Some x → SameKind x y
      → Kept (record s { objects = put o y s.objects })
  replaced o x y e a =
      let z = k o x e in
      let b = kinds-put s.objects o z.0 y z.1 (kind-third x y z.0 a z.2) in
      (b, record { goroutines = h.goroutines; conditions = with-objects (put o y s.objects) b })

  pub order_kept : (c : Change) → KeepsOrder xs c → Kept (apply c s)
  order_kept (Change.Make x) a = let b = kinds-add s.objects
      (s.last_object + 1) x in (
        b,
        record {
          goroutines = h.goroutines;
          conditions = with-objects (add (s.last_object + 1) x s.objects) b;
        },
      )
  order_kept (Change.Replace o x) a = replaced o a.0 x a.1 a.2
  order_kept (Change.Become g r) a = (
    same,
    record {
      goroutines = order-run s.goroutines s.next_ticket h.goroutines g r a;
      conditions = put-conditions s.objects same g r (no-waits s.objects r.mode a);
    },
  )
  order_kept (Change.Block g kind line waits r) a =
      let q : GoroutineView = record r { mode = Mode.Blocked kind line waits s.next_ticket } in (
        same,
        record {
          goroutines = order-block s.goroutines s.next_ticket h.goroutines g q a.0 refl;
          conditions = put-conditions s.objects same g q (mutexes-kept xs s.objects k waits a.1);
        },
      )
  order_kept (Change.Spawn r) a = (
    same,
    record {
      goroutines = order-spawn s.goroutines s.next_ticket h.goroutines s.next_goroutine r a;
      conditions = λ j q e. elim (Entry-add s.next_goroutine r s.goroutines j q e) [
        | inl i ↦ no-waits s.objects q.mode (ap (λ (z : GoroutineView). is_running z.mode) i.1 ∙ a)
        | inr i ↦ h.conditions j q i
      ];
    },
  )
  order_kept (Change.Leave g) a = (
    same,
    record {
      goroutines = order-only s.goroutines s.next_ticket h.goroutines (λ j. not (j == g))
          (not_zero g a);
      conditions = λ j q e. h.conditions j q
          (Entry-only (λ i. not (i == g)) s.goroutines j q e).1;
    },
  )
  order_kept (Change.WakeAll o how) a = (
    same,
    record {
      goroutines = order-woken s.goroutines s.next_ticket h.goroutines (λ g. woken_by how o)
          (λ g r. woken-wakes how o r);
      conditions = woken-conditions how o;
    },
  )
  order_kept (Change.Requeue g m) a = passed g m (find g s.goroutines) (find m s.objects) refl refl
  order_kept _ a = (same, record { goroutines = h.goroutines; conditions = h.conditions })

pub order_change : (s : State) (c : Change) → KeepsOrder s.objects c → IsOrderly s → IsOrderly (apply c s)
order_change s c a h = (order_kept s.objects s (kinds-same s.objects) h c a).1

order_changes : (xs : List (ℕ × Object)) (cs : List Change) (s : State) → SameKinds xs s.objects → AllKeepOrder xs cs
    → IsOrderly s → IsOrderly (apply_all cs s)
order_changes xs [] s k a h = h
order_changes xs (c ∷ cs) s k a h = let b =
    order_kept xs s k h c a.0 in order_changes xs cs (apply c s)
    (kinds-joined xs s.objects (apply c s).objects k b.0) a.1 b.1

pub order-step : (code : Code) (s : State) (k : ℕ) → IsRising s.goroutines → IsOrderly s → IsOrderly (step code s k)
order-step code s k n h =
    let t = turned code s k in
    order_changes t.objects (cleared_after code s k) t (kinds-same t.objects)
    (keep_clearing t.objects code (clears_nothing code s k) (whose_turn s k) t)
    (order_changes s.objects (turn_changes code (k / length (runnable s)) s (whose_turn s k)) s (kinds-same s.objects)
    (keep_turn code s k n) h)
