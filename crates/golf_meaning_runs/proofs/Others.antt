-- The changes of a turn that are of other goroutines leave each goroutine matching its calls.
-- For: `FramesMatch`, golf_meaning_runs/specs/Books.antt.
-- By: cases of the change, and of how a waiter goes on; induction over the list of changes.
use Rattle.std.proofs.Common.{◌≡◌, ℕ, ◌==◌, Bool, true, false, cond, List, [], ◌∷◌, Option, Some, None, ◌⊎◌, inl, inr}
use Rattle.std.proofs.Common.{refl, ap, sym, ◌∙◌, subst}
use Rattle.std.proofs.lemmas.Bool.{eqb-true, eqb-false}
use Rattle.std.specs.Prelude.{option_map}
use Rattle.golf_theory.specs.Membership.{In}
use Rattle.golf_theory.specs.Maps.{find, put, map_values, IsRising}
use Rattle.golf_theory.proofs.MapFinds.{cases_find, find-put, find-put_other, put-none, find-map_values}
use Rattle.golf_theory.proofs.MapFinds.{find-map_values_none, find-Entry}
use Rattle.golf_data.specs.declared.value.Value.{Value}
use Rattle.golf_data.specs.declared.value.Object.{Object}
use Rattle.golf_data.specs.declared.code.Code.{Code}
use Rattle.golf_data.specs.declared.goroutine.Mode.{Mode}
use Rattle.golf_data.specs.declared.goroutine.Side.{Side}
use Rattle.golf_data.specs.declared.goroutine.Wait.{Wait}
use Rattle.golf_model.specs.Views.{FrameView, GoroutineView}
use Rattle.golf_model.specs.State.{State}
use Rattle.golf_model.specs.Waiters.{Waiter, waits_of, ticket_of, wait_for, wait_on, waiters}
use Rattle.golf_model.specs.Wakes.{resumed, released, Waking, closed_for, closed_on, released_by, is_below, reads_next}
use Rattle.golf_model.specs.Wakes.{woken_by}
use Rattle.golf_model.specs.Changes.{Change, become, moved, requeue, requeue_at, requeue_by, apply, apply_all}
use Rattle.golf_model.proofs.Firsts.{waiters-sound}
use Rattle.golf_meaning_runs.specs.VisibleOutcomes.{IsOfLock, GoesOnAs, Serves, WaitsOnCondition, IsOther, AreOthers}
use Rattle.golf_meaning_runs.specs.VisibleOutcomes.{IsAwake}
use Rattle.golf_meaning_runs.specs.Books.{RunTypes, Book, FramesMatch}
use Rattle.golf_meaning_runs.specs.CallRecords.{Call}
use Rattle.golf_meaning_runs.proofs.Serving.{wait-for-in, of-lock, resumed-matches, released-matches, woken-matches}
use Rattle.golf_meaning_runs.proofs.Serving.{moved-matches}

-- the frames of each goroutine match its calls
abbrev pub Fits : Code → RunTypes → Book → State → Type 0
Fits code types b s = (h : ℕ) (r : GoroutineView) → find h s.goroutines ≡ Some r
    → FramesMatch code types r.mode r.frames (b h)

-- who waits for a lock, a group or a condition, or runs
abbrev MayPass : Mode → Type 0
MayPass Mode.Running = Unit {0}
MayPass (Mode.Blocked kind line waits ticket) = (w : Wait) × In w waits × IsOfLock w.side

pub one-some : {X : Type 0} (x y : X) → ◌≡◌ {A = Option X} (Some x) (Some y) → x ≡ y
one-some x y e = cc

pub none-some : {X : Type 0} (x : X) → ◌≡◌ {A = Option X} None (Some x) → ⊥
none-some x e = cc

-- ---- what is found after a change

pub found-put : {X : Type 0} (g : ℕ) (v : X) (es : List (ℕ × X)) (k : ℕ) (x : X) → find k (put g v es) ≡ Some x
    → ((k ≡ g) × (x ≡ v)) ⊎ (find k es ≡ Some x)
found-put {X = X} g v es k x h =
    elim (k == g) as (λ b. k == g ≡ b → ((k ≡ g) × (x ≡ v)) ⊎ (find k es ≡ Some x)) [
      | true ↦ λ t.
          let same : k ≡ g = eqb-true k g t in
          elim (cases_find g es) [
            | inl none ↦ inr (sym (ap (λ m. find k m) (put-none g v es none)) ∙ h)
            | inr old ↦ inl (
              same,
              let e : Some x ≡ Some v = sym h ∙ ap (λ j. find j (put g v es)) same
                  ∙ find-put g v es old.0 old.1 in one-some x v e,
            )
          ]
      | false ↦ λ t. inr (sym (find-put_other g v es k (λ same. eqb-false k g t same)) ∙ h)
    ] refl

found-values : {X : Type 0} (f : ℕ → X → X) (es : List (ℕ × X)) (k : ℕ) (y : X) → find k (map_values f es) ≡ Some y
    → (x : X) × (find k es ≡ Some x) × (y ≡ f k x)
found-values {X = X} f es k y h = elim (cases_find k es) [
  | inl none ↦ absurd (none-some y (sym (find-map_values_none f es k none) ∙ h))
  | inr old ↦ (old.0, old.1, one-some y (f k old.0) (sym h ∙ find-map_values f es k old.0 old.1))
]

-- ---- who runs is not woken, and who is woken may be passed on as before

woken-running : (how : Waking) (o : ℕ) (r : GoroutineView) → r.mode ≡ Mode.Running → woken_by how o r ≡ r
woken-running (Waking.Closing z) o r e = ap (λ m. closed_on z (wait_on o (waits_of m)) r) e
woken-running Waking.AtZero o r e = ap (λ m. released_by (wait_for o Side.Group (waits_of m)) r) e
woken-running (Waking.ToReaders below) o r e =
    ap (λ m. released_by (cond (is_below below (ticket_of m)) (wait_for o Side.Read (waits_of m)) None) r) e
    ∙ go (is_below below 0)
  where
    go : (b : Bool) → released_by (cond b None None) r ≡ r
    go true = refl
    go false = refl

closed-passes : (z : Value) (w : Wait) (side : Side) (r : GoroutineView) → MayPass r.mode
    → MayPass (closed_for z w side r).mode
closed-passes z w Side.Receive r h = tt
closed-passes z w Side.Send r h = tt
closed-passes z w _ r h = h

closing-passes : (z : Value) (m : Option Wait) (r : GoroutineView) → MayPass r.mode → MayPass (closed_on z m r).mode
closing-passes z None r h = h
closing-passes z (Some w) r h = closed-passes z w w.side r h

released-passes : (m : Option Wait) (r : GoroutineView) → MayPass r.mode → MayPass (released_by m r).mode
released-passes None r h = h
released-passes (Some w) r h = tt

woken-passes : (how : Waking) (o : ℕ) (r : GoroutineView) → MayPass r.mode → MayPass (woken_by how o r).mode
woken-passes (Waking.Closing z) o r h = closing-passes z (wait_on o (waits_of r.mode)) r h
woken-passes Waking.AtZero o r h = released-passes (wait_for o Side.Group (waits_of r.mode)) r h
woken-passes (Waking.ToReaders below) o r h = released-passes (reads_next below o r) r h

-- ---- a waiter that is requeued

module _ (code : Code) (types : RunTypes) (frames : List FrameView) (ks : List Call) where
  passed-runs : (mode : Mode) → MayPass mode → FramesMatch code types mode frames ks
      → FramesMatch code types Mode.Running frames ks
  passed-runs Mode.Running p h = h
  passed-runs (Mode.Blocked kind line waits ticket) p h =
      released-matches code types kind line waits ticket p.0 p.1 p.2 frames ks h

  passed-waits : (m next : ℕ) (mode : Mode) → MayPass mode → FramesMatch code types mode frames ks
      → FramesMatch code types (moved m next mode) frames ks
  passed-waits m next Mode.Running p h = h
  passed-waits m next (Mode.Blocked kind line waits ticket) p h =
      moved-matches code types kind line waits ticket next m p.0 p.1 p.2 frames ks h

moved-passes : (m next : ℕ) (mode : Mode) → MayPass mode → MayPass (moved m next mode)
moved-passes m next Mode.Running p = tt
moved-passes m next (Mode.Blocked kind line [] ticket) p = absurd p.1
moved-passes m next (Mode.Blocked kind line (w ∷ ws) ticket) p =
    (record w { object = record { 0 = m }; side = Side.Lock }, inl refl, tt)

-- ---- the waiters of a state

some-waiter : (o : ℕ) (side : Side) (e : ℕ × GoroutineView) (w : Waiter) (m : Option Wait)
    → wait_for o side (waits_of e.1.mode) ≡ m
    → option_map (λ (x : Wait). record { number = e.0; goroutine = e.1; wait = x }) m ≡ Some w
    → (wait_for o side (waits_of e.1.mode) ≡ Some w.wait) × (w.number ≡ e.0) × (w.goroutine ≡ e.1)
some-waiter o side e w None q h = absurd (none-some w h)
some-waiter o side e w (Some x) q h =
    let same : w ≡ record { number = e.0; goroutine = e.1; wait = x } = cc in (
      q ∙ ap (λ (v : Waiter). Some v.wait) (sym same),
      ap (λ (v : Waiter). v.number) same,
      ap (λ (v : Waiter). v.goroutine) same,
    )

module _ (s : State) (rising : IsRising s.goroutines) (o : ℕ) (side : Side) (w : Waiter)
    (i : In w (waiters o side s.goroutines)) where
  -- a waiter is found by its number, and waits there
  waiter-found : (find w.number s.goroutines ≡ Some w.goroutine)
      × (wait_for o side (waits_of w.goroutine.mode) ≡ Some w.wait)
  waiter-found =
      let x = waiters-sound o side s.goroutines w i in
      let e = x.0 in
      let q = some-waiter o side e w (wait_for o side (waits_of e.1.mode)) refl x.2 in (
        ap (λ n. find n s.goroutines) q.1 ∙ find-Entry s.goroutines e.0 e.1 rising x.1
            ∙ ap (λ (r : GoroutineView). Some r) (sym q.2),
        ap (λ (r : GoroutineView). wait_for o side (waits_of r.mode)) q.2 ∙ q.0,
      )

-- who runs is in no queue
pub runs-awake : (s : State) → IsRising s.goroutines → (g : ℕ) (r : GoroutineView) → find g s.goroutines ≡ Some r
    → r.mode ≡ Mode.Running → IsAwake s g
runs-awake s rising g r found runs o side w i n =
    let f = waiter-found s rising o side w i in
    let same : w.goroutine ≡ r = one-some w.goroutine r (sym f.0 ∙ ap (λ j. find j s.goroutines) n ∙ found) in
    none-some w.wait (ap (λ m. wait_for o side (waits_of m)) (sym runs)
    ∙ ap (λ (q : GoroutineView). wait_for o side (waits_of q.mode)) (sym same) ∙ f.1)

waiting-passes : (o : ℕ) (w : Wait) (mode : Mode) → wait_for o Side.Cond (waits_of mode) ≡ Some w → MayPass mode
waiting-passes o w Mode.Running e = tt
waiting-passes o w (Mode.Blocked kind line waits ticket) e = let p =
    wait-for-in o Side.Cond waits w e in (w, p.0, of-lock w.side Side.Cond p.1 tt)

module _ (code : Code) (types : RunTypes) (o : ℕ) (side : Side) (w : Wait) (frames : List FrameView)
    (ks : List Call) where
  served-fits : (values : List Value) (mode : Mode) (started : ℕ) → wait_for o side (waits_of mode) ≡ Some w
      → FramesMatch code types mode frames ks → FramesMatch code types Mode.Running
      (resumed w values (record { frames = frames; mode = mode; started = started })).frames ks
  served-fits values Mode.Running started e h = absurd (none-some w e)
  served-fits values (Mode.Blocked kind line waits ticket) started e h =
      resumed-matches code types kind line waits ticket w values (wait-for-in o side waits w e).0 frames ks h

  released-fits : IsOfLock side → (mode : Mode) → wait_for o side (waits_of mode) ≡ Some w
      → FramesMatch code types mode frames ks → FramesMatch code types Mode.Running frames ks
  released-fits lock Mode.Running e h = h
  released-fits lock (Mode.Blocked kind line waits ticket) e h = let p =
      wait-for-in o side waits w e in released-matches code types kind line waits ticket w p.0
      (of-lock w.side side p.1 lock) frames ks h

-- ---- the goroutines after some changes of a turn

module _ (code : Code) (types : RunTypes) (b : Book) (s : State) (rising : IsRising s.goroutines)
    (fits : Fits code types b s) (g : ℕ) where
  -- The goroutine of the turn is this one, the others match their calls, those that wait on a condition may be passed
  -- on, and no goroutine is new and no ending recorded.
  pub record Keeps (r : GoroutineView) (t : State) : Type 0 where
    pub own : find g t.goroutines ≡ Some r
    pub others : (h : ℕ) (q : GoroutineView) → (h ≡ g → ⊥) → find h t.goroutines ≡ Some q
        → FramesMatch code types q.mode q.frames (b h)
    pub passing : (h : ℕ) (q : GoroutineView) → WaitsOnCondition s h → find h t.goroutines ≡ Some q → MayPass q.mode
    pub next : t.next_goroutine ≡ s.next_goroutine
    pub recorded : t.recorded ≡ s.recorded

  on-condition : (h : ℕ) (q : GoroutineView) → WaitsOnCondition s h → find h s.goroutines ≡ Some q → MayPass q.mode
  on-condition h q (o, w, i, n) e =
      let f = waiter-found s rising o Side.Cond w i in
      let same : w.goroutine ≡ q = one-some w.goroutine q (sym f.0 ∙ ap (λ j. find j s.goroutines) n ∙ e) in
      waiting-passes o w.wait q.mode (ap (λ (r : GoroutineView). wait_for o Side.Cond (waits_of r.mode)) (sym same)
      ∙ f.1)

  pub keeps-start : (r : GoroutineView) → find g s.goroutines ≡ Some r → Keeps r s
  keeps-start r e = record {
    own = e;
    others = λ h q ne f. fits h q f;
    passing = on-condition;
    next = refl;
    recorded = refl;
  }

  -- a waiter that goes on matches its calls
  goes-on : (o : ℕ) (side : Side) (w : Waiter) (q : GoroutineView) → In w (waiters o side s.goroutines)
      → GoesOnAs side w q → FramesMatch code types q.mode q.frames (b w.number) × (q.mode ≡ Mode.Running)
  goes-on o side w q i (inl (values, e)) =
      let f = waiter-found s rising o side w i in
      let m = served-fits code types o side w.wait w.goroutine.frames
      (b w.number) values w.goroutine.mode w.goroutine.started f.1 (fits w.number w.goroutine f.0) in (
        subst (λ (r : GoroutineView). FramesMatch code types r.mode r.frames (b w.number)) (sym e) m,
        ap (λ (r : GoroutineView). r.mode) e,
      )
  goes-on o side w q i (inr (lock, e)) =
      let f = waiter-found s rising o side w i in
      let m = released-fits code types o side w.wait w.goroutine.frames (b w.number) lock w.goroutine.mode f.1
      (fits w.number w.goroutine f.0) in (
        subst (λ (r : GoroutineView). FramesMatch code types r.mode r.frames (b w.number)) (sym e) m,
        ap (λ (r : GoroutineView). r.mode) e,
      )

  serves-fits : (h : ℕ) (q : GoroutineView) → Serves s h q → FramesMatch code types q.mode q.frames (b h)
      × MayPass q.mode
  serves-fits h q (o, side, w, i, n, e) =
      let m = goes-on o side w q i e in
      (subst (λ j. FramesMatch code types q.mode q.frames (b j)) n m.0, subst MayPass (sym m.1) tt)

  module _ (r : GoroutineView) (runs : r.mode ≡ Mode.Running) where
    -- nothing of the goroutines has changed
    still : (t u : State) → Keeps r t → u.goroutines ≡ t.goroutines → u.next_goroutine ≡ t.next_goroutine
        → u.recorded ≡ t.recorded → Keeps r u
    still t u k a n e = record {
      own = ap (λ gs. find g gs) a ∙ k.own;
      others = λ h q ne f. k.others h q ne (ap (λ gs. find h gs) (sym a) ∙ f);
      passing = λ h q c f. k.passing h q c (ap (λ gs. find h gs) (sym a) ∙ f);
      next = n ∙ k.next;
      recorded = e ∙ k.recorded;
    }

    -- another goroutine becomes this one
    changed : (t u : State) (h : ℕ) (q : GoroutineView) → Keeps r t → (h ≡ g → ⊥)
        → FramesMatch code types q.mode q.frames (b h) → MayPass q.mode → u.goroutines ≡ put h q t.goroutines
        → u.next_goroutine ≡ t.next_goroutine → u.recorded ≡ t.recorded → Keeps r u
    changed t u h q k ne m p a n e = record {
      own = ap (λ gs. find g gs) a ∙ find-put_other h q t.goroutines g (λ same. ne (sym same)) ∙ k.own;
      others = λ j x not f. elim (found-put h q t.goroutines j x (ap (λ gs. find j gs) (sym a) ∙ f)) [
        | inl i ↦ subst (λ (z : GoroutineView). FramesMatch code types z.mode z.frames (b j)) (sym i.1)
            (subst (λ i1. FramesMatch code types q.mode q.frames (b i1)) (sym i.0) m)
        | inr i ↦ k.others j x not i
      ];
      passing = λ j x c f. elim (found-put h q t.goroutines j x (ap (λ gs. find j gs) (sym a) ∙ f)) [
        | inl i ↦ subst (λ (z : GoroutineView). MayPass z.mode) (sym i.1) p
        | inr i ↦ k.passing j x c i
      ];
      next = n ∙ k.next;
      recorded = e ∙ k.recorded;
    }

    -- all who wait on an object are woken
    woken : (t u : State) (how : Waking) (o : ℕ) → Keeps r t
        → u.goroutines ≡ map_values (λ j. woken_by how o) t.goroutines → u.next_goroutine ≡ t.next_goroutine
        → u.recorded ≡ t.recorded → Keeps r u
    woken t u how o k a n e = record {
      own = ap (λ gs. find g gs) a ∙ find-map_values (λ j. woken_by how o) t.goroutines g r k.own
          ∙ ap (λ (x : GoroutineView). Some x) (woken-running how o r runs);
      others = λ h q ne f.
          let x = found-values (λ j. woken_by how o) t.goroutines h q (ap (λ gs. find h gs) (sym a) ∙ f) in
          subst (λ (z : GoroutineView). FramesMatch code types z.mode z.frames (b h)) (sym x.2)
          (woken-matches code types (b h) how o x.0.frames x.0.mode x.0.started (k.others h x.0 ne x.1));
      passing = λ h q c f.
          let x = found-values (λ j. woken_by how o) t.goroutines h q (ap (λ gs. find h gs) (sym a) ∙ f) in
          subst (λ (z : GoroutineView). MayPass z.mode) (sym x.2) (woken-passes how o x.0 (k.passing h x.0 c x.1));
      next = n ∙ k.next;
      recorded = e ∙ k.recorded;
    }

    module _ (t : State) (k : Keeps r t) (h m : ℕ) (ne : h ≡ g → ⊥) (c : WaitsOnCondition s h) (q : GoroutineView)
        (at : find h t.goroutines ≡ Some q) where
      passed-by : (locked : Bool) → Keeps r (requeue_by locked h m q t)
      passed-by false = changed t _ h (released q) k ne
          (passed-runs code types q.frames (b h) q.mode (k.passing h q c at) (k.others h q ne at)) tt refl refl refl
      passed-by true = changed t _ h (record q { mode = moved m t.next_ticket q.mode }) k ne
          (passed-waits code types q.frames (b h) m t.next_ticket q.mode (k.passing h q c at) (k.others h q ne at))
          (moved-passes m t.next_ticket q.mode (k.passing h q c at)) refl refl refl

      passed-at : (x : Object) → Keeps r (requeue_at x h m q t)
      passed-at (Object.Mutex locked) = passed-by locked
      passed-at _ = k

    passed : (t : State) → Keeps r t → (h m : ℕ) → (h ≡ g → ⊥) → WaitsOnCondition s h → (q : Option GoroutineView)
        → find h t.goroutines ≡ q → (x : Option Object) → Keeps r (requeue h m q x t)
    passed t k h m ne c None e x = k
    passed t k h m ne c (Some q) e None = k
    passed t k h m ne c (Some q) e (Some x) = passed-at t k h m ne c q e x

    one : (c : Change) → IsOther s g c → (t : State) → Keeps r t → Keeps r (apply c t)
    one (Change.Become h q) i t k = let f = serves-fits h q i.1 in changed t _ h q k i.0 f.0 f.1 refl refl refl
    one (Change.Block h kind line waits q) i t k = absurd i
    one (Change.Spawn q) i t k = absurd i
    one (Change.Leave h) i t k = absurd i
    one (Change.Finish e) i t k = absurd i
    one Change.TakeQueued i t k = absurd i
    one (Change.WakeAll o how) i t k = woken t _ how o k refl refl refl
    one (Change.Requeue h m) i t k = passed t k h m i.0 i.1 (find h t.goroutines) refl (find m t.objects)
    one _ i t k = still t _ k refl refl refl

    -- changes of others, one after another
    pub keeps-all : (cs : List Change) → AreOthers s g cs → (t : State) → Keeps r t → Keeps r (apply_all cs t)
    keeps-all [] i t k = k
    keeps-all (c ∷ cs) i t k = keeps-all cs i.1 (apply c t) (one c i.0 t k)

  -- the goroutine of the turn becomes this one, and runs
  pub keeps-become : (r q : GoroutineView) (t : State) → q.mode ≡ Mode.Running → Keeps r t → Keeps q (become g q t)
  keeps-become r q t runs k = record {
    own = find-put g q t.goroutines r k.own;
    others = λ h x ne f. k.others h x ne (sym (find-put_other g q t.goroutines h ne) ∙ f);
    passing = λ h x c f. elim (found-put g q t.goroutines h x f) [
      | inl i ↦ subst (λ (z : GoroutineView). MayPass z.mode) (sym i.1) (subst MayPass (sym runs) tt)
      | inr i ↦ k.passing h x c i
    ];
    next = k.next;
    recorded = k.recorded;
  }
