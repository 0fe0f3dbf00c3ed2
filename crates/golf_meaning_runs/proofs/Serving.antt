-- Who is served, woken or passed on from a queue goes on as its call may: the call was answered.
-- For: `FramesMatch`, golf_meaning_runs/specs/Books.antt.
-- By: cases of the waking; induction over lists of waits.
use Rattle.std.proofs.Common.{◌≡◌, ℕ, ◌==◌, Bool, true, false, cond, List, [], ◌∷◌, ◌++◌, Option, Some, None, inl, inr, map}
use Rattle.std.proofs.Common.{refl, ap, sym, ◌∙◌, subst}
use Rattle.std.specs.Prelude.{◌&&◌}
use Rattle.golf_theory.specs.Membership.{In, Every}
use Rattle.golf_data.specs.declared.value.Value.{Value}
use Rattle.golf_data.specs.declared.code.Code.{Code}
use Rattle.golf_data.specs.declared.code.Function.{Function}
use Rattle.golf_data.specs.declared.goroutine.Leaving.{Leaving}
use Rattle.golf_data.specs.declared.goroutine.Fault.{Fault}
use Rattle.golf_data.specs.declared.goroutine.PanicKind.{PanicKind}
use Rattle.golf_data.specs.declared.goroutine.Mode.{Mode}
use Rattle.golf_data.specs.declared.goroutine.Side.{Side}
use Rattle.golf_data.specs.declared.goroutine.Wait.{Wait}
use Rattle.golf_data.specs.declared.goroutine.WaitKind.{WaitKind}
use Rattle.golf_model.specs.Views.{FrameView, GoroutineView}
use Rattle.golf_model.specs.Waiters.{wait_for, wait_on, same_side}
use Rattle.golf_model.specs.Wakes.{fault, unwinding, resumed_frame, on_top, received, Waking, closed_for, closed_on}
use Rattle.golf_model.specs.Wakes.{released_by, is_below, reads_next, woken_by}
use Rattle.golf_model.specs.Changes.{moved_waits}
use Rattle.golf_meaning_flat.specs.Worlds.{Halt, pushed}
use Rattle.golf_meaning_runs.specs.VisibleOutcomes.{IsOfLock}
use Rattle.golf_meaning_runs.specs.TurnsInLives.{Asked}
use Rattle.golf_meaning_runs.specs.Books.{RunTypes, LivesAt, MayServe, IsOnTop, Top}
use Rattle.golf_meaning_runs.specs.CallRecords.{Standing, Child, Call, as_seen}
use Rattle.golf_meaning_runs.specs.Joins.{GoesNoMore, deferred_of, StillDefers, DefersAll, JoinsEnded, JoinsOnTop, JoinsTop}
use Rattle.golf_meaning_runs.specs.Books.{FramesMatch}

-- values from the top, in source order
turned : List Value → List Value → List Value
turned [] acc = acc
turned (v ∷ vs) acc = turned vs (v ∷ acc)

pushed-turned : (vs acc rest : List Value) → pushed (turned vs acc) rest ≡ pushed acc (vs ++ rest)
unfolding turned
pushed-turned [] acc rest = refl
pushed-turned (v ∷ vs) acc rest = pushed-turned vs (v ∷ acc) rest

Every-at : {X : Type 0} (P : X → Type 0) (xs : List X) (x : X) → In x xs → Every P xs → P x
Every-at P [] x m h = absurd m
Every-at P (y ∷ xs) x (inl e) h = subst P (sym e) h.0
Every-at P (y ∷ xs) x (inr m) h = Every-at P xs x m h.1

-- a wait that is found is one of them

wait-on-in : (o : ℕ) (ws : List Wait) (w : Wait) → wait_on o ws ≡ Some w → In w ws
wait-on-in o [] w e = cc
wait-on-in o (x ∷ ws) w e = elim (x.object.0 == o) as (λ b. cond b (Some x) (wait_on o ws) ≡ Some w
    → In w (x ∷ ws)) [ true ↦ λ q. inl (same q) | false ↦ λ q. inr (wait-on-in o ws w q) ] e
  where
    same : ◌≡◌ {A = Option Wait} (Some x) (Some w) → w ≡ x
    same q = cc

pub wait-for-in : (o : ℕ) (side : Side) (ws : List Wait) (w : Wait) → wait_for o side ws ≡ Some w → In w ws
    × (same_side w.side side ≡ true)
wait-for-in o side [] w e = cc
wait-for-in o side (x ∷ ws) w e = elim (x.object.0 == o) as (λ b. cond (b && same_side x.side side) (Some x)
    (wait_for o side ws) ≡ Some w → In w (x ∷ ws) × (same_side w.side side ≡ true)) [
      | true ↦ elim (same_side x.side side) as (λ b. same_side x.side side ≡ b
          → cond b (Some x) (wait_for o side ws) ≡ Some w → In w (x ∷ ws) × (same_side w.side side ≡ true)) [
            | true ↦ λ p q. let same : w ≡ x = cc in (inl same, ap (λ (z : Wait). same_side z.side side) same ∙ p)
            | false ↦ λ p q. let r = wait-for-in o side ws w q in (inr r.0, r.1)
          ] refl
      | false ↦ λ q. let r = wait-for-in o side ws w q in (inr r.0, r.1)
    ] e

-- an operation of a lock, a group or a condition

pub of-lock : (a b : Side) → same_side a b ≡ true → IsOfLock b → IsOfLock a
of-lock Side.Receive Side.Receive e k = k
of-lock Side.Receive Side.Send e k = k
of-lock Side.Receive Side.Lock e k = cc
of-lock Side.Receive Side.Group e k = cc
of-lock Side.Receive Side.Read e k = cc
of-lock Side.Receive Side.Write e k = cc
of-lock Side.Receive Side.Cond e k = cc
of-lock Side.Send Side.Receive e k = k
of-lock Side.Send Side.Send e k = k
of-lock Side.Send Side.Lock e k = cc
of-lock Side.Send Side.Group e k = cc
of-lock Side.Send Side.Read e k = cc
of-lock Side.Send Side.Write e k = cc
of-lock Side.Send Side.Cond e k = cc
of-lock _ b e k = tt

-- it waits for the answer to its last operation
abbrev Awaits : Standing → Type 0
Awaits Standing.Goes = ⊥
Awaits (Standing.Asks q) = Unit {0}
Awaits (Standing.Ended h) = ⊥

-- so it does if it is not being left
abbrev Left : Standing → Leaving → Type 0
Left o Leaving.No = Awaits o
Left o (Leaving.Returning v) = Unit {0}
Left o (Leaving.Unwinding x) = Unit {0}

-- a call of which no deferred call has run is left with all of them
pub none-late : (k : Call) (f : FrameView) → DefersAll k f → StillDefers k [] f
none-late k f h = (
  ap (λ (ls : List Child). map deferred_of ls ++ f.deferred) h.0 ∙ h.1,
  subst (λ (ls : List Child). Every (λ (x : Child). x.after ≡ as_seen k) ls) (sym h.0) tt,
)

module _ (code : Code) (types : RunTypes) (kind : WaitKind) (line : ℕ) (waits : List Wait) (ticket : ℕ) where
  abbrev blocked : Mode
  blocked = Mode.Blocked kind line waits ticket

  module _ (fn : Function) (k : Call) (f : FrameView) where
    resumed-asks : (w : Wait) (vs : List Value) → In w waits → (o : Standing) → IsOnTop types fn k f o blocked
        → IsOnTop types fn k (resumed_frame w vs f) o Mode.Running
    resumed-asks w vs m Standing.Goes h = absurd h
    resumed-asks w vs m (Standing.Ended i) h = absurd h
    resumed-asks w vs m (Standing.Asks q) h = (
      turned vs [],
      ap (λ os. vs ++ os) h.0 ∙ sym (pushed-turned vs [] q.rest),
      (Every-at (MayServe types fn k q f) waits w m h.1).0 (turned vs []),
    )

    released-asks : (w : Wait) → In w waits → IsOfLock w.side → (o : Standing) → IsOnTop types fn k f o blocked
        → IsOnTop types fn k f o Mode.Running
    released-asks w m lock Standing.Goes h = absurd h
    released-asks w m lock (Standing.Ended i) h = absurd h
    released-asks w m lock (Standing.Asks q) h = ([], h.0, (Every-at (MayServe types fn k q f) waits w m h.1).1 lock)

    resumed-top : (w : Wait) (vs : List Value) → In w waits → (l : Leaving) → Top types fn k f l blocked
        → Top types fn k (resumed_frame w vs f) l Mode.Running
    resumed-top w vs m Leaving.No h = resumed-asks w vs m k.standing h
    resumed-top w vs m (Leaving.Returning v) h = h
    resumed-top w vs m (Leaving.Unwinding x) h = h

    blocked-ends : (o : Standing) → IsOnTop types fn k f o blocked → GoesNoMore o
    blocked-ends Standing.Goes h = absurd h
    blocked-ends (Standing.Asks q) h = tt
    blocked-ends (Standing.Ended i) h = tt

    top-ends : (l : Leaving) → Top types fn k f l blocked → GoesNoMore k.standing
    top-ends Leaving.No h = blocked-ends k.standing h
    top-ends (Leaving.Returning v) h = subst GoesNoMore (sym h) tt
    top-ends (Leaving.Unwinding x) h = h

    released-top : (w : Wait) → In w waits → IsOfLock w.side → (l : Leaving) → Top types fn k f l blocked
        → Top types fn k f l Mode.Running
    released-top w m lock Leaving.No h = released-asks w m lock k.standing h
    released-top w m lock (Leaving.Returning v) h = h
    released-top w m lock (Leaving.Unwinding x) h = h

  module _ (fn : Function) (k : Call) (f : FrameView) where
    blocked-awaits : (o : Standing) → IsOnTop types fn k f o blocked → Awaits o
    blocked-awaits Standing.Goes h = absurd h
    blocked-awaits (Standing.Asks q) h = tt
    blocked-awaits (Standing.Ended i) h = absurd h

    top-left : (l : Leaving) → Top types fn k f l blocked → Left k.standing l
    top-left Leaving.No h = blocked-awaits k.standing h
    top-left (Leaving.Returning v) h = tt
    top-left (Leaving.Unwinding x) h = tt

  -- who waits has shown no call, and is served, released or unwound without one
  module _ (k : Call) (f : FrameView) where
    resumed-joins-so : (w : Wait) (vs : List Value) (o : Standing) → JoinsOnTop k f o blocked
        → JoinsOnTop k (resumed_frame w vs f) o Mode.Running
    resumed-joins-so w vs Standing.Goes h = h
    resumed-joins-so w vs (Standing.Asks q) h = inl h
    resumed-joins-so w vs (Standing.Ended i) h = h

    resumed-joins : (w : Wait) (vs : List Value) (l : Leaving) → JoinsTop k f l blocked
        → JoinsTop k (resumed_frame w vs f) l Mode.Running
    resumed-joins w vs Leaving.No h = (resumed-joins-so w vs k.standing h.0, h.1)
    resumed-joins w vs (Leaving.Returning v) h = absurd h.3
    resumed-joins w vs (Leaving.Unwinding x) h = h

    released-joins-so : (o : Standing) → JoinsOnTop k f o blocked → JoinsOnTop k f o Mode.Running
    released-joins-so Standing.Goes h = h
    released-joins-so (Standing.Asks q) h = inl h
    released-joins-so (Standing.Ended i) h = h

    released-joins : (l : Leaving) → JoinsTop k f l blocked → JoinsTop k f l Mode.Running
    released-joins Leaving.No h = (released-joins-so k.standing h.0, h.1)
    released-joins (Leaving.Returning v) h = absurd h.3
    released-joins (Leaving.Unwinding x) h = h

    ended-joins : (o : Standing) → GoesNoMore o → JoinsOnTop k f o blocked → JoinsEnded k o
    ended-joins Standing.Goes n h = absurd n
    ended-joins (Standing.Asks q) n h = inl h
    ended-joins (Standing.Ended i) n h = h

    -- who waits has not returned
    waits-on : (o : Standing) → Awaits o → (v : Option Value) → o ≡ Standing.Ended (Halt.Returned v) → ⊥
    waits-on (Standing.Asks q) n v e = cc
    waits-on Standing.Goes n v e = cc
    waits-on (Standing.Ended i) n v e = absurd n

    unwound-joins : (x : Fault) (l : Leaving) → GoesNoMore k.standing → Left k.standing l → JoinsTop k f l blocked
        → JoinsTop k (unwinding x f) (Leaving.Unwinding x) Mode.Running
    unwound-joins x Leaving.No n w h =
        (ended-joins k.standing n h.0, none-late k f h.1, inl (waits-on k.standing w))
    unwound-joins x (Leaving.Returning v) n w h = absurd h.3
    unwound-joins x (Leaving.Unwinding y) n w h = h

  -- served with values
  pub resumed-matches : (w : Wait) (vs : List Value) → In w waits → (fs : List FrameView) (ks : List Call)
      → FramesMatch code types blocked fs ks → FramesMatch code types Mode.Running (on_top (resumed_frame w vs) fs) ks
  resumed-matches w vs m [] [] h = tt
  resumed-matches w vs m [] (k ∷ ks) h = absurd h
  resumed-matches w vs m (f ∷ fs) [] h = absurd h
  resumed-matches w vs m (f ∷ fs) (k ∷ ks) h = let o =
      h.0 in ((o.0, o.1, o.2, o.3, resumed-top o.0 k f w vs m f.leaving o.4), resumed-joins k f w vs f.leaving h.1, h.2, h.3)

  -- woken where it stands
  pub released-matches : (w : Wait) → In w waits → IsOfLock w.side → (fs : List FrameView) (ks : List Call)
      → FramesMatch code types blocked fs ks → FramesMatch code types Mode.Running fs ks
  released-matches w m lock [] [] h = tt
  released-matches w m lock [] (k ∷ ks) h = absurd h
  released-matches w m lock (f ∷ fs) [] h = absurd h
  released-matches w m lock (f ∷ fs) (k ∷ ks) h = let o =
      h.0 in ((o.0, o.1, o.2, o.3, released-top o.0 k f w m lock f.leaving o.4), released-joins k f f.leaving h.1, h.2, h.3)

  -- unwinding
  pub unwound-matches : (x : Fault) (fs : List FrameView) (ks : List Call) → FramesMatch code types blocked fs ks
      → FramesMatch code types Mode.Running (on_top (unwinding x) fs) ks
  unwound-matches x [] [] h = tt
  unwound-matches x [] (k ∷ ks) h = absurd h
  unwound-matches x (f ∷ fs) [] h = absurd h
  unwound-matches x (f ∷ fs) (k ∷ ks) h = let o = h.0 in
      let ends = top-ends o.0 k f f.leaving o.4 in
      ((o.0, o.1, o.2, o.3, ends), unwound-joins k f x f.leaving ends (top-left o.0 k f f.leaving o.4) h.1, h.2, h.3)

-- ---- all who wait on an object are woken

abbrev Fits : Code → RunTypes → GoroutineView → List Call → Type 0
Fits code types r ks = FramesMatch code types r.mode r.frames ks

module _ (code : Code) (types : RunTypes) (ks : List Call) where
  -- by a wait of its own
  closed-one : (z : Value) (fs : List FrameView) (kind : WaitKind) (line : ℕ) (waits : List Wait) (ticket started : ℕ)
      (w : Wait) → In w waits → (side : Side)
      → Fits code types (record { frames = fs; mode = Mode.Blocked kind line waits ticket; started = started }) ks
      → Fits code types (closed_for z w side
      (record { frames = fs; mode = Mode.Blocked kind line waits ticket; started = started })) ks
  closed-one z fs kind line waits ticket started w m Side.Receive h =
      resumed-matches code types kind line waits ticket w (received w.with_ok z false) m fs ks h
  closed-one z fs kind line waits ticket started w m Side.Send h =
      unwound-matches code types kind line waits ticket (fault PanicKind.SendClosed line) fs ks h
  closed-one z fs kind line waits ticket started w m _ h = h

  module _ (fs : List FrameView) (kind : WaitKind) (line : ℕ) (waits : List Wait) (ticket started : ℕ) where
    abbrev r : GoroutineView
    r = record { frames = fs; mode = Mode.Blocked kind line waits ticket; started = started }

    closed-some : (z : Value) (m : Option Wait) → ((w : Wait) → m ≡ Some w → In w waits) → Fits code types r ks
        → Fits code types (closed_on z m r) ks
    closed-some z None n h = h
    closed-some z (Some w) n h = closed-one z fs kind line waits ticket started w (n w refl) w.side h

    released-some : (m : Option Wait) → ((w : Wait) → m ≡ Some w → In w waits × IsOfLock w.side) → Fits code types r ks
        → Fits code types (released_by m r) ks
    released-some None n h = h
    released-some (Some w) n h = let p = n w refl in released-matches code types kind line waits ticket w p.0 p.1 fs ks
        h

    reads-some : (below : Option ℕ) (o : ℕ) (w : Wait) (b : Bool) → cond b (wait_for o Side.Read waits) None ≡ Some w
        → In w waits × IsOfLock w.side
    reads-some below o w true e = let p = wait-for-in o Side.Read waits w e in (p.0, of-lock w.side Side.Read p.1 tt)
    reads-some below o w false e = cc

    blocked-woken : (how : Waking) (o : ℕ) → Fits code types r ks → Fits code types (woken_by how o r) ks
    blocked-woken (Waking.Closing z) o h = closed-some z (wait_on o waits) (λ w e. wait-on-in o waits w e) h
    blocked-woken Waking.AtZero o h = released-some (wait_for o Side.Group waits)
        (λ w e. let p = wait-for-in o Side.Group waits w e in (p.0, of-lock w.side Side.Group p.1 tt)) h
    blocked-woken (Waking.ToReaders below) o h =
        released-some (reads_next below o r) (λ w e. reads-some below o w (is_below below ticket) e) h

  -- who runs is not woken
  running-woken : (fs : List FrameView) (started : ℕ) (how : Waking) (o : ℕ)
      → woken_by how o (record { frames = fs; mode = Mode.Running; started = started })
      ≡ record { frames = fs; mode = Mode.Running; started = started }
  running-woken fs started (Waking.Closing z) o = refl
  running-woken fs started Waking.AtZero o = refl
  running-woken fs started (Waking.ToReaders below) o = go (is_below below 0)
    where
      go : (b : Bool) → released_by (cond b None None) (record { frames = fs; mode = Mode.Running; started = started })
          ≡ record { frames = fs; mode = Mode.Running; started = started }
      go true = refl
      go false = refl

  pub woken-matches : (how : Waking) (o : ℕ) (fs : List FrameView) (mode : Mode) (started : ℕ)
      → FramesMatch code types mode fs ks → Fits code types
      (woken_by how o (record { frames = fs; mode = mode; started = started })) ks
  woken-matches how o fs Mode.Running started h =
      subst (λ (x : GoroutineView). Fits code types x ks) (sym (running-woken fs started how o)) h
  woken-matches how o fs (Mode.Blocked kind line waits ticket) started h =
      blocked-woken fs kind line waits ticket started how o h

-- ---- passed on from a condition

module _ (code : Code) (types : RunTypes) (kind : WaitKind) (line : ℕ) (waits : List Wait) (ticket next m : ℕ)
    (w : Wait) (i : In w waits) (lock : IsOfLock w.side) where
  moved-serve : (fn : Function) (k : Call) (q : Asked) (f : FrameView) (ws : List Wait)
      → LivesAt types fn k q.ranks f.at f.slots [] q.rest → Every (MayServe types fn k q f) ws
      → Every (MayServe types fn k q f) (moved_waits m ws)
  moved-serve fn k q f [] l h = tt
  moved-serve fn k q f (x ∷ ws) l h = ((h.0.0, λ z. l), tt)

  moved-asks : (fn : Function) (k : Call) (f : FrameView) (o : Standing)
      → IsOnTop types fn k f o (Mode.Blocked kind line waits ticket)
      → IsOnTop types fn k f o (Mode.Blocked kind line (moved_waits m waits) next)
  moved-asks fn k f Standing.Goes h = h
  moved-asks fn k f (Standing.Ended i) h = h
  moved-asks fn k f (Standing.Asks q) h =
      (h.0, moved-serve fn k q f waits ((Every-at (MayServe types fn k q f) waits w i h.1).1 lock) h.1)

  moved-top : (fn : Function) (k : Call) (f : FrameView) (l : Leaving)
      → Top types fn k f l (Mode.Blocked kind line waits ticket)
      → Top types fn k f l (Mode.Blocked kind line (moved_waits m waits) next)
  moved-top fn k f Leaving.No h = moved-asks fn k f k.standing h
  moved-top fn k f (Leaving.Returning v) h = h
  moved-top fn k f (Leaving.Unwinding x) h = h

  moved-joins-so : (k : Call) (f : FrameView) (o : Standing)
      → JoinsOnTop k f o (Mode.Blocked kind line waits ticket)
      → JoinsOnTop k f o (Mode.Blocked kind line (moved_waits m waits) next)
  moved-joins-so k f Standing.Goes h = h
  moved-joins-so k f (Standing.Asks q) h = h
  moved-joins-so k f (Standing.Ended i) h = h

  moved-joins : (k : Call) (f : FrameView) (l : Leaving) → JoinsTop k f l (Mode.Blocked kind line waits ticket)
      → JoinsTop k f l (Mode.Blocked kind line (moved_waits m waits) next)
  moved-joins k f Leaving.No h = (moved-joins-so k f k.standing h.0, h.1)
  moved-joins k f (Leaving.Returning v) h = absurd h.3
  moved-joins k f (Leaving.Unwinding x) h = h

  pub moved-matches : (fs : List FrameView) (ks : List Call)
      → FramesMatch code types (Mode.Blocked kind line waits ticket) fs ks
      → FramesMatch code types (Mode.Blocked kind line (moved_waits m waits) next) fs ks
  moved-matches [] [] h = tt
  moved-matches [] (k ∷ ks) h = absurd h
  moved-matches (f ∷ fs) [] h = absurd h
  moved-matches (f ∷ fs) (k ∷ ks) h = let o = h.0 in
      ((o.0, o.1, o.2, o.3, moved-top o.0 k f f.leaving o.4), moved-joins k f f.leaving h.1, h.2, h.3)
