-- Conditions: their turns have changes, and keep types.
-- For: `awaits` and `signals`, golf_model/specs/Conditions.antt; `turns_keep_types`, src/lib.rt
-- By: induction over the list of waiters
use Rattle.std.proofs.Common.{◌≡◌, ℕ, ◌+◌, Bool, true, false, List, [], ◌∷◌, ◌++◌, Option, Some, None, ◌==◌, inl, inr}
use Rattle.std.proofs.Common.{refl, sym, ap, ◌∙◌, subst}
use Rattle.std.proofs.lemmas.Bool.{eqb-true, eqb-false}
use Rattle.golf_theory.specs.Maps.{find, put}
use Rattle.golf_theory.specs.Membership.{In, Every}
use Rattle.golf_theory.proofs.Lists.{Every-at}
use Rattle.golf_theory.proofs.MapEntries.{Entry-find}
use Rattle.golf_theory.proofs.MapFinds.{cases_find, find-put, find-put_other, put-none, find-Entry}
use Rattle.golf_data.specs.declared.value.Value.{Value}
use Rattle.golf_data.specs.declared.value.Object.{Object}
use Rattle.golf_data.specs.declared.code.Instr.{Instr}
use Rattle.golf_data.specs.declared.goroutine.Mode.{Mode}
use Rattle.golf_data.specs.declared.goroutine.PanicKind.{PanicKind}
use Rattle.golf_data.specs.declared.goroutine.Side.{Side}
use Rattle.golf_data.specs.declared.goroutine.Wait.{Wait}
use Rattle.golf_data.specs.declared.goroutine.WaitKind.{WaitKind}
use Rattle.golf_model.specs.Views.{FrameView, GoroutineView}
use Rattle.golf_model.specs.Values.{reference}
use Rattle.golf_model.specs.State.{State}
use Rattle.golf_model.specs.Waiters.{Waiter, waits_of, first, waiters, bare_wait}
use Rattle.golf_model.specs.Wakes.{released}
use Rattle.golf_model.specs.Changes.{Change, apply, moved, requeue}
use Rattle.golf_model.specs.Actors.{Actor, next, standing, at_condition}
use Rattle.golf_model.specs.Presence.{Present, IsWhole}
use Rattle.golf_model.specs.Futures.{Numbered}
use Rattle.golf_model.specs.Mutexes.{hands_over, runs}
use Rattle.golf_model.specs.Conditions.{gets_mutex, awaits, awaits_by, requeues, first_only, notifies, signals}
use Rattle.golf_model.specs.Conditions.{broadcasts}
use Rattle.golf_model_futures.proofs.RefLaws.{Val}
use Rattle.golf_model_futures.proofs.WaitLaws.{IsWaiter, first-is, waiters-are, wait_for-in}
use Rattle.golf_model_futures.specs.Orderly.{HasMutex, IsOrderly}
use Rattle.golf_model_typing.specs.Types.{ValueType, Shape, FunctionTypes, Typing, HasType, ValueFits, ValuesFit}
use Rattle.golf_model_typing.specs.Shapes.{LeadsToShape, InstructionFits}
use Rattle.golf_model_typing.specs.WellTyped.{LacksNothing, ModeFits, WellTyped, ChangesFit}
use Rattle.golf_model_typing.proofs.Waits.{wait_for-is}
use Rattle.golf_model_typing.proofs.Acting.{Proceeds, there, of-taking_one, of-reference, of-mutex, ActorFits}
use Rattle.golf_model_typing.proofs.Acting.{proceeds-panics, proceeds-dies, proceeds-goes, taken, on_no, lands}
use Rattle.golf_model_typing.proofs.Mutexes.{hands-over}

-- who lacks nothing goes on lacking nothing when somebody is requeued
module _ (types : Typing) (known : List (ℕ × ValueType)) where
  abbrev LacksAt : List (ℕ × GoroutineView) → ℕ → Type 0
  LacksAt gs h = (r : GoroutineView) → find h gs ≡ Some r → LacksNothing types known r.mode

  put-lacking : (gs : List (ℕ × GoroutineView)) (g h : ℕ) (q : GoroutineView) → LacksNothing types known q.mode
      → LacksAt gs h → LacksAt (put g q gs) h
  put-lacking gs g h q l k r e = elim (h == g) as (λ b. h == g ≡ b → LacksNothing types known r.mode) [
    | true ↦ λ t.
        let same : h ≡ g = eqb-true h g t in
        elim (cases_find g gs) [
          | inl a ↦ k r (ap (λ es. find h es) (sym (put-none g q gs a)) ∙ e)
          | inr a ↦ let is : q ≡ r = cc (ap (λ n. find n (put g q gs)) same, e, find-put g q gs a.0 a.1) in subst
              (λ (z : GoroutineView). LacksNothing types known z.mode) is l
        ]
    | false ↦ λ t. k r (sym (find-put_other g q gs h (eqb-false h g t)) ∙ e)
  ] refl

  moved-lacks : (m k : ℕ) (d : Mode) → LacksNothing types known d → LacksNothing types known (moved m k d)
  moved-lacks m k Mode.Running l = tt
  moved-lacks m k (Mode.Blocked kind line [] ticket) l = absurd l
  moved-lacks m k (Mode.Blocked kind line (w ∷ ws) ticket) l = ((λ e. cc), (λ e. cc))

  passed-lacking : (t : State) (g m h : ℕ) (r : Option GoroutineView) (x : Option Object) → find g t.goroutines ≡ r
      → LacksAt t.goroutines g → LacksAt t.goroutines h → LacksAt (requeue g m r x t).goroutines h
  passed-lacking t g m h None x e l k = k
  passed-lacking t g m h (Some r) None e l k = k
  passed-lacking t g m h (Some r) (Some (Object.Struct fields)) e l k = k
  passed-lacking t g m h (Some r) (Some (Object.Slice elements)) e l k = k
  passed-lacking t g m h (Some r) (Some (Object.Chan c)) e l k = k
  passed-lacking t g m h (Some r) (Some (Object.Mutex false)) e l k = put-lacking t.goroutines g h (released r) tt k
  passed-lacking t g m h (Some r) (Some (Object.Mutex true)) e l k =
      put-lacking t.goroutines g h (record r { mode = moved m t.next_ticket r.mode })
      (moved-lacks m t.next_ticket r.mode (l r e)) k
  passed-lacking t g m h (Some r) (Some (Object.Group n)) e l k = k
  passed-lacking t g m h (Some r) (Some (Object.Rw n)) e l k = k
  passed-lacking t g m h (Some r) (Some (Object.Cond v)) e l k = k

  -- each of the waiters is requeued
  passes : (t : State) (m : ℕ) (ws : List Waiter) → HasType known m ValueType.Mutex
      → Every (λ (w : Waiter). LacksAt t.goroutines w.number) ws → ChangesFit types known t (requeues m ws)
  passes t m [] k h = tt
  passes t m (w ∷ ws) k h = ((k, h.0), passes (apply (Change.Requeue w.number m) t) m ws k (rest ws h.1))
    where
      rest : (us : List Waiter) → Every (λ (u : Waiter). LacksAt t.goroutines u.number) us
          → Every (λ (u : Waiter). LacksAt (apply (Change.Requeue w.number m) t).goroutines u.number) us
      rest [] i = tt
      rest (u ∷ us) i = (
        passed-lacking t w.number m u.number (find w.number t.goroutines)
            (find m t.objects) refl h.0 i.0,
        rest us i.1,
      )

  -- a goroutine whose only wait is on a condition lacks nothing
  alone-lacks : (fs : List FrameView) (d : Mode) (w : Wait) → In w (waits_of d) → w.side ≡ Side.Cond
      → ModeFits types known fs d → LacksNothing types known d
  alone-lacks fs Mode.Running w i c h = absurd i
  alone-lacks fs (Mode.Blocked kind line waits ticket) w i c h =
      go waits (Every-at (λ (v : Wait). v.side ≡ Side.Cond → waits ≡ v ∷ []) waits w h.1 i c)
    where
      go : (us : List Wait) → us ≡ w ∷ [] → LacksNothing types known (Mode.Blocked kind line us ticket)
      go [] e = cc
      go (u ∷ us) e = let same : u ≡ w = cc in (
        (λ f. let x : u.side ≡ w.side = ap (λ (z : Wait). z.side) same in cc),
        (λ f. let x : u.side ≡ w.side = ap (λ (z : Wait). z.side) same in cc),
      )

module _ (types : Typing) (known : List (ℕ × ValueType)) (s : State) (w : WellTyped types known s) (whole : IsWhole s)
    (n : Numbered s) (orderly : IsOrderly s) (a : Actor) (ft : FunctionTypes) (sh : Shape)
    (i : ActorFits types known s a ft sh) where
  abbrev Goes : List Change → Type 0
  Goes cs = Proceeds types known s cs

  waiter-lacks : (o : ℕ) (u : Waiter) → IsWaiter o Side.Cond s.goroutines u → LacksAt types known s.goroutines u.number
  waiter-lacks o u is r e =
      let same : u.goroutine ≡ r = cc (e, find-Entry s.goroutines u.number u.goroutine n.goroutines_rise is.entry) in
      subst (λ (z : GoroutineView). LacksNothing types known z.mode) same
      (alone-lacks types known u.goroutine.frames u.goroutine.mode u.wait
      (wait_for-in o Side.Cond (waits_of u.goroutine.mode) u.wait is.found)
      (wait_for-is o Side.Cond (waits_of u.goroutine.mode) u.wait is.found).1
      (w.goroutines u.number u.goroutine is.entry).0)

  -- a condition is there, with its mutex or nil
  of-condition : (act : Value → List Change) (o : ℕ) → HasType known o ValueType.Cond → Present s o
      → ((m : Value) → find o s.objects ≡ Some (Object.Cond m) → ValueFits types.of known m ValueType.Mutex
      → Val (Present s) m → Goes (act m)) → Goes (at_condition act (find o s.objects))
  of-condition act o k p h = go (find o s.objects) refl
    where
      go : (m : Option Object) → find o s.objects ≡ m → Goes (at_condition act m)
      go None e = absurd (there types known s Goes w o ValueType.Cond k p e)
      go (Some (Object.Struct fields)) e = let x = w.objects o ValueType.Cond (Object.Struct fields) k e in let y =
          x.2 in cc
      go (Some (Object.Slice elements)) e = let x = w.objects o ValueType.Cond (Object.Slice elements) k e in let y =
          x.1 in cc
      go (Some (Object.Chan c)) e = let x = w.objects o ValueType.Cond (Object.Chan c) k e in let y = x.1 in cc
      go (Some (Object.Mutex locked)) e = let x = w.objects o ValueType.Cond (Object.Mutex locked) k e in cc
      go (Some (Object.Group n)) e = let x = w.objects o ValueType.Cond (Object.Group n) k e in cc
      go (Some (Object.Rw n)) e = let x = w.objects o ValueType.Cond (Object.Rw n) k e in cc
      go (Some (Object.Cond m)) e = h m e (w.objects o ValueType.Cond (Object.Cond m) k e).1
          (whole.objects o (Object.Cond m) (Entry-find o s.objects (Object.Cond m) e))

  pub proceeds-gets_mutex : InstructionFits types.of ft a.frame.at Instr.CondMutex sh → Goes (gets_mutex a s)
  proceeds-gets_mutex r = of-taking_one types known s Goes _ a.frame.operands ValueType.Cond r.0
      (taken types known s a ft sh i (ValueType.Cond ∷ r.0) r.1) i.present
      (λ x rest h hs p. of-reference types known s Goes a _ x ValueType.Cond tt h p
      (proceeds-panics types known s a ft PanicKind.NilPointer i.holds)
      (λ o k there. of-condition _ o k there
      (λ m e hm pm. proceeds-goes types known s a ft sh i (m ∷ rest) (ValueType.Mutex ∷ r.0) (hm, hs) r.2)))

  all-lack : (o : ℕ) (us : List Waiter) → ((u : Waiter) → In u us → IsWaiter o Side.Cond s.goroutines u)
      → Every (λ (u : Waiter). LacksAt types known s.goroutines u.number) us
  all-lack o [] f = tt
  all-lack o (u ∷ us) f = (waiter-lacks o u (f u (inl refl)), all-lack o us (λ v j. f v (inr j)))

  -- who waits on a condition waits on one with a mutex
  the_mutex : (o : ℕ) (m : Value) (u : Waiter) → find o s.objects ≡ Some (Object.Cond m)
      → IsWaiter o Side.Cond s.goroutines u → (p : ℕ) × (m ≡ reference p)
  the_mutex o m u e is =
      let ws = waits_of u.goroutine.mode in
      let fits = wait_for-is o Side.Cond ws u.wait is.found in
      let h = Every-at (HasMutex s.objects) ws u.wait (orderly.conditions u.number u.goroutine is.entry)
      (wait_for-in o Side.Cond ws u.wait is.found) fits.1 in
      let same : find u.wait.object.0 s.objects ≡ find o s.objects = ap (λ k. find k s.objects) fits.0 in
      let c = h.2 in
      (h.0, cc)

  notified_by : (rest : List Value) (ts : List ValueType) (u : Waiter) (us : List Waiter) (p : ℕ)
      → ValuesFit types.of known rest ts → LeadsToShape ft ts sh.assigned (a.frame.at + 1)
      → Every (λ (v : Waiter). LacksAt types known s.goroutines v.number) (u ∷ us) → HasType known p ValueType.Mutex
      → Present s p
      → Goes (notifies a rest s (u ∷ us) (reference p))
  notified_by rest ts u us p hs l h k there = of-mutex types known s Goes w p ValueType.Mutex k there _ refl
      (λ locked. record {
        moves = refl;
        keeps = (
          (proceeds-goes types known s a ft sh i rest ts hs l).keeps.0,
          passes types known _ p (u ∷ us) k (each (u ∷ us) h),
        );
      })
    where
      each : (vs : List Waiter) → Every (λ (v : Waiter). LacksAt types known s.goroutines v.number) vs
          → Every (λ (v : Waiter). LacksAt types known
          (put a.number (standing a (next a.frame rest)) s.goroutines) v.number) vs
      each [] j = tt
      each (v ∷ vs) j = (
        put-lacking types known s.goroutines a.number v.number (standing a (next a.frame rest)) tt j.0,
        each vs j.1,
      )

  notified : (rest : List Value) (ts : List ValueType) (ws : List Waiter) (o : ℕ) (m : Value)
      → find o s.objects ≡ Some (Object.Cond m) → ValuesFit types.of known rest ts
      → LeadsToShape ft ts sh.assigned (a.frame.at + 1) → ((u : Waiter) → In u ws → IsWaiter o Side.Cond s.goroutines u)
      → ValueFits types.of known m ValueType.Mutex → Val (Present s) m
      → Goes (notifies a rest s ws m)
  notified rest ts [] o m e hs l h hm pm = proceeds-goes types known s a ft sh i rest ts hs l
  notified rest ts (u ∷ us) o m e hs l h hm pm =
      let p = the_mutex o m u e (h u (inl refl)) in
      subst (λ v. Goes (notifies a rest s (u ∷ us) v)) (sym p.1)
      (notified_by rest ts u us p.0 hs l (all-lack o (u ∷ us) h)
      (subst (λ v. ValueFits types.of known v ValueType.Mutex) p.1 hm).0 (subst (Val (Present s)) p.1 pm).0)

  first-waits : (o : ℕ) (m : Option Waiter) → first o Side.Cond s.goroutines ≡ m → (u : Waiter) → In u (first_only m)
      → IsWaiter o Side.Cond s.goroutines u
  first-waits o None e u j = absurd j
  first-waits o (Some v) e u (inl q) = subst (IsWaiter o Side.Cond s.goroutines) (sym q)
      (first-is o Side.Cond s.goroutines v e)
  first-waits o (Some v) e u (inr j) = absurd j

  pub proceeds-signals : InstructionFits types.of ft a.frame.at Instr.CondSignal sh → Goes (signals a s)
  proceeds-signals r = of-taking_one types known s Goes _ a.frame.operands ValueType.Cond r.0
      (taken types known s a ft sh i (ValueType.Cond ∷ r.0) r.1) i.present
      (λ x rest h hs p. of-reference types known s Goes a _ x ValueType.Cond tt h p
      (proceeds-panics types known s a ft PanicKind.NilPointer i.holds)
      (λ o k there. of-condition _ o k there
      (λ m e hm pm. notified rest r.0 (first_only (first o Side.Cond s.goroutines)) o m e hs r.2
      (first-waits o (first o Side.Cond s.goroutines) refl) hm pm)))

  pub proceeds-broadcasts : InstructionFits types.of ft a.frame.at Instr.CondBroadcast sh → Goes (broadcasts a s)
  proceeds-broadcasts r = of-taking_one types known s Goes _ a.frame.operands ValueType.Cond r.0
      (taken types known s a ft sh i (ValueType.Cond ∷ r.0) r.1) i.present
      (λ x rest h hs p. of-reference types known s Goes a _ x ValueType.Cond tt h p
      (proceeds-panics types known s a ft PanicKind.NilPointer i.holds)
      (λ o k there. of-condition _ o k there
      (λ m e hm pm. notified rest r.0 (waiters o Side.Cond s.goroutines) o m e hs r.2
      (λ u j. waiters-are o Side.Cond s.goroutines u j) hm pm)))

  proceeds-awaits_by : (rest : List Value) (ts : List ValueType) (o m : ℕ) (locked : Bool)
      → ValuesFit types.of known rest ts → LeadsToShape ft ts sh.assigned (a.frame.at + 1)
      → HasType known o ValueType.Cond
      → HasType known m ValueType.Mutex → Goes (awaits_by a rest s o m locked)
  proceeds-awaits_by rest ts o m false hs l k q = proceeds-dies types known s a ft PanicKind.UnlockUnlocked
  proceeds-awaits_by rest ts o m true hs l k q = go (first m Side.Lock s.goroutines) refl
    where
      block : (t : State) → ChangesFit types known t
          (Change.Block a.number WaitKind.Condition a.line (bare_wait o Side.Cond ∷ []) (standing a (next a.frame rest))
          ∷ [])
      block t = (
        (
          (
            ft,
            i.holds.base,
            (
              (
                k,
                on_no types known s a ft sh i [] (a.frame.at + 1) rest a.frame.slots
                    (lands ts sh.assigned l hs i.assigned),
              ),
              tt,
            ),
            i.holds.callers,
          ),
          ((λ e. refl), tt),
        ),
        tt,
      )

      go : (u : Option Waiter) → first m Side.Lock s.goroutines ≡ u
          → Goes (hands_over m u ++ (Change.Block a.number WaitKind.Condition a.line (bare_wait o Side.Cond ∷ [])
          (standing a (next a.frame rest)) ∷ []))
      go None e = record {
        moves = refl;
        keeps = (
          (hands-over types known s w a ft sh i s m None e q).0,
          block (apply (Change.Replace m (Object.Mutex false)) s),
        );
      }
      go (Some u) e = record {
        moves = refl;
        keeps = ((hands-over types known s w a ft sh i s m (Some u) e q).0, block (apply (runs u) s));
      }

  pub proceeds-awaits : InstructionFits types.of ft a.frame.at Instr.CondWait sh → Goes (awaits a s)
  proceeds-awaits r = of-taking_one types known s Goes _ a.frame.operands ValueType.Cond r.0
      (taken types known s a ft sh i (ValueType.Cond ∷ r.0) r.1) i.present
      (λ x rest h hs p. of-reference types known s Goes a _ x ValueType.Cond tt h p
      (proceeds-panics types known s a ft PanicKind.NilPointer i.holds)
      (λ o k there. of-condition _ o k there
      (λ m e hm pm. of-reference types known s Goes a _ m ValueType.Mutex tt hm pm
      (proceeds-panics types known s a ft PanicKind.NilPointer i.holds)
      (λ q km is. of-mutex types known s Goes w q ValueType.Mutex km is _ refl
      (λ locked. proceeds-awaits_by rest r.0 o q locked hs r.2 k km)))))
