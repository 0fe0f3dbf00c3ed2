-- The turn of a goroutine of the set: the ways in which it goes are good.
-- For: `goes`, `blocks`, `at_reference`, golf_model/specs/Actors.antt; `AllGood`, specs/Invariant.antt
-- By: cases of the value, the object or the option that a way meets; no induction
use Rattle.std.proofs.Common.{◌≡◌, ℕ, zero, suc, Bool, true, false, List, [], ◌∷◌, Option, Some, None, refl, ℤ}
use Rattle.golf_theory.specs.Membership.{In, Every}
use Rattle.golf_theory.specs.Maps.{Entry, find}
use Rattle.golf_theory.proofs.Lists.{Every-left, Every-right}
use Rattle.golf_theory.proofs.MapEntries.{Entry-find}
use Rattle.golf_data.specs.declared.value.Value.{Value}
use Rattle.golf_data.specs.declared.value.Object.{Object}
use Rattle.golf_data.specs.declared.value.Channel.{Channel}
use Rattle.golf_data.specs.declared.goroutine.PanicKind.{PanicKind}
use Rattle.golf_data.specs.declared.goroutine.Side.{Side}
use Rattle.golf_data.specs.declared.goroutine.Wait.{Wait}
use Rattle.golf_data.specs.declared.goroutine.WaitKind.{WaitKind}
use Rattle.golf_model.specs.Views.{FrameView, GoroutineView}
use Rattle.golf_model.specs.Values.{value_refs, refs}
use Rattle.golf_model.specs.State.{State}
use Rattle.golf_model.specs.Waiters.{Waiter, waits_of, first}
use Rattle.golf_model.specs.Wakes.{fault, unwinding}
use Rattle.golf_model.specs.Changes.{Change}
use Rattle.golf_model.specs.Actors.{Actor, standing, next, stands, goes, jumps, leaves, panics, dies, blocks, on_some}
use Rattle.golf_model.specs.Actors.{taking_one, taking_two, taking_three, taking_from, taking, choose, at_reference}
use Rattle.golf_model.specs.Actors.{at_reference_or, at_struct, at_slice, at_channel, at_mutex, at_group, at_rw}
use Rattle.golf_model.specs.Actors.{at_condition}
use Rattle.golf_model.specs.Refs.{object_refs, wait_refs, goroutine_refs, queue_refs, waited}
use Rattle.golf_model_futures.specs.Invariant.{AllGood, ActorIn, FrameIn}
use Rattle.golf_model_futures.proofs.RefLaws.{Val, Vals, vals-cons, vals-head, vals-tail, frames-cons, goroutine-both}
use Rattle.golf_model_futures.proofs.RefLaws.{goroutine-waits, waits-value}
use Rattle.golf_model_futures.proofs.WaitLaws.{IsWaiter, first-is, wait_for-in, wait_for-waited}
use Rattle.golf_model_futures.proofs.Waking.{unwinding-in}

-- what a turn needs of the state: what is looked up from members refers to members, and who waits on a member is one
pub record Ground (s : State) (O G : ℕ → Type 0) : Type 0 where
  pub globals : Every O (refs s.globals)
  pub queue : Every O (queue_refs s.queue)
  pub objects : (p : ℕ) (x : Object) → O p → Entry s.objects p x → Every O (object_refs x)
  pub goroutines : (g : ℕ) (r : GoroutineView) → G g → Entry s.goroutines g r → Every O (goroutine_refs r)
  pub awake : (g : ℕ) (r : GoroutineView) (o : ℕ) → Entry s.goroutines g r → In o (waited (waits_of r.mode)) → O o → G g

-- if each outcome has a property, a choice of them has it
module _ (P : List Change → Type 0) (none : P []) where
  pub all-on_some : {X : Type 0} (act : X → List Change) (m : Option X) → ((x : X) → m ≡ Some x → P (act x))
      → P (on_some act m)
  all-on_some act None h = none
  all-on_some act (Some x) h = h x refl

  pub all-choose : (b : Bool) (cs ds : List Change) → P cs → P ds → P (choose b cs ds)
  all-choose true cs ds p q = p
  all-choose false cs ds p q = q

  module _ (O : ℕ → Type 0) where
    pub all-taking_one : (act : Value → List Value → List Change) (vs : List Value) → Vals O vs
        → ((x : Value) (rest : List Value) → Val O x → Vals O rest → P (act x rest)) → P (taking_one act vs)
    all-taking_one act [] a h = none
    all-taking_one act (x ∷ rest) a h = h x rest (vals-head O x rest a) (vals-tail O x rest a)

    pub all-taking_two : (act : Value → Value → List Value → List Change) (vs : List Value) → Vals O vs
        → ((x y : Value) (rest : List Value) → Val O x → Val O y → Vals O rest → P (act x y rest))
        → P (taking_two act vs)
    all-taking_two act [] a h = none
    all-taking_two act (y ∷ []) a h = none
    all-taking_two act (y ∷ x ∷ rest) a h =
        let b = vals-tail O y (x ∷ rest) a in h x y rest (vals-head O x rest b) (vals-head O y (x ∷ rest) a)
        (vals-tail O x rest b)

    pub all-taking_three : (act : Value → Value → Value → List Value → List Change) (vs : List Value) → Vals O vs
        → ((x y z : Value) (rest : List Value) → Val O x → Val O y → Val O z → Vals O rest → P (act x y z rest))
        → P (taking_three act vs)
    all-taking_three act [] a h = none
    all-taking_three act (z ∷ []) a h = none
    all-taking_three act (z ∷ y ∷ []) a h = none
    all-taking_three act (z ∷ y ∷ x ∷ rest) a h =
        let b = vals-tail O z (y ∷ x ∷ rest) a in
        let c = vals-tail O y (x ∷ rest) b in
        h x y z rest (vals-head O x rest c) (vals-head O y (x ∷ rest) b) (vals-head O z (y ∷ x ∷ rest) a)
        (vals-tail O x rest c)

    all-taking_from : (n : ℕ) (taken : List Value) (act : List Value → List Value → List Change) (vs : List Value)
        → Vals O taken → Vals O vs → ((xs rest : List Value) → Vals O xs → Vals O rest → P (act xs rest))
        → P (taking_from n taken act vs)
    all-taking_from zero taken act vs t a h = h taken vs t a
    all-taking_from (suc n) taken act [] t a h = none
    all-taking_from (suc n) taken act (v ∷ vs) t a h =
        all-taking_from n (v ∷ taken) act vs (vals-cons O v taken (vals-head O v vs a) t) (vals-tail O v vs a) h

    pub all-taking : (n : ℕ) (act : List Value → List Value → List Change) (vs : List Value) → Vals O vs
        → ((xs rest : List Value) → Vals O xs → Vals O rest → P (act xs rest)) → P (taking n act vs)
    all-taking n act vs a h = all-taking_from n [] act vs tt a h

    pub all-at_reference_or : (nil : List Change) (act : ℕ → List Change) (v : Value) → Val O v → P nil
        → ((o : ℕ) → O o → P (act o)) → P (at_reference_or nil act v)
    all-at_reference_or nil act Value.Nil a p h = p
    all-at_reference_or nil act (Value.Ref o) a p h = h o.0 a.0
    all-at_reference_or nil act _ a p h = none

    -- an object that is looked up, and refers to members alone
    abbrev pub Known : Option Object → Type 0
    Known m = (x : Object) → m ≡ Some x → Every O (object_refs x)

    pub all-at_struct : (act : List Value → List Change) (m : Option Object) → Known m
        → ((fields : List Value) → Vals O fields → P (act fields)) → P (at_struct act m)
    all-at_struct act (Some (Object.Struct fields)) k h = h fields (k (Object.Struct fields) refl)
    all-at_struct act _ k h = none

    pub all-at_slice : (act : List Value → List Change) (m : Option Object) → Known m
        → ((elements : List Value) → Vals O elements → P (act elements)) → P (at_slice act m)
    all-at_slice act (Some (Object.Slice elements)) k h = h elements (k (Object.Slice elements) refl)
    all-at_slice act _ k h = none

    pub all-at_channel : (act : Channel → List Change) (m : Option Object) → Known m
        → ((c : Channel) → Vals O c.buffer → Val O c.zero → P (act c)) → P (at_channel act m)
    all-at_channel act (Some (Object.Chan c)) k h = let a =
        k (Object.Chan c) refl in h c (Every-left O (refs c.buffer) (value_refs c.zero) a)
        (Every-right O (refs c.buffer) (value_refs c.zero) a)
    all-at_channel act _ k h = none

    pub all-at_condition : (act : Value → List Change) (m : Option Object) → Known m
        → ((v : Value) → Val O v → P (act v)) → P (at_condition act m)
    all-at_condition act (Some (Object.Cond v)) k h = h v (k (Object.Cond v) refl)
    all-at_condition act _ k h = none

  pub all-at_mutex : (act : Bool → List Change) (m : Option Object) → ((b : Bool) → P (act b)) → P (at_mutex act m)
  all-at_mutex act (Some (Object.Mutex locked)) h = h locked
  all-at_mutex act _ h = none

  pub all-at_group : (act : ℤ → List Change) (m : Option Object) → ((n : ℤ) → P (act n)) → P (at_group act m)
  all-at_group act (Some (Object.Group n)) h = h n
  all-at_group act _ h = none

  pub all-at_rw : (act : ℤ → List Change) (m : Option Object) → ((n : ℤ) → P (act n)) → P (at_rw act m)
  all-at_rw act (Some (Object.Rw n)) h = h n
  all-at_rw act _ h = none

-- what is looked up in the state
module _ (O G : ℕ → Type 0) (s : State) (c : Ground s O G) where
  pub found-in : (o : ℕ) → O o → (x : Object) → find o s.objects ≡ Some x → Every O (object_refs x)
  found-in o m x h = c.objects o x m (Entry-find o s.objects x h)

  -- a waiter on a member is a member, and refers to members alone
  pub record WaiterIn (w : Waiter) : Type 0 where
    pub number : G w.number
    pub goroutine : Every O (goroutine_refs w.goroutine)
    pub value : Val O w.wait.value

  pub waiter-in : (o : ℕ) (side : Side) (w : Waiter) → O o → IsWaiter o side s.goroutines w → WaiterIn w
  waiter-in o side w m h =
      let ws = waits_of w.goroutine.mode in
      let j : G w.number = c.awake w.number w.goroutine o h.entry (wait_for-waited o side ws w.wait h.found) m in
      let e = c.goroutines w.number w.goroutine j h.entry in
      record {
        number = j;
        goroutine = e;
        value = waits-value O ws w.wait (goroutine-waits O w.goroutine e)
            (wait_for-in o side ws w.wait h.found);
      }

  pub first-in : (o : ℕ) (side : Side) (w : Waiter) → O o → first o side s.goroutines ≡ Some w → WaiterIn w
  first-in o side w m h = waiter-in o side w m (first-is o side s.goroutines w h)

-- the acting goroutine goes on
module _ (O G : ℕ → Type 0) (a : Actor) (i : ActorIn O G a) where
  pub good-stands : (f : FrameView) → FrameIn O f → AllGood O G (stands a f)
  good-stands f h = ((i.number, goroutine-both O (standing a f) (frames-cons O f a.callers h i.callers) tt), tt)

  pub next-in : (vs : List Value) → Vals O vs → FrameIn O (next a.frame vs)
  next-in vs h = record { slots = i.frame.slots; operands = h; deferred = i.frame.deferred; leaving = i.frame.leaving }

  pub good-goes : (vs : List Value) → Vals O vs → AllGood O G (goes a vs)
  good-goes vs h = good-stands (next a.frame vs) (next-in vs h)

  pub good-jumps : (target : ℕ) (vs : List Value) → Vals O vs → AllGood O G (jumps a target vs)
  good-jumps target vs h = good-stands (record a.frame { at = target; operands = vs })
      (record { slots = i.frame.slots; operands = h; deferred = i.frame.deferred; leaving = i.frame.leaving })

  pub good-leaves : (vs : List Value) (m : Option Value) → Vals O vs → ((v : Value) → m ≡ Some v → Val O v)
      → AllGood O G (leaves a vs m)
  good-leaves vs None h k = tt
  good-leaves vs (Some v) h k = good-goes (v ∷ vs) (vals-cons O v vs (k v refl) h)

  pub good-panics : (kind : PanicKind) → AllGood O G (panics a kind)
  good-panics kind = good-stands (unwinding (fault kind a.line) a.frame)
      (unwinding-in O (fault kind a.line) a.frame i.frame)

  pub good-dies : (kind : PanicKind) → AllGood O G (dies a kind)
  good-dies kind = (tt, tt)

  pub good-blocks : (f : FrameView) (kind : WaitKind) (waits : List Wait) → FrameIn O f → Every O (wait_refs waits)
      → AllGood O G (blocks a f kind waits)
  good-blocks f kind waits h k = ((i.number, frames-cons O f a.callers h i.callers, k), tt)

  pub good-at_reference : (act : ℕ → List Change) (v : Value) → Val O v → ((o : ℕ) → O o → AllGood O G (act o))
      → AllGood O G (at_reference a act v)
  good-at_reference act Value.Nil h k = good-panics PanicKind.NilPointer
  good-at_reference act (Value.Ref o) h k = k o.0 h.0
  good-at_reference act _ h k = tt
