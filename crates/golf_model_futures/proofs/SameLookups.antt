-- What is looked up from members is the same in a state that lacks what is cut.
-- For: `first`, `waiters`, golf_model/specs/Waiters.antt; `cut`, golf_model/specs/Collections.antt
-- By: induction over the list of goroutines
use Rattle.std.proofs.Common.{◌≡◌, ℕ, ◌+◌, Bool, true, false, cond, List, [], ◌∷◌, Option, Some, None, inl, inr, refl}
use Rattle.std.proofs.Common.{sym, ap, ◌∙◌, arith}
use Rattle.golf_theory.specs.Membership.{In, Every}
use Rattle.golf_theory.specs.Maps.{Entry, find, only}
use Rattle.golf_theory.proofs.MapFinds.{find-only}
use Rattle.golf_data.specs.declared.value.Value.{Value}
use Rattle.golf_data.specs.declared.value.Object.{Object}
use Rattle.golf_data.specs.declared.goroutine.Side.{Side}
use Rattle.golf_data.specs.declared.goroutine.Wait.{Wait}
use Rattle.golf_model.specs.Views.{GoroutineView}
use Rattle.golf_model.specs.State.{State}
use Rattle.golf_model.specs.Waiters.{Waiter, waits_of, waiter_of, earlier, first, enter, waiters}
use Rattle.golf_model.specs.Wakes.{reads_next}
use Rattle.golf_model.specs.ReadersWriters.{one_if, readers_next}
use Rattle.golf_model.specs.Changes.{Change}
use Rattle.golf_model.specs.Actors.{Actor, on_some, taking_one, taking_two, taking_three, choose, at_reference}
use Rattle.golf_model.specs.Actors.{at_reference_or, at_condition}
use Rattle.golf_model.specs.Refs.{object_refs, waited}
use Rattle.golf_model_futures.proofs.RefLaws.{Val, Vals, vals-head, vals-tail}
use Rattle.golf_model_futures.proofs.WaitLaws.{IsWaiter, waiter_of-is, wait_for-waited}
use Rattle.golf_model_futures.proofs.Waking.{reads_next-waited}
use Rattle.golf_model_futures.proofs.Acting.{Ground}

-- the waiters on an object are the same if all of them stay
module _ (stays : ℕ → Bool) (o : ℕ) where
  abbrev pub AllStay : List (ℕ × GoroutineView) → Type 0
  AllStay es = (g : ℕ) (r : GoroutineView) → Entry es g r → In o (waited (waits_of r.mode)) → stays g ≡ true

  all_stay-rest : (e : ℕ × GoroutineView) (es : List (ℕ × GoroutineView)) → AllStay (e ∷ es) → AllStay es
  all_stay-rest e es h g r i w = h g r (inr i) w

  -- who does not stay is no waiter
  no_waiter : (side : Side) (e : ℕ × GoroutineView) (es : List (ℕ × GoroutineView)) → AllStay (e ∷ es)
      → stays e.0 ≡ false → (m : Option Waiter) → waiter_of o side e ≡ m → m ≡ None
  no_waiter side e es h f None i = refl
  no_waiter side e es h f (Some w) i =
      let k : IsWaiter o side (e ∷ []) w = waiter_of-is o side e [] w i in
      elim k.entry [
        | inl a ↦ cc (
          h w.number w.goroutine (inl a)
              (wait_for-waited o side (waits_of w.goroutine.mode) w.wait k.found),
          ap stays a.0,
        )
        | inr a ↦ absurd a
      ]

  pub first-only : (side : Side) (es : List (ℕ × GoroutineView)) → AllStay es
      → first o side (only stays es) ≡ first o side es
  first-only side [] h = refl
  first-only side (e ∷ es) h =
      let rest = first-only side es (all_stay-rest e es h) in
      elim (stays e.0) as (λ b. stays e.0 ≡ b
      → first o side (cond b (e ∷ only stays es) (only stays es)) ≡ earlier (waiter_of o side e)
      (first o side es)) [
        | true ↦ λ t. ap (earlier (waiter_of o side e)) rest
        | false ↦ λ t. rest ∙ ap (λ (m : Option Waiter). earlier m (first o side es))
            (sym (no_waiter side e es h t (waiter_of o side e) refl))
      ] refl

  pub waiters-only : (side : Side) (es : List (ℕ × GoroutineView)) → AllStay es
      → waiters o side (only stays es) ≡ waiters o side es
  waiters-only side [] h = refl
  waiters-only side (e ∷ es) h =
      let rest = waiters-only side es (all_stay-rest e es h) in
      elim (stays e.0) as (λ b. stays e.0 ≡ b
      → waiters o side (cond b (e ∷ only stays es) (only stays es)) ≡ enter (waiter_of o side e)
      (waiters o side es)) [
        | true ↦ λ t. ap (enter (waiter_of o side e)) rest
        | false ↦ λ t. rest ∙ ap (λ (m : Option Waiter). enter m (waiters o side es))
            (sym (no_waiter side e es h t (waiter_of o side e) refl))
      ] refl

  no_reader : (below : Option ℕ) (e : ℕ × GoroutineView) (es : List (ℕ × GoroutineView)) → AllStay (e ∷ es)
      → stays e.0 ≡ false → (m : Option Wait) → reads_next below o e.1 ≡ m → m ≡ None
  no_reader below e es h f None i = refl
  no_reader below e es h f (Some w) i = cc (h e.0 e.1 (inl (refl, refl)) (reads_next-waited below o e.1 w i))

  pub readers_next-only : (below : Option ℕ) (es : List (ℕ × GoroutineView)) → AllStay es
      → readers_next below o (only stays es) ≡ readers_next below o es
  readers_next-only below [] h = refl
  readers_next-only below (e ∷ es) h =
      let rest = readers_next-only below es (all_stay-rest e es h) in
      elim (stays e.0) as (λ b. stays e.0 ≡ b
      → readers_next below o (cond b (e ∷ only stays es) (only stays es)) ≡ one_if (reads_next below o e.1)
      + readers_next below o es) [
        | true ↦ λ t. ap (λ n. one_if (reads_next below o e.1) + n) rest
        | false ↦ λ t. let none = ap one_if (no_reader below e es h t (reads_next below o e.1) refl) in omega
            (arith, rest, none)
      ] refl

module _ (stays kept : ℕ → Bool) (O G : ℕ → Type 0) (s : State) (c : Ground s O G)
    (sub_o : (o : ℕ) → O o → kept o ≡ true) (sub_g : (g : ℕ) → G g → stays g ≡ true) where
  pub same-find : (o : ℕ) → O o → find o (only kept s.objects) ≡ find o s.objects
  same-find o m = find-only kept s.objects o (sub_o o m)

  all_stay : (o : ℕ) → O o → AllStay stays o s.goroutines
  all_stay o m g r e w = sub_g g (c.awake g r o e w m)

  pub same-first : (o : ℕ) (side : Side) → O o → first o side (only stays s.goroutines) ≡ first o side s.goroutines
  same-first o side m = first-only stays o side s.goroutines (all_stay o m)

  pub same-waiters : (o : ℕ) (side : Side) → O o
      → waiters o side (only stays s.goroutines) ≡ waiters o side s.goroutines
  same-waiters o side m = waiters-only stays o side s.goroutines (all_stay o m)

  pub same-readers_next : (below : Option ℕ) (o : ℕ) → O o
      → readers_next below o (only stays s.goroutines) ≡ readers_next below o s.goroutines
  same-readers_next below o m = readers_next-only stays o below s.goroutines (all_stay o m)

-- ways of a turn whose outcomes are the same
pub same-on_some : {X : Type 0} (act other : X → List Change) (m : Option X) → ((x : X) → m ≡ Some x → act x ≡ other x)
    → on_some act m ≡ on_some other m
same-on_some act other None h = refl
same-on_some act other (Some x) h = h x refl

pub same-choose : (b : Bool) (cs cs' ds ds' : List Change) → cs ≡ cs' → ds ≡ ds' → choose b cs ds ≡ choose b cs' ds'
same-choose true cs cs' ds ds' p q = p
same-choose false cs cs' ds ds' p q = q

module _ (O : ℕ → Type 0) where
  pub same-taking_one : (act other : Value → List Value → List Change) (vs : List Value) → Vals O vs
      → ((x : Value) (rest : List Value) → Val O x → Vals O rest → act x rest ≡ other x rest)
      → taking_one act vs ≡ taking_one other vs
  same-taking_one act other [] a h = refl
  same-taking_one act other (x ∷ rest) a h = h x rest (vals-head O x rest a) (vals-tail O x rest a)

  pub same-taking_two : (act other : Value → Value → List Value → List Change) (vs : List Value) → Vals O vs
      → ((x y : Value) (rest : List Value) → Val O x → Val O y → Vals O rest → act x y rest ≡ other x y rest)
      → taking_two act vs ≡ taking_two other vs
  same-taking_two act other [] a h = refl
  same-taking_two act other (y ∷ []) a h = refl
  same-taking_two act other (y ∷ x ∷ rest) a h = let b =
      vals-tail O y (x ∷ rest) a in h x y rest (vals-head O x rest b) (vals-head O y (x ∷ rest) a)
      (vals-tail O x rest b)

  pub same-taking_three : (act other : Value → Value → Value → List Value → List Change) (vs : List Value) → Vals O vs
      → ((x y z : Value) (rest : List Value) → Val O x → Val O y → Val O z → Vals O rest
      → act x y z rest ≡ other x y z rest) → taking_three act vs ≡ taking_three other vs
  same-taking_three act other [] a h = refl
  same-taking_three act other (z ∷ []) a h = refl
  same-taking_three act other (z ∷ y ∷ []) a h = refl
  same-taking_three act other (z ∷ y ∷ x ∷ rest) a h =
      let b = vals-tail O z (y ∷ x ∷ rest) a in
      let d = vals-tail O y (x ∷ rest) b in
      h x y z rest (vals-head O x rest d) (vals-head O y (x ∷ rest) b) (vals-head O z (y ∷ x ∷ rest) a)
      (vals-tail O x rest d)

  pub same-at_reference : (a : Actor) (act other : ℕ → List Change) (v : Value) → Val O v
      → ((o : ℕ) → O o → act o ≡ other o) → at_reference a act v ≡ at_reference a other v
  same-at_reference a act other (Value.Ref o) h k = k o.0 h.0
  same-at_reference a act other _ h k = refl

  pub same-at_reference_or : (nil : List Change) (act other : ℕ → List Change) (v : Value) → Val O v
      → ((o : ℕ) → O o → act o ≡ other o) → at_reference_or nil act v ≡ at_reference_or nil other v
  same-at_reference_or nil act other (Value.Ref o) h k = k o.0 h.0
  same-at_reference_or nil act other _ h k = refl

  -- the mutex of a condition is a member
  pub same-at_condition : (act other : Value → List Change) (m : Option Object)
      → ((x : Object) → m ≡ Some x → Every O (object_refs x)) → ((v : Value) → Val O v → act v ≡ other v)
      → at_condition act m ≡ at_condition other m
  same-at_condition act other (Some (Object.Cond v)) k h = h v (k (Object.Cond v) refl)
  same-at_condition act other _ k h = refl
