-- The ways in which a turn goes start one goroutine at most.
-- For: `Few`, specs/StartedGoroutines.antt; `goes`, `blocks`, golf_model/specs/Actors.antt
-- By: cases of what a way meets; induction over n, the operands that are taken
use Rattle.std.proofs.Common.{◌≡◌, ℕ, zero, suc, Bool, true, false, List, [], ◌∷◌, Option, Some, None, refl, ℤ}
use Rattle.golf_data.specs.declared.value.Value.{Value}
use Rattle.golf_data.specs.declared.value.Object.{Object}
use Rattle.golf_data.specs.declared.value.Channel.{Channel}
use Rattle.golf_data.specs.declared.goroutine.PanicKind.{PanicKind}
use Rattle.golf_data.specs.declared.goroutine.Wait.{Wait}
use Rattle.golf_data.specs.declared.goroutine.WaitKind.{WaitKind}
use Rattle.golf_model.specs.Views.{FrameView}
use Rattle.golf_model.specs.Values.{int_of}
use Rattle.golf_model.specs.Changes.{Change}
use Rattle.golf_model.specs.Actors.{Actor, goes, jumps, leaves, panics, dies, blocks, on_some, taking_one, taking_two}
use Rattle.golf_model.specs.Actors.{taking_three, taking_from, taking, choose, at_reference, at_reference_or, at_struct}
use Rattle.golf_model.specs.Actors.{at_slice, at_channel, at_mutex, at_group, at_rw, at_condition}
use Rattle.golf_model.specs.Arithmetic.{two_ints}
use Rattle.golf_world.specs.StartedGoroutines.{Few}

-- if each outcome starts one at most, a choice of them does
pub on-some : {X : Type 0} (act : X → List Change) (m : Option X) → ((x : X) → Few (act x)) → Few (on_some act m)
on-some act None h = tt
on-some act (Some x) h = h x

pub on-choice : (b : Bool) (cs ds : List Change) → Few cs → Few ds → Few (choose b cs ds)
on-choice true cs ds p q = p
on-choice false cs ds p q = q

pub on-one : (act : Value → List Value → List Change) (vs : List Value)
    → ((x : Value) (rest : List Value) → Few (act x rest)) → Few (taking_one act vs)
on-one act [] h = tt
on-one act (x ∷ rest) h = h x rest

pub on-two : (act : Value → Value → List Value → List Change) (vs : List Value)
    → ((x y : Value) (rest : List Value) → Few (act x y rest)) → Few (taking_two act vs)
on-two act [] h = tt
on-two act (y ∷ []) h = tt
on-two act (y ∷ x ∷ rest) h = h x y rest

pub on-three : (act : Value → Value → Value → List Value → List Change) (vs : List Value)
    → ((x y z : Value) (rest : List Value) → Few (act x y z rest)) → Few (taking_three act vs)
on-three act [] h = tt
on-three act (z ∷ []) h = tt
on-three act (z ∷ y ∷ []) h = tt
on-three act (z ∷ y ∷ x ∷ rest) h = h x y z rest

on-from : (n : ℕ) (taken : List Value) (act : List Value → List Value → List Change) (vs : List Value)
    → ((arguments rest : List Value) → Few (act arguments rest)) → Few (taking_from n taken act vs)
on-from zero taken act vs h = h taken vs
on-from (suc n) taken act [] h = tt
on-from (suc n) taken act (v ∷ vs) h = on-from n (v ∷ taken) act vs h

pub on-operands : (n : ℕ) (act : List Value → List Value → List Change) (vs : List Value)
    → ((arguments rest : List Value) → Few (act arguments rest)) → Few (taking n act vs)
on-operands n act vs h = on-from n [] act vs h

pub on-ints : (act : ℤ → ℤ → List Value → List Change) (vs : List Value)
    → ((m n : ℤ) (rest : List Value) → Few (act m n rest)) → Few (two_ints act vs)
on-ints act vs h = on-two _ vs (λ x y rest. on-some _ (int_of x) (λ m. on-some _ (int_of y) (λ n. h m n rest)))

pub on-reference_or : (nil : List Change) (act : ℕ → List Change) (v : Value) → Few nil → ((o : ℕ) → Few (act o))
    → Few (at_reference_or nil act v)
on-reference_or nil act Value.Nil p h = p
on-reference_or nil act (Value.Ref o) p h = h o.0
on-reference_or nil act _ p h = tt

pub on-struct : (act : List Value → List Change) (m : Option Object)
    → ((fields : List Value) → m ≡ Some (Object.Struct fields) → Few (act fields)) → Few (at_struct act m)
on-struct act (Some (Object.Struct fields)) h = h fields refl
on-struct act _ h = tt

pub on-slice : (act : List Value → List Change) (m : Option Object)
    → ((elements : List Value) → m ≡ Some (Object.Slice elements) → Few (act elements)) → Few (at_slice act m)
on-slice act (Some (Object.Slice elements)) h = h elements refl
on-slice act _ h = tt

pub on-channel : (act : Channel → List Change) (m : Option Object)
    → ((c : Channel) → m ≡ Some (Object.Chan c) → Few (act c)) → Few (at_channel act m)
on-channel act (Some (Object.Chan c)) h = h c refl
on-channel act _ h = tt

pub on-mutex : (act : Bool → List Change) (m : Option Object)
    → ((locked : Bool) → m ≡ Some (Object.Mutex locked) → Few (act locked)) → Few (at_mutex act m)
on-mutex act (Some (Object.Mutex locked)) h = h locked refl
on-mutex act _ h = tt

pub on-group : (act : ℤ → List Change) (m : Option Object) → ((n : ℤ) → m ≡ Some (Object.Group n) → Few (act n))
    → Few (at_group act m)
on-group act (Some (Object.Group n)) h = h n refl
on-group act _ h = tt

pub on-rw : (act : ℤ → List Change) (m : Option Object) → ((n : ℤ) → m ≡ Some (Object.Rw n) → Few (act n))
    → Few (at_rw act m)
on-rw act (Some (Object.Rw n)) h = h n refl
on-rw act _ h = tt

pub on-condition : (act : Value → List Change) (m : Option Object)
    → ((v : Value) → m ≡ Some (Object.Cond v) → Few (act v)) → Few (at_condition act m)
on-condition act (Some (Object.Cond v)) h = h v refl
on-condition act _ h = tt

-- the acting goroutine goes on, panics or blocks with a frame
module _ (a : Actor) where
  pub few-goes : (vs : List Value) → Few (goes a vs)
  few-goes vs = tt

  pub few-jumps : (target : ℕ) (vs : List Value) → Few (jumps a target vs)
  few-jumps target vs = tt

  pub few-leaves : (vs : List Value) (m : Option Value) → Few (leaves a vs m)
  few-leaves vs None = tt
  few-leaves vs (Some v) = tt

  pub few-panics : (kind : PanicKind) → Few (panics a kind)
  few-panics kind = tt

  pub few-dies : (kind : PanicKind) → Few (dies a kind)
  few-dies kind = tt

  pub few-blocks : (f : FrameView) (kind : WaitKind) (waits : List Wait) → Few (blocks a f kind waits)
  few-blocks f kind waits = tt

  pub on-reference : (act : ℕ → List Change) (v : Value) → ((o : ℕ) → Few (act o)) → Few (at_reference a act v)
  on-reference act Value.Nil h = tt
  on-reference act (Value.Ref o) h = h o.0
  on-reference act _ h = tt
