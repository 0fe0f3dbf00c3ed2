-- The ways in which a turn goes keep goroutines in order.
-- For: `taking_one` and `on_some`, golf_model/specs/Actors.antt; `order_is_kept`, src/lib.rt
-- By: induction over n, the operands that are still to be taken; else cases of the values
use Rattle.std.proofs.Common.{◌≡◌, ℕ, zero, suc, Bool, true, false, List, [], ◌∷◌, Option, Some, None, refl, ℤ}
use Rattle.golf_theory.specs.Membership.{Every}
use Rattle.golf_data.specs.declared.value.Value.{Value}
use Rattle.golf_data.specs.declared.value.Object.{Object}
use Rattle.golf_data.specs.declared.value.Channel.{Channel}
use Rattle.golf_data.specs.declared.goroutine.PanicKind.{PanicKind}
use Rattle.golf_data.specs.declared.goroutine.Wait.{Wait}
use Rattle.golf_data.specs.declared.goroutine.WaitKind.{WaitKind}
use Rattle.golf_model.specs.Views.{FrameView}
use Rattle.golf_model.specs.Values.{int_of}
use Rattle.golf_model.specs.Changes.{Change}
use Rattle.golf_model.specs.Actors.{Actor, goes, jumps, leaves, panics, dies, blocks, on_some, taking_one, taking_two}
use Rattle.golf_model.specs.Actors.{taking_three, taking_from, taking, choose, at_reference, at_reference_or, at_struct}
use Rattle.golf_model.specs.Actors.{at_slice, at_channel, at_mutex, at_group, at_rw, at_condition}
use Rattle.golf_model.specs.Arithmetic.{two_ints}
use Rattle.golf_model_futures.specs.Orderly.{HasMutex, AllKeepOrder}

module _ (xs : List (ℕ × Object)) where
  -- if each outcome keeps order, a choice of them does
  pub on-some : {X : Type 0} (act : X → List Change) (m : Option X) → ((x : X) → AllKeepOrder xs (act x))
      → AllKeepOrder xs (on_some act m)
  on-some act None h = tt
  on-some act (Some x) h = h x

  pub on-choice : (b : Bool) (cs ds : List Change) → AllKeepOrder xs cs → AllKeepOrder xs ds
      → AllKeepOrder xs (choose b cs ds)
  on-choice true cs ds p q = p
  on-choice false cs ds p q = q

  pub on-one : (act : Value → List Value → List Change) (vs : List Value)
      → ((x : Value) (rest : List Value) → AllKeepOrder xs (act x rest)) → AllKeepOrder xs (taking_one act vs)
  on-one act [] h = tt
  on-one act (x ∷ rest) h = h x rest

  pub on-two : (act : Value → Value → List Value → List Change) (vs : List Value)
      → ((x y : Value) (rest : List Value) → AllKeepOrder xs (act x y rest)) → AllKeepOrder xs (taking_two act vs)
  on-two act [] h = tt
  on-two act (y ∷ []) h = tt
  on-two act (y ∷ x ∷ rest) h = h x y rest

  pub on-three : (act : Value → Value → Value → List Value → List Change) (vs : List Value)
      → ((x y z : Value) (rest : List Value) → AllKeepOrder xs (act x y z rest)) → AllKeepOrder xs (taking_three act vs)
  on-three act [] h = tt
  on-three act (z ∷ []) h = tt
  on-three act (z ∷ y ∷ []) h = tt
  on-three act (z ∷ y ∷ x ∷ rest) h = h x y z rest

  on-from : (n : ℕ) (taken : List Value) (act : List Value → List Value → List Change) (vs : List Value)
      → ((arguments rest : List Value) → AllKeepOrder xs (act arguments rest))
      → AllKeepOrder xs (taking_from n taken act vs)
  on-from zero taken act vs h = h taken vs
  on-from (suc n) taken act [] h = tt
  on-from (suc n) taken act (v ∷ vs) h = on-from n (v ∷ taken) act vs h

  pub on-operands : (n : ℕ) (act : List Value → List Value → List Change) (vs : List Value)
      → ((arguments rest : List Value) → AllKeepOrder xs (act arguments rest)) → AllKeepOrder xs (taking n act vs)
  on-operands n act vs h = on-from n [] act vs h

  pub on-ints : (act : ℤ → ℤ → List Value → List Change) (vs : List Value)
      → ((m n : ℤ) (rest : List Value) → AllKeepOrder xs (act m n rest)) → AllKeepOrder xs (two_ints act vs)
  on-ints act vs h = on-two _ vs (λ x y rest. on-some _ (int_of x) (λ m. on-some _ (int_of y) (λ n. h m n rest)))

  pub on-reference_or : (nil : List Change) (act : ℕ → List Change) (v : Value) → AllKeepOrder xs nil
      → ((o : ℕ) → AllKeepOrder xs (act o)) → AllKeepOrder xs (at_reference_or nil act v)
  on-reference_or nil act Value.Nil p h = p
  on-reference_or nil act (Value.Ref o) p h = h o.0
  on-reference_or nil act _ p h = tt

  pub on-struct : (act : List Value → List Change) (m : Option Object)
      → ((fields : List Value) → m ≡ Some (Object.Struct fields) → AllKeepOrder xs (act fields))
      → AllKeepOrder xs (at_struct act m)
  on-struct act (Some (Object.Struct fields)) h = h fields refl
  on-struct act _ h = tt

  pub on-slice : (act : List Value → List Change) (m : Option Object)
      → ((elements : List Value) → m ≡ Some (Object.Slice elements) → AllKeepOrder xs (act elements))
      → AllKeepOrder xs (at_slice act m)
  on-slice act (Some (Object.Slice elements)) h = h elements refl
  on-slice act _ h = tt

  pub on-channel : (act : Channel → List Change) (m : Option Object)
      → ((c : Channel) → m ≡ Some (Object.Chan c) → AllKeepOrder xs (act c)) → AllKeepOrder xs (at_channel act m)
  on-channel act (Some (Object.Chan c)) h = h c refl
  on-channel act _ h = tt

  pub on-mutex : (act : Bool → List Change) (m : Option Object)
      → ((locked : Bool) → m ≡ Some (Object.Mutex locked) → AllKeepOrder xs (act locked))
      → AllKeepOrder xs (at_mutex act m)
  on-mutex act (Some (Object.Mutex locked)) h = h locked refl
  on-mutex act _ h = tt

  pub on-group : (act : ℤ → List Change) (m : Option Object)
      → ((n : ℤ) → m ≡ Some (Object.Group n) → AllKeepOrder xs (act n)) → AllKeepOrder xs (at_group act m)
  on-group act (Some (Object.Group n)) h = h n refl
  on-group act _ h = tt

  pub on-rw : (act : ℤ → List Change) (m : Option Object) → ((n : ℤ) → m ≡ Some (Object.Rw n) → AllKeepOrder xs (act n))
      → AllKeepOrder xs (at_rw act m)
  on-rw act (Some (Object.Rw n)) h = h n refl
  on-rw act _ h = tt

  pub on-condition : (act : Value → List Change) (m : Option Object)
      → ((v : Value) → m ≡ Some (Object.Cond v) → AllKeepOrder xs (act v)) → AllKeepOrder xs (at_condition act m)
  on-condition act (Some (Object.Cond v)) h = h v refl
  on-condition act _ h = tt

  -- the acting goroutine goes on, panics or blocks with a frame
  module _ (a : Actor) where
    pub keep-goes : (vs : List Value) → AllKeepOrder xs (goes a vs)
    keep-goes vs = (refl, tt)

    pub keep-jumps : (target : ℕ) (vs : List Value) → AllKeepOrder xs (jumps a target vs)
    keep-jumps target vs = (refl, tt)

    pub keep-leaves : (vs : List Value) (m : Option Value) → AllKeepOrder xs (leaves a vs m)
    keep-leaves vs None = tt
    keep-leaves vs (Some v) = (refl, tt)

    pub keep-panics : (kind : PanicKind) → AllKeepOrder xs (panics a kind)
    keep-panics kind = (refl, tt)

    pub keep-dies : (kind : PanicKind) → AllKeepOrder xs (dies a kind)
    keep-dies kind = (tt, tt)

    pub keep-blocks : (f : FrameView) (kind : WaitKind) (waits : List Wait) → Every (HasMutex xs) waits
        → AllKeepOrder xs (blocks a f kind waits)
    keep-blocks f kind waits h = ((refl, h), tt)

    pub on-reference : (act : ℕ → List Change) (v : Value) → ((o : ℕ) → AllKeepOrder xs (act o))
        → AllKeepOrder xs (at_reference a act v)
    on-reference act Value.Nil h = (refl, tt)
    on-reference act (Value.Ref o) h = h o.0
    on-reference act _ h = tt
