-- Ways of a turn: two turns that take the same operands have outcomes that are related.
-- For: `changes`, golf_model/specs/Turn.antt; `IsAlike`, specs/Alike.antt
-- By: cases of the operands and of the object
use Rattle.std.proofs.Common.{ℕ, zero, suc, Bool, true, false, List, [], ◌∷◌, Option, Some, None, ℤ}
use Rattle.golf_data.specs.declared.value.Value.{Value}
use Rattle.golf_data.specs.declared.value.Object.{Object}
use Rattle.golf_data.specs.declared.goroutine.PanicKind.{PanicKind}
use Rattle.golf_data.specs.declared.value.Channel.{Channel}
use Rattle.golf_model.specs.Changes.{Change}
use Rattle.golf_model.specs.Actors.{Actor, panics, on_some, choose, taking_one, taking_two, taking_three, taking_from}
use Rattle.golf_model.specs.Actors.{at_reference, at_reference_or, at_struct, at_slice, at_mutex, at_group, at_rw}
use Rattle.golf_model.specs.Actors.{at_condition, at_channel}
use Rattle.golf_explore_laws.specs.Alike.{rest}

-- ---- ways of a turn, for a relation of outcomes that holds where no rule fits

module _ (R : List Change → List Change → Type 0) (nil : R [] []) where
  pub by-on_some : {X : Type 0} (act other : X → List Change) (m : Option X) → ((x : X) → R (act x) (other x))
      → R (on_some act m) (on_some other m)
  by-on_some act other None h = nil
  by-on_some act other (Some x) h = h x

  pub by-choose : (b : Bool) (cs cs' ds ds' : List Change) → R cs cs' → R ds ds' → R (choose b cs ds) (choose b cs' ds')
  by-choose true cs cs' ds ds' p q = p
  by-choose false cs cs' ds ds' p q = q

  pub by-taking_one : (act other : Value → List Value → List Change) (vs : List Value)
      → ((x : Value) (rest : List Value) → R (act x rest) (other x rest)) → R (taking_one act vs) (taking_one other vs)
  by-taking_one act other [] h = nil
  by-taking_one act other (x ∷ rest) h = h x rest

  pub by-taking_two : (act other : Value → Value → List Value → List Change) (vs : List Value)
      → ((x y : Value) (rest : List Value) → R (act x y rest) (other x y rest))
      → R (taking_two act vs) (taking_two other vs)
  by-taking_two act other [] h = nil
  by-taking_two act other (y ∷ []) h = nil
  by-taking_two act other (y ∷ x ∷ rest) h = h x y rest

  pub by-taking_three : (act other : Value → Value → Value → List Value → List Change) (vs : List Value)
      → ((x y z : Value) (rest : List Value) → R (act x y z rest) (other x y z rest))
      → R (taking_three act vs) (taking_three other vs)
  by-taking_three act other [] h = nil
  by-taking_three act other (z ∷ []) h = nil
  by-taking_three act other (z ∷ y ∷ []) h = nil
  by-taking_three act other (z ∷ y ∷ x ∷ rest) h = h x y z rest

  pub by-taking_from : (n : ℕ) (taken vs : List Value) (act other : List Value → List Value → List Change)
      → ((xs rest : List Value) → R (act xs rest) (other xs rest))
      → R (taking_from n taken act vs) (taking_from n taken other vs)
  by-taking_from zero taken vs act other h = h taken vs
  by-taking_from (suc n) taken [] act other h = nil
  by-taking_from (suc n) taken (v ∷ vs) act other h = by-taking_from n (v ∷ taken) vs act other h

  pub by-reference_or : (nl nl' : List Change) (act other : ℕ → List Change) (v : Value) → R nl nl'
      → ((o : ℕ) → R (act o) (other o)) → R (at_reference_or nl act v) (at_reference_or nl' other v)
  by-reference_or nl nl' act other (Value.Ref o) n h = h o.0
  by-reference_or nl nl' act other Value.Nil n h = n
  by-reference_or nl nl' act other _ n h = nil

  pub by-reference : (a b : Actor) (act other : ℕ → List Change) (v : Value)
      → R (panics a PanicKind.NilPointer) (panics b PanicKind.NilPointer)
      → ((o : ℕ) → R (act o) (other o)) → R (at_reference a act v) (at_reference b other v)
  by-reference a b act other (Value.Ref o) n h = h o.0
  by-reference a b act other Value.Nil n h = n
  by-reference a b act other _ n h = nil

  pub by-struct : (act other : List Value → List Change) (m : Option Object) → ((x : List Value) → R (act x) (other x))
      → R (at_struct act m) (at_struct other m)
  by-struct act other (Some (Object.Struct x)) h = h x
  by-struct act other _ h = nil

  pub by-slice : (act other : List Value → List Change) (m : Option Object) → ((x : List Value) → R (act x) (other x))
      → R (at_slice act m) (at_slice other m)
  by-slice act other (Some (Object.Slice x)) h = h x
  by-slice act other _ h = nil

  pub by-channel : (act other : Channel → List Change) (m : Option Object) → ((x : Channel) → R (act x) (other x))
      → R (at_channel act m) (at_channel other m)
  by-channel act other (Some (Object.Chan x)) h = h x
  by-channel act other _ h = nil

  pub by-mutex : (act other : Bool → List Change) (m : Option Object) → ((x : Bool) → R (act x) (other x))
      → R (at_mutex act m) (at_mutex other m)
  by-mutex act other (Some (Object.Mutex x)) h = h x
  by-mutex act other _ h = nil

  pub by-group : (act other : ℤ → List Change) (m : Option Object) → ((x : ℤ) → R (act x) (other x))
      → R (at_group act m) (at_group other m)
  by-group act other (Some (Object.Group x)) h = h x
  by-group act other _ h = nil

  pub by-rw : (act other : ℤ → List Change) (m : Option Object) → ((x : ℤ) → R (act x) (other x))
      → R (at_rw act m) (at_rw other m)
  by-rw act other (Some (Object.Rw x)) h = h x
  by-rw act other _ h = nil

  pub by-condition : (act other : Value → List Change) (m : Option Object) → ((x : Value) → R (act x) (other x))
      → R (at_condition act m) (at_condition other m)
  by-condition act other (Some (Object.Cond x)) h = h x
  by-condition act other _ h = nil
