-- Structs, slices and what is made: they move what their goroutine refers to.
-- For: `gets_field`, `sets_element`, golf_model/specs/Structures.antt; `AllGood`, specs/Invariant.antt
-- By: cases of the operands and the object; induction over the list of zero values
use Rattle.std.proofs.Common.{◌≡◌, ℕ, ◌+◌, List, [], ◌∷◌, length, Option, Some, None, ◌⊎◌, inl, inr, refl, slice_get, ℤ}
use Rattle.std.specs.Prelude.{replicate, unsigned_abs, pos, negsuc}
use Rattle.golf_theory.specs.Membership.{Every}
use Rattle.golf_theory.specs.Maps.{find}
use Rattle.golf_theory.proofs.Lists.{Every-weaker}
use Rattle.golf_data.specs.declared.value.Value.{Value}
use Rattle.golf_data.specs.declared.value.Object.{Object}
use Rattle.golf_data.specs.declared.code.Code.{Code}
use Rattle.golf_data.specs.declared.goroutine.PanicKind.{PanicKind}
use Rattle.golf_model.specs.Values.{int_of, reference, zero_of, zeros_of}
use Rattle.golf_model.specs.State.{State}
use Rattle.golf_model.specs.Changes.{Change}
use Rattle.golf_model.specs.Actors.{Actor, goes, panics}
use Rattle.golf_model.specs.Structures.{makes, makes_struct, gets_field, sets_field, is_bad_size, makes_slice}
use Rattle.golf_model.specs.Structures.{makes_channel, new_channel, element, within, gets_element, sets_element}
use Rattle.golf_model.specs.Structures.{length_of, measures}
use Rattle.golf_model.specs.Conditions.{makes_condition}
use Rattle.golf_model.specs.Refs.{object_refs}
use Rattle.golf_model_futures.specs.Invariant.{AllGood, Sound, ActorIn}
use Rattle.golf_model_futures.proofs.RefLaws.{Val, Vals, vals-cons, vals-set, vals-get, vals-replicate}
use Rattle.golf_model_futures.proofs.Goodness.{good-sound}
use Rattle.golf_model_futures.proofs.Acting.{Ground, found-in, all-on_some, all-choose, all-taking_one, all-taking_two}
use Rattle.golf_model_futures.proofs.Acting.{all-taking_three, all-at_reference_or, all-at_struct, all-at_slice}
use Rattle.golf_model_futures.proofs.Acting.{all-at_mutex, good-goes, good-leaves, good-panics, good-at_reference}

-- a zero value refers to nothing
pub zero-in : (O : ℕ → Type 0) (v : Value) → Val O (zero_of v)
zero-in O (Value.Int n) = tt
zero-in O (Value.Bool b) = tt
zero-in O (Value.Text k) = tt
zero-in O Value.Unit = tt
zero-in O Value.Nil = tt
zero-in O (Value.Ref o) = tt

pub zeros-in : (O : ℕ → Type 0) (vs : List Value) → Vals O (zeros_of vs)
zeros-in O [] = tt
zeros-in O (v ∷ vs) = vals-cons O (zero_of v) (zeros_of vs) (zero-in O v) (zeros-in O vs)

module _ (O G : ℕ → Type 0) (s : State) (c : Ground s O G) (a : Actor) (i : ActorIn O G a) where
  ops : Vals O a.frame.operands
  ops = i.frame.operands

  pub good-gets_field : (k : ℕ) → AllGood O G (gets_field a k s)
  good-gets_field k = all-taking_one (AllGood O G) tt O _ a.frame.operands ops
      (λ p rest h r. good-at_reference O G a i _ p h
      (λ o m. all-at_struct (AllGood O G) tt O _ (find o s.objects) (found-in O G s c o m)
      (λ fields f. good-leaves O G a i rest (slice_get fields k) r (λ v e. vals-get O fields k v f e))))

  pub good-sets_field : (k : ℕ) → AllGood O G (sets_field a k s)
  good-sets_field k = all-taking_two (AllGood O G) tt O _ a.frame.operands ops
      (λ p v rest h w r. good-at_reference O G a i _ p h
      (λ o m. all-at_struct (AllGood O G) tt O _ (find o s.objects) (found-in O G s c o m)
      (λ fields f. all-on_some (AllGood O G) tt _ (slice_get fields k)
      (λ old e. ((m, vals-set O fields k v w f), good-goes O G a i rest r)))))

  element-in : (xs : List Value) (n : ℤ) (v : Value) → Vals O xs → element xs n ≡ Some v → Val O v
  element-in xs (pos k) v h e = vals-get O xs k v h e
  element-in xs (negsuc k) v h e = cc

  good-within : (n : ℤ) (len : ℕ) (act : Value → List Change) (m : Option Value)
      → ((v : Value) → m ≡ Some v → AllGood O G (act v)) → AllGood O G (within a n len act m)
  good-within n len act None h = good-panics O G a i (PanicKind.Index n len)
  good-within n len act (Some v) h = h v refl

  pub good-gets_element : AllGood O G (gets_element a s)
  good-gets_element = all-taking_two (AllGood O G) tt O _ a.frame.operands ops
      (λ x y rest h w r. all-on_some (AllGood O G) tt _ (int_of y)
      (λ n e. all-at_reference_or (AllGood O G) tt O _ _ x h (good-panics O G a i (PanicKind.Index n 0))
      (λ o m. all-at_slice (AllGood O G) tt O _ (find o s.objects) (found-in O G s c o m)
      (λ xs f. good-within n (length xs) _ (element xs n)
      (λ v g. good-goes O G a i (v ∷ rest) (vals-cons O v rest (element-in xs n v f g) r))))))

  pub good-sets_element : AllGood O G (sets_element a s)
  good-sets_element = all-taking_three (AllGood O G) tt O _ a.frame.operands ops
      (λ x y v rest h w u r. all-on_some (AllGood O G) tt _ (int_of y)
      (λ n e. all-at_reference_or (AllGood O G) tt O _ _ x h (good-panics O G a i (PanicKind.Index n 0))
      (λ o m. all-at_slice (AllGood O G) tt O _ (find o s.objects) (found-in O G s c o m)
      (λ xs f. good-within n (length xs) _ (element xs n)
      (λ old g. ((m, vals-set O xs (unsigned_abs n) v u f), good-goes O G a i rest r))))))

  pub good-measures : AllGood O G (measures a s)
  good-measures = all-taking_one (AllGood O G) tt O _ a.frame.operands ops
      (λ x rest h r. all-at_reference_or (AllGood O G) tt O _ _ x h (good-goes O G a i (Value.Int (pos 0) ∷ rest) r)
      (λ o m. all-on_some (AllGood O G) tt _ (find o s.objects)
      (λ y e. all-on_some (AllGood O G) tt _ (length_of y)
      (λ n f. good-goes O G a i (Value.Int (pos n) ∷ rest) r))))

  -- an object that is made refers to members alone; the reference to it is one to the new member
  module _ (F : ℕ → Type 0) where
    abbrev More : ℕ → Type 0
    More o = O o ⊎ (o ≡ s.last_object + 1)

    more : (xs : List ℕ) → Every O xs → Every More xs
    more xs h = Every-weaker O More (λ o m. inl m) xs h

    actor-more : ActorIn More G a
    actor-more = record {
      number = i.number;
      frame = record {
        slots = more _ i.frame.slots;
        operands = more _ i.frame.operands;
        deferred = more _ i.frame.deferred;
        leaving = more _ i.frame.leaving;
      };
      callers = more _ i.callers;
    }

    pub sound-makes : (x : Object) (rest : List Value) → Every O (object_refs x) → Vals O rest
        → Sound O G F s.last_object (makes a x rest s)
    sound-makes x rest h r = (
      h,
      good-sound More G F (s.last_object + 1) (goes a (reference (s.last_object + 1) ∷ rest))
          (good-goes More G a actor-more (reference (s.last_object + 1) ∷ rest)
          (vals-cons More (reference (s.last_object + 1)) rest (inr refl, tt) (more _ r))),
    )

    pub sound-makes_struct : (code : Code) (t : ℕ) → Sound O G F s.last_object (makes_struct code a t s)
    sound-makes_struct code t = all-on_some (Sound O G F s.last_object) tt _ (slice_get code.structs t)
        (λ row e. sound-makes (Object.Struct (zeros_of row)) a.frame.operands (zeros-in O row) ops)

    pub sound-makes_slice : (zero : Value) → Sound O G F s.last_object (makes_slice a zero s)
    sound-makes_slice zero = all-taking_one (Sound O G F s.last_object) tt O _ a.frame.operands ops
        (λ x rest h r. all-on_some (Sound O G F s.last_object) tt _ (int_of x)
        (λ n e. all-choose (Sound O G F s.last_object) tt (is_bad_size n) _ _
        (good-sound O G F s.last_object (panics a PanicKind.SliceSize) (good-panics O G a i PanicKind.SliceSize))
        (sound-makes (Object.Slice (replicate (unsigned_abs n) (zero_of zero))) rest
        (vals-replicate O (unsigned_abs n) (zero_of zero) (zero-in O zero)) r)))

    pub sound-makes_channel : (zero : Value) → Sound O G F s.last_object (makes_channel a zero s)
    sound-makes_channel zero = all-taking_one (Sound O G F s.last_object) tt O _ a.frame.operands ops
        (λ x rest h r. all-on_some (Sound O G F s.last_object) tt _ (int_of x)
        (λ n e. all-choose (Sound O G F s.last_object) tt (is_bad_size n) _ _
        (good-sound O G F s.last_object (panics a PanicKind.ChanSize) (good-panics O G a i PanicKind.ChanSize))
        (sound-makes (Object.Chan (new_channel (unsigned_abs n) zero)) rest (zero-in O zero) r)))

    pub sound-makes_condition : Sound O G F s.last_object (makes_condition a s)
    sound-makes_condition = all-taking_one (Sound O G F s.last_object) tt O _ a.frame.operands ops
        (λ m rest h r. all-at_reference_or (Sound O G F s.last_object) tt O _ _ m h
        (sound-makes (Object.Cond m) rest h r)
        (λ o k. all-at_mutex (Sound O G F s.last_object) tt _ (find o s.objects)
        (λ locked. sound-makes (Object.Cond m) rest h r)))
