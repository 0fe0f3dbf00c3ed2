-- Values, variables, arithmetic, comparisons and jumps move what their goroutine refers to.
-- For: `computes`, `loads`, `jumps_unless`, golf_model/specs/Arithmetic.antt; `AllGood`, specs/Invariant.antt
-- By: cases of the operands; no induction
use Rattle.std.proofs.Common.{ℕ, ◌+◌, Bool, not, List, ◌∷◌, slice_get, slice_set, ℤ}
use Rattle.std.specs.Int.{w64, int_wrapping_neg}
use Rattle.golf_data.specs.declared.value.Value.{Value}
use Rattle.golf_data.specs.declared.goroutine.PanicKind.{PanicKind}
use Rattle.golf_model.specs.Values.{int_of, bool_of, is_zero, equality}
use Rattle.golf_model.specs.State.{State}
use Rattle.golf_model.specs.Changes.{Change}
use Rattle.golf_model.specs.Actors.{Actor}
use Rattle.golf_model.specs.Arithmetic.{pushes, loads, stores, loads_global, stores_global, drops, doubles}
use Rattle.golf_model.specs.Arithmetic.{doubles_two, negates, inverts, two_ints, computes, divides, compares, equates}
use Rattle.golf_model.specs.Arithmetic.{jumps_unless}
use Rattle.golf_model_futures.specs.Invariant.{AllGood, ActorIn}
use Rattle.golf_model_futures.proofs.RefLaws.{Val, Vals, vals-cons, vals-set, vals-get}
use Rattle.golf_model_futures.proofs.Acting.{Ground, all-on_some, all-choose, all-taking_one, all-taking_two}
use Rattle.golf_model_futures.proofs.Acting.{good-stands, good-goes, good-jumps, good-leaves, good-panics}

module _ (O G : ℕ → Type 0) (s : State) (c : Ground s O G) (a : Actor) (i : ActorIn O G a) where
  ops : Vals O a.frame.operands
  ops = i.frame.operands

  pub good-pushes : (v : Value) → Val O v → AllGood O G (pushes a v)
  good-pushes v h = good-goes O G a i (v ∷ a.frame.operands) (vals-cons O v a.frame.operands h ops)

  pub good-loads : (k : ℕ) → AllGood O G (loads a k)
  good-loads k = good-leaves O G a i a.frame.operands (slice_get a.frame.slots k) ops
      (λ v h. vals-get O a.frame.slots k v i.frame.slots h)

  pub good-stores : (k : ℕ) → AllGood O G (stores a k)
  good-stores k = all-taking_one (AllGood O G) tt O _ a.frame.operands ops
      (λ v rest h r. all-on_some (AllGood O G) tt _ (slice_get a.frame.slots k)
      (λ old e. good-stands O G a i (record a.frame {
        at = a.frame.at + 1;
        slots = slice_set a.frame.slots k v;
        operands = rest;
      }) (record {
        slots = vals-set O a.frame.slots k v h i.frame.slots;
        operands = r;
        deferred =
            i.frame.deferred;
        leaving = i.frame.leaving;
      })))

  pub good-loads_global : (k : ℕ) → AllGood O G (loads_global a k s)
  good-loads_global k = good-leaves O G a i a.frame.operands (slice_get s.globals k) ops
      (λ v h. vals-get O s.globals k v c.globals h)

  pub good-stores_global : (k : ℕ) → AllGood O G (stores_global a k s)
  good-stores_global k = all-taking_one (AllGood O G) tt O _ a.frame.operands ops
      (λ v rest h r. all-on_some (AllGood O G) tt _ (slice_get s.globals k) (λ old e. (h, good-goes O G a i rest r)))

  pub good-drops : AllGood O G (drops a)
  good-drops = all-taking_one (AllGood O G) tt O _ a.frame.operands ops (λ v rest h r. good-goes O G a i rest r)

  pub good-doubles : AllGood O G (doubles a)
  good-doubles = all-taking_one (AllGood O G) tt O _ a.frame.operands ops
      (λ v rest h r. good-goes O G a i (v ∷ v ∷ rest) (vals-cons O v (v ∷ rest) h (vals-cons O v rest h r)))

  pub good-doubles_two : AllGood O G (doubles_two a)
  good-doubles_two = all-taking_two (AllGood O G) tt O _ a.frame.operands ops
      (λ x y rest h k r. good-goes O G a i (y ∷ x ∷ y ∷ x ∷ rest)
      (vals-cons O y (x ∷ y ∷ x ∷ rest) k (vals-cons O x (y ∷ x ∷ rest) h
      (vals-cons O y (x ∷ rest) k (vals-cons O x rest h r)))))

  pub good-negates : AllGood O G (negates a)
  good-negates = all-taking_one (AllGood O G) tt O _ a.frame.operands ops
      (λ x rest h r. all-on_some (AllGood O G) tt _ (int_of x)
      (λ n e. good-goes O G a i (Value.Int (int_wrapping_neg w64 n) ∷ rest) r))

  pub good-inverts : AllGood O G (inverts a)
  good-inverts = all-taking_one (AllGood O G) tt O _ a.frame.operands ops
      (λ x rest h r. all-on_some (AllGood O G) tt _ (bool_of x)
      (λ b e. good-goes O G a i (Value.Bool (not b) ∷ rest) r))

  good-two_ints : (act : ℤ → ℤ → List Value → List Change)
      → ((m n : ℤ) (rest : List Value) → Vals O rest → AllGood O G (act m n rest))
      → AllGood O G (two_ints act a.frame.operands)
  good-two_ints act h = all-taking_two (AllGood O G) tt O _ a.frame.operands ops
      (λ x y rest p q r. all-on_some (AllGood O G) tt _ (int_of x)
      (λ m e. all-on_some (AllGood O G) tt _ (int_of y) (λ n f. h m n rest r)))

  pub good-computes : (op : ℤ → ℤ → ℤ) → AllGood O G (computes op a)
  good-computes op = good-two_ints _ (λ m n rest r. good-goes O G a i (Value.Int (op m n) ∷ rest) r)

  pub good-divides : (op : ℤ → ℤ → ℤ) → AllGood O G (divides op a)
  good-divides op = good-two_ints _ (λ m n rest r. all-choose (AllGood O G) tt (is_zero n) _ _
      (good-panics O G a i PanicKind.DivideByZero) (good-goes O G a i (Value.Int (op m n) ∷ rest) r))

  pub good-compares : (test : ℤ → ℤ → Bool) → AllGood O G (compares test a)
  good-compares test = good-two_ints _ (λ m n rest r. good-goes O G a i (Value.Bool (test m n) ∷ rest) r)

  pub good-equates : AllGood O G (equates a)
  good-equates = all-taking_two (AllGood O G) tt O _ a.frame.operands ops
      (λ x y rest p q r. all-on_some (AllGood O G) tt _ (equality x y)
      (λ b e. good-goes O G a i (Value.Bool b ∷ rest) r))

  pub good-jumps_unless : (target : ℕ) → AllGood O G (jumps_unless a target)
  good-jumps_unless target = all-taking_one (AllGood O G) tt O _ a.frame.operands ops
      (λ x rest h r. all-on_some (AllGood O G) tt _ (bool_of x)
      (λ b e. all-choose (AllGood O G) tt b _ _ (good-goes O G a i rest r) (good-jumps O G a i target rest r)))
