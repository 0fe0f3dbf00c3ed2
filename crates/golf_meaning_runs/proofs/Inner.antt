-- The turn of an instruction that shows nothing is one step of the meaning.
-- For: `InnerTurns`, golf_meaning_runs/specs/TurnLaws.antt; the law `inner_turns_mean`, src/lib.rt.
-- By: cases of the instruction; no induction.
use Rattle.std.proofs.Common.{◌≡◌, ℕ, ◌+◌, Bool, true, false, cond, List, [], ◌∷◌, Option, Some, None, refl, slice_get}
use Rattle.std.proofs.Common.{slice_set, ℤ, int_lt, int_le, not}
use Rattle.std.specs.Int.{w64, int_wrapping_neg}
use Rattle.golf_data.specs.declared.value.Value.{Value}
use Rattle.golf_data.specs.declared.code.Code.{Code}
use Rattle.golf_data.specs.declared.code.Instr.{Instr}
use Rattle.golf_data.specs.declared.goroutine.PanicKind.{PanicKind}
use Rattle.golf_model.specs.Values.{int_of, bool_of, equality, is_zero}
use Rattle.golf_model.specs.State.{State}
use Rattle.golf_model.specs.Changes.{Change}
use Rattle.golf_model.specs.Actors as M
use Rattle.golf_model.specs.Actors.{Actor, taking_one, taking_two, choose}
use Rattle.golf_model.specs.Arithmetic.{sum, difference, product, quotient, remainder}
use Rattle.golf_model.specs.Calls.{returns_by}
use Rattle.golf_model.specs.Turn.{changes}
use Rattle.golf_meaning_flat.specs.Worlds.{Misfit, Halt, World, Part, bind}
use Rattle.golf_meaning_flat.specs.InstructionEffects.{Frame, on_some, on_kind, one, two, chosen_by, doing}
use Rattle.golf_meaning_flat.specs.InstructionEffects as D
use Rattle.golf_meaning_runs.specs.FlatSteps.{Stepped, stepped_by, stepped, frame_of, is_inner, IsTurnStep}
use Rattle.golf_meaning_runs.specs.FlatSteps.IsTurnStep.{GoesOn, Returns, Divides, NoRule}
use Rattle.golf_meaning_runs.specs.TurnLaws.{InnerTurns}

module _ (gives : List Bool) (code : Code) (a : Actor) (choice : ℕ) (s : State) where
  abbrev onward : Frame → World → Stepped
  onward d u = Stepped.Goes (a.frame.at + 1) d u

  -- a part that is followed by the next instruction
  abbrev T : (World → Part Frame) → List Change → Type 0
  T p cs = IsTurnStep a (λ w. stepped_by (p w) onward) cs

  abbrev now : Frame
  now = frame_of a.frame

  by-goes : (slots os : List Value) → T (λ w. Part.Gives (record { slots = slots; operands = os }) w)
      (M.stands a (record a.frame { at = a.frame.at + 1; slots = slots; operands = os }))
  by-goes slots os = GoesOn (a.frame.at + 1) (record { slots = slots; operands = os }) (λ w. refl) refl

  by-one : (f : World → Value → List Value → Part Frame) (g : Value → List Value → List Change) (os : List Value)
      → ((x : Value) (rest : List Value) → T (λ w. f w x rest) (g x rest)) → T (λ w. one w (f w) os) (taking_one g os)
  by-one f g [] h = NoRule Misfit.OfRule (λ w. refl) refl
  by-one f g (x ∷ rest) h = h x rest

  by-two : (f : World → Value → Value → List Value → Part Frame) (g : Value → Value → List Value → List Change)
      (os : List Value) → ((x y : Value) (rest : List Value) → T (λ w. f w x y rest) (g x y rest))
      → T (λ w. two w (f w) os) (taking_two g os)
  by-two f g [] h = NoRule Misfit.OfRule (λ w. refl) refl
  by-two f g (y ∷ []) h = NoRule Misfit.OfRule (λ w. refl) refl
  by-two f g (y ∷ (x ∷ rest)) h = h x y rest

  by-some : {X : Type 0} (f : World → X → Part Frame) (g : X → List Change) (m : Option X)
      → ((x : X) → T (λ w. f w x) (g x)) → T (λ w. on_some (f w) w m) (M.on_some g m)
  by-some f g None h = NoRule Misfit.OfRule (λ w. refl) refl
  by-some f g (Some x) h = h x

  by-value : {X : Type 0} (f : World → X → Part Value) (k : Value → World → Part Frame) (g : X → List Change)
      (m : Option X) → ((x : X) → T (λ w. bind (f w x) k) (g x)) → T (λ w. bind (on_kind (f w) w m) k) (M.on_some g m)
  by-value f k g None h = NoRule Misfit.OfKind (λ w. refl) refl
  by-value f k g (Some x) h = h x

  abbrev On : List Value → Value → World → Part Frame
  On rest v u = D.goes now (v ∷ rest) u

  by-load : (m : Option Value) → T (λ w. on_some (λ v. D.goes now (v ∷ a.frame.operands) w) w m)
      (M.leaves a a.frame.operands m)
  by-load None = NoRule Misfit.OfRule (λ w. refl) refl
  by-load (Some v) = by-goes a.frame.slots (v ∷ a.frame.operands)

  by-ints : (f : World → ℤ → ℤ → Part Value) (g : ℤ → ℤ → List Value → List Change)
      → ((m n : ℤ) (rest : List Value) → T (λ w. bind (f w m n) (On rest)) (g m n rest))
      → (x y : Value) (rest : List Value) → T (λ w. bind (D.ints w (f w) x y) (On rest))
      (M.on_some (λ m. M.on_some (λ n. g m n rest) (int_of y)) (int_of x))
  by-ints f g h x y rest =
      by-value (λ w m. on_kind (λ n. f w m n) w (int_of y)) (On rest) (λ m. M.on_some (λ n. g m n rest) (int_of y))
      (int_of x)
      (λ m. by-value (λ w n. f w m n) (On rest) (λ n. g m n rest) (int_of y) (λ n. h m n rest))

  abbrev computing : (ℤ → ℤ → List Value → List Change) → List Change
  computing g = M.taking_two (λ x y rest. M.on_some (λ m. M.on_some (λ n. g m n rest) (int_of y)) (int_of x))
      a.frame.operands

  by-computed : (f : ℤ → ℤ → ℤ) → T (λ w. D.acts_on_two (D.computed f) now w)
      (computing (λ m n rest. M.goes a (Value.Int (f m n) ∷ rest)))
  by-computed f = by-two (λ w x y rest. bind (D.computed f w x y) (On rest)) _ a.frame.operands
      (by-ints (λ w m n. Part.Gives (Value.Int (f m n)) w) (λ m n rest. M.goes a (Value.Int (f m n) ∷ rest))
      (λ m n rest. by-goes a.frame.slots (Value.Int (f m n) ∷ rest)))

  by-compared : (f : ℤ → ℤ → Bool) → T (λ w. D.acts_on_two (D.compared f) now w)
      (computing (λ m n rest. M.goes a (Value.Bool (f m n) ∷ rest)))
  by-compared f = by-two (λ w x y rest. bind (D.compared f w x y) (On rest)) _ a.frame.operands
      (by-ints (λ w m n. Part.Gives (Value.Bool (f m n)) w) (λ m n rest. M.goes a (Value.Bool (f m n) ∷ rest))
      (λ m n rest. by-goes a.frame.slots (Value.Bool (f m n) ∷ rest)))

  by-zero : (f : ℤ → ℤ → ℤ) (m n : ℤ) (rest : List Value) (z : Bool)
      → T (λ w. bind (chosen_by z (Part.Stops Halt.Divided w.operations) (Part.Gives (Value.Int (f m n)) w)) (On rest))
      (choose z (M.panics a PanicKind.DivideByZero) (M.goes a (Value.Int (f m n) ∷ rest)))
  by-zero f m n rest true = Divides (λ w. refl) refl
  by-zero f m n rest false = by-goes a.frame.slots (Value.Int (f m n) ∷ rest)

  by-divided : (f : ℤ → ℤ → ℤ) → T (λ w. D.acts_on_two (D.divided f) now w)
      (computing (λ m n rest. choose (is_zero n) (M.panics a PanicKind.DivideByZero)
      (M.goes a (Value.Int (f m n) ∷ rest))))
  by-divided f = by-two (λ w x y rest. bind (D.divided f w x y) (On rest)) _ a.frame.operands
      (by-ints (λ w m n. chosen_by (is_zero n) (Part.Stops Halt.Divided w.operations)
      (Part.Gives (Value.Int (f m n)) w)) (λ m n rest. choose (is_zero n) (M.panics a PanicKind.DivideByZero)
      (M.goes a (Value.Int (f m n) ∷ rest)))
      (λ m n rest. by-zero f m n rest (is_zero n)))

  by-returned : (os : List Value) → T (λ w. one w (λ v rest. Part.Stops (Halt.Returned (Some v)) w.operations) os)
      (taking_one (λ v rest. returns_by a (Some v) rest a.frame.deferred) os)
  by-returned [] = NoRule Misfit.OfRule (λ w. refl) refl
  by-returned (v ∷ rest) = Returns (Some v) rest (λ w. refl) refl

  module _ (t : ℕ) where
    abbrev tested : World → Part (Bool × Frame) → Stepped
    tested w p = stepped_by {A = Bool × Frame} p (λ r u. Stepped.Goes (cond r.0 (a.frame.at + 1) t) r.1 u)

    by-truth : (rest : List Value) (m : Option Bool)
        → IsTurnStep a (λ w. tested w (on_kind
        (λ b. Part.Gives (b, record { slots = a.frame.slots; operands = rest }) w) w
        m)) (M.on_some (λ b. choose b (M.goes a rest) (M.jumps a t rest)) m)
    by-truth rest None = NoRule Misfit.OfKind (λ w. refl) refl
    by-truth rest (Some true) = GoesOn (a.frame.at + 1) (record { slots = a.frame.slots; operands = rest })
        (λ w. refl) refl
    by-truth rest (Some false) = GoesOn t (record { slots = a.frame.slots; operands = rest }) (λ w. refl) refl

    by-test : (os : List Value)
        → IsTurnStep a (λ w. tested w (one w (λ x rest. on_kind
        (λ b. Part.Gives (b, record { slots = a.frame.slots; operands = rest }) w) w (bool_of x)) os))
        (taking_one (λ x rest. M.on_some (λ b. choose b (M.goes a rest) (M.jumps a t rest)) (bool_of x)) os)
    by-test [] = NoRule Misfit.OfRule (λ w. refl) refl
    by-test (x ∷ rest) = by-truth rest (bool_of x)

  inner : (i : Instr) → is_inner i ≡ true
      → IsTurnStep a (λ w. stepped gives (doing gives i) a.frame.at now w) (changes code i a choice s)
  inner (Instr.Int n) e = by-goes a.frame.slots (Value.Int n ∷ a.frame.operands)
  inner (Instr.Bool b) e = by-goes a.frame.slots (Value.Bool b ∷ a.frame.operands)
  inner (Instr.Text k) e = by-goes a.frame.slots (Value.Text k ∷ a.frame.operands)
  inner Instr.Unit e = by-goes a.frame.slots (Value.Unit ∷ a.frame.operands)
  inner Instr.Nil e = by-goes a.frame.slots (Value.Nil ∷ a.frame.operands)
  inner (Instr.Load i) e = by-load (slice_get a.frame.slots i)
  inner (Instr.Store i) e = by-one (λ w v rest. on_some
      (λ (old : Value). Part.Gives (record { slots = slice_set a.frame.slots i v; operands = rest }) w) w
      (slice_get a.frame.slots i)) _ a.frame.operands
      (λ v rest. by-some (λ w (old : Value). Part.Gives
      (record { slots = slice_set a.frame.slots i v; operands = rest }) w) _ (slice_get a.frame.slots i)
      (λ old. by-goes (slice_set a.frame.slots i v) rest))
  inner Instr.Drop e = by-one (λ w v rest. D.goes now rest w) _ a.frame.operands (λ v rest. by-goes a.frame.slots rest)
  inner Instr.Dup e = by-one (λ w v rest. D.goes now (v ∷ (v ∷ rest)) w) _ a.frame.operands
      (λ v rest. by-goes a.frame.slots (v ∷ (v ∷ rest)))
  inner Instr.Dup2 e = by-two (λ w x y rest. D.goes now (y ∷ (x ∷ (y ∷ (x ∷ rest)))) w) _ a.frame.operands
      (λ x y rest. by-goes a.frame.slots (y ∷ (x ∷ (y ∷ (x ∷ rest)))))
  inner Instr.Neg e = by-one (λ w x rest. bind (D.negated w x) (On rest)) _ a.frame.operands
      (λ x rest. by-value (λ w n. Part.Gives (Value.Int (int_wrapping_neg w64 n)) w) (On rest) _ (int_of x)
      (λ n. by-goes a.frame.slots (Value.Int (int_wrapping_neg w64 n) ∷ rest)))
  inner Instr.Not e = by-one (λ w x rest. bind (D.inverted w x) (On rest)) _ a.frame.operands
      (λ x rest. by-value (λ w b. Part.Gives (Value.Bool (not b)) w) (On rest) _ (bool_of x)
      (λ b. by-goes a.frame.slots (Value.Bool (not b) ∷ rest)))
  inner Instr.Add e = by-computed sum
  inner Instr.Sub e = by-computed difference
  inner Instr.Mul e = by-computed product
  inner Instr.Div e = by-divided quotient
  inner Instr.Rem e = by-divided remainder
  inner Instr.Eq e = by-two (λ w x y rest. bind (D.equated w x y) (On rest)) _ a.frame.operands
      (λ x y rest. by-value (λ w b. Part.Gives (Value.Bool b) w) (On rest) _ (equality x y)
      (λ b. by-goes a.frame.slots (Value.Bool b ∷ rest)))
  inner Instr.Less e = by-compared int_lt
  inner Instr.AtMost e = by-compared int_le
  inner (Instr.Jump t) e = GoesOn t now (λ w. refl) refl
  inner (Instr.JumpIfNot t) e = by-test t a.frame.operands
  inner Instr.Return e = Returns None a.frame.operands (λ w. refl) refl
  inner Instr.ReturnValue e = by-returned a.frame.operands
  inner i e = cc

pub inner-turns : InnerTurns
inner-turns gives code i a choice s e = inner gives code a choice s i e
