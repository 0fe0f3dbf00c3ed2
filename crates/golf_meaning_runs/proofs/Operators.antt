-- Operators whose operands break no rule give values of their types.
-- For: `operators_fit` and `conditions_decide`, src/lib.rt
-- By: cases of the operator and of the types of its operands; no induction
use Rattle.std.proofs.Common.{◌≡◌, ℕ, ℤ, Bool, true, false, not, ◌&&◌, List, [], ◌∷◌, Option, Some}
use Rattle.std.proofs.Common.{None, refl, sym, subst}
use Rattle.std.proofs.lemmas.Bool.{and_parts}
use Rattle.std.specs.Prelude.{int_lt, int_le}
use Rattle.golf_syntax_trees.specs.declared.expressions.UnaryOperator.{UnaryOperator}
use Rattle.golf_syntax_trees.specs.declared.expressions.UnaryOperator.TheVariants as unary
use Rattle.golf_syntax_trees.specs.declared.expressions.BinaryOperator.{BinaryOperator}
use Rattle.golf_syntax_trees.specs.declared.expressions.BinaryOperator.TheVariants as binary
use Rattle.golf_data.specs.declared.value.Value.{Value}
use Rattle.golf_data.specs.declared.code.Instr.{Instr}
use Rattle.std.specs.Prelude.{is_some}
use Rattle.std.specs.Int.{w64, int_wrapping_neg}
use Rattle.golf_model.specs.Values.{int_of, bool_of, equality, is_zero}
use Rattle.golf_model.specs.Arithmetic.{sum, difference, product, quotient, remainder}
use Rattle.golf_check_types.specs.declared.types.Base.{Base}
use Rattle.golf_check_types.specs.declared.types.Base.TheVariants as base
use Rattle.golf_check_types.specs.declared.types.GoType.{GoType}
use Rattle.golf_check_types.specs.declared.operands.Operand.TheVariants as operand
use Rattle.golf_check_types.specs.declared.operands.Given.{Given}
use Rattle.golf_check_types.specs.declared.scopes.Scope.{Scope}
use Rattle.golf_check_types.specs.Types.{has_base, has_layer, is_slice, gives, element}
use Rattle.golf_check_types.specs.Expressions.{used, given_by, unary_faults, unary_meaning, binary_fits, result_base}
use Rattle.golf_meaning_flat.specs.Worlds.{Halt, World, Part, bind}
use Rattle.golf_meaning_flat.specs.InstructionEffects.{on_kind, chosen_by, ints, negated, inverted, computed, divided}
use Rattle.golf_meaning_flat.specs.InstructionEffects.{compared}
use Rattle.golf_meaning_flat.specs.InstructionEffects.{equated}
use Rattle.golf_meaning_source.specs.Operations.{Taking, Gives, gives as constant, both, then_do, visible, on_one}
use Rattle.golf_meaning_source.specs.Operations.{on_two, by_bool, if_true}
use Rattle.golf_meaning_source.specs.Exprs.{unary_does, binary_does, calculation}
use Rattle.golf_model_typing.specs.Types.{ValueType}
use Rattle.golf_code_shapes.specs.Types.{base_type, value_type}
use Rattle.golf_code_shapes.proofs.Typings.{none-left, none-right, kept}
use Rattle.golf_code_shapes.proofs.Givens as by
use Rattle.golf_meaning_runs.specs.Sound.{SoundPart, One, Yields, YieldsBy, ShownBySource, IsOf}
use Rattle.golf_meaning_runs.specs.TypingLaws.{UnaryFits, BinaryFits, IndexFits, OperatorsFit, IsTruth}
use Rattle.golf_meaning_runs.specs.TypingLaws.{ConditionsDecide}
use Rattle.golf_meaning_runs.proofs.ValueKinds.{same-compared}
use Rattle.golf_meaning_runs.proofs.Calculus.{sound-as, lax, kind-bind, yields-visible, yields-then, two-then}

module _ (taking : Taking) where
  -- tests of types

  pub based : (b : Base) (g : Given) (f : Gives) → has_base b g ≡ true → YieldsBy taking g f
      → Yields taking (base_type b) f
  based b g f = by.based (λ u. Yields taking u f) b g

  pub giving : (g : Given) (f : Gives) → has_layer gives g ≡ true → YieldsBy taking g f → (e : GoType)
      × (element g ≡ Some e) × Yields taking (ValueType.Chan (value_type e)) f
  giving g f = by.giving (λ u. Yields taking u f) g

  pub sliced : (g : Given) (f : Gives) → has_layer is_slice g ≡ true → YieldsBy taking g f → (e : GoType)
      × (element g ≡ Some e) × Yields taking (ValueType.Slice (value_type e)) f
  sliced g f = by.sliced (λ u. Yields taking u f) g

  -- calculations

  negates : (v : Value) → IsOf taking ValueType.Int v → (w : World)
      → SoundPart taking (One taking ValueType.Int) (on_one negated (v ∷ []) w)
  negates v h w = kind-bind taking (λ n. Part.Gives (Value.Int (int_wrapping_neg w64 n)) w)
      (λ x u. Part.Gives (x ∷ []) u) (One taking ValueType.Int) w (int_of v) h (λ n strict. refl)

  inverts : (v : Value) → IsOf taking ValueType.Bool v → (w : World)
      → SoundPart taking (One taking ValueType.Bool) (on_one inverted (v ∷ []) w)
  inverts v h w = kind-bind taking (λ b. Part.Gives (Value.Bool (not b)) w) (λ x u. Part.Gives (x ∷ []) u)
      (One taking ValueType.Bool) w (bool_of v) h (λ b strict. refl)

  on-ints : (act : World → ℤ → ℤ → Part Value) (u : ValueType)
      → ((m n : ℤ) (w : World) → SoundPart taking (One taking u) (bind (act w m n) (λ y z. Part.Gives (y ∷ []) z)))
      → (v x : Value) → IsOf taking ValueType.Int v → IsOf taking ValueType.Int x → (w : World)
      → SoundPart taking (One taking u) (bind (ints w (act w) v x) (λ y z. Part.Gives (y ∷ []) z))
  on-ints act u k v x h i w =
      kind-bind taking (λ m. on_kind (λ n. act w m n) w (int_of x)) (λ y z. Part.Gives (y ∷ []) z) (One taking u) w
      (int_of v) h
      (λ m. kind-bind taking (λ n. act w m n) (λ y z. Part.Gives (y ∷ []) z) (One taking u) w (int_of x) i
      (λ n. k m n w))

  pub computes : (f : ℤ → ℤ → ℤ) (v x : Value) → IsOf taking ValueType.Int v → IsOf taking ValueType.Int x → (w : World)
      → SoundPart taking (One taking ValueType.Int) (on_two (computed f) (v ∷ (x ∷ [])) w)
  computes f = on-ints (λ w m n. Part.Gives (Value.Int (f m n)) w) ValueType.Int (λ m n w strict. refl)

  compares : (f : ℤ → ℤ → Bool) (v x : Value) → IsOf taking ValueType.Int v → IsOf taking ValueType.Int x → (w : World)
      → SoundPart taking (One taking ValueType.Bool) (on_two (compared f) (v ∷ (x ∷ [])) w)
  compares f = on-ints (λ w m n. Part.Gives (Value.Bool (f m n)) w) ValueType.Bool (λ m n w strict. refl)

  pub divides : (f : ℤ → ℤ → ℤ) (v x : Value) → IsOf taking ValueType.Int v → IsOf taking ValueType.Int x → (w : World)
      → SoundPart taking (One taking ValueType.Int) (on_two (divided f) (v ∷ (x ∷ [])) w)
  divides f = on-ints (λ w m n. chosen_by (is_zero n) (Part.Stops Halt.Divided w.operations)
      (Part.Gives (Value.Int (f m n)) w)) ValueType.Int (λ m n w. by m n w (is_zero n))
    where
      by : (m n : ℤ) (w : World) (b : Bool) → SoundPart taking (One taking ValueType.Int)
          (bind (chosen_by b (Part.Stops Halt.Divided w.operations) (Part.Gives (Value.Int (f m n)) w))
          (λ v u. Part.Gives (v ∷ []) u))
      by m n w true = tt
      by m n w false = λ strict. refl

  equates : (t : ValueType) (v x : Value) → IsOf taking t v → IsOf taking t x → (w : World)
      → SoundPart taking (One taking ValueType.Bool) (on_two equated (v ∷ (x ∷ [])) w)
  equates t v x h i w =
      kind-bind taking (λ b. Part.Gives (Value.Bool b) w) (λ y u. Part.Gives (y ∷ []) u) (One taking ValueType.Bool) w
      (equality v x)
      (λ strict. let c = same-compared t v x (h strict) (i strict) in subst (λ o. is_some o ≡ true) (sym c.1) refl)
      (λ b strict. refl)

  -- a truth value of two values, turned round
  negating : (g : List Value → Gives) (vs : List Value)
      → ((w : World) → SoundPart taking (One taking ValueType.Bool) (g vs w)) → (w : World)
      → SoundPart taking (One taking ValueType.Bool) (then_do (g vs) (on_one inverted) w)
  negating g vs h w = yields-then taking ValueType.Bool (g vs) (on_one inverted) (One taking ValueType.Bool) h inverts w

  -- unary operators

  unary-yields : (l : ℕ) (s : Scope) (o : UnaryOperator) (g : Given) (f : Gives) → unary_faults l s o g ≡ []
      → YieldsBy taking g f → ShownBySource taking (unary_meaning o g)
      (then_do f (unary_does taking o (unary_meaning o g)))
  unary-yields l s unary.Negate g f none h =
      yields-then taking ValueType.Int f (on_one negated) (One taking ValueType.Int)
      (based base.Int g f (kept l 8 (has_base base.Int g) none) h) negates
  unary-yields l s unary.Not g f none h =
      yields-then taking ValueType.Bool f (on_one inverted) (One taking ValueType.Bool)
      (based base.Bool g f (kept l 8 (has_base base.Bool g) none) h) inverts
  unary-yields l s unary.Receive g f none h =
      let c = giving g f (kept l 16 (has_layer gives g) (none-right _ _ none)) h in
      subst (λ o. ShownBySource taking (operand.Outcome o) (then_do f (visible taking Instr.Receive (o ∷ []))))
      (sym c.1)
      (yields-then taking (ValueType.Chan (value_type c.0)) f (visible taking Instr.Receive (Some c.0 ∷ []))
      (One taking (value_type c.0)) c.2 (λ v q w. yields-visible taking Instr.Receive c.0 (v ∷ []) refl
      (λ k. refl) w))

  unary-fits : UnaryFits taking
  unary-fits l s o j f h none = unary-yields l s o (given_by j) f (none-right (used l j) _ none)
      (h (none-left (used l j) _ none))

  -- binary operators

  -- if the first operand is true the second decides, or else
  choosing : (f k h : Gives) → Yields taking ValueType.Bool f → Yields taking ValueType.Bool k
      → Yields taking ValueType.Bool h → (w : World)
      → SoundPart taking (One taking ValueType.Bool) (then_do f (λ vs. if_true vs k h) w)
  choosing f k h yf yk yh = yields-then taking ValueType.Bool f (λ vs. if_true vs k h) (One taking ValueType.Bool) yf by
    where
      by : (v : Value) → IsOf taking ValueType.Bool v → (w : World)
          → SoundPart taking (One taking ValueType.Bool) (if_true (v ∷ []) k h w)
      by v q w = one (bool_of v) q
        where
          one : (m : Option Bool) → (taking.strict ≡ true → is_some m ≡ true)
              → SoundPart taking (One taking ValueType.Bool) (by_bool m w (k w) (h w))
          one None q = lax taking.strict q
          one (Some true) q = yk w
          one (Some false) q = yh w

  of-ints : (o : BinaryOperator) (u : ValueType) (g h : Given) (f k : Gives)
      → (has_base base.Int g && has_base base.Int h) ≡ true → YieldsBy taking g f → YieldsBy taking h k
      → ((v z : Value) → IsOf taking ValueType.Int v → IsOf taking ValueType.Int z → (w : World)
      → SoundPart taking (One taking u) (calculation o (v ∷ (z ∷ [])) w))
      → Yields taking u (then_do (both f k) (calculation o))
  of-ints o u g h f k holds x y calculates =
      let a = by.alike (λ u. Yields taking u f) (λ u. Yields taking u k) base.Int g h holds x y in
      two-then taking ValueType.Int ValueType.Int f k (calculation o) (One taking u) a.0 a.1 calculates

  binary-yields : (o : BinaryOperator) (g h : Given) (f k : Gives) → binary_fits o g h ≡ true → YieldsBy taking g f
      → YieldsBy taking h k → Yields taking (base_type (result_base o)) (binary_does o f k)
  binary-yields binary.Or g h f k holds x y = let a =
      by.alike (λ u. Yields taking u f) (λ u. Yields taking u k) base.Bool g h holds x y in choosing
      (then_do f (on_one inverted)) k (constant (Value.Bool true ∷ []))
      (yields-then taking ValueType.Bool f (on_one inverted) (One taking ValueType.Bool) a.0 inverts) a.1
      (λ w strict. refl)
  binary-yields binary.And g h f k holds x y = let a =
      by.alike (λ u. Yields taking u f) (λ u. Yields taking u k) base.Bool g h holds x y in choosing f k
      (constant (Value.Bool false ∷ [])) a.0 a.1 (λ w strict. refl)
  binary-yields binary.Equal g h f k holds x y = let c =
      by.compared (λ u. Yields taking u f) (λ u. Yields taking u k) g h holds x y in two-then taking c.0 c.0 f k
      (calculation binary.Equal)
      (One taking ValueType.Bool) c.1 c.2 (equates c.0)
  binary-yields binary.NotEqual g h f k holds x y = let c =
      by.compared (λ u. Yields taking u f) (λ u. Yields taking u k) g h holds x y in two-then taking c.0 c.0 f k
      (calculation binary.NotEqual)
      (One taking ValueType.Bool) c.1 c.2 (λ v z p q. negating (on_two equated) (v ∷ (z ∷ [])) (equates c.0 v z p q))
  binary-yields binary.Less g h f k holds x y = of-ints binary.Less ValueType.Bool g h f k holds x y (compares int_lt)
  binary-yields binary.AtMost g h f k holds x y =
      of-ints binary.AtMost ValueType.Bool g h f k holds x y (compares int_le)
  binary-yields binary.Greater g h f k holds x y =
      of-ints binary.Greater ValueType.Bool g h f k holds x y
      (λ v z p q. negating (on_two (compared int_le)) (v ∷ (z ∷ [])) (compares int_le v z p q))
  binary-yields binary.AtLeast g h f k holds x y =
      of-ints binary.AtLeast ValueType.Bool g h f k holds x y
      (λ v z p q. negating (on_two (compared int_lt)) (v ∷ (z ∷ [])) (compares int_lt v z p q))
  binary-yields binary.Add g h f k holds x y = of-ints binary.Add ValueType.Int g h f k holds x y (computes sum)
  binary-yields binary.Subtract g h f k holds x y =
      of-ints binary.Subtract ValueType.Int g h f k holds x y (computes difference)
  binary-yields binary.Multiply g h f k holds x y =
      of-ints binary.Multiply ValueType.Int g h f k holds x y (computes product)
  binary-yields binary.Divide g h f k holds x y =
      of-ints binary.Divide ValueType.Int g h f k holds x y (divides quotient)
  binary-yields binary.Remainder g h f k holds x y =
      of-ints binary.Remainder ValueType.Int g h f k holds x y (divides remainder)

  binary-fits : BinaryFits taking
  binary-fits l o j k f g hf hg none =
      let rest = none-right (used l j) _ none in
      binary-yields o (given_by j) (given_by k) f g
      (kept l 8 (binary_fits o (given_by j) (given_by k)) (none-right (used l k) _ rest))
      (hf (none-left (used l j) _ none)) (hg (none-left (used l k) _ rest))

  -- an element of a slice

  index-fits : IndexFits taking
  index-fits l j k f g env hf hg none =
      let rest = none-right (used l j) _ none in
      let both_fit = and_parts (has_layer is_slice (given_by j)) (has_base base.Int (given_by k))
      (kept l 8 _ (none-right (used l k) _ rest)) in
      let c = sliced (given_by j) f both_fit.0 (hf (none-left (used l j) _ none)) in
      let i = based base.Int (given_by k) g both_fit.1 (hg (none-left (used l k) _ rest)) in
      subst (λ o. ShownBySource taking (operand.Element o) (then_do (both f g) (visible taking Instr.Index (o ∷ []))))
      (sym c.1)
      (two-then taking (ValueType.Slice (value_type c.0)) ValueType.Int f g (visible taking Instr.Index (Some c.0 ∷ []))
      (One taking (value_type c.0)) c.2 i (λ v x p q w. yields-visible taking Instr.Index c.0 (v ∷ (x ∷ [])) refl
      (λ k. refl) w))

  pub operators-fit : OperatorsFit taking
  operators-fit = (unary-fits, binary-fits, index-fits)

  -- conditions

  pub conditions-decide : ConditionsDecide taking
  conditions-decide l j f h none w =
      sound-as taking (f w) (One taking ValueType.Bool) (IsTruth taking)
      (based base.Bool (given_by j) f (kept l 8 (has_base base.Bool (given_by j)) (none-right (used l j) _ none))
      (h (none-left (used l j) _ none)) w) by
    where
      by : (vs : List Value) → One taking ValueType.Bool vs → IsTruth taking vs
      by [] q = absurd q
      by (v ∷ []) q = (v, refl, q)
      by (v ∷ (x ∷ vs)) q = absurd q
