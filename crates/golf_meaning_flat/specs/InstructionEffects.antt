-- The effect of an instruction on a frame.
use Rattle.std.specs.Prelude.{ℕ, zero, suc, Bool, true, false, not, List, [], ◌∷◌, Option, Some, None, slice_get}
use Rattle.std.specs.Prelude.{slice_set, ℤ, int_lt, int_le}
use Rattle.golf_data.specs.declared.value.Value.{Value}
use Rattle.golf_data.specs.declared.code.Instr.{Instr}
use Rattle.golf_data.specs.declared.code.SelectCase.{SelectCase}
use Rattle.golf_model.specs.Values.{int_of, bool_of, equality, is_zero}
use Rattle.golf_model.specs.Arithmetic.{sum, difference, product, quotient, remainder}
use Rattle.std.specs.Int.{w64, int_wrapping_neg}
use Rattle.golf_data.specs.Effects.{taken}
use Rattle.golf_meaning_flat.specs.Worlds.{Answer, Misfit, Halt, World, Part, bind, asks, pushed}
use Rattle.golf_meaning_flat.specs.Counts.{is_counted}

-- a frame, without its place
pub record Frame : Type 0 where
  pub slots : List Value
  pub operands : List Value

-- an instruction without targets: the frame after it
abbrev pub Act : Type 0
Act = Frame → World → Part Frame

abbrev pub unfit : {A : Type 0} → World → Part A
unfit w = Part.Stops (Halt.Unfit Misfit.OfRule) w.operations

abbrev pub miscount : {A : Type 0} → World → Part A
miscount w = Part.Stops (Halt.Unfit Misfit.OfCount) w.operations

abbrev pub wrong_kind : {A : Type 0} → World → Part A
wrong_kind w = Part.Stops (Halt.Unfit Misfit.OfKind) w.operations

abbrev pub goes : Frame → List Value → World → Part Frame
goes c os w = Part.Gives (record { slots = c.slots; operands = os }) w

abbrev pub on_some : {A X : Type 0} → (X → Part A) → World → Option X → Part A
on_some act w None = unfit w
on_some act w (Some x) = act x

-- a value that is used as a value of a kind must be of this kind
abbrev pub on_kind : {A X : Type 0} → (X → Part A) → World → Option X → Part A
on_kind act w None = wrong_kind w
on_kind act w (Some x) = act x

abbrev pub one : {A : Type 0} → World → (Value → List Value → Part A) → List Value → Part A
one w act [] = unfit w
one w act (x ∷ rest) = act x rest

abbrev pub two : {A : Type 0} → World → (Value → Value → List Value → Part A) → List Value → Part A
two w act [] = unfit w
two w act (y ∷ []) = unfit w
two w act (y ∷ x ∷ rest) = act x y rest

-- takes n operands, as a list in source order
abbrev pub some_from : {A : Type 0} → World → ℕ → List Value → (List Value → List Value → Part A) → List Value → Part A
some_from w zero taken act rest = act taken rest
some_from w (suc n) taken act [] = unfit w
some_from w (suc n) taken act (v ∷ rest) = some_from w n (v ∷ taken) act rest

abbrev pub chosen_by : {A : Type 0} → Bool → Part A → Part A → Part A
chosen_by true a b = a
chosen_by false a b = b

-- Calculations from one value, or from two.

abbrev pub negated : World → Value → Part Value
negated w x = on_kind (λ n. Part.Gives (Value.Int (int_wrapping_neg w64 n)) w) w (int_of x)

abbrev pub inverted : World → Value → Part Value
inverted w x = on_kind (λ b. Part.Gives (Value.Bool (not b)) w) w (bool_of x)

abbrev pub ints : {A : Type 0} → World → (ℤ → ℤ → Part A) → Value → Value → Part A
ints w act x y = on_kind (λ m. on_kind (λ n. act m n) w (int_of y)) w (int_of x)

abbrev pub computed : (ℤ → ℤ → ℤ) → World → Value → Value → Part Value
computed f w x y = ints w (λ m n. Part.Gives (Value.Int (f m n)) w) x y

abbrev pub divided : (ℤ → ℤ → ℤ) → World → Value → Value → Part Value
divided f w x y = ints w (λ m n. chosen_by (is_zero n) (Part.Stops Halt.Divided w.operations)
    (Part.Gives (Value.Int (f m n)) w)) x y

abbrev pub compared : (ℤ → ℤ → Bool) → World → Value → Value → Part Value
compared f w x y = ints w (λ m n. Part.Gives (Value.Bool (f m n)) w) x y

abbrev pub equated : World → Value → Value → Part Value
equated w x y = on_kind (λ b. Part.Gives (Value.Bool b) w) w (equality x y)

-- Acts.

abbrev pub pushes : Value → Act
pushes v c w = goes c (v ∷ c.operands) w

abbrev pub loads : ℕ → Act
loads i c w = on_some (λ v. goes c (v ∷ c.operands) w) w (slice_get c.slots i)

abbrev pub stores : ℕ → Act
stores i c w = one w (λ v rest. on_some (λ (old : Value). Part.Gives
    (record { slots = slice_set c.slots i v; operands = rest }) w) w (slice_get c.slots i)) c.operands

abbrev pub drops : Act
drops c w = one w (λ v rest. goes c rest w) c.operands

abbrev pub doubles : Act
doubles c w = one w (λ v rest. goes c (v ∷ v ∷ rest) w) c.operands

abbrev pub doubles_two : Act
doubles_two c w = two w (λ x y rest. goes c (y ∷ x ∷ y ∷ x ∷ rest) w) c.operands

abbrev pub acts_on_one : (World → Value → Part Value) → Act
acts_on_one f c w = one w (λ x rest. bind (f w x) (λ v u. goes c (v ∷ rest) u)) c.operands

abbrev pub acts_on_two : (World → Value → Value → Part Value) → Act
acts_on_two f c w = two w (λ x y rest. bind (f w x y) (λ v u. goes c (v ∷ rest) u)) c.operands

abbrev pub returns : Act
returns c w = Part.Stops (Halt.Returned None) w.operations

abbrev pub returns_value : Act
returns_value c w = one w (λ v rest. Part.Stops (Halt.Returned (Some v)) w.operations) c.operands

-- `panic`: a visible operation that has no answer
abbrev pub panics : Act
panics c w = some_from w 1 [] (λ vs rest. bind (asks Instr.Panic vs w) (λ a u. miscount u)) c.operands

-- what an instruction does: it acts, or it goes on at targets
pub data Doing : Type 0 where
  Acts : (f : Act) → Doing
  Jumps : (t : ℕ) → Doing
  Tests : (t : ℕ) → Doing
  Chooses : (cases : List SelectCase) (otherwise : Option ℕ) → Doing

-- adds an operation and takes the next answer; the answer must have as many values as the operation leaves, where
-- `gives` says which functions give a value
abbrev pub gets : List Bool → Instr → List Value → World → Part Answer
gets gives i vs w = bind (asks i vs w) (λ a u. chosen_by (is_counted gives i a) (Part.Gives a u) (miscount u))

-- a visible operation: the values of its answer go on top of the operands as they are
abbrev pub shows : List Bool → Instr → Act
shows gives i c w = some_from w (taken i) []
    (λ vs rest. bind (gets gives i vs w) (λ a u. goes c (pushed a.values rest) u)) c.operands

abbrev pub doing : List Bool → Instr → Doing
doing gives (Instr.Int n) = Doing.Acts (pushes (Value.Int n))
doing gives (Instr.Bool b) = Doing.Acts (pushes (Value.Bool b))
doing gives (Instr.Text k) = Doing.Acts (pushes (Value.Text k))
doing gives Instr.Unit = Doing.Acts (pushes Value.Unit)
doing gives Instr.Nil = Doing.Acts (pushes Value.Nil)
doing gives (Instr.Load i) = Doing.Acts (loads i)
doing gives (Instr.Store i) = Doing.Acts (stores i)
doing gives Instr.Drop = Doing.Acts drops
doing gives Instr.Dup = Doing.Acts doubles
doing gives Instr.Dup2 = Doing.Acts doubles_two
doing gives Instr.Neg = Doing.Acts (acts_on_one negated)
doing gives Instr.Not = Doing.Acts (acts_on_one inverted)
doing gives Instr.Add = Doing.Acts (acts_on_two (computed sum))
doing gives Instr.Sub = Doing.Acts (acts_on_two (computed difference))
doing gives Instr.Mul = Doing.Acts (acts_on_two (computed product))
doing gives Instr.Div = Doing.Acts (acts_on_two (divided quotient))
doing gives Instr.Rem = Doing.Acts (acts_on_two (divided remainder))
doing gives Instr.Eq = Doing.Acts (acts_on_two equated)
doing gives Instr.Less = Doing.Acts (acts_on_two (compared int_lt))
doing gives Instr.AtMost = Doing.Acts (acts_on_two (compared int_le))
doing gives (Instr.Jump t) = Doing.Jumps t
doing gives (Instr.JumpIfNot t) = Doing.Tests t
doing gives (Instr.Select cases otherwise) = Doing.Chooses cases otherwise
doing gives Instr.Return = Doing.Acts returns
doing gives Instr.ReturnValue = Doing.Acts returns_value
doing gives Instr.Panic = Doing.Acts panics
doing gives i = Doing.Acts (shows gives i)
