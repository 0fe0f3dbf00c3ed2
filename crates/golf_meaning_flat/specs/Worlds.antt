-- Visible operations and their answers, and how a meaning ends.
use Rattle.std.specs.Prelude.{ℕ, List, [], ◌∷◌, ◌++◌, Option}
use Rattle.golf_data.specs.declared.value.Value.{Value}
use Rattle.golf_data.specs.declared.code.Instr.{Instr}

-- an instruction with its operands in source order; in a `select` each target is the place of its clause
pub record Operation : Type 0 where
  pub instr : Instr
  pub operands : List Value

-- the chosen clause, 0 for any operation but `select`, and the values that the operation leaves, in source order
pub record Answer : Type 0 where
  pub clause : ℕ
  pub values : List Value

-- why no more is said of a meaning: an answer has the wrong number of values (OfCount), a value of an answer is not of
-- its type for a source that looks at types (OfAnswer), a value is not of the kind that its use needs (OfKind), or no
-- rule fits a number of operands or a name (OfRule)
pub data Misfit : Type 0 where
  OfCount : Misfit
  OfAnswer : Misfit
  OfKind : Misfit
  OfRule : Misfit

-- how a meaning halts
pub data Halt : Type 0 where
  Returned : (value : Option Value) → Halt
  Divided : Halt
  Waits : Halt
  Unfit : (of : Misfit) → Halt

-- how a meaning ends; it is short if a loop, or the code, would need a higher bound
pub data End : Type 0 where
  Halts : (h : Halt) → End
  Short : End

-- a meaning: its visible operations in order, and its end
pub record Told : Type 0 where
  pub operations : List Operation
  pub end : End

-- the answers that are left, and the operations that were done
pub record World : Type 0 where
  pub answers : List Answer
  pub operations : List Operation

abbrev pub halted : Halt → List Operation → Told
halted h os = record { operations = os; end = End.Halts h }

abbrev pub cut_short : World → Told
cut_short w = record { operations = w.operations; end = End.Short }

-- a part of a meaning, without loops: it gives a result and goes on, or it halts
pub data Part (A : Type 0) : Type 0 where
  Gives : (a : A) (w : World) → Part A
  Stops : (h : Halt) (os : List Operation) → Part A

abbrev pub bind : {A B : Type 0} → Part A → (A → World → Part B) → Part B
bind (Part.Gives a w) f = f a w
bind (Part.Stops h os) f = Part.Stops h os

abbrev pub done : World → Instr → List Value → List Operation
done w i vs = w.operations ++ record { instr = i; operands = vs } ∷ []

-- adds an operation and takes the next answer
abbrev pub asked : List Answer → List Operation → Part Answer
asked [] os = Part.Stops Halt.Waits os
asked (a ∷ later) os = Part.Gives a (record { answers = later; operations = os })

abbrev pub asks : Instr → List Value → World → Part Answer
asks i vs w = asked w.answers (done w i vs)

-- the values, given in source order, pushed on top of the others; the last one comes first
abbrev pub pushed : List Value → List Value → List Value
pushed [] rest = rest
pushed (v ∷ vs) rest = pushed vs (v ∷ rest)
