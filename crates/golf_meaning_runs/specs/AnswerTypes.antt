-- The answers that a call got are of the types that its operations leave.
use Rattle.std.specs.Prelude.{◌≡◌, ℕ, ◌+◌, false, List, [], ◌∷◌, length, Some, slice_get}
use Rattle.golf_data.specs.declared.value.Value.{Value}
use Rattle.golf_data.specs.declared.code.Function.{Function}
use Rattle.golf_data.specs.declared.code.Instr.{Instr}
use Rattle.golf_data.specs.Effects.{taken, cases_taken}
use Rattle.golf_model_typing.specs.Types.{ValueType, Shape, FunctionTypes, Types, ValuesFit}
use Rattle.golf_model_typing.specs.Shapes.{InstructionFits, FunctionFits}
use Rattle.golf_meaning_flat.specs.Worlds.{Operation, Answer, pushed}
use Rattle.golf_meaning_flat.specs.Counts.{answer_left}
use Rattle.golf_meaning_flat.specs.Flat.{targets, lower, clause_of}
use Rattle.golf_meaning_runs.specs.FrameShapes.{giving}
use Rattle.golf_meaning_runs.specs.FlatSteps.{is_inner}
use Rattle.golf_meaning_runs.specs.Life.{Now, Life}
use Rattle.golf_meaning_runs.specs.TurnsInLives.{choice_of}

-- how many operands an operation takes; a choice takes those of all its cases
abbrev pub operands_taken : Instr → ℕ
operands_taken (Instr.Select cases otherwise) = cases_taken cases
operands_taken i = taken i

-- the instruction at a place shows this operation, and after an answer with this clause the call goes on at `to`
abbrev pub GoesOnTo : Instr → ℕ → Instr → ℕ → ℕ → Type 0
GoesOnTo (Instr.Select cases otherwise) at shown clause to = (shown ≡ choice_of cases otherwise)
    × (clause_of (lower (targets cases otherwise)) clause cases otherwise ≡ Some to)
GoesOnTo Instr.Panic at shown clause to = ⊥
GoesOnTo i at shown clause to = (is_inner i ≡ false) × (shown ≡ i) × (clause ≡ 0) × (to ≡ at + 1)

-- An operation and its answer fit their instruction. The instruction fits the shape of its place, which has the types
-- of the operands, and it takes that many operands. The shape of the place where the answer goes on has the types of
-- its values. The operands below are the same at both places.
pub record AnswerFits (types : Types) (known : List (ℕ × ValueType)) (ft : FunctionTypes) (o : Operation)
    (a : Answer) : Type 0 where
  pub at : ℕ
  pub instr : Instr
  pub before : Shape
  pub here : slice_get ft.shapes at ≡ Some before
  pub fits : InstructionFits types ft at instr before
  pub to : ℕ
  pub leads : GoesOnTo instr at o.instr a.clause to
  pub later : Shape
  pub there : slice_get ft.shapes to ≡ Some later
  pub rest : List Value
  pub count : length o.operands ≡ operands_taken instr
  pub operands : ValuesFit types known (pushed o.operands rest) before.operands
  pub values : ValuesFit types known (pushed a.values rest) later.operands

-- each answer has the property with its operation; there are at most as many answers as operations
abbrev pub AreAnswers : (Operation → Answer → Type 0) → List Operation → List Answer → Type 0
AreAnswers P os [] = Unit {0}
AreAnswers P [] (a ∷ got) = ⊥
AreAnswers P (o ∷ os) (a ∷ got) = P o a × AreAnswers P os got

-- each answer of a call fits its operation, if the function fits its types
abbrev pub AnswersAreTyped : Type 0
AnswersAreTyped = (types : Types) (known : List (ℕ × ValueType)) (fn : Function) (ft : FunctionTypes)
    (arguments : List Value) (os : List Operation) (got : List Answer) (now : Now) → FunctionFits types fn ft
    → Life fn (Some (record { types = types; known = known; shapes = ft.shapes })) arguments os got now
    → AreAnswers (AnswerFits types known ft) os got

-- an answer that fits has as many values as its operation leaves
abbrev pub AnswersAreCounted : Type 0
AnswersAreCounted = (types : Types) (known : List (ℕ × ValueType)) (ft : FunctionTypes) (o : Operation) (a : Answer)
    → AnswerFits types known ft o a → answer_left (giving types) o.instr a.clause ≡ Some (length a.values)
