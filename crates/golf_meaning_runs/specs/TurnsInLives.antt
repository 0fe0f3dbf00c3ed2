-- What the turn of a goroutine is in the life of the call in its innermost frame.
use Rattle.std.specs.Prelude.{◌≡◌, ℕ, cond, List, [], ◌∷◌, ◌++◌, map, Option, Some, None, slice_get}
use Rattle.std.specs.Option.{option_map}
use Rattle.golf_theory.specs.Membership.{In}
use Rattle.golf_data.specs.declared.value.Value.{Value}
use Rattle.golf_data.specs.declared.code.Code.{Code}
use Rattle.golf_data.specs.declared.code.CodeLine.{CodeLine}
use Rattle.golf_data.specs.declared.code.Function.{Function}
use Rattle.golf_data.specs.declared.code.Instr.{Instr}
use Rattle.golf_data.specs.declared.code.SelectCase.{SelectCase}
use Rattle.golf_data.specs.declared.goroutine.PanicKind.{PanicKind}
use Rattle.golf_data.specs.Effects.{taken, cases_taken}
use Rattle.golf_model.specs.State.{State}
use Rattle.golf_model.specs.Changes.{Change}
use Rattle.golf_model.specs.Actors.{Actor, stands, panics}
use Rattle.golf_model.specs.Calls.{returns_by}
use Rattle.golf_model.specs.Turn.{changes}
use Rattle.golf_meaning_flat.specs.Worlds.{Operation, Answer, Halt, pushed}
use Rattle.golf_meaning_flat.specs.InstructionEffects.{Frame, doing}
use Rattle.golf_meaning_flat.specs.Flat.{targets, lower, relabelled}
use Rattle.golf_meaning_runs.specs.FrameShapes.{Shaping, IsShaped, FitsShaping}
use Rattle.golf_meaning_runs.specs.FlatSteps.{Stepped, stepped, frame_of, is_inner}
use Rattle.golf_meaning_runs.specs.VisibleOutcomes.{split_from, ComesTo, IsAwake}
use Rattle.golf_meaning_runs.specs.TurnLaws.{After, WaitsAfter, WaitsFor}
use Rattle.golf_meaning_runs.specs.Life.{world, frame, Now, Life}

abbrev pub operation : Instr → List Value → Operation
operation i vs = record { instr = i; operands = vs }

abbrev pub answer : ℕ → List Value → Answer
answer clause values = record { clause = clause; values = values }

-- the operation of a `select`: each target is the place of its clause
abbrev pub choice_of : List SelectCase → Option ℕ → Instr
choice_of cases otherwise = Instr.Select (map (relabelled (lower (targets cases otherwise))) cases)
    (option_map (lower (targets cases otherwise)) otherwise)

-- an operation that waits for its answer: the targets of a `select`, none for any other; and the operands below its own
pub record Asked : Type 0 where
  pub ranks : List ℕ
  pub rest : List Value

-- the operation that an instruction shows with these operands, and how it waits
abbrev pub plain_shown : Instr → Option (List Value × List Value) → Option (Operation × Asked)
plain_shown i None = None
plain_shown i (Some o) = Some (operation i o.0, record { ranks = []; rest = o.1 })

abbrev pub choice_shown : Instr → List ℕ → Option (List Value × List Value) → Option (Operation × Asked)
choice_shown i ts None = None
choice_shown i ts (Some o) = Some (operation i o.0, record { ranks = ts; rest = o.1 })

abbrev pub shows : Instr → List Value → Option (Operation × Asked)
shows (Instr.Select cases otherwise) os =
    choice_shown (choice_of cases otherwise) (targets cases otherwise) (split_from (cases_taken cases) [] os)
shows i os = cond (is_inner i) None (plain_shown i (split_from (taken i) [] os))

-- How a call ends with an instruction at this place. It does not matter which functions give a value.
abbrev pub ended_by : Stepped → Option Halt
ended_by (Stepped.Halts (Halt.Returned v) os) = Some (Halt.Returned v)
ended_by (Stepped.Halts Halt.Divided os) = Some Halt.Divided
ended_by _ = None

abbrev pub ends_with : Instr → ℕ → Frame → Option Halt
ends_with i at c = ended_by (stepped [] (doing [] i) at c (world [] []))

-- the call has shown one more operation, and waits for its answer; with any values it lives on at each place where
-- answers go on, if its frame has the shape of that place
pub record Asking (fn : Function) (shaping : Option Shaping) (arguments : List Value) (shown : List Operation)
    (got : List Answer) (o : Operation) (a : Actor) (rest : List Value) (Answering : ℕ → Type 0)
    (clause : ℕ → ℕ) : Type 0 where
  pub asks : Life fn shaping arguments (shown ++ o ∷ []) got (Now.Asks a.frame.at (frame_of a.frame) shown)
  pub lives_on : (to : ℕ) (values : List Value) → Answering to
      → IsShaped shaping to (frame a.frame.slots (pushed values rest))
      → Life fn shaping arguments (shown ++ o ∷ []) (got ++ answer (clause to) values ∷ [])
      (Now.Stands to (frame a.frame.slots (pushed values rest)))

-- What a turn is in the life of a call: it shows nothing; it returns or divides by zero; no rule fits; it shows an
-- operation, of a `select` or another, and the changes are an outcome of the operation; or it panics.
pub data IsLived (code : Code) (s : State) (fn : Function) (shaping : Option Shaping) (arguments : List Value)
    (shown : List Operation) (got : List Answer) (a : Actor) (i : Instr) (m : Option (Operation × Asked))
    (e : Option Halt) (cs : List Change) : Type 0 where
  Silent : (to : ℕ) (d : Frame) → Life fn shaping arguments shown got (Now.Stands to d) → m ≡ None → e ≡ None
      → cs ≡ stands a (record a.frame { at = to; slots = d.slots; operands = d.operands })
      → IsLived code s fn shaping arguments shown got a i m e cs
  Returns : (v : Option Value) (rest : List Value) → Life fn shaping arguments shown got (Now.Halted (Halt.Returned v))
      → m ≡ None → e ≡ Some (Halt.Returned v) → cs ≡ returns_by a v rest a.frame.deferred
      → IsLived code s fn shaping arguments shown got a i m e cs
  Divides : Life fn shaping arguments shown got (Now.Halted Halt.Divided) → m ≡ None → e ≡ Some Halt.Divided
      → cs ≡ panics a PanicKind.DivideByZero → IsLived code s fn shaping arguments shown got a i m e cs
  NoRule : cs ≡ [] → IsLived code s fn shaping arguments shown got a i m e cs
  Shows : (vs rest : List Value) → Asking fn shaping arguments shown got (operation i vs) a rest (After a) (λ to. 0)
      → m ≡ Some (operation i vs, record { ranks = []; rest = rest })
      → ComesTo code s a i vs rest (After a) (WaitsAfter a) cs
      → IsLived code s fn shaping arguments shown got a i m e cs
  Chooses : (cases : List SelectCase) (otherwise : Option ℕ) (vs rest : List Value) → i ≡ Instr.Select cases otherwise
      → Asking fn shaping arguments shown got (operation (choice_of cases otherwise) vs) a rest
      (λ to. In to (targets cases otherwise)) (lower (targets cases otherwise))
      → m ≡ Some (operation (choice_of cases otherwise) vs, record { ranks = targets cases otherwise; rest = rest })
      → ComesTo code s a i vs rest (λ to. In to (targets cases otherwise)) (WaitsFor (targets cases otherwise)) cs
      → IsLived code s fn shaping arguments shown got a i m e cs
  Throws : (v : Value) (k : ℕ) → Life fn shaping arguments (shown ++ operation Instr.Panic (v ∷ []) ∷ []) got
      (Now.Asks a.frame.at (frame_of a.frame) shown) → (rest : List Value)
      → m ≡ Some (operation Instr.Panic (v ∷ []), record { ranks = []; rest = rest })
      → cs ≡ panics a (PanicKind.Custom k) → IsLived code s fn shaping arguments shown got a i m e cs

-- if a function fits its types, a turn of the machine on the frame of a call of it is one step of the call's life
abbrev pub TurnsAreLived : Type 0
TurnsAreLived = (code : Code) (fn : Function) (shaping : Option Shaping) (arguments : List Value)
    (shown : List Operation) (got : List Answer) (a : Actor) (choice : ℕ) (s : State) (l : CodeLine)
    → slice_get fn.body a.frame.at ≡ Some l
    → FitsShaping fn shaping → Life fn shaping arguments shown got (Now.Stands a.frame.at (frame_of a.frame))
    → IsShaped shaping a.frame.at (frame_of a.frame) → IsAwake s a.number
    → IsLived code s fn shaping arguments shown got a l.instr (shows l.instr a.frame.operands)
    (ends_with l.instr a.frame.at (frame_of a.frame)) (changes code l.instr a choice s)
