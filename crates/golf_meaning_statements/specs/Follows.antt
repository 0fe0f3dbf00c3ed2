-- When the code of a statement does what the statement does.
use Rattle.std.specs.Prelude.{◌≡◌, ℕ, ◌≤◌, List, length, take}
use Rattle.golf_data.specs.declared.value.Value.{Value}
use Rattle.golf_check_types.specs.declared.locals.Local.{Local}
use Rattle.golf_check_types.specs.declared.scopes.Scope.{Scope}
use Rattle.golf_check_types.specs.Statements.{Walk, behind}
use Rattle.golf_code_of.specs.declared.surroundings.Around.{Around}
use Rattle.golf_code_of.specs.Statements.{Lay}
use Rattle.golf_meaning_flat.specs.Worlds.{End, Told, World}
use Rattle.golf_meaning_flat.specs.Structured.{PieceExit, run}
use Rattle.golf_meaning_flat.specs.Laws.{Said}
use Rattle.golf_meaning_source.specs.Names.{Env}
use Rattle.golf_meaning_source.specs.Operations.{Taking}
use Rattle.golf_meaning_source.specs.Does.{frame, Stored, SlotsRise, Kept, Known}
use Rattle.golf_meaning_statements.specs.Flows.{Course, Flow}
use Rattle.golf_meaning_statements.specs.Steps.{Deed}

-- the environment is stored in the slots, and no other slot below `next` has changed
abbrev pub IsEnvStored : List Local → ℕ → List Value → List Local → Env → List Value → Type 0
IsEnvStored ds next slots after env now = Stored after env now × (length now ≡ length slots) × Kept ds next slots now

-- the way ends as the meaning does, unless nothing is said of its halt
abbrev pub EndsAlike : Told → End → PieceExit → Type 0
EndsAlike t (End.Halts h) o = Said h (o ≡ PieceExit.Ends t)
EndsAlike t End.Short o = o ≡ PieceExit.Ends t

-- The way goes as the flow does, from a scope with these locals and a frame with these slots. `break` and `continue`
-- leave by their targets, and a false condition leaves by target 0.
abbrev pub Goes : List Local → ℕ → List Value → List Value → List Local → Around → Flow → PieceExit → Type 0
Goes ds next slots rest after a (Flow.Goes Course.On env u) o = (now : List Value)
    × (o ≡ PieceExit.Through (frame now rest) u) × IsEnvStored ds next slots after env now
Goes ds next slots rest after a (Flow.Goes Course.Skips env u) o = (now : List Value)
    × (o ≡ PieceExit.Leaves 0 (frame now rest) u) × IsEnvStored ds next slots after env now
Goes ds next slots rest after a (Flow.Goes Course.Breaks env u) o = (now : List Value)
    × (o ≡ PieceExit.Leaves a.breaks (frame now rest) u) × IsEnvStored ds next slots ds (take (length ds) env) now
Goes ds next slots rest after a (Flow.Goes Course.Continues env u) o = (now : List Value)
    × (o ≡ PieceExit.Leaves a.continues (frame now rest) u) × IsEnvStored ds next slots ds (take (length ds) env) now
Goes ds next slots rest after a (Flow.Ends t) o = EndsAlike t t.end o

module _ (taking : Taking) where
  -- the code of a statement does what the statement does, if the frame has enough slots; the names that it declares
  -- have slots of their own
  pub record StatementMeans (w : Walk) (x : Lay) (d : Deed) : Type 0 where
    pub rises : (s : Scope) → SlotsRise s.next (behind s (w s)).next (w s).declares
    pub goes : (a : Around) (s : Scope) (n : ℕ) (env : Env) (slots : List Value) → Known s.locals s.next env slots
        → (behind s (w s)).next ≤ length slots
        → (at : ℕ) (ts : List ℕ) (rest : List Value) (u : World)
        → Goes s.locals s.next slots rest (behind s (w s)).locals a (d a s n env u)
        (run taking.gives n (x a s).piece at ts (frame slots rest) u)
