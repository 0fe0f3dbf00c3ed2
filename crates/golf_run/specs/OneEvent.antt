-- One event of a run, before the collection that may follow it.
use Rattle.std.specs.Prelude.{◌≡◌, ℕ, Bool, true, List, [], ◌∷◌, Option, Result, Ok, Err}
use Rattle.std.specs.Io.KnownBytes.{Appends}
use Rattle.golf_base.specs.Causes.{Rose, WritesPrefix}
use Rattle.golf_data.specs.declared.code.Code.{Code}
use Rattle.golf_model.specs.State.{State}
use Rattle.golf_model.specs.Turn.{step, wants_collection}
use Rattle.golf_model.specs.Runs.{Event}
use Rattle.golf_run_texts.specs.Writes.{Write, emptied}
use Rattle.golf_run.specs.declared.fault.RunFault.{RunFault}
use Rattle.golf_run.specs.declared.fault.RunFault.TheVariants as faults

-- the state after the event's turn, if it is one, without its output
abbrev pub turned : Code → Event → State → State
turned code (Event.Turn c) s = emptied (step code s c)
turned code Event.Collect s = s

-- the output of the turn
abbrev pub prints : Code → Event → State → List ℕ
prints code (Event.Turn c) s = (step code s c).output
prints code Event.Collect s = []

-- the write of this output
abbrev pub says : Code → Event → State → List Write
says code (Event.Turn c) s = Write.ToOut (step code s c).output ∷ []
says code Event.Collect s = []

-- whether a collection follows
abbrev pub collects : Code → Event → State → Bool
collects code (Event.Turn c) s = wants_collection code s c
collects code Event.Collect s = true

-- The output of the turn was written, and the state is the one after it. Or the write failed in the middle. Or memory
-- ran out, and nothing was written. Only turns fail.
abbrev pub HasTurned : Result Bool RunFault → Code → Event → State → State → Option (List ℕ) → Option (List ℕ) → ℕ → ℕ
    → Type 0
HasTurned (Ok wants) code e s after out out' before now = (wants ≡ collects code e s) × (after ≡ turned code e s)
    × Appends out out' (prints code e s) × (now ≡ before)
HasTurned (Err faults.Write) code (Event.Turn c) s after out out' before now =
    WritesPrefix out out' (step code s c).output × Rose before now
HasTurned (Err faults.Memory) code (Event.Turn c) s after out out' before now = (out' ≡ out) × (now ≡ before)
HasTurned (Err faults.Write) code Event.Collect s after out out' before now = ⊥
HasTurned (Err faults.Memory) code Event.Collect s after out out' before now = ⊥
