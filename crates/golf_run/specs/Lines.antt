-- Lines that are written one by one.
use Rattle.std.specs.Prelude.{◌≡◌, ℕ, List, ◌∷◌, ◌++◌, Option, Result, Ok, Err}
use Rattle.std.specs.Io.KnownBytes.{Appends}
use Rattle.golf_base.specs.Causes.{Rose}
use Rattle.golf_run_texts.specs.Output.{joined}
use Rattle.golf_run.specs.declared.fault.RunFault.{RunFault}
use Rattle.golf_run.specs.declared.fault.RunFault.TheVariants as faults

-- a write failed in the middle of a line: the lines before it are whole, and a prefix of it is written
pub record IsCutIn (lines : List (List ℕ)) (old new : Option (List ℕ)) : Type 0 where
  pub done : List (List ℕ)
  pub cut : List ℕ
  pub prefix : List ℕ
  pub rest : List ℕ
  pub later : List (List ℕ)
  pub order : lines ≡ done ++ cut ∷ later
  pub is_prefix : cut ≡ prefix ++ rest
  pub got : Appends old new (joined done ++ prefix)

-- the writes stopped between two lines
pub record IsStoppedIn (lines : List (List ℕ)) (old new : Option (List ℕ)) : Type 0 where
  pub done : List (List ℕ)
  pub later : List (List ℕ)
  pub order : lines ≡ done ++ later
  pub got : Appends old new (joined done)

-- all lines were written; or a write failed in the middle of a line; or memory ran out between two lines
abbrev pub HasWritten : {X : Type 0} → Result X RunFault → List (List ℕ) → Option (List ℕ) → Option (List ℕ) → ℕ → ℕ
    → Type 0
HasWritten (Ok x) lines old new before now = Appends old new (joined lines) × (now ≡ before)
HasWritten (Err faults.Write) lines old new before now = IsCutIn lines old new × Rose before now
HasWritten (Err faults.Memory) lines old new before now = IsStoppedIn lines old new × (now ≡ before)
