-- Lines that tell how far a search is, on standard error (profile).
use Rattle.std.specs.Prelude.{◌≡◌, ℕ, zero, suc, ◌*◌, Bool, true, false, List, [], ◌∷◌, ◌++◌, Option, Result, Ok, Err}
use Rattle.std.specs.Prelude.{codes, decimal}
use Rattle.std.specs.Io.KnownBytes.{Appends}
use Rattle.golf_base.specs.Causes.{Rose, WritesPrefix}
use Rattle.golf_run_texts.specs.Writes.{Write}
use Rattle.golf_run.specs.declared.fault.RunFault.{RunFault}
use Rattle.golf_run.specs.declared.fault.RunFault.TheVariants as faults

-- the line with this number, from 1, tells of this many states
abbrev pub states_told : ℕ → ℕ
states_told n = n * 10000

abbrev pub progress_line : ℕ → List ℕ
progress_line states = decimal states ++ codes " states so far\n"

-- the first lines, and their writes
abbrev pub progress_text : ℕ → List ℕ
progress_text zero = []
progress_text (suc n) = progress_text n ++ progress_line (states_told (suc n))

abbrev pub progress : ℕ → List Write
progress zero = []
progress (suc n) = progress n ++ Write.ToErr (progress_line (states_told (suc n))) ∷ []

-- there are lines only if they are asked for, which is so if standard error is a terminal
abbrev pub MayTell : Bool → ℕ → Type 0
MayTell true n = Unit {0}
MayTell false n = n ≡ 0

-- standard error got the first lines
pub record HasToldLines (shows : Bool) (n : ℕ) (err err' : Option (List ℕ)) (ef ef' : ℕ) : Type 0 where
  pub may : MayTell shows n
  pub got : Appends err err' (progress_text n)
  pub quiet : ef' ≡ ef

-- standard error got the first lines, and the write of the next one failed
pub record IsCutInLine (shows : Bool) (err err' : Option (List ℕ)) (ef ef' : ℕ) : Type 0 where
  pub told : ℕ
  pub may : MayTell shows (suc told)
  pub mid : Option (List ℕ)
  pub got : Appends err mid (progress_text told)
  pub prefix : WritesPrefix mid err' (progress_line (states_told (suc told)))
  pub failed : Rose ef ef'

-- The result of a call that writes lines of progress. Without a fault this holds of it; without memory some lines were
-- told; or the write of one failed.
abbrev pub ToldUntil : {T : Type 0} → (T → Type 0) → Bool → Result T RunFault → Option (List ℕ) → Option (List ℕ) → ℕ
    → ℕ → Type 0
ToldUntil P shows (Ok x) err err' ef ef' = P x
ToldUntil P shows (Err faults.Memory) err err' ef ef' = (n : ℕ) × HasToldLines shows n err err' ef ef'
ToldUntil P shows (Err faults.Write) err err' ef ef' = IsCutInLine shows err err' ef ef'

-- the result of a call that writes some lines of progress and nothing else
abbrev pub Meanwhile : {T : Type 0} → (T → Type 0) → Bool → Result T RunFault → Option (List ℕ) → Option (List ℕ) → ℕ
    → ℕ → Type 0
Meanwhile P shows r err err' ef ef' =
    ToldUntil (λ x. P x × ((n : ℕ) × HasToldLines shows n err err' ef ef')) shows r err err' ef ef'
