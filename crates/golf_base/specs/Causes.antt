-- Counts of faults, and what reads and writes did to known bytes.
use Rattle.std.specs.Prelude.{◌≡◌, ℕ, ◌+◌, ◌-◌, ◌^◌, ◌<◌, ◌≤◌, ◌⊎◌, min, List, ◌++◌, length, Option, Result, OnOk}
use Rattle.std.specs.Prelude.{OnErr}
use Rattle.std.specs.Io.KnownBytes.{Appends, Consumes}

-- one more fault; the last value of the type stays as it is
abbrev pub next_fault : ℕ → ℕ
next_fault faults = min (faults + 1) (2 ^ 64 - 1)

-- the count has risen, or it was and is the last value of its type
abbrev pub Rose : ℕ → ℕ → Type 0
Rose before now = (before < now) ⊎ ((before ≡ 2 ^ 64 - 1) × (now ≡ before))

-- an error comes only if the count rose, and without an error the count stays the same
pub record HasCause {T E : Type 0} (before now : ℕ) (result : Result T E) : Type 0 where
  pub later : before ≤ now
  pub failed : OnErr result (Rose before now)
  pub steady : OnOk result (now ≡ before)

-- more known bytes than the limit were taken
abbrev pub ReadsSome : Option (List ℕ) → Option (List ℕ) → ℕ → Type 0
ReadsSome old new limit = (bytes : List ℕ) × Consumes old new bytes × (limit < length bytes)

-- a prefix of the piece was appended
abbrev pub WritesPrefix : Option (List ℕ) → Option (List ℕ) → List ℕ → Type 0
WritesPrefix old new piece = (prefix rest : List ℕ) × (piece ≡ prefix ++ rest) × Appends old new prefix
