-- The writes that a run did, also if it stopped early.
use Rattle.std.specs.Prelude.{◌≡◌, ℕ, List, [], ◌∷◌, ◌++◌, Option, Result, Ok, Err}
use Rattle.std.specs.Io.KnownBytes.{Appends}
use Rattle.golf_base.specs.Causes.{Rose}
use Rattle.golf_data.specs.declared.code.Code.{Code}
use Rattle.golf_run_schedules.specs.declared.options.RunOptions.{RunOptions}
use Rattle.golf_run_texts.specs.declared.status.Status.{Status}
use Rattle.golf_run_texts.specs.Output.{out_of, err_of, status_of}
use Rattle.golf_run_texts.specs.Writes.{Write, out_bytes, err_bytes, writes_of}
use Rattle.golf_run.specs.declared.fault.RunFault.{RunFault}
use Rattle.golf_run.specs.declared.fault.RunFault.TheVariants as faults

-- two sinks at one time: the bytes that were written, if they are known, and how often each sink has failed
pub record Sinks : Type 0 where
  pub out : Option (List ℕ)
  pub out_faults : ℕ
  pub err : Option (List ℕ)
  pub err_faults : ℕ

abbrev pub sinks : Option (List ℕ) → ℕ → Option (List ℕ) → ℕ → Sinks
sinks out out_faults err err_faults = record { out = out; out_faults = out_faults; err = err; err_faults = err_faults }

-- both sinks got exactly these writes
abbrev pub GotWrites : List Write → Sinks → Sinks → Type 0
GotWrites writes old new = Appends old.out new.out (out_bytes writes) × Appends old.err new.err (err_bytes writes)

-- the first write is a prefix of the second one, to the same sink
abbrev pub IsPrefixOf : Write → Write → Type 0
IsPrefixOf (Write.ToOut prefix) (Write.ToOut bytes) = (rest : List ℕ) × (bytes ≡ prefix ++ rest)
IsPrefixOf (Write.ToErr prefix) (Write.ToErr bytes) = (rest : List ℕ) × (bytes ≡ prefix ++ rest)
IsPrefixOf (Write.ToOut prefix) (Write.ToErr bytes) = ⊥
IsPrefixOf (Write.ToErr prefix) (Write.ToOut bytes) = ⊥

-- the sink of the write failed, and the other one did not
abbrev pub HasFailed : Write → Sinks → Sinks → Type 0
HasFailed (Write.ToOut bytes) old new = Rose old.out_faults new.out_faults × (new.err_faults ≡ old.err_faults)
HasFailed (Write.ToErr bytes) old new = (new.out_faults ≡ old.out_faults) × Rose old.err_faults new.err_faults

-- no write failed
pub record IsSteady (old new : Sinks) : Type 0 where
  pub out : new.out_faults ≡ old.out_faults
  pub err : new.err_faults ≡ old.err_faults

-- a write failed: those before it are whole, a prefix of it is done, and nothing was written after it
pub record WasCut (writes : List Write) (old new : Sinks) : Type 0 where
  pub done : List Write
  pub cut : Write
  pub prefix : Write
  pub later : List Write
  pub order : writes ≡ done ++ cut ∷ later
  pub is_prefix : IsPrefixOf prefix cut
  pub got : GotWrites (done ++ prefix ∷ []) old new
  pub failed : HasFailed cut old new

-- the writes stopped between two of them: those before are whole, and nothing was written after them
pub record WasStopped (writes : List Write) (old new : Sinks) : Type 0 where
  pub done : List Write
  pub later : List Write
  pub order : writes ≡ done ++ later
  pub got : GotWrites done old new
  pub steady : IsSteady old new

-- each sink got its whole text, and the status is that of the run
pub record GotWhole (answer : Status) (code : Code) (options : RunOptions) (old new : Sinks) : Type 0 where
  pub status : answer ≡ status_of code options
  pub out : Appends old.out new.out (out_of code options)
  pub err : Appends old.err new.err (err_of code options)

-- the meaning of the result of a run
abbrev pub HasRun : Result Status RunFault → Code → RunOptions → Sinks → Sinks → Type 0
HasRun (Ok status) code options old new = GotWhole status code options old new × IsSteady old new
HasRun (Err faults.Write) code options old new = WasCut (writes_of code options) old new
HasRun (Err faults.Memory) code options old new = WasStopped (writes_of code options) old new
