-- The instruction that begins a function: `go` or `defer` (Go specification, "Go statements", "Defer statements").
use Rattle.std.specs.Prelude.{ℕ}
use Rattle.golf_data.specs.declared.code.Instr.{Instr}
use Rattle.golf_code_statements.specs.declared.begins.Begins.{Begins}
use Rattle.golf_code_statements.specs.declared.begins.Begins.TheVariants as begins

abbrev pub begin_of : Begins → ℕ → ℕ → Instr
begin_of begins.Go = Instr.Go
begin_of begins.Defer = Instr.Defer
