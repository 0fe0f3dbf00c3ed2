-- The numbers of the statuses (profile).
use Rattle.std.specs.Prelude.{ℕ}
use Rattle.golf_run_texts.specs.declared.status.Status.{Status}

abbrev pub code_of : Status → ℕ
code_of Status.Clean = 0
code_of Status.Found = 1
code_of Status.Crashed = 2
code_of Status.Spent = 3
code_of Status.Refused = 4
code_of Status.Usage = 5
code_of Status.ReadFault = 6
code_of Status.WriteFault = 7
code_of Status.Memory = 8
