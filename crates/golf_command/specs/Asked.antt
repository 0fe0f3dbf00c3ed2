-- The number of threads that a command line asks for.
use Rattle.std.specs.Prelude.{ℕ, Option, Some, None, Result, Ok, Err}
use Rattle.golf_base.specs.declared.Memory.{Memory}
use Rattle.golf_command_words.specs.declared.line.CommandLine.{CommandLine}

-- the number of threads, if the command line asks for them
abbrev pub threads_asked : Result (Option CommandLine) Memory → Option ℕ
threads_asked (Ok (Some (CommandLine.Threads n))) = Some n
threads_asked (Ok (Some (CommandLine.Run options))) = None
threads_asked (Ok (Some (CommandLine.Generate n))) = None
threads_asked (Ok (Some CommandLine.Meaning)) = None
threads_asked (Ok None) = None
threads_asked (Err m) = None
