-- What a call without the right to wait says.
use Rattle.std.specs.Prelude.{◌≡◌, ℕ, List}
use Rattle.golf_command_words.specs.declared.line.CommandLine.{CommandLine}
use Rattle.golf_command_words.specs.Words.{IsWithin}
use Rattle.golf_command.specs.Promises.{StandFor}
use Rattle.golf_command.specs.Means.{View, Tells}
use Rattle.golf_command.specs.declared.top.Served.{Served}

-- the words ask for a run by so many threads, and nothing has changed
pub record AsksThreads (words : List (List ℕ)) (threads : ℕ) (old new : View) : Type 0 where
  pub line : StandFor words (CommandLine.Threads threads)
  pub within : IsWithin (CommandLine.Threads threads)
  pub same : new ≡ old

-- the status says all that it says after a call of `golf`, or the words ask for threads
abbrev pub HasServed : List (List ℕ) → Served → View → View → Type 0
HasServed words (Served.Done status) old new = Tells words status old new
HasServed words (Served.AsksThreads threads) old new = AsksThreads words threads old new
