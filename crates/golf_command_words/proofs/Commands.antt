-- What the faults of a program's words come to, and the program's commands.
-- For: `match_words`, `split`, src/clap_commands.rt; `matched`, `split_of`, specs/ClapCommands.antt
-- By: cases of the list of faults; computing what the commands are
use Rattle.std.proofs.Common.{◌≡◌, true, refl, sym, ap, ◌∙◌, List, [], ◌∷◌, Option, None}
use Rattle.clap.proofs.OnLiterals.{clap_on_literals}
use Rattle.clap.specs.Walk.{Row}
use Rattle.clap.specs.Kinds.{IsAmong, Kinds}
use Rattle.clap.specs.Simple.{App, subcommand_of}
use Rattle.clap.specs.Faults.{fault_of, is_simple_and_free}
use Rattle.clap.specs.declared.error.ErrorKind.{ErrorKind}
use Rattle.golf_command_words.specs.Values.{Text}
use Rattle.golf_command_words.specs.ClapCommands.{golf_app, matched, unless_fault}

-- an answer of a parse
pub answered : (a : App) (words : List Text) (found : Option (Text × List Row)) → fault_of a words ≡ []
    → found ≡ subcommand_of a words → found ≡ matched a words
answered a words found none rows = rows ∙ ap (λ ks. unless_fault ks (subcommand_of a words)) (sym none)

-- a refusal other than out of memory
pub refused : (k : ErrorKind) (ks : Kinds) (found : Option (Text × List Row)) → IsAmong k ks
    → None ≡ unless_fault ks found
refused k [] found among = absurd among
refused k (x ∷ xs) found among = refl

pub simple_and_free : is_simple_and_free golf_app ≡ true
unfolding clap_on_literals
simple_and_free = refl
