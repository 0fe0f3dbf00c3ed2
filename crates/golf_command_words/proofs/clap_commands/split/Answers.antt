use Rattle.std.proofs.Common.{◌≡◌, IfOk, map, option_and_then, string_bytes, subst, ap, ◌∙◌}
use Rattle.clap.specs.Simple.{App, subcommand_rows_of}
use Rattle.clap.specs.Faults.{is_simple_and_free}
use Rattle.golf_command_words.specs.ClapCommands.{matched, split_of}
use Rattle.golf_command_words.proofs.Commands.{simple_and_free}
use Rattle.golf_command_words.proofs.clap_commands.split.Goals as goal

pub match_words-requires : goal.match_words-requires
match_words-requires c = ap is_simple_and_free c.in_ok-command.ensures ∙ simple_and_free

pub returns : goal.returns
unfolding split_of
returns c =
    subst (λ (a : App). IfOk c.match_words.result
    (λ found. option_and_then subcommand_rows_of found ≡ matched a (map string_bytes c.args.words.now)))
    c.in_ok-command.ensures c.match_words.ensures
