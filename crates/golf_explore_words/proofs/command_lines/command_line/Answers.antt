use Rattle.std.proofs.Common.{IfSome, sym, subst}
use Rattle.clap.specs.Words.{found_of, rows_of}
use Rattle.golf_explore_words.specs.Words.{IsSearchWithin}
use Rattle.golf_explore_words.proofs.Limits.{search_within}
use Rattle.golf_explore_words.proofs.command_lines.command_line.Goals as goal

pub returns-in-Some-2-clause-limits : goal.returns-in-Some-2-clause-limits
returns-in-Some-2-clause-limits c = subst (λ line. IfSome line IsSearchWithin) (sym c.search_line.ensures)
    (search_within (rows_of (found_of c.in-Some-subcommand.options.now)))
