use Rattle.std.proofs.Common.{None}
use Rattle.clap.specs.Words.{found_of, rows_of}
use Rattle.golf_command_words.specs.Words.{run_by_values}
use Rattle.golf_command_words.specs.ClapCommands.{by_rows}
use Rattle.golf_command_words.proofs.Limits.{line-is, rows-within}
use Rattle.golf_command_words.proofs.command_lines.run_line.Goals as goal

pub returns-in-None-clause-limits : goal.returns-in-None-clause-limits
returns-in-None-clause-limits c =
    let rows = rows_of (found_of c.args.matches.now) in
    line-is (by_rows (run_by_values c.args.most) rows) (rows-within c.args.most None rows) c.options_line.result
    c.options_line.ensures
