use Rattle.std.proofs.Common.{map, string_bytes}
use Rattle.golf_command_words.proofs.Law.{as_line, line_law, words_are_utf8}
use Rattle.golf_command_words.proofs.Limits.{as_within}
use Rattle.golf_command_words.proofs.command_lines.parse.Goals as goal

pub returns-clause-line : goal.returns-clause-line
returns-clause-line c =
    as_line (map string_bytes c.args.words.now) c.line_as_split.result
    (line_law (map string_bytes c.args.words.now) (words_are_utf8 c.args.words.now)) c.line_as_split.ensures

pub returns-clause-limits : goal.returns-clause-limits
returns-clause-limits c =
    as_within (map string_bytes c.args.words.now) c.line_as_split.result
    (as_line (map string_bytes c.args.words.now) c.line_as_split.result
    (line_law (map string_bytes c.args.words.now) (words_are_utf8 c.args.words.now)) c.line_as_split.ensures)
