use Rattle.golf_command_sample.proofs.Counting.{lines}
use Rattle.golf_command_sample.proofs.file.file_lines.Goals as goal

pub returns : goal.returns
returns c = lines
