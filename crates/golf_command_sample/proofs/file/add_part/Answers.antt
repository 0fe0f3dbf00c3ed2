use Rattle.std.proofs.Common.{codes, decimal}
use Rattle.golf_command_sample.specs.File.{part_body}
use Rattle.golf_command_sample.proofs.Joins.{three}
use Rattle.golf_command_sample.proofs.file.add_part.Goals as goal

pub returns : goal.returns
returns c =
    three c.args.text.now (codes "func part") (decimal c.args.number) part_body _ _ _
    c.in_ok-extend_from_slice.ensures.ok c.in_ok-add_number.ensures c.in_ok-extend_from_slice-2.ensures.ok
