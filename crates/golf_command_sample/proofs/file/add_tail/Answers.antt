use Rattle.std.proofs.Common.{codes, decimal}
use Rattle.golf_command_sample.proofs.Joins.{three}
use Rattle.golf_command_sample.proofs.file.add_tail.Goals as goal

pub returns : goal.returns
returns c =
    three c.args.text.now (codes "\tfor i := 0; i < ") (decimal c.args.count)
    (codes "; i++ {\n\t}\n\truntime.GC()\n}\n") _ _ _
    c.in_ok-extend_from_slice.ensures.ok c.in_ok-add_number.ensures c.in_ok-extend_from_slice-2.ensures.ok
