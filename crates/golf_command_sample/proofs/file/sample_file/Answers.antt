use Rattle.golf_command_sample.proofs.Joins.{whole}
use Rattle.golf_command_sample.proofs.file.sample_file.Goals as goal

pub returns : goal.returns
returns c =
    whole c.args.count _ _ _ _ _ _ c.new-text.ensures c.in_ok-extend_from_slice.ensures.ok c.in_ok-add_parts.ensures
    c.in_ok-extend_from_slice-2.ensures.ok
    c.in_ok-add_calls.ensures c.in_ok-add_tail.ensures
