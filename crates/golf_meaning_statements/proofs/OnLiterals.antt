-- What a proof unfolds to compute the meaning of a body that is written out.
-- For: the worked bodies of Bodies.antt, BodiesOfLoops.antt, BodiesOfCalls.antt and WholeFunctions.antt
-- By: naming the definitions
use Rattle.std.specs.Prelude.{⊤}
use Rattle.golf_check_types.specs.Scopes.{meaning, type_name, value_name, call_name, package_name, member, is_here}
use Rattle.golf_check_types.specs.Scopes.{is_reserved, may_be_declared}
use Rattle.golf_check_types.specs.Written.{named_base, made_base, sync_base}
use Rattle.golf_check_types.specs.Expressions.{fmt_member, runtime_member, sync_member, condition_member}
use Rattle.golf_check_types.specs.Expressions.{condition_method, mutex_method, group_method, read_method, write_method}
use Rattle.golf_check_types.specs.Expressions.{field_type}
use Rattle.golf_check_types.specs.Statements.{assigned_name, kept_faults, pair_differs, put_in_faults}
use Rattle.golf_check_types.specs.Statements.{range_names_differ}
use Rattle.golf_code_of.specs.Table.{text_number}

unfoldable pub on_literals : ⊤
unfolding meaning type_name value_name call_name package_name text_number named_base made_base sync_base member
    fmt_member runtime_member sync_member condition_member condition_method mutex_method group_method read_method
    write_method field_type is_here is_reserved may_be_declared assigned_name kept_faults pair_differs put_in_faults
    range_names_differ
on_literals = tt
