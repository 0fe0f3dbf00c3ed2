-- The code of loops, against code that was written by hand.
use Rattle.std.specs.Prelude.{◌≡◌, pos, [], ◌∷◌, codes}
use Rattle.golf_syntax_trees.specs.declared.expressions.BinaryOperator.TheVariants as operator
use Rattle.golf_syntax_trees.specs.declared.statements.RangeNames.TheVariants as range
use Rattle.golf_data.specs.declared.code.Instr.{Instr}
use Rattle.golf_check_types.specs.Scopes.{meaning, type_name, value_name, call_name, package_name, member, is_here}
use Rattle.golf_check_types.specs.Scopes.{is_reserved, may_be_declared}
use Rattle.golf_check_types.specs.Written.{named_base, made_base, sync_base}
use Rattle.golf_check_types.specs.Expressions.{fmt_member, runtime_member, sync_member, condition_member}
use Rattle.golf_check_types.specs.Expressions.{condition_method, mutex_method, group_method, read_method, write_method}
use Rattle.golf_check_types.specs.Expressions.{field_type}
use Rattle.golf_check_types.specs.Statements.{assigned_name, kept_faults, pair_differs, put_in_faults}
use Rattle.golf_check_types.specs.Statements.{range_names_differ}
use Rattle.golf_code_of.specs.Table.{text_number}
use Rattle.golf_code_of.proofs.Examples.Writing.{name, integer, binary, line}
use Rattle.golf_code_of.proofs.Examples.Doing.{increment, assign, define, does, break, continue, if_then, forever}
use Rattle.golf_code_of.proofs.Examples.Doing.{while, steps_empty, steps, range_over, code, works_out}

-- for { break }
pub endless_loop : code (forever 1 (break 2 ∷ []) ∷ []) ≡
    line 2 (Instr.Jump 2 ∷ []) (line 1 (Instr.Jump 0 ∷ []) [])
unfolding meaning type_name value_name call_name package_name text_number named_base made_base sync_base member
    fmt_member runtime_member sync_member condition_member condition_method mutex_method group_method read_method
    write_method field_type is_here is_reserved may_be_declared assigned_name kept_faults pair_differs put_in_faults
    range_names_differ
endless_loop = works_out (forever 1 (break 2 ∷ []) ∷ [])

-- for b { continue; break }
pub loop_with_a_condition : code (while 1 (name (codes "b")) (continue 2 ∷ break 3 ∷ []) ∷ []) ≡
    line 1 (Instr.Load 3 ∷ Instr.JumpIfNot 5 ∷ [])
    (line 2 (Instr.Jump 0 ∷ []) (line 3 (Instr.Jump 5 ∷ []) (line 1 (Instr.Jump 0 ∷ []) [])))
unfolding meaning type_name value_name call_name package_name text_number named_base made_base sync_base member
    fmt_member runtime_member sync_member condition_member condition_method mutex_method group_method read_method
    write_method field_type is_here is_reserved may_be_declared assigned_name kept_faults pair_differs put_in_faults
    range_names_differ
loop_with_a_condition = works_out (while 1 (name (codes "b")) (continue 2 ∷ break 3 ∷ []) ∷ [])

-- for i := 0; i < n; i++ { if i == 1 { continue }; break }
pub loop_of_three_parts : code (steps 1 (define 1 (codes "i") (integer (codes "0")))
    (binary operator.Less (name (codes "i")) (name (codes "n"))) (increment 1 (name (codes "i")))
    (if_then 2 (binary operator.Equal (name (codes "i")) (integer (codes "1"))) (continue 3 ∷ []) ∷ break 5 ∷ []) ∷ [])
    ≡
    line 1 (Instr.Int (pos 0) ∷ Instr.Store 9 ∷ Instr.Load 9 ∷ Instr.Load 2 ∷ Instr.Less ∷ Instr.JumpIfNot 17 ∷ [])
    (line 2 (Instr.Load 9 ∷ Instr.Int (pos 1) ∷ Instr.Eq ∷ Instr.JumpIfNot 11 ∷ [])
    (line 3 (Instr.Jump 12 ∷ []) (line 5 (Instr.Jump 17 ∷ [])
    (line 1 (Instr.Load 9 ∷ Instr.Int (pos 1) ∷ Instr.Add ∷ Instr.Store 9 ∷ Instr.Jump 2 ∷ []) []))))
unfolding meaning type_name value_name call_name package_name text_number named_base made_base sync_base member
    fmt_member runtime_member sync_member condition_member condition_method mutex_method group_method read_method
    write_method field_type is_here is_reserved may_be_declared assigned_name kept_faults pair_differs put_in_faults
    range_names_differ
loop_of_three_parts = works_out (steps 1 (define 1 (codes "i") (integer (codes "0")))
    (binary operator.Less (name (codes "i")) (name (codes "n"))) (increment 1 (name (codes "i")))
    (if_then 2 (binary operator.Equal (name (codes "i")) (integer (codes "1"))) (continue 3 ∷ []) ∷ break 5 ∷ []) ∷ [])

-- for ;; { continue }: `continue` leads to the last jump
pub loop_of_three_empty_parts : code (steps_empty 1 (continue 2 ∷ []) ∷ []) ≡
    line 2 (Instr.Jump 1 ∷ []) (line 1 (Instr.Jump 0 ∷ []) [])
unfolding meaning type_name value_name call_name package_name text_number named_base made_base sync_base member
    fmt_member runtime_member sync_member condition_member condition_method mutex_method group_method read_method
    write_method field_type is_here is_reserved may_be_declared assigned_name kept_faults pair_differs put_in_faults
    range_names_differ
loop_of_three_empty_parts = works_out (steps_empty 1 (continue 2 ∷ []) ∷ [])

-- for v := range c { if b { break }; continue }
pub range_over_a_channel : code (range_over 1 (range.One (codes "v")) (name (codes "c"))
    (if_then 2 (name (codes "b")) (break 3 ∷ []) ∷ continue 5 ∷ []) ∷ []) ≡
    line 1 (Instr.Load 0 ∷ Instr.Store 9 ∷ Instr.Load 9 ∷ Instr.ReceiveOk ∷ Instr.JumpIfNot 11 ∷ Instr.Store 10 ∷ [])
    (line 2 (Instr.Load 3 ∷ Instr.JumpIfNot 9 ∷ [])
    (line 3 (Instr.Jump 12 ∷ []) (line 5 (Instr.Jump 2 ∷ []) (line 1 (Instr.Jump 2 ∷ Instr.Drop ∷ []) []))))
unfolding meaning type_name value_name call_name package_name text_number named_base made_base sync_base member
    fmt_member runtime_member sync_member condition_member condition_method mutex_method group_method read_method
    write_method field_type is_here is_reserved may_be_declared assigned_name kept_faults pair_differs put_in_faults
    range_names_differ
range_over_a_channel = works_out (range_over 1 (range.One (codes "v")) (name (codes "c"))
    (if_then 2 (name (codes "b")) (break 3 ∷ []) ∷ continue 5 ∷ []) ∷ [])

-- for range c { }; for _ := range c { }: each loop has a hidden slot of its own
pub ranges_without_a_name : code (range_over 1 range.Neither (name (codes "c")) []
    ∷ range_over 2 (range.One (codes "_")) (name (codes "c")) [] ∷ []) ≡
    line 1 (Instr.Load 0 ∷ Instr.Store 9 ∷ Instr.Load 9 ∷ Instr.ReceiveOk ∷ Instr.JumpIfNot 7 ∷ Instr.Drop
    ∷ Instr.Jump 2 ∷ Instr.Drop ∷ []) (line 2
    (Instr.Load 0 ∷ Instr.Store 10 ∷ Instr.Load 10 ∷ Instr.ReceiveOk ∷ Instr.JumpIfNot 15 ∷ Instr.Drop
    ∷ Instr.Jump 10 ∷ Instr.Drop ∷ []) [])
unfolding meaning type_name value_name call_name package_name text_number named_base made_base sync_base member
    fmt_member runtime_member sync_member condition_member condition_method mutex_method group_method read_method
    write_method field_type is_here is_reserved may_be_declared assigned_name kept_faults pair_differs put_in_faults
    range_names_differ
ranges_without_a_name = works_out (range_over 1 range.Neither (name (codes "c")) []
    ∷ range_over 2 (range.One (codes "_")) (name (codes "c")) [] ∷ [])

-- for i, v := range x { continue; break }
pub range_over_a_slice : code (range_over 1 (range.Two (codes "i") (codes "v")) (name (codes "x"))
    (continue 2 ∷ break 3 ∷ []) ∷ []) ≡
    line 1 (Instr.Load 1 ∷ Instr.Store 9 ∷ Instr.Load 9 ∷ Instr.Len ∷ Instr.Store 10 ∷ Instr.Int (pos 0)
    ∷ Instr.Store 11 ∷ Instr.Load 11 ∷ Instr.Load 10 ∷ Instr.Less ∷ Instr.JumpIfNot 24 ∷ Instr.Load 11
    ∷ Instr.Store 12 ∷ Instr.Load 9 ∷ Instr.Load 11 ∷ Instr.Index ∷ Instr.Store 13 ∷ [])
    (line 2 (Instr.Jump 19 ∷ []) (line 3 (Instr.Jump 24 ∷ [])
    (line 1 (Instr.Load 11 ∷ Instr.Int (pos 1) ∷ Instr.Add ∷ Instr.Store 11 ∷ Instr.Jump 7 ∷ []) [])))
unfolding meaning type_name value_name call_name package_name text_number named_base made_base sync_base member
    fmt_member runtime_member sync_member condition_member condition_method mutex_method group_method read_method
    write_method field_type is_here is_reserved may_be_declared assigned_name kept_faults pair_differs put_in_faults
    range_names_differ
range_over_a_slice = works_out (range_over 1 (range.Two (codes "i") (codes "v")) (name (codes "x"))
    (continue 2 ∷ break 3 ∷ []) ∷ [])

-- for _, v := range x { n = v }
pub range_over_the_elements : code (range_over 1 (range.Two (codes "_") (codes "v")) (name (codes "x"))
    (does (assign 2 (name (codes "n")) (name (codes "v"))) ∷ []) ∷ []) ≡
    line 1 (Instr.Load 1 ∷ Instr.Store 9 ∷ Instr.Load 9 ∷ Instr.Len ∷ Instr.Store 10 ∷ Instr.Int (pos 0)
    ∷ Instr.Store 11 ∷ Instr.Load 11 ∷ Instr.Load 10 ∷ Instr.Less ∷ Instr.JumpIfNot 22 ∷ Instr.Load 9
    ∷ Instr.Load 11 ∷ Instr.Index ∷ Instr.Store 12 ∷ [])
    (line 2 (Instr.Load 12 ∷ Instr.Store 2 ∷ [])
    (line 1 (Instr.Load 11 ∷ Instr.Int (pos 1) ∷ Instr.Add ∷ Instr.Store 11 ∷ Instr.Jump 7 ∷ []) []))
unfolding meaning type_name value_name call_name package_name text_number named_base made_base sync_base member
    fmt_member runtime_member sync_member condition_member condition_method mutex_method group_method read_method
    write_method field_type is_here is_reserved may_be_declared assigned_name kept_faults pair_differs put_in_faults
    range_names_differ
range_over_the_elements = works_out (range_over 1 (range.Two (codes "_") (codes "v")) (name (codes "x"))
    (does (assign 2 (name (codes "n")) (name (codes "v"))) ∷ []) ∷ [])

-- for i := range x { n = i }; for range x { }
pub range_over_the_indices : code (range_over 1 (range.One (codes "i")) (name (codes "x"))
    (does (assign 2 (name (codes "n")) (name (codes "i"))) ∷ []) ∷ range_over 4 range.Neither (name (codes "x")) []
    ∷ []) ≡
    line 1 (Instr.Load 1 ∷ Instr.Store 9 ∷ Instr.Load 9 ∷ Instr.Len ∷ Instr.Store 10 ∷ Instr.Int (pos 0)
    ∷ Instr.Store 11 ∷ Instr.Load 11 ∷ Instr.Load 10 ∷ Instr.Less ∷ Instr.JumpIfNot 20 ∷ Instr.Load 11
    ∷ Instr.Store 12 ∷ []) (line 2 (Instr.Load 12 ∷ Instr.Store 2 ∷ [])
    (line 1 (Instr.Load 11 ∷ Instr.Int (pos 1) ∷ Instr.Add ∷ Instr.Store 11 ∷ Instr.Jump 7 ∷ [])
    (line 4 (Instr.Load 1 ∷ Instr.Store 13 ∷ Instr.Load 13 ∷ Instr.Len ∷ Instr.Store 14 ∷ Instr.Int (pos 0)
    ∷ Instr.Store 15 ∷ Instr.Load 15 ∷ Instr.Load 14 ∷ Instr.Less ∷ Instr.JumpIfNot 36 ∷ Instr.Load 15
    ∷ Instr.Int (pos 1) ∷ Instr.Add ∷ Instr.Store 15 ∷ Instr.Jump 27 ∷ []) [])))
unfolding meaning type_name value_name call_name package_name text_number named_base made_base sync_base member
    fmt_member runtime_member sync_member condition_member condition_method mutex_method group_method read_method
    write_method field_type is_here is_reserved may_be_declared assigned_name kept_faults pair_differs put_in_faults
    range_names_differ
range_over_the_indices = works_out (range_over 1 (range.One (codes "i")) (name (codes "x"))
    (does (assign 2 (name (codes "n")) (name (codes "i"))) ∷ []) ∷ range_over 4 range.Neither (name (codes "x")) []
    ∷ [])

-- for b { for { continue }; break }: a jump leaves its own loop
pub nested_loops : code (while 1 (name (codes "b")) (forever 2 (continue 3 ∷ []) ∷ break 5 ∷ []) ∷ []) ≡
    line 1 (Instr.Load 3 ∷ Instr.JumpIfNot 6 ∷ [])
    (line 3 (Instr.Jump 2 ∷ []) (line 2 (Instr.Jump 2 ∷ [])
    (line 5 (Instr.Jump 6 ∷ []) (line 1 (Instr.Jump 0 ∷ []) []))))
unfolding meaning type_name value_name call_name package_name text_number named_base made_base sync_base member
    fmt_member runtime_member sync_member condition_member condition_method mutex_method group_method read_method
    write_method field_type is_here is_reserved may_be_declared assigned_name kept_faults pair_differs put_in_faults
    range_names_differ
nested_loops = works_out (while 1 (name (codes "b")) (forever 2 (continue 3 ∷ []) ∷ break 5 ∷ []) ∷ [])
