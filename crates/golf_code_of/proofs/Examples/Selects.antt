-- The code of `select`, against code that was written by hand.
use Rattle.std.specs.Prelude.{◌≡◌, [], ◌∷◌, Some, None, codes}
use Rattle.golf_data.specs.declared.code.Instr.{Instr}
use Rattle.golf_data.specs.declared.code.CaseKind.{CaseKind}
use Rattle.golf_check_types.specs.Scopes.{meaning, type_name, value_name, call_name, package_name, member, is_here}
use Rattle.golf_check_types.specs.Scopes.{is_reserved, may_be_declared}
use Rattle.golf_check_types.specs.Written.{named_base, made_base, sync_base}
use Rattle.golf_check_types.specs.Expressions.{fmt_member, runtime_member, sync_member, condition_member}
use Rattle.golf_check_types.specs.Expressions.{condition_method, mutex_method, group_method, read_method, write_method}
use Rattle.golf_check_types.specs.Expressions.{field_type}
use Rattle.golf_check_types.specs.Statements.{assigned_name, kept_faults, pair_differs, put_in_faults}
use Rattle.golf_check_types.specs.Statements.{range_names_differ}
use Rattle.golf_code_of.specs.Table.{text_number}
use Rattle.golf_code_of.proofs.Examples.Writing.{name, line}
use Rattle.golf_code_of.proofs.Examples.Doing.{assign, does, break, continue, forever, case_send, case_receive}
use Rattle.golf_code_of.proofs.Examples.Doing.{case_define, case_assign, case_define_received, default, code, works_out}
use Rattle.golf_code_of.proofs.Examples.Doing.{select as select_from}

-- select with sends, receives, `ok` and `default`
pub every_kind_of_case : code (select_from 1
    (case_send 2 (name (codes "c")) (name (codes "n")) (break 3 ∷ [])
    ∷ case_define 4 (codes "v") (name (codes "c")) (does (assign 5 (name (codes "n")) (name (codes "v"))) ∷ [])
    ∷ case_assign 6 (codes "g") (name (codes "c")) [] ∷ case_receive 7 (name (codes "c")) []
    ∷ case_define_received 8 (codes "v") (codes "ok") (name (codes "c")) [] ∷ default 9 [] ∷ []) ∷ []) ≡
    line 1 (Instr.Load 0 ∷ Instr.Load 2 ∷ Instr.Load 0 ∷ Instr.Load 0 ∷ Instr.Load 0 ∷ Instr.Load 0
    ∷ Instr.Select (record { kind = CaseKind.Send; target = 7 } ∷ record { kind = CaseKind.Take; target = 9 }
    ∷ record { kind = CaseKind.Take; target = 13 } ∷ record { kind = CaseKind.Take; target = 15 }
    ∷ record { kind = CaseKind.TakeOk; target = 17 } ∷ []) (Some 20) ∷ [])
    (line 3 (Instr.Jump 21 ∷ []) (line 2 (Instr.Jump 21 ∷ [])
    (line 4 (Instr.Store 9 ∷ []) (line 5 (Instr.Load 9 ∷ Instr.Store 2 ∷ [])
    (line 4 (Instr.Jump 21 ∷ []) (line 6 (Instr.StoreGlobal 0 ∷ Instr.Jump 21 ∷ [])
    (line 7 (Instr.Drop ∷ Instr.Jump 21 ∷ [])
    (line 8 (Instr.Store 11 ∷ Instr.Store 10 ∷ Instr.Jump 21 ∷ []) (line 9 (Instr.Jump 21 ∷ []) [])))))))))
unfolding meaning type_name value_name call_name package_name text_number named_base made_base sync_base member
    fmt_member runtime_member sync_member condition_member condition_method mutex_method group_method read_method
    write_method field_type is_here is_reserved may_be_declared assigned_name kept_faults pair_differs put_in_faults
    range_names_differ
every_kind_of_case = works_out (select_from 1
    (case_send 2 (name (codes "c")) (name (codes "n")) (break 3 ∷ [])
    ∷ case_define 4 (codes "v") (name (codes "c")) (does (assign 5 (name (codes "n")) (name (codes "v"))) ∷ [])
    ∷ case_assign 6 (codes "g") (name (codes "c")) [] ∷ case_receive 7 (name (codes "c")) []
    ∷ case_define_received 8 (codes "v") (codes "ok") (name (codes "c")) [] ∷ default 9 [] ∷ []) ∷ [])

-- for { select { case <-c: continue; default: break } }: `continue` leaves to the loop, `break` leaves the select
pub select_in_a_loop : code (forever 1 (select_from 2
    (case_receive 3 (name (codes "c")) (continue 4 ∷ []) ∷ default 5 (break 6 ∷ []) ∷ []) ∷ []) ∷ []) ≡
    line 2 (Instr.Load 0 ∷ Instr.Select (record { kind = CaseKind.Take; target = 2 } ∷ []) (Some 5) ∷ [])
    (line 3 (Instr.Drop ∷ []) (line 4 (Instr.Jump 0 ∷ [])
    (line 3 (Instr.Jump 7 ∷ []) (line 6 (Instr.Jump 7 ∷ [])
    (line 5 (Instr.Jump 7 ∷ []) (line 1 (Instr.Jump 0 ∷ []) []))))))
unfolding meaning type_name value_name call_name package_name text_number named_base made_base sync_base member
    fmt_member runtime_member sync_member condition_member condition_method mutex_method group_method read_method
    write_method field_type is_here is_reserved may_be_declared assigned_name kept_faults pair_differs put_in_faults
    range_names_differ
select_in_a_loop = works_out (forever 1 (select_from 2
    (case_receive 3 (name (codes "c")) (continue 4 ∷ []) ∷ default 5 (break 6 ∷ []) ∷ []) ∷ []) ∷ [])

-- select { }
pub empty_select : code (select_from 1 [] ∷ []) ≡
    line 1 (Instr.Select [] None ∷ []) []
unfolding meaning type_name value_name call_name package_name text_number named_base made_base sync_base member
    fmt_member runtime_member sync_member condition_member condition_method mutex_method group_method read_method
    write_method field_type is_here is_reserved may_be_declared assigned_name kept_faults pair_differs put_in_faults
    range_names_differ
empty_select = works_out (select_from 1 [] ∷ [])

-- the `default` may stand first: the cases keep their order
pub default_first : code (select_from 1 (default 2 [] ∷ case_receive 3 (name (codes "c")) [] ∷ []) ∷ []) ≡
    line 1 (Instr.Load 0 ∷ Instr.Select (record { kind = CaseKind.Take; target = 3 } ∷ []) (Some 2) ∷ [])
    (line 2 (Instr.Jump 5 ∷ []) (line 3 (Instr.Drop ∷ Instr.Jump 5 ∷ []) []))
unfolding meaning type_name value_name call_name package_name text_number named_base made_base sync_base member
    fmt_member runtime_member sync_member condition_member condition_method mutex_method group_method read_method
    write_method field_type is_here is_reserved may_be_declared assigned_name kept_faults pair_differs put_in_faults
    range_names_differ
default_first = works_out (select_from 1 (default 2 [] ∷ case_receive 3 (name (codes "c")) [] ∷ []) ∷ [])
