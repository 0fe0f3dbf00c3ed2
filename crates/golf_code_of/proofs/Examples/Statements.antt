-- The code of simple statements, blocks and `if`, against code that was written by hand.
use Rattle.std.specs.Prelude.{◌≡◌, pos, [], ◌∷◌, codes}
use Rattle.golf_syntax_trees.specs.declared.expressions.UnaryOperator.TheVariants as sign
use Rattle.golf_syntax_trees.specs.declared.expressions.BinaryOperator.TheVariants as operator
use Rattle.golf_syntax_trees.specs.declared.statements.UpdateOperator.TheVariants as updates
use Rattle.golf_data.specs.declared.code.Instr.{Instr}
use Rattle.golf_check_types.specs.Scopes.{meaning, type_name, value_name, call_name, package_name, member, is_here}
use Rattle.golf_check_types.specs.Scopes.{is_reserved, may_be_declared}
use Rattle.golf_check_types.specs.Written.{named_base, made_base, sync_base}
use Rattle.golf_check_types.specs.Expressions.{fmt_member, runtime_member, sync_member, condition_member}
use Rattle.golf_check_types.specs.Expressions.{condition_method, mutex_method, group_method, read_method, write_method}
use Rattle.golf_check_types.specs.Expressions.{field_type}
use Rattle.golf_check_types.specs.Statements.{assigned_name, kept_faults, pair_differs, put_in_faults}
use Rattle.golf_check_types.specs.Statements.{range_names_differ}
use Rattle.golf_code_of.specs.Table.{text_number}
use Rattle.golf_code_of.proofs.Examples.Writing.{named, chan_of, name, integer, unary, binary, parens, select, index}
use Rattle.golf_code_of.proofs.Examples.Writing.{call, line}
use Rattle.golf_code_of.proofs.Examples.Doing.{action, send, increment, decrement, assign, update, define}
use Rattle.golf_code_of.proofs.Examples.Doing.{define_received, assign_received, does, return_value, return_nothing}
use Rattle.golf_code_of.proofs.Examples.Doing.{block, if_first_then, if_else, var_zero, var_typed, var_untyped, code}
use Rattle.golf_code_of.proofs.Examples.Doing.{works_out}

-- n = 2; g = n; _ = c
pub assigned : code (does (assign 1 (name (codes "n")) (integer (codes "2")))
    ∷ does (assign 2 (name (codes "g")) (name (codes "n"))) ∷ does (assign 3 (name (codes "_")) (name (codes "c")))
    ∷ []) ≡
    line 1 (Instr.Int (pos 2) ∷ Instr.Store 2 ∷ [])
    (line 2 (Instr.Load 2 ∷ Instr.StoreGlobal 0 ∷ []) (line 3 (Instr.Load 0 ∷ Instr.Drop ∷ []) []))
unfolding meaning type_name value_name call_name package_name text_number named_base made_base sync_base member
    fmt_member runtime_member sync_member condition_member condition_method mutex_method group_method read_method
    write_method field_type is_here is_reserved may_be_declared assigned_name kept_faults pair_differs put_in_faults
    range_names_differ
assigned = works_out (does (assign 1 (name (codes "n")) (integer (codes "2")))
    ∷ does (assign 2 (name (codes "g")) (name (codes "n"))) ∷ does (assign 3 (name (codes "_")) (name (codes "c")))
    ∷ [])

-- t.next = t; x[0] = n; (n) = 1
pub assigned_places : code (does (assign 1 (select (name (codes "t")) (codes "next")) (name (codes "t")))
    ∷ does (assign 2 (index (name (codes "x")) (integer (codes "0"))) (name (codes "n")))
    ∷ does (assign 3 (parens (name (codes "n"))) (integer (codes "1"))) ∷ []) ≡
    line 1 (Instr.Load 4 ∷ Instr.Load 4 ∷ Instr.SetField 1 ∷ [])
    (line 2 (Instr.Load 1 ∷ Instr.Int (pos 0) ∷ Instr.Load 2 ∷ Instr.SetIndex ∷ [])
    (line 3 (Instr.Int (pos 1) ∷ Instr.Store 2 ∷ []) []))
unfolding meaning type_name value_name call_name package_name text_number named_base made_base sync_base member
    fmt_member runtime_member sync_member condition_member condition_method mutex_method group_method read_method
    write_method field_type is_here is_reserved may_be_declared assigned_name kept_faults pair_differs put_in_faults
    range_names_differ
assigned_places = works_out (does (assign 1 (select (name (codes "t")) (codes "next")) (name (codes "t")))
    ∷ does (assign 2 (index (name (codes "x")) (integer (codes "0"))) (name (codes "n")))
    ∷ does (assign 3 (parens (name (codes "n"))) (integer (codes "1"))) ∷ [])

-- n += 2; t.n -= n; x[n] *= 3; g %= 2
pub updated : code (does (update 1 (name (codes "n")) updates.Add (integer (codes "2")))
    ∷ does (update 2 (select (name (codes "t")) (codes "n")) updates.Subtract (name (codes "n")))
    ∷ does (update 3 (index (name (codes "x")) (name (codes "n"))) updates.Multiply (integer (codes "3")))
    ∷ does (update 4 (name (codes "g")) updates.Remainder (integer (codes "2"))) ∷ []) ≡
    line 1 (Instr.Load 2 ∷ Instr.Int (pos 2) ∷ Instr.Add ∷ Instr.Store 2 ∷ [])
    (line 2 (Instr.Load 4 ∷ Instr.Dup ∷ Instr.Field 0 ∷ Instr.Load 2 ∷ Instr.Sub ∷ Instr.SetField 0 ∷ [])
    (line 3 (Instr.Load 1 ∷ Instr.Load 2 ∷ Instr.Dup2 ∷ Instr.Index ∷ Instr.Int (pos 3) ∷ Instr.Mul ∷ Instr.SetIndex
    ∷ []) (line 4 (Instr.LoadGlobal 0 ∷ Instr.Int (pos 2) ∷ Instr.Rem ∷ Instr.StoreGlobal 0 ∷ []) [])))
unfolding meaning type_name value_name call_name package_name text_number named_base made_base sync_base member
    fmt_member runtime_member sync_member condition_member condition_method mutex_method group_method read_method
    write_method field_type is_here is_reserved may_be_declared assigned_name kept_faults pair_differs put_in_faults
    range_names_differ
updated = works_out (does (update 1 (name (codes "n")) updates.Add (integer (codes "2")))
    ∷ does (update 2 (select (name (codes "t")) (codes "n")) updates.Subtract (name (codes "n")))
    ∷ does (update 3 (index (name (codes "x")) (name (codes "n"))) updates.Multiply (integer (codes "3")))
    ∷ does (update 4 (name (codes "g")) updates.Remainder (integer (codes "2"))) ∷ [])

-- n++; t.n--; n /= 2
pub stepped : code (does (increment 1 (name (codes "n"))) ∷ does (decrement 2 (select (name (codes "t")) (codes "n")))
    ∷ does (update 3 (name (codes "n")) updates.Divide (integer (codes "2"))) ∷ []) ≡
    line 1 (Instr.Load 2 ∷ Instr.Int (pos 1) ∷ Instr.Add ∷ Instr.Store 2 ∷ [])
    (line 2 (Instr.Load 4 ∷ Instr.Dup ∷ Instr.Field 0 ∷ Instr.Int (pos 1) ∷ Instr.Sub ∷ Instr.SetField 0 ∷ [])
    (line 3 (Instr.Load 2 ∷ Instr.Int (pos 2) ∷ Instr.Div ∷ Instr.Store 2 ∷ []) []))
unfolding meaning type_name value_name call_name package_name text_number named_base made_base sync_base member
    fmt_member runtime_member sync_member condition_member condition_method mutex_method group_method read_method
    write_method field_type is_here is_reserved may_be_declared assigned_name kept_faults pair_differs put_in_faults
    range_names_differ
stepped = works_out (does (increment 1 (name (codes "n"))) ∷ does (decrement 2 (select (name (codes "t")) (codes "n")))
    ∷ does (update 3 (name (codes "n")) updates.Divide (integer (codes "2"))) ∷ [])

-- y := n; var z string; var u chan int = nil; var v = y; c <- v
pub declared : code (does (define 1 (codes "y") (name (codes "n"))) ∷ var_zero 2 (codes "z") (named (codes "string"))
    ∷ var_typed 3 (codes "u") (chan_of (named (codes "int"))) (name (codes "nil"))
    ∷ var_untyped 4 (codes "v") (name (codes "y")) ∷ does (send 5 (name (codes "c")) (name (codes "v"))) ∷ []) ≡
    line 1 (Instr.Load 2 ∷ Instr.Store 9 ∷ [])
    (line 2 (Instr.Text 0 ∷ Instr.Store 10 ∷ [])
    (line 3 (Instr.Nil ∷ Instr.Store 11 ∷ [])
    (line 4 (Instr.Load 9 ∷ Instr.Store 12 ∷ []) (line 5 (Instr.Load 0 ∷ Instr.Load 12 ∷ Instr.Send ∷ []) []))))
unfolding meaning type_name value_name call_name package_name text_number named_base made_base sync_base member
    fmt_member runtime_member sync_member condition_member condition_method mutex_method group_method read_method
    write_method field_type is_here is_reserved may_be_declared assigned_name kept_faults pair_differs put_in_faults
    range_names_differ
declared = works_out (does (define 1 (codes "y") (name (codes "n"))) ∷ var_zero 2 (codes "z") (named (codes "string"))
    ∷ var_typed 3 (codes "u") (chan_of (named (codes "int"))) (name (codes "nil"))
    ∷ var_untyped 4 (codes "v") (name (codes "y")) ∷ does (send 5 (name (codes "c")) (name (codes "v"))) ∷ [])

-- v, ok := <-c; w, ok := <-c, if ok is there already; n, _ = <-c; `ok` stands on top
pub received : code (does (define_received 1 (codes "v") (codes "ok") (name (codes "c")))
    ∷ does (define_received 2 (codes "w") (codes "ok") (name (codes "c")))
    ∷ does (assign_received 3 (codes "n") (codes "_") (name (codes "c"))) ∷ []) ≡
    line 1 (Instr.Load 0 ∷ Instr.ReceiveOk ∷ Instr.Store 10 ∷ Instr.Store 9 ∷ [])
    (line 2 (Instr.Load 0 ∷ Instr.ReceiveOk ∷ Instr.Store 10 ∷ Instr.Store 11 ∷ [])
    (line 3 (Instr.Load 0 ∷ Instr.ReceiveOk ∷ Instr.Drop ∷ Instr.Store 2 ∷ []) []))
unfolding meaning type_name value_name call_name package_name text_number named_base made_base sync_base member
    fmt_member runtime_member sync_member condition_member condition_method mutex_method group_method read_method
    write_method field_type is_here is_reserved may_be_declared assigned_name kept_faults pair_differs put_in_faults
    range_names_differ
received = works_out (does (define_received 1 (codes "v") (codes "ok") (name (codes "c")))
    ∷ does (define_received 2 (codes "w") (codes "ok") (name (codes "c")))
    ∷ does (assign_received 3 (codes "n") (codes "_") (name (codes "c"))) ∷ [])

-- { y := n }; y := b: a name of an inner block has a slot of its own
pub blocks : code (block 1 (does (define 2 (codes "y") (name (codes "n"))) ∷ [])
    ∷ does (define 3 (codes "y") (name (codes "b"))) ∷ []) ≡
    line 2 (Instr.Load 2 ∷ Instr.Store 9 ∷ []) (line 3 (Instr.Load 3 ∷ Instr.Store 10 ∷ []) [])
unfolding meaning type_name value_name call_name package_name text_number named_base made_base sync_base member
    fmt_member runtime_member sync_member condition_member condition_method mutex_method group_method read_method
    write_method field_type is_here is_reserved may_be_declared assigned_name kept_faults pair_differs put_in_faults
    range_names_differ
blocks = works_out (block 1 (does (define 2 (codes "y") (name (codes "n"))) ∷ [])
    ∷ does (define 3 (codes "y") (name (codes "b"))) ∷ [])

-- <-c; f(1); t.m(2): a value is dropped
pub expression_statements : code (does (action 1 (unary sign.Receive (name (codes "c"))))
    ∷ does (action 2 (call (name (codes "f")) ((integer (codes "1")) ∷ [])))
    ∷ does (action 3 (call (select (name (codes "t")) (codes "m")) ((integer (codes "2")) ∷ []))) ∷ []) ≡
    line 1 (Instr.Load 0 ∷ Instr.Receive ∷ Instr.Drop ∷ [])
    (line 2 (Instr.Int (pos 1) ∷ Instr.Call 1 1 ∷ Instr.Drop ∷ [])
    (line 3 (Instr.Load 4 ∷ Instr.Int (pos 2) ∷ Instr.Call 2 2 ∷ []) []))
unfolding meaning type_name value_name call_name package_name text_number named_base made_base sync_base member
    fmt_member runtime_member sync_member condition_member condition_method mutex_method group_method read_method
    write_method field_type is_here is_reserved may_be_declared assigned_name kept_faults pair_differs put_in_faults
    range_names_differ
expression_statements = works_out (does (action 1 (unary sign.Receive (name (codes "c"))))
    ∷ does (action 2 (call (name (codes "f")) ((integer (codes "1")) ∷ [])))
    ∷ does (action 3 (call (select (name (codes "t")) (codes "m")) ((integer (codes "2")) ∷ []))) ∷ [])

-- return n; return
pub returned : code (return_value 1 (name (codes "n")) ∷ return_nothing 2 ∷ []) ≡
    line 1 (Instr.Load 2 ∷ Instr.ReturnValue ∷ []) (line 2 (Instr.Return ∷ []) [])
unfolding meaning type_name value_name call_name package_name text_number named_base made_base sync_base member
    fmt_member runtime_member sync_member condition_member condition_method mutex_method group_method read_method
    write_method field_type is_here is_reserved may_be_declared assigned_name kept_faults pair_differs put_in_faults
    range_names_differ
returned = works_out (return_value 1 (name (codes "n")) ∷ return_nothing 2 ∷ [])

-- if y := n; b { n = 1 }; n = 2
pub if_without_else : code (if_first_then 1 (define 1 (codes "y") (name (codes "n"))) (name (codes "b"))
    (does (assign 2 (name (codes "n")) (integer (codes "1"))) ∷ [])
    ∷ does (assign 4 (name (codes "n")) (integer (codes "2"))) ∷ []) ≡
    line 1 (Instr.Load 2 ∷ Instr.Store 9 ∷ Instr.Load 3 ∷ Instr.JumpIfNot 6 ∷ [])
    (line 2 (Instr.Int (pos 1) ∷ Instr.Store 2 ∷ []) (line 4 (Instr.Int (pos 2) ∷ Instr.Store 2 ∷ []) []))
unfolding meaning type_name value_name call_name package_name text_number named_base made_base sync_base member
    fmt_member runtime_member sync_member condition_member condition_method mutex_method group_method read_method
    write_method field_type is_here is_reserved may_be_declared assigned_name kept_faults pair_differs put_in_faults
    range_names_differ
if_without_else = works_out (if_first_then 1 (define 1 (codes "y") (name (codes "n"))) (name (codes "b"))
    (does (assign 2 (name (codes "n")) (integer (codes "1"))) ∷ [])
    ∷ does (assign 4 (name (codes "n")) (integer (codes "2"))) ∷ [])

-- if b { n = 1 } else if n == 2 { n = 3 } else { n = 4 }
pub if_with_else : code (if_else 1 (name (codes "b")) (does (assign 2 (name (codes "n")) (integer (codes "1"))) ∷ [])
    (if_else 3 (binary operator.Equal (name (codes "n")) (integer (codes "2")))
    (does (assign 4 (name (codes "n")) (integer (codes "3"))) ∷ [])
    (block 5 (does (assign 6 (name (codes "n")) (integer (codes "4"))) ∷ []))) ∷ []) ≡
    line 1 (Instr.Load 3 ∷ Instr.JumpIfNot 5 ∷ [])
    (line 2 (Instr.Int (pos 1) ∷ Instr.Store 2 ∷ [])
    (line 1 (Instr.Jump 14 ∷ []) (line 3 (Instr.Load 2 ∷ Instr.Int (pos 2) ∷ Instr.Eq ∷ Instr.JumpIfNot 12 ∷ [])
    (line 4 (Instr.Int (pos 3) ∷ Instr.Store 2 ∷ [])
    (line 3 (Instr.Jump 14 ∷ []) (line 6 (Instr.Int (pos 4) ∷ Instr.Store 2 ∷ []) []))))))
unfolding meaning type_name value_name call_name package_name text_number named_base made_base sync_base member
    fmt_member runtime_member sync_member condition_member condition_method mutex_method group_method read_method
    write_method field_type is_here is_reserved may_be_declared assigned_name kept_faults pair_differs put_in_faults
    range_names_differ
if_with_else = works_out (if_else 1 (name (codes "b")) (does (assign 2 (name (codes "n")) (integer (codes "1"))) ∷ [])
    (if_else 3 (binary operator.Equal (name (codes "n")) (integer (codes "2")))
    (does (assign 4 (name (codes "n")) (integer (codes "3"))) ∷ [])
    (block 5 (does (assign 6 (name (codes "n")) (integer (codes "4"))) ∷ []))) ∷ [])
