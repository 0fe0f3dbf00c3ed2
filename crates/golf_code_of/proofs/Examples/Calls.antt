-- The code of calls as statements and after `go` and `defer`, against code that was written by hand.
use Rattle.std.specs.Prelude.{◌≡◌, pos, negsuc, [], ◌∷◌, codes}
use Rattle.golf_data.specs.declared.code.Instr.{Instr}
use Rattle.golf_check_types.specs.Scopes.{meaning, type_name, value_name, call_name, package_name, member, is_here}
use Rattle.golf_check_types.specs.Scopes.{is_reserved, may_be_declared}
use Rattle.golf_check_types.specs.Written.{named_base, made_base, sync_base}
use Rattle.golf_check_types.specs.Expressions.{fmt_member, runtime_member, sync_member, condition_member}
use Rattle.golf_check_types.specs.Expressions.{condition_method, mutex_method, group_method, read_method, write_method}
use Rattle.golf_check_types.specs.Expressions.{field_type}
use Rattle.golf_check_types.specs.Statements.{assigned_name, kept_faults, pair_differs, put_in_faults}
use Rattle.golf_check_types.specs.Statements.{range_names_differ}
use Rattle.golf_code_of.specs.Table.{text_number}
use Rattle.golf_code_of.proofs.Examples.Writing.{name, integer, text, select, call, line}
use Rattle.golf_code_of.proofs.Examples.Doing.{action, does, go, defer, defer_alone, code, works_out}

-- fmt.Println(n, "hi", b); fmt.Println(); panic("a"); runtime.GC(); close(c)
pub built_in_calls : code (does (action 1
    (call (select (name (codes "fmt")) (codes "Println"))
    ((name (codes "n")) ∷ (text (codes "hi")) ∷ (name (codes "b")) ∷ [])))
    ∷ does (action 2 (call (select (name (codes "fmt")) (codes "Println")) ([])))
    ∷ does (action 3 (call (name (codes "panic")) ((text (codes "a")) ∷ [])))
    ∷ does (action 4 (call (select (name (codes "runtime")) (codes "GC")) ([])))
    ∷ does (action 5 (call (name (codes "close")) ((name (codes "c")) ∷ []))) ∷ []) ≡
    line 1 (Instr.Load 2 ∷ Instr.Text 2 ∷ Instr.Load 3 ∷ Instr.Print 3 ∷ [])
    (line 2 (Instr.Print 0 ∷ []) (line 3 (Instr.Text 1 ∷ Instr.Panic ∷ [])
    (line 4 (Instr.Collect ∷ []) (line 5 (Instr.Load 0 ∷ Instr.Close ∷ []) []))))
unfolding meaning type_name value_name call_name package_name text_number named_base made_base sync_base member
    fmt_member runtime_member sync_member condition_member condition_method mutex_method group_method read_method
    write_method field_type is_here is_reserved may_be_declared assigned_name kept_faults pair_differs put_in_faults
    range_names_differ
built_in_calls = works_out (does (action 1
    (call (select (name (codes "fmt")) (codes "Println"))
    ((name (codes "n")) ∷ (text (codes "hi")) ∷ (name (codes "b")) ∷ [])))
    ∷ does (action 2 (call (select (name (codes "fmt")) (codes "Println")) ([])))
    ∷ does (action 3 (call (name (codes "panic")) ((text (codes "a")) ∷ [])))
    ∷ does (action 4 (call (select (name (codes "runtime")) (codes "GC")) ([])))
    ∷ does (action 5 (call (name (codes "close")) ((name (codes "c")) ∷ []))) ∷ [])

-- runtime.SetFinalizer(t, f); runtime.SetFinalizer(t, nil)
pub finalisers : code (does (action 1 (call (select (name (codes "runtime")) (codes "SetFinalizer"))
    ((name (codes "t")) ∷ (name (codes "f")) ∷ [])))
    ∷ does (action 2 (call (select (name (codes "runtime")) (codes "SetFinalizer"))
    ((name (codes "t")) ∷ (name (codes "nil")) ∷ []))) ∷ []) ≡
    line 1 (Instr.Load 4 ∷ Instr.SetFinalizer 1 ∷ []) (line 2 (Instr.Load 4 ∷ Instr.ClearFinalizer ∷ []) [])
unfolding meaning type_name value_name call_name package_name text_number named_base made_base sync_base member
    fmt_member runtime_member sync_member condition_member condition_method mutex_method group_method read_method
    write_method field_type is_here is_reserved may_be_declared assigned_name kept_faults pair_differs put_in_faults
    range_names_differ
finalisers = works_out (does (action 1 (call (select (name (codes "runtime")) (codes "SetFinalizer"))
    ((name (codes "t")) ∷ (name (codes "f")) ∷ [])))
    ∷ does (action 2 (call (select (name (codes "runtime")) (codes "SetFinalizer"))
    ((name (codes "t")) ∷ (name (codes "nil")) ∷ []))) ∷ [])

-- mu.Lock(); mu.Unlock(); wg.Add(n); wg.Done(); wg.Wait()
pub mutexes_and_groups : code (does (action 1 (call (select (name (codes "mu")) (codes "Lock")) ([])))
    ∷ does (action 2 (call (select (name (codes "mu")) (codes "Unlock")) ([])))
    ∷ does (action 3 (call (select (name (codes "wg")) (codes "Add")) ((name (codes "n")) ∷ [])))
    ∷ does (action 4 (call (select (name (codes "wg")) (codes "Done")) ([])))
    ∷ does (action 5 (call (select (name (codes "wg")) (codes "Wait")) ([]))) ∷ []) ≡
    line 1 (Instr.Load 5 ∷ Instr.Lock ∷ [])
    (line 2 (Instr.Load 5 ∷ Instr.Unlock ∷ [])
    (line 3 (Instr.Load 6 ∷ Instr.Load 2 ∷ Instr.GroupAdd ∷ [])
    (line 4 (Instr.Load 6 ∷ Instr.Int (negsuc 0) ∷ Instr.GroupAdd ∷ [])
    (line 5 (Instr.Load 6 ∷ Instr.GroupWait ∷ []) []))))
unfolding meaning type_name value_name call_name package_name text_number named_base made_base sync_base member
    fmt_member runtime_member sync_member condition_member condition_method mutex_method group_method read_method
    write_method field_type is_here is_reserved may_be_declared assigned_name kept_faults pair_differs put_in_faults
    range_names_differ
mutexes_and_groups = works_out (does (action 1 (call (select (name (codes "mu")) (codes "Lock")) ([])))
    ∷ does (action 2 (call (select (name (codes "mu")) (codes "Unlock")) ([])))
    ∷ does (action 3 (call (select (name (codes "wg")) (codes "Add")) ((name (codes "n")) ∷ [])))
    ∷ does (action 4 (call (select (name (codes "wg")) (codes "Done")) ([])))
    ∷ does (action 5 (call (select (name (codes "wg")) (codes "Wait")) ([]))) ∷ [])

-- the methods of reader and writer mutexes, and of conditions
pub readers_writers_and_conditions : code
    (does (action 1 (call (select (name (codes "rw")) (codes "Lock")) ([])))
    ∷ does (action 2 (call (select (name (codes "rw")) (codes "Unlock")) ([])))
    ∷ does (action 3 (call (select (name (codes "rw")) (codes "RLock")) ([])))
    ∷ does (action 4 (call (select (name (codes "rw")) (codes "RUnlock")) ([])))
    ∷ does (action 5 (call (select (name (codes "q")) (codes "Wait")) ([])))
    ∷ does (action 6 (call (select (name (codes "q")) (codes "Signal")) ([])))
    ∷ does (action 7 (call (select (name (codes "q")) (codes "Broadcast")) ([]))) ∷ []) ≡
    line 1 (Instr.Load 7 ∷ Instr.RwLock ∷ [])
    (line 2 (Instr.Load 7 ∷ Instr.RwUnlock ∷ [])
    (line 3 (Instr.Load 7 ∷ Instr.ReadLock ∷ [])
    (line 4 (Instr.Load 7 ∷ Instr.ReadUnlock ∷ [])
    (line 5 (Instr.Load 8 ∷ Instr.CondWait ∷ [])
    (line 6 (Instr.Load 8 ∷ Instr.CondSignal ∷ []) (line 7 (Instr.Load 8 ∷ Instr.CondBroadcast ∷ []) []))))))
unfolding meaning type_name value_name call_name package_name text_number named_base made_base sync_base member
    fmt_member runtime_member sync_member condition_member condition_method mutex_method group_method read_method
    write_method field_type is_here is_reserved may_be_declared assigned_name kept_faults pair_differs put_in_faults
    range_names_differ
readers_writers_and_conditions = works_out
    (does (action 1 (call (select (name (codes "rw")) (codes "Lock")) ([])))
    ∷ does (action 2 (call (select (name (codes "rw")) (codes "Unlock")) ([])))
    ∷ does (action 3 (call (select (name (codes "rw")) (codes "RLock")) ([])))
    ∷ does (action 4 (call (select (name (codes "rw")) (codes "RUnlock")) ([])))
    ∷ does (action 5 (call (select (name (codes "q")) (codes "Wait")) ([])))
    ∷ does (action 6 (call (select (name (codes "q")) (codes "Signal")) ([])))
    ∷ does (action 7 (call (select (name (codes "q")) (codes "Broadcast")) ([]))) ∷ [])

-- go f(n); defer t.m(7); go close(c); defer wg.Done(); go wg.Add(2); defer mu.Unlock(): a function is made for each
-- built-in call
pub begun_calls : code (go 1 (name (codes "f")) (name (codes "n"))
    ∷ defer 2 (select (name (codes "t")) (codes "m")) (integer (codes "7"))
    ∷ go 3 (name (codes "close")) (name (codes "c")) ∷ defer_alone 4 (select (name (codes "wg")) (codes "Done"))
    ∷ go 5 (select (name (codes "wg")) (codes "Add")) (integer (codes "2"))
    ∷ defer_alone 6 (select (name (codes "mu")) (codes "Unlock")) ∷ []) ≡
    line 1 (Instr.Load 2 ∷ Instr.Go 1 1 ∷ [])
    (line 2 (Instr.Load 4 ∷ Instr.Int (pos 7) ∷ Instr.Defer 2 2 ∷ [])
    (line 3 (Instr.Load 0 ∷ Instr.Go 3 1 ∷ [])
    (line 4 (Instr.Load 6 ∷ Instr.Defer 4 1 ∷ [])
    (line 5 (Instr.Load 6 ∷ Instr.Int (pos 2) ∷ Instr.Go 5 2 ∷ [])
    (line 6 (Instr.Load 5 ∷ Instr.Defer 6 1 ∷ []) [])))))
unfolding meaning type_name value_name call_name package_name text_number named_base made_base sync_base member
    fmt_member runtime_member sync_member condition_member condition_method mutex_method group_method read_method
    write_method field_type is_here is_reserved may_be_declared assigned_name kept_faults pair_differs put_in_faults
    range_names_differ
begun_calls = works_out (go 1 (name (codes "f")) (name (codes "n"))
    ∷ defer 2 (select (name (codes "t")) (codes "m")) (integer (codes "7"))
    ∷ go 3 (name (codes "close")) (name (codes "c")) ∷ defer_alone 4 (select (name (codes "wg")) (codes "Done"))
    ∷ go 5 (select (name (codes "wg")) (codes "Add")) (integer (codes "2"))
    ∷ defer_alone 6 (select (name (codes "mu")) (codes "Unlock")) ∷ [])
