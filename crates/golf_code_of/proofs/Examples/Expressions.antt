-- The code of expressions, against code that was written by hand.
use Rattle.std.specs.Prelude.{◌≡◌, pos, neg_ℤ, true, false, [], ◌∷◌, codes}
use Rattle.golf_syntax_trees.specs.declared.expressions.UnaryOperator.TheVariants as sign
use Rattle.golf_syntax_trees.specs.declared.expressions.BinaryOperator.TheVariants as operator
use Rattle.golf_data.specs.declared.value.Value.{Value}
use Rattle.golf_data.specs.declared.code.Instr.{Instr}
use Rattle.golf_check_types.specs.Scopes.{meaning, type_name, value_name, call_name, package_name, member}
use Rattle.golf_check_types.specs.Written.{named_base, made_base, sync_base}
use Rattle.golf_check_types.specs.Expressions.{fmt_member, runtime_member, sync_member, condition_member}
use Rattle.golf_check_types.specs.Expressions.{condition_method, mutex_method, group_method, read_method, write_method}
use Rattle.golf_check_types.specs.Expressions.{field_type}
use Rattle.golf_code_of.specs.Table.{text_number}
use Rattle.golf_code_of.proofs.Examples.Writing.{named, pointer, slice_of, chan_of, send_chan_of, empty_struct, name}
use Rattle.golf_code_of.proofs.Examples.Writing.{integer, text, unary, binary, parens, select, index, call}
use Rattle.golf_code_of.proofs.Examples.Writing.{struct_literal, sync_literal, new, new_sync, empty_literal}
use Rattle.golf_code_of.proofs.Examples.Writing.{slice_literal, make, make_sized, pushed, works_out, alone}

-- n + 2 * k
pub sum_of_product : pushed (binary operator.Add (name (codes "n"))
    (binary operator.Multiply (integer (codes "2")) (name (codes "k")))) ≡
    alone (Instr.Load 2 ∷ Instr.Int (pos 2) ∷ Instr.Int (neg_ℤ (pos 3)) ∷ Instr.Mul ∷ Instr.Add ∷ [])
unfolding meaning type_name value_name call_name package_name text_number named_base made_base sync_base member
    fmt_member runtime_member sync_member condition_member condition_method mutex_method group_method read_method
    write_method field_type
sum_of_product = works_out (binary operator.Add (name (codes "n"))
    (binary operator.Multiply (integer (codes "2")) (name (codes "k"))))

-- -(n - 1) / 2 % 3
pub other_operators : pushed (binary operator.Remainder
    (binary operator.Divide (unary sign.Negate
    (parens (binary operator.Subtract (name (codes "n")) (integer (codes "1"))))) (integer (codes "2")))
    (integer (codes "3"))) ≡
    alone (Instr.Load 2 ∷ Instr.Int (pos 1) ∷ Instr.Sub ∷ Instr.Neg ∷ Instr.Int (pos 2) ∷ Instr.Div ∷ Instr.Int (pos 3)
    ∷ Instr.Rem ∷ [])
unfolding meaning type_name value_name call_name package_name text_number named_base made_base sync_base member
    fmt_member runtime_member sync_member condition_member condition_method mutex_method group_method read_method
    write_method field_type
other_operators = works_out (binary operator.Remainder
    (binary operator.Divide (unary sign.Negate
    (parens (binary operator.Subtract (name (codes "n")) (integer (codes "1"))))) (integer (codes "2")))
    (integer (codes "3")))

-- n == 1, n != 1
pub equal : pushed (binary operator.Equal (name (codes "n")) (integer (codes "1"))) ≡
    alone (Instr.Load 2 ∷ Instr.Int (pos 1) ∷ Instr.Eq ∷ [])
unfolding meaning type_name value_name call_name package_name text_number named_base made_base sync_base member
    fmt_member runtime_member sync_member condition_member condition_method mutex_method group_method read_method
    write_method field_type
equal = works_out (binary operator.Equal (name (codes "n")) (integer (codes "1")))

pub not_equal : pushed (binary operator.NotEqual (name (codes "n")) (integer (codes "1"))) ≡
    alone (Instr.Load 2 ∷ Instr.Int (pos 1) ∷ Instr.Eq ∷ Instr.Not ∷ [])
unfolding meaning type_name value_name call_name package_name text_number named_base made_base sync_base member
    fmt_member runtime_member sync_member condition_member condition_method mutex_method group_method read_method
    write_method field_type
not_equal = works_out (binary operator.NotEqual (name (codes "n")) (integer (codes "1")))

-- n < 1, n <= 1, n > 1, n >= 1
pub less : pushed (binary operator.Less (name (codes "n")) (integer (codes "1"))) ≡
    alone (Instr.Load 2 ∷ Instr.Int (pos 1) ∷ Instr.Less ∷ [])
unfolding meaning type_name value_name call_name package_name text_number named_base made_base sync_base member
    fmt_member runtime_member sync_member condition_member condition_method mutex_method group_method read_method
    write_method field_type
less = works_out (binary operator.Less (name (codes "n")) (integer (codes "1")))

pub at_most : pushed (binary operator.AtMost (name (codes "n")) (integer (codes "1"))) ≡
    alone (Instr.Load 2 ∷ Instr.Int (pos 1) ∷ Instr.AtMost ∷ [])
unfolding meaning type_name value_name call_name package_name text_number named_base made_base sync_base member
    fmt_member runtime_member sync_member condition_member condition_method mutex_method group_method read_method
    write_method field_type
at_most = works_out (binary operator.AtMost (name (codes "n")) (integer (codes "1")))

pub greater : pushed (binary operator.Greater (name (codes "n")) (integer (codes "1"))) ≡
    alone (Instr.Load 2 ∷ Instr.Int (pos 1) ∷ Instr.AtMost ∷ Instr.Not ∷ [])
unfolding meaning type_name value_name call_name package_name text_number named_base made_base sync_base member
    fmt_member runtime_member sync_member condition_member condition_method mutex_method group_method read_method
    write_method field_type
greater = works_out (binary operator.Greater (name (codes "n")) (integer (codes "1")))

pub at_least : pushed (binary operator.AtLeast (name (codes "n")) (integer (codes "1"))) ≡
    alone (Instr.Load 2 ∷ Instr.Int (pos 1) ∷ Instr.Less ∷ Instr.Not ∷ [])
unfolding meaning type_name value_name call_name package_name text_number named_base made_base sync_base member
    fmt_member runtime_member sync_member condition_member condition_method mutex_method group_method read_method
    write_method field_type
at_least = works_out (binary operator.AtLeast (name (codes "n")) (integer (codes "1")))

-- b && !b: the second operand only if the first is true
pub conjunction : pushed (binary operator.And (name (codes "b")) (unary sign.Not (name (codes "b")))) ≡
    alone (Instr.Load 3 ∷ Instr.JumpIfNot 5 ∷ Instr.Load 3 ∷ Instr.Not ∷ Instr.Jump 6 ∷ Instr.Bool false ∷ [])
unfolding meaning type_name value_name call_name package_name text_number named_base made_base sync_base member
    fmt_member runtime_member sync_member condition_member condition_method mutex_method group_method read_method
    write_method field_type
conjunction = works_out (binary operator.And (name (codes "b")) (unary sign.Not (name (codes "b"))))

-- b || true && b: the inner jumps stand inside of the outer ones
pub disjunction : pushed (binary operator.Or (name (codes "b"))
    (binary operator.And (name (codes "true")) (name (codes "b")))) ≡
    alone (Instr.Load 3 ∷ Instr.Not ∷ Instr.JumpIfNot 9 ∷ Instr.Bool true ∷ Instr.JumpIfNot 7 ∷ Instr.Load 3
    ∷ Instr.Jump 8 ∷ Instr.Bool false ∷ Instr.Jump 10 ∷ Instr.Bool true ∷ [])
unfolding meaning type_name value_name call_name package_name text_number named_base made_base sync_base member
    fmt_member runtime_member sync_member condition_member condition_method mutex_method group_method read_method
    write_method field_type
disjunction = works_out (binary operator.Or (name (codes "b"))
    (binary operator.And (name (codes "true")) (name (codes "b"))))

-- g, s, "hi", "", nil, struct{}{}
pub global : pushed (name (codes "g")) ≡
    alone (Instr.LoadGlobal 0 ∷ [])
unfolding meaning type_name value_name call_name package_name text_number named_base made_base sync_base member
    fmt_member runtime_member sync_member condition_member condition_method mutex_method group_method read_method
    write_method field_type
global = works_out (name (codes "g"))

pub constant_text : pushed (name (codes "s")) ≡
    alone (Instr.Text 1 ∷ [])
unfolding meaning type_name value_name call_name package_name text_number named_base made_base sync_base member
    fmt_member runtime_member sync_member condition_member condition_method mutex_method group_method read_method
    write_method field_type
constant_text = works_out (name (codes "s"))

pub literal_text : pushed (text (codes "hi")) ≡
    alone (Instr.Text 2 ∷ [])
unfolding meaning type_name value_name call_name package_name text_number named_base made_base sync_base member
    fmt_member runtime_member sync_member condition_member condition_method mutex_method group_method read_method
    write_method field_type
literal_text = works_out (text (codes "hi"))

pub empty_text : pushed (text []) ≡
    alone (Instr.Text 0 ∷ [])
unfolding meaning type_name value_name call_name package_name text_number named_base made_base sync_base member
    fmt_member runtime_member sync_member condition_member condition_method mutex_method group_method read_method
    write_method field_type
empty_text = works_out (text [])

pub nothing : pushed (name (codes "nil")) ≡
    alone (Instr.Nil ∷ [])
unfolding meaning type_name value_name call_name package_name text_number named_base made_base sync_base member
    fmt_member runtime_member sync_member condition_member condition_method mutex_method group_method read_method
    write_method field_type
nothing = works_out (name (codes "nil"))

pub unit_value : pushed (empty_literal) ≡
    alone (Instr.Unit ∷ [])
unfolding meaning type_name value_name call_name package_name text_number named_base made_base sync_base member
    fmt_member runtime_member sync_member condition_member condition_method mutex_method group_method read_method
    write_method field_type
unit_value = works_out (empty_literal)

-- <-c
pub receive : pushed (unary sign.Receive (name (codes "c"))) ≡
    alone (Instr.Load 0 ∷ Instr.Receive ∷ [])
unfolding meaning type_name value_name call_name package_name text_number named_base made_base sync_base member
    fmt_member runtime_member sync_member condition_member condition_method mutex_method group_method read_method
    write_method field_type
receive = works_out (unary sign.Receive (name (codes "c")))

-- t.next.n
pub field_of_field : pushed (select (select (name (codes "t")) (codes "next")) (codes "n")) ≡
    alone (Instr.Load 4 ∷ Instr.Field 1 ∷ Instr.Field 0 ∷ [])
unfolding meaning type_name value_name call_name package_name text_number named_base made_base sync_base member
    fmt_member runtime_member sync_member condition_member condition_method mutex_method group_method read_method
    write_method field_type
field_of_field = works_out (select (select (name (codes "t")) (codes "next")) (codes "n"))

-- x[n - 1]
pub element : pushed (index (name (codes "x")) (binary operator.Subtract (name (codes "n")) (integer (codes "1")))) ≡
    alone (Instr.Load 1 ∷ Instr.Load 2 ∷ Instr.Int (pos 1) ∷ Instr.Sub ∷ Instr.Index ∷ [])
unfolding meaning type_name value_name call_name package_name text_number named_base made_base sync_base member
    fmt_member runtime_member sync_member condition_member condition_method mutex_method group_method read_method
    write_method field_type
element = works_out (index (name (codes "x")) (binary operator.Subtract (name (codes "n")) (integer (codes "1"))))

-- &T{next: new(T), n: 5}
pub literal_of_struct : pushed (struct_literal (codes "T")
    (record { field = codes "next"; value = new (codes "T") }
    ∷ record { field = codes "n"; value = integer (codes "5") } ∷ [])) ≡
    alone (Instr.NewStruct 0 ∷ Instr.Dup ∷ Instr.NewStruct 0 ∷ Instr.SetField 1 ∷ Instr.Dup ∷ Instr.Int (pos 5)
    ∷ Instr.SetField 0 ∷ [])
unfolding meaning type_name value_name call_name package_name text_number named_base made_base sync_base member
    fmt_member runtime_member sync_member condition_member condition_method mutex_method group_method read_method
    write_method field_type
literal_of_struct = works_out (struct_literal (codes "T")
    (record { field = codes "next"; value = new (codes "T") }
    ∷ record { field = codes "n"; value = integer (codes "5") } ∷ []))

-- []int{7, n}, and []*T{}
pub literal_of_slice : pushed (slice_literal (named (codes "int")) (integer (codes "7") ∷ name (codes "n") ∷ [])) ≡
    alone (Instr.Int (pos 2) ∷ Instr.NewSlice (Value.Int (pos 0)) ∷ Instr.Dup ∷ Instr.Int (pos 0) ∷ Instr.Int (pos 7)
    ∷ Instr.SetIndex ∷ Instr.Dup ∷ Instr.Int (pos 1) ∷ Instr.Load 2 ∷ Instr.SetIndex ∷ [])
unfolding meaning type_name value_name call_name package_name text_number named_base made_base sync_base member
    fmt_member runtime_member sync_member condition_member condition_method mutex_method group_method read_method
    write_method field_type
literal_of_slice = works_out (slice_literal (named (codes "int")) (integer (codes "7") ∷ name (codes "n") ∷ []))

pub empty_slice : pushed (slice_literal (pointer (codes "T")) []) ≡
    alone (Instr.Int (pos 0) ∷ Instr.NewSlice Value.Nil ∷ [])
unfolding meaning type_name value_name call_name package_name text_number named_base made_base sync_base member
    fmt_member runtime_member sync_member condition_member condition_method mutex_method group_method read_method
    write_method field_type
empty_slice = works_out (slice_literal (pointer (codes "T")) [])

-- make(chan string), make(chan<- bool, n), make([][]int, 3)
pub channel : pushed (make (chan_of (named (codes "string")))) ≡
    alone (Instr.Int (pos 0) ∷ Instr.NewChan (Value.Text 0) ∷ [])
unfolding meaning type_name value_name call_name package_name text_number named_base made_base sync_base member
    fmt_member runtime_member sync_member condition_member condition_method mutex_method group_method read_method
    write_method field_type
channel = works_out (make (chan_of (named (codes "string"))))

pub buffered_channel : pushed (make_sized (send_chan_of (named (codes "bool"))) (name (codes "n"))) ≡
    alone (Instr.Load 2 ∷ Instr.NewChan (Value.Bool false) ∷ [])
unfolding meaning type_name value_name call_name package_name text_number named_base made_base sync_base member
    fmt_member runtime_member sync_member condition_member condition_method mutex_method group_method read_method
    write_method field_type
buffered_channel = works_out (make_sized (send_chan_of (named (codes "bool"))) (name (codes "n")))

pub slice_of_slices : pushed (make_sized (slice_of (slice_of (named (codes "int")))) (integer (codes "3"))) ≡
    alone (Instr.Int (pos 3) ∷ Instr.NewSlice Value.Nil ∷ [])
unfolding meaning type_name value_name call_name package_name text_number named_base made_base sync_base member
    fmt_member runtime_member sync_member condition_member condition_method mutex_method group_method read_method
    write_method field_type
slice_of_slices = works_out (make_sized (slice_of (slice_of (named (codes "int")))) (integer (codes "3")))

-- make(chan struct{})
pub channel_of_nothing : pushed (make (chan_of empty_struct)) ≡
    alone (Instr.Int (pos 0) ∷ Instr.NewChan Value.Unit ∷ [])
unfolding meaning type_name value_name call_name package_name text_number named_base made_base sync_base member
    fmt_member runtime_member sync_member condition_member condition_method mutex_method group_method read_method
    write_method field_type
channel_of_nothing = works_out (make (chan_of empty_struct))

-- &sync.Mutex{}, new(sync.WaitGroup), &sync.RWMutex{}, sync.NewCond(mu), q.L
pub mutex : pushed (sync_literal (codes "Mutex")) ≡
    alone (Instr.NewMutex ∷ [])
unfolding meaning type_name value_name call_name package_name text_number named_base made_base sync_base member
    fmt_member runtime_member sync_member condition_member condition_method mutex_method group_method read_method
    write_method field_type
mutex = works_out (sync_literal (codes "Mutex"))

pub group : pushed (new_sync (codes "WaitGroup")) ≡
    alone (Instr.NewGroup ∷ [])
unfolding meaning type_name value_name call_name package_name text_number named_base made_base sync_base member
    fmt_member runtime_member sync_member condition_member condition_method mutex_method group_method read_method
    write_method field_type
group = works_out (new_sync (codes "WaitGroup"))

pub readers_and_writers : pushed (sync_literal (codes "RWMutex")) ≡
    alone (Instr.NewRw ∷ [])
unfolding meaning type_name value_name call_name package_name text_number named_base made_base sync_base member
    fmt_member runtime_member sync_member condition_member condition_method mutex_method group_method read_method
    write_method field_type
readers_and_writers = works_out (sync_literal (codes "RWMutex"))

pub condition : pushed (call (select (name (codes "sync")) (codes "NewCond")) ((name (codes "mu")) ∷ [])) ≡
    alone (Instr.Load 5 ∷ Instr.NewCond ∷ [])
unfolding meaning type_name value_name call_name package_name text_number named_base made_base sync_base member
    fmt_member runtime_member sync_member condition_member condition_method mutex_method group_method read_method
    write_method field_type
condition = works_out (call (select (name (codes "sync")) (codes "NewCond")) ((name (codes "mu")) ∷ []))

pub mutex_of_condition : pushed (select (name (codes "q")) (codes "L")) ≡
    alone (Instr.Load 8 ∷ Instr.CondMutex ∷ [])
unfolding meaning type_name value_name call_name package_name text_number named_base made_base sync_base member
    fmt_member runtime_member sync_member condition_member condition_method mutex_method group_method read_method
    write_method field_type
mutex_of_condition = works_out (select (name (codes "q")) (codes "L"))

-- len(x)
pub length : pushed (call (name (codes "len")) ((name (codes "x")) ∷ [])) ≡
    alone (Instr.Load 1 ∷ Instr.Len ∷ [])
unfolding meaning type_name value_name call_name package_name text_number named_base made_base sync_base member
    fmt_member runtime_member sync_member condition_member condition_method mutex_method group_method read_method
    write_method field_type
length = works_out (call (name (codes "len")) ((name (codes "x")) ∷ []))

-- f(n + 1): functions of the file have numbers from 1
pub call_of_function : pushed (call (name (codes "f"))
    ((binary operator.Add (name (codes "n")) (integer (codes "1"))) ∷ [])) ≡
    alone (Instr.Load 2 ∷ Instr.Int (pos 1) ∷ Instr.Add ∷ Instr.Call 1 1 ∷ [])
unfolding meaning type_name value_name call_name package_name text_number named_base made_base sync_base member
    fmt_member runtime_member sync_member condition_member condition_method mutex_method group_method read_method
    write_method field_type
call_of_function = works_out (call (name (codes "f"))
    ((binary operator.Add (name (codes "n")) (integer (codes "1"))) ∷ []))

-- (t.next).m(7): the receiver stands below the arguments
pub call_of_method : pushed (call (select (parens (select (name (codes "t")) (codes "next"))) (codes "m"))
    ((integer (codes "7")) ∷ [])) ≡
    alone (Instr.Load 4 ∷ Instr.Field 1 ∷ Instr.Int (pos 7) ∷ Instr.Call 2 2 ∷ [])
unfolding meaning type_name value_name call_name package_name text_number named_base made_base sync_base member
    fmt_member runtime_member sync_member condition_member condition_method mutex_method group_method read_method
    write_method field_type
call_of_method = works_out (call (select (parens (select (name (codes "t")) (codes "next"))) (codes "m"))
    ((integer (codes "7")) ∷ []))
