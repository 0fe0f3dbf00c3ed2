-- Bodies with each kind of expression, against what was worked out by hand.
-- For: `meant`, golf_meaning_source/specs/ExpressionMeaning.antt
-- By: computing
use Rattle.std.specs.Prelude.{negsuc, [], ◌∷◌, codes}
use Rattle.std.proofs.Common.{refl}
use Rattle.golf_syntax_trees.specs.declared.expressions.BinaryOperator.TheVariants as binary
use Rattle.golf_syntax_trees.specs.declared.expressions.UnaryOperator.TheVariants as unary
use Rattle.golf_data.specs.declared.value.Value.{Value}
use Rattle.golf_data.specs.declared.code.Instr.{Instr}
use Rattle.golf_code_of.proofs.Examples.Writing as w
use Rattle.golf_meaning_statements.proofs.OnLiterals.{on_literals}
use Rattle.golf_meaning_statements.proofs.Samples as s
use Rattle.golf_meaning_statements.proofs.Samples.{Sample, name, integer, unary_of, binary_of, does, returns}
use Rattle.golf_meaning_statements.proofs.Bodies.{ref, int, Tells, works_out, c, x, n, shown, answer, gives}

abbrev b : Sample
b = name (codes "b")

-- return -(n * 3) % 4: -15 % 4, the sign of which is that of -15
pub calculates : Tells (returns (binary_of binary.Remainder
    (unary_of unary.Negate (s.parens (binary_of binary.Multiply n (integer (codes "3"))))) (integer (codes "4"))) ∷ [])
    [] 1 (gives [] (Value.Int (negsuc 2)))
unfolding on_literals
calculates = works_out refl

-- return k, which is -3
pub returns_a_constant : Tells (returns (name (codes "k")) ∷ []) [] 1 (gives [] (Value.Int (negsuc 2)))
unfolding on_literals
returns_a_constant = works_out refl

-- if n != 5 || n == 4 || n <= 4 || n >= 6 || n > 5 || n < 5 || !b { return 0 }; return 1
pub compares_and_finds_none : Tells (s.if_then
    (binary_of binary.Or (binary_of binary.Or
    (binary_of binary.Or (binary_of binary.Or
    (binary_of binary.Or (binary_of binary.Or (binary_of binary.NotEqual n (integer (codes "5")))
    (binary_of binary.Equal n (integer (codes "4")))) (binary_of binary.AtMost n (integer (codes "4"))))
    (binary_of binary.AtLeast n (integer (codes "6")))) (binary_of binary.Greater n (integer (codes "5"))))
    (binary_of binary.Less n (integer (codes "5")))) (unary_of unary.Not b)) (returns (integer (codes "0")) ∷ [])
    ∷ returns (integer (codes "1")) ∷ []) [] 1 (gives [] (int 1))
unfolding on_literals
compares_and_finds_none = works_out refl

-- if n == 5 && n != 4 && n <= 5 && n >= 5 && n > 4 && n < 6 && true && !false { return 0 }; return 1
pub compares_and_finds_all : Tells (s.if_then
    (binary_of binary.And (binary_of binary.And
    (binary_of binary.And (binary_of binary.And
    (binary_of binary.And (binary_of binary.And
    (binary_of binary.And (binary_of binary.Equal n (integer (codes "5")))
    (binary_of binary.NotEqual n (integer (codes "4")))) (binary_of binary.AtMost n (integer (codes "5"))))
    (binary_of binary.AtLeast n (integer (codes "5")))) (binary_of binary.Greater n (integer (codes "4"))))
    (binary_of binary.Less n (integer (codes "6")))) (name (codes "true"))) (unary_of unary.Not (name (codes "false"))))
    (returns (integer (codes "0")) ∷ []) ∷ returns (integer (codes "1")) ∷ []) [] 1 (gives [] (int 0))
unfolding on_literals
compares_and_finds_all = works_out refl

-- if t.next == t { return 0 }; if t != nil { return 1 }; return 2
pub compares_pointers : Tells (s.if_then
    (binary_of binary.Equal (s.dot (name (codes "t")) (codes "next")) (name (codes "t")))
    (returns (integer (codes "0")) ∷ []) ∷ s.if_then (binary_of binary.NotEqual (name (codes "t")) (name (codes "nil")))
    (returns (integer (codes "1")) ∷ []) ∷ returns (integer (codes "2")) ∷ []) (answer (Value.Nil ∷ []) ∷ []) 1
    (gives (shown (Instr.Field 1) (ref 4 ∷ []) ∷ []) (int 1))
unfolding on_literals
compares_pointers = works_out refl

-- c = make(chan int); c <- n; x = make([]int, n); return n: without a size, 0
pub makes_a_channel_and_a_slice : Tells (does (s.assign c (s.make (w.chan_of (w.named (codes "int")))))
    ∷ does (s.send c n) ∷ does (s.assign x (s.make_sized (w.slice_of (w.named (codes "int"))) n)) ∷ returns n ∷ [])
    (answer (ref 9 ∷ []) ∷ answer [] ∷ answer (ref 10 ∷ []) ∷ []) 1
    (gives (shown (Instr.NewChan (int 0)) (int 0 ∷ []) ∷ shown Instr.Send (ref 9 ∷ int 5 ∷ [])
    ∷ shown (Instr.NewSlice (int 0)) (int 5 ∷ []) ∷ []) (int 5))
unfolding on_literals
makes_a_channel_and_a_slice = works_out refl

-- x = []int{f(1), n}; return n: each element is stored before the next one is evaluated
pub makes_a_slice_of_elements : Tells (does
    (s.assign x (s.slice_literal (w.named (codes "int"))
    (s.call (name (codes "f")) (integer (codes "1") ∷ []) ∷ n ∷ []))) ∷ returns n ∷ [])
    (answer (ref 9 ∷ []) ∷ answer (int 7 ∷ []) ∷ answer [] ∷ answer [] ∷ []) 1
    (gives (shown (Instr.NewSlice (int 0)) (int 2 ∷ []) ∷ shown (Instr.Call 1 1) (int 1 ∷ [])
    ∷ shown Instr.SetIndex (ref 9 ∷ int 0 ∷ int 7 ∷ []) ∷ shown Instr.SetIndex (ref 9 ∷ int 1 ∷ int 5 ∷ []) ∷ [])
    (int 5))
unfolding on_literals
makes_a_slice_of_elements = works_out refl

-- t = new(T); t = &T{next: t, n: f(n)}; return n: fields by their places, next 1 and n 0
pub makes_structs : Tells (does (s.assign (name (codes "t")) (s.new (codes "T")))
    ∷ does (s.assign (name (codes "t")) (s.struct_literal (codes "T")
    (record { field = codes "next"; value = name (codes "t") }
    ∷ record { field = codes "n"; value = s.call (name (codes "f")) (n ∷ []) } ∷ []))) ∷ returns n ∷ [])
    (answer (ref 9 ∷ []) ∷ answer (ref 10 ∷ []) ∷ answer [] ∷ answer (int 7 ∷ []) ∷ answer [] ∷ []) 1
    (gives (shown (Instr.NewStruct 0) [] ∷ shown (Instr.NewStruct 0) [] ∷ shown (Instr.SetField 1) (ref 10 ∷ ref 9 ∷ [])
    ∷ shown (Instr.Call 1 1) (int 5 ∷ []) ∷ shown (Instr.SetField 0) (ref 10 ∷ int 7 ∷ []) ∷ []) (int 5))
unfolding on_literals
makes_structs = works_out refl

-- mu = &sync.Mutex{}; wg = new(sync.WaitGroup); rw = &sync.RWMutex{}; q = sync.NewCond(mu); return n
pub makes_what_waits : Tells (does (s.assign (name (codes "mu")) (s.sync_literal (codes "Mutex")))
    ∷ does (s.assign (name (codes "wg")) (s.new_sync (codes "WaitGroup")))
    ∷ does (s.assign (name (codes "rw")) (s.sync_literal (codes "RWMutex")))
    ∷ does (s.assign (name (codes "q")) (s.call (s.dot (name (codes "sync")) (codes "NewCond"))
    (name (codes "mu") ∷ []))) ∷ returns n ∷ [])
    (answer (ref 9 ∷ []) ∷ answer (ref 10 ∷ []) ∷ answer (ref 11 ∷ []) ∷ answer (ref 12 ∷ []) ∷ []) 1
    (gives (shown Instr.NewMutex [] ∷ shown Instr.NewGroup [] ∷ shown Instr.NewRw [] ∷ shown Instr.NewCond (ref 9 ∷ [])
    ∷ []) (int 5))
unfolding on_literals
makes_what_waits = works_out refl

-- d := make(chan struct{}); d <- struct{}{}; return n
pub sends_nothing : Tells (does (s.define (codes "d") (s.make (w.chan_of w.empty_struct)))
    ∷ does (s.send (name (codes "d")) s.empty_literal) ∷ returns n ∷ []) (answer (ref 9 ∷ []) ∷ answer [] ∷ []) 1
    (gives (shown (Instr.NewChan Value.Unit) (int 0 ∷ []) ∷ shown Instr.Send (ref 9 ∷ Value.Unit ∷ []) ∷ []) (int 5))
unfolding on_literals
sends_nothing = works_out refl
