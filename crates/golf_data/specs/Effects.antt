-- What an instruction does to the operands of its frame, and whether the next instruction can follow it.
use Rattle.std.specs.Prelude.{ℕ, ◌+◌, Bool, true, false, cond, List, [], ◌∷◌, unwrap_or, slice_get}
use Rattle.golf_data.specs.declared.code.Instr.{Instr}
use Rattle.golf_data.specs.declared.code.SelectCase.{SelectCase}
use Rattle.golf_data.specs.declared.code.CaseKind.{CaseKind}

-- how many operands an instruction takes
abbrev pub taken : Instr → ℕ
taken (Instr.Int n) = 0
taken (Instr.Bool b) = 0
taken (Instr.Text k) = 0
taken Instr.Unit = 0
taken Instr.Nil = 0
taken (Instr.Load s) = 0
taken (Instr.LoadGlobal g) = 0
taken (Instr.NewStruct k) = 0
taken Instr.NewMutex = 0
taken Instr.NewGroup = 0
taken Instr.NewRw = 0
taken (Instr.Jump t) = 0
taken Instr.Return = 0
taken Instr.Collect = 0
taken Instr.Dup2 = 2
taken Instr.Add = 2
taken Instr.Sub = 2
taken Instr.Mul = 2
taken Instr.Div = 2
taken Instr.Rem = 2
taken Instr.Eq = 2
taken Instr.Less = 2
taken Instr.AtMost = 2
taken (Instr.SetField i) = 2
taken Instr.Index = 2
taken Instr.SetIndex = 3
taken Instr.Send = 2
taken Instr.GroupAdd = 2
taken (Instr.Call f n) = n
taken (Instr.Go f n) = n
taken (Instr.Defer f n) = n
taken (Instr.Print n) = n
taken i = 1

-- how many operands an instruction leaves; `gives` says for each function whether it gives a value
abbrev pub left : List Bool → Instr → ℕ
left gives (Instr.Int n) = 1
left gives (Instr.Bool b) = 1
left gives (Instr.Text k) = 1
left gives Instr.Unit = 1
left gives Instr.Nil = 1
left gives (Instr.Load s) = 1
left gives (Instr.LoadGlobal g) = 1
left gives Instr.Dup = 2
left gives Instr.Dup2 = 4
left gives Instr.Neg = 1
left gives Instr.Not = 1
left gives Instr.Add = 1
left gives Instr.Sub = 1
left gives Instr.Mul = 1
left gives Instr.Div = 1
left gives Instr.Rem = 1
left gives Instr.Eq = 1
left gives Instr.Less = 1
left gives Instr.AtMost = 1
left gives (Instr.NewStruct k) = 1
left gives Instr.NewMutex = 1
left gives Instr.NewGroup = 1
left gives Instr.NewRw = 1
left gives Instr.NewCond = 1
left gives (Instr.Field i) = 1
left gives (Instr.NewSlice z) = 1
left gives (Instr.NewChan z) = 1
left gives Instr.Index = 1
left gives Instr.Len = 1
left gives Instr.Receive = 1
left gives Instr.ReceiveOk = 2
left gives Instr.CondMutex = 1
left gives (Instr.Call f n) = cond (unwrap_or (slice_get gives f) false) 1 0
left gives i = 0

-- whether the next instruction can follow it
abbrev pub goes_on : Instr → Bool
goes_on (Instr.Jump t) = false
goes_on Instr.Return = false
goes_on Instr.ReturnValue = false
goes_on Instr.Panic = false
goes_on i = true

-- the operands that a case of a `select` takes, and those that it leaves at its target
abbrev pub case_taken : CaseKind → ℕ
case_taken CaseKind.Send = 2
case_taken CaseKind.Take = 1
case_taken CaseKind.TakeOk = 1

abbrev pub case_left : CaseKind → ℕ
case_left CaseKind.Send = 0
case_left CaseKind.Take = 1
case_left CaseKind.TakeOk = 2

abbrev pub cases_taken : List SelectCase → ℕ
cases_taken [] = 0
cases_taken (c ∷ cs) = case_taken c.kind + cases_taken cs
