-- The lines that a run writes to standard error (profile).
use Rattle.std.specs.Prelude.{ℕ, Bool, true, false, List, [], ◌∷◌, ◌++◌, map, Option, Some, None, length, codes}
use Rattle.std.specs.Prelude.{decimal, slice_get, unwrap_or}
use Rattle.std.specs.Fmt.{signed_decimal}
use Rattle.golf_base.specs.declared.ids.GoroutineId.{GoroutineId}
use Rattle.golf_data.specs.declared.goroutine.Ending.{Ending}
use Rattle.golf_data.specs.declared.goroutine.PanicKind.{PanicKind}
use Rattle.golf_data.specs.declared.goroutine.WaitKind.{WaitKind}
use Rattle.golf_data.specs.declared.report.Entry.{Entry}
use Rattle.golf_data.specs.declared.report.Report.{Report}
use Rattle.golf_data.specs.Fatal.{is_fatal}
use Rattle.golf_why.specs.declared.explanation.Reached.{Reached}
use Rattle.golf_why.specs.declared.members.Member.{Member}

-- how a goroutine is blocked (the words of Go's own traces, as far as they have them)
abbrev pub wait_text : WaitKind → List ℕ
wait_text WaitKind.Receive = codes "chan receive"
wait_text WaitKind.ReceiveNil = codes "chan receive (nil chan)"
wait_text WaitKind.Send = codes "chan send"
wait_text WaitKind.SendNil = codes "chan send (nil chan)"
wait_text WaitKind.Select = codes "select"
wait_text WaitKind.SelectNone = codes "select (no cases)"
wait_text WaitKind.Lock = codes "sync.Mutex.Lock"
wait_text WaitKind.Group = codes "sync.WaitGroup.Wait"
wait_text WaitKind.ReadLock = codes "sync.RWMutex.RLock"
wait_text WaitKind.WriteLock = codes "sync.RWMutex.Lock"
wait_text WaitKind.Condition = codes "sync.Cond.Wait"

-- the line of a goroutine that can never run again
abbrev pub entry_line : Entry → List ℕ
entry_line e =
    codes "goroutine " ++ (decimal e.goroutine.0
    ++ (codes ": " ++ (wait_text e.wait ++
    (codes " at line " ++ (decimal e.line ++ (codes ", started at line " ++ (decimal e.started ++ codes "\n")))))))

abbrev pub entry_lines : List Entry → List ℕ
entry_lines [] = []
entry_lines (e ∷ es) = entry_line e ++ entry_lines es

-- the first part of a collection's line: what it found
abbrev pub found_text : Report → List ℕ
found_text r =
    codes "collection " ++ (decimal r.number
    ++ (codes ": marked " ++ (decimal r.marked ++ (codes ", reported " ++ decimal (length r.reported)))))

-- the second part of a collection's line: what it left
abbrev pub left_text : Report → List ℕ
left_text r =
    codes ", kept " ++ (decimal r.kept ++ (codes ", reclaimed "
    ++ (decimal r.reclaimed ++ (codes ", objects " ++ (decimal r.objects ++ codes "\n")))))

-- the line of a collection, and a line for each goroutine that it reports
abbrev pub report_text : Report → List ℕ
report_text r = (found_text r ++ left_text r) ++ entry_lines r.reported

-- these lines, one by one
abbrev pub report_line : Report → List ℕ
report_line r = found_text r ++ left_text r

abbrev pub report_lines : Report → List (List ℕ)
report_lines r = report_line r ∷ map entry_line r.reported

abbrev pub reports_text : List Report → List ℕ
reports_text [] = []
reports_text (r ∷ rs) = report_text r ++ reports_text rs

-- the line of the certificate of a collection, and of how many places it has
abbrev pub certificate_line : ℕ → ℕ → List ℕ
certificate_line number places = codes "certificate "
    ++ (decimal number ++ (codes ": " ++ (decimal places ++ codes " places\n")))

abbrev pub member_text : Member → List ℕ
member_text (Member.Object o) = codes "object " ++ decimal o.0
member_text (Member.Goroutine g) = codes "goroutine " ++ decimal g.0

-- the members of the way to a goroutine, each after a comma
abbrev pub more_members : List Member → List ℕ
more_members [] = []
more_members (m ∷ ms) = codes ", " ++ (member_text m ++ more_members ms)

-- the members, with a comma between two of them
abbrev pub members_text : List Member → List ℕ
members_text [] = []
members_text (m ∷ ms) = member_text m ++ more_members ms

-- how a goroutine that waits and is live is blocked
abbrev pub blocked_text : Reached → List ℕ
blocked_text r = codes "goroutine " ++ (decimal r.goroutine.0
    ++ (codes ": " ++ (wait_text r.wait ++ (codes " at line " ++ (decimal r.line ++ codes ", reached by ")))))

-- the line of a goroutine that waits and is live
abbrev pub reached_line : Reached → List ℕ
reached_line r = blocked_text r ++ (members_text r.by ++ codes "\n")

-- the reason for which a goroutine panics (the words of Go's runtime and of package sync)
abbrev pub panic_text : List (List ℕ) → PanicKind → List ℕ
panic_text texts (PanicKind.Custom k) = unwrap_or (slice_get texts k) []
panic_text texts PanicKind.NilPointer = codes "runtime error: invalid memory address or nil pointer dereference"
panic_text texts (PanicKind.Index at bound) =
    codes "runtime error: index out of range [" ++ (signed_decimal at ++ (codes "] with length " ++ decimal bound))
panic_text texts PanicKind.DivideByZero = codes "runtime error: integer divide by zero"
panic_text texts PanicKind.SliceSize = codes "runtime error: makeslice: len out of range"
panic_text texts PanicKind.ChanSize = codes "makechan: size out of range"
panic_text texts PanicKind.SendClosed = codes "send on closed channel"
panic_text texts PanicKind.CloseClosed = codes "close of closed channel"
panic_text texts PanicKind.CloseNil = codes "close of nil channel"
panic_text texts PanicKind.NegativeGroup = codes "sync: negative WaitGroup counter"
panic_text texts PanicKind.UnlockUnlocked = codes "sync: unlock of unlocked mutex"
panic_text texts PanicKind.UnlockUnlockedRw = codes "sync: Unlock of unlocked RWMutex"
panic_text texts PanicKind.RUnlockUnlocked = codes "sync: RUnlock of unlocked RWMutex"
panic_text texts PanicKind.ReaderLimit = codes "sync: too many readers"
panic_text texts PanicKind.FinalizerSet = codes "runtime.SetFinalizer: finalizer already set"
panic_text texts PanicKind.StackOverflow = codes "stack overflow"

abbrev pub fault_word : Bool → List ℕ
fault_word true = codes "fatal error: "
fault_word false = codes "panic: "

-- the line of a panic or of a fatal error of a goroutine
abbrev pub fault_line : List (List ℕ) → PanicKind → GoroutineId → ℕ → List ℕ
fault_line texts kind g line =
    fault_word (is_fatal kind) ++ (panic_text texts kind
    ++ (codes " (goroutine " ++ (decimal g.0 ++ (codes ", line " ++ (decimal line ++ codes ")\n")))))

abbrev pub asleep_line : List ℕ
asleep_line = codes "fatal error: all goroutines are asleep - deadlock!\n"

-- the line of a program that has crashed; it is empty for one that has returned
abbrev pub ending_line : List (List ℕ) → Ending → List ℕ
ending_line texts Ending.Returned = []
ending_line texts (Ending.Panicked kind g line) = fault_line texts kind g line
ending_line texts Ending.Asleep = asleep_line

-- the line of a program that has not ended after this many turns
abbrev pub stopped_line : ℕ → List ℕ
stopped_line turns = codes "stopped after " ++ (decimal turns ++ codes " turns\n")

-- the last line of a run of this many turns
abbrev pub last_line : List (List ℕ) → ℕ → Option Ending → List ℕ
last_line texts turns (Some e) = ending_line texts e
last_line texts turns None = stopped_line turns

-- numbers, each after a comma
abbrev pub more_numbers : List ℕ → List ℕ
more_numbers [] = []
more_numbers (n ∷ ns) = codes "," ++ (decimal n ++ more_numbers ns)

-- numbers, with a comma between two of them
abbrev pub numbers_text : List ℕ → List ℕ
numbers_text [] = []
numbers_text (n ∷ ns) = decimal n ++ more_numbers ns

-- the line of the numbers of all turns of a run
unfoldable pub history_line : List ℕ → List ℕ
history_line ns = codes "history: " ++ (numbers_text ns ++ codes "\n")

-- the line of a file with this many functions, each of which agrees with its source
abbrev pub meaning_line : ℕ → List ℕ
meaning_line functions = codes "meaning: " ++ (decimal functions ++ codes " functions agree\n")

-- the line of a file whose bytes do not lex: the fault is at this byte, on this line
abbrev pub lexical_line : ℕ → ℕ → List ℕ
lexical_line line byte = codes "refused: line " ++ (decimal line ++ (codes ": byte " ++ (decimal byte ++ codes "\n")))

-- the line of a file that has no syntax tree; the fault is on this line
abbrev pub syntax_line : ℕ → List ℕ
syntax_line line = codes "refused: line " ++ (decimal line ++ codes ": syntax\n")

-- the line of a file that breaks this rule first, on this line
abbrev pub rule_line : ℕ → ℕ → List ℕ
rule_line line rule = codes "refused: line " ++ (decimal line ++ (codes ": rule " ++ (decimal rule ++ codes "\n")))
