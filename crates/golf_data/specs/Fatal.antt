-- The faults that end the program at once.
use Rattle.std.specs.Prelude.{Bool, true, false}
use Rattle.golf_data.specs.declared.goroutine.PanicKind.{PanicKind}

-- a fatal error ends the program at once and runs no deferred call; a panic unwinds (this runtime's rule)
abbrev pub is_fatal : PanicKind → Bool
is_fatal (PanicKind.Custom k) = false
is_fatal PanicKind.NilPointer = false
is_fatal (PanicKind.Index at length) = false
is_fatal PanicKind.DivideByZero = false
is_fatal PanicKind.SliceSize = false
is_fatal PanicKind.ChanSize = false
is_fatal PanicKind.SendClosed = false
is_fatal PanicKind.CloseClosed = false
is_fatal PanicKind.CloseNil = false
is_fatal PanicKind.NegativeGroup = false
is_fatal PanicKind.UnlockUnlocked = true
is_fatal PanicKind.UnlockUnlockedRw = true
is_fatal PanicKind.RUnlockUnlocked = true
is_fatal PanicKind.ReaderLimit = true
is_fatal PanicKind.FinalizerSet = true
is_fatal PanicKind.StackOverflow = true
