-- A goroutine's frames after the innermost one was changed.
use Rattle.std.specs.Prelude.{◌-◌, List, length, slice_set}
use Rattle.std.specs.Borrow.{Lends, MutBor, Fml}
use Rattle.golf_base.specs.contracts.list.List.{the_row as list_row}
use Rattle.golf_data.specs.declared.goroutine.Frame.{Frame}
use Rattle.golf_data.specs.contracts.goroutine.Frame.{the_row as frame_row}

-- at the end of the loan the last frame has its last value
abbrev pub LendsTop : MutBor (List Frame) → MutBor Frame → Fml
LendsTop fs r = Lends (list_row frame_row) frame_row fs r (slice_set fs.now (length fs.now - 1))
