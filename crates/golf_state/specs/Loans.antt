-- The state after a part that it lent was changed.
use Rattle.std.specs.Prelude.{ℕ, List}
use Rattle.std.specs.Borrow.{Lends, MutBor, Fml}
use Rattle.golf_base.specs.contracts.list.List.{the_row as list_row}
use Rattle.golf_data.specs.declared.goroutine.Frame.{Frame}
use Rattle.golf_data.specs.contracts.goroutine.Frame.{the_row as frame_row}
use Rattle.golf_data.specs.declared.value.Object.{Object}
use Rattle.golf_data.specs.contracts.value.Object.{the_row as object_row}
use Rattle.golf_model.specs.Views.{frame_views}
use Rattle.golf_model.specs.State.{State}
use Rattle.golf_model.specs.Changes.{replace}
use Rattle.golf_state.specs.contracts.state.State.{the_row as state_row}
use Rattle.golf_state.specs.Looked.{reframed}

-- at the end of the loan the goroutine has the last frames
abbrev pub LendsFrames : MutBor State → ℕ → MutBor (List Frame) → Fml
LendsFrames s g r = Lends state_row (list_row frame_row) s r (λ w. reframed g (frame_views w) s.now)

-- at the end of the loan the object has its last value
abbrev pub LendsStateObject : MutBor State → ℕ → MutBor Object → Fml
LendsStateObject s o r = Lends state_row object_row s r (λ x. replace o x s.now)
