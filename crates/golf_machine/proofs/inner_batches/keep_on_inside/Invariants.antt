use Rattle.std.proofs.Common.{◌≡◌, Some, length, slice_get}
use Rattle.golf_data.specs.declared.goroutine.Leaving.{Leaving}
use Rattle.golf_model.specs.Views.{frame_view}
use Rattle.golf_machine.specs.Batches.{HasKeptInside}
use Rattle.golf_machine.proofs.inner_batches.keep_on_inside.Given as goal

-- the numbers so far were taken, and the frame is of this function and not leaving
abbrev pub invariant-loop-number : goal.invariant-loop-number
invariant-loop-number g l = record {
  kept : HasKeptInside l.code l.globals (frame_view l.fn.frame) (frame_view l.frame)
      (g.N.Numbers.left l.fn.numbers) (g.N.Numbers.left l.numbers) (g.N.Numbers.given l.fn.numbers)
      (g.N.Numbers.given l.numbers);
  function : Some l.function ≡ slice_get l.code.functions l.frame.function;
  stays : l.frame.leaving ≡ Leaving.No;
}

-- an event less is to come
abbrev pub decreases-loop-number : goal.decreases-loop-number
decreases-loop-number g l = length (g.N.Numbers.left l.numbers)
