-- Goroutines and frames as the plain machine holds them: the top comes first, and an operand stack is only its items.
use Rattle.std.specs.Prelude.{ℕ, Bool, List, map, reverse}
use Rattle.golf_data.specs.declared.value.Value.{Value}
use Rattle.golf_data.specs.declared.goroutine.Frame.{Frame}
use Rattle.golf_data.specs.declared.goroutine.Deferred.{Deferred}
use Rattle.golf_data.specs.declared.goroutine.Leaving.{Leaving}
use Rattle.golf_data.specs.declared.goroutine.Mode.{Mode}
use Rattle.golf_data.specs.declared.goroutine.Goroutine.{Goroutine}

-- a call that has not returned; the top operand and the latest deferred call come first
pub record FrameView : Type 0 where
  pub function : ℕ
  pub at : ℕ
  pub slots : List Value
  pub operands : List Value
  pub deferred : List Deferred
  pub leaving : Leaving
  pub discards : Bool

-- a goroutine; its innermost frame comes first
pub record GoroutineView : Type 0 where
  pub frames : List FrameView
  pub mode : Mode
  pub started : ℕ

-- the view of a frame
abbrev pub frame_view : Frame → FrameView
frame_view f = record {
  function = f.function;
  at = f.at;
  slots = f.values.slots;
  operands = reverse f.values.operands;
  deferred = reverse f.deferred;
  leaving = f.leaving;
  discards = f.discards;
}

-- the views of a goroutine's frames
abbrev pub frame_views : List Frame → List FrameView
frame_views fs = reverse (map frame_view fs)

-- the view of a goroutine
abbrev pub goroutine_view : Goroutine → GoroutineView
goroutine_view r = record { frames = frame_views r.frames; mode = r.mode; started = r.started }
