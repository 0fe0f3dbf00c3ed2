-- Changes of a goroutine's frames. In these lists the innermost frame, the top operand and the latest deferred call
-- come first.
use Rattle.std.specs.Prelude.{ℕ, List, [], ◌∷◌, ◌++◌, Option, Some, drop}
use Rattle.golf_data.specs.declared.value.Value.{Value}
use Rattle.golf_data.specs.declared.goroutine.Deferred.{Deferred}
use Rattle.golf_data.specs.declared.goroutine.Leaving.{Leaving}
use Rattle.golf_model.specs.Views.{FrameView}
use Rattle.golf_model.specs.Wakes.{on_top}
use Rattle.golf_model.specs.Changes.{behind_first}
use Rattle.golf_model.specs.Calls.{handed_back}

-- the frame goes on at `after`, with these values in place of its top `taken` operands
abbrev pub went : ℕ → ℕ → List Value → FrameView → FrameView
went after taken vs f = record f { at = after; operands = vs ++ drop taken f.operands }

-- the frame goes on at `after`, with this value in place of the top operand; unchanged without an operand
abbrev pub exchanged_in : ℕ → Value → FrameView → List Value → FrameView
exchanged_in after v f [] = f
exchanged_in after v f (w ∷ rest) = record f { at = after; operands = v ∷ rest }

abbrev pub exchanged : ℕ → Value → FrameView → FrameView
exchanged after v f = exchanged_in after v f f.operands

-- the frame returns, with a value if it has one
abbrev pub has_returned : ℕ → ℕ → Option Value → FrameView → FrameView
has_returned after taken v f = record f { at = after; operands = drop taken f.operands; leaving = Leaving.Returning v }

-- the frame goes on with one more deferred call
abbrev pub has_deferred : ℕ → ℕ → Deferred → FrameView → FrameView
has_deferred after taken d f = record f { at = after; operands = drop taken f.operands; deferred = d ∷ f.deferred }

-- the frame without its latest deferred call
abbrev pub undeferred : FrameView → FrameView
undeferred f = record f { deferred = behind_first f.deferred }

-- the frames without the innermost one, whose value its caller gets
abbrev pub returned : Option Value → List FrameView → List FrameView
returned v [] = []
returned v (f ∷ fs) = on_top (handed_back f.discards v) fs

-- the frame gets one more operand
abbrev pub given_back : Value → FrameView → FrameView
given_back v f = record f { operands = v ∷ f.operands }

-- the caller gets the value of the innermost frame, unless that frame discards it
abbrev pub handed : Value → List FrameView → List FrameView
handed v [] = []
handed v (f ∷ fs) = f ∷ on_top (handed_back f.discards (Some v)) fs
