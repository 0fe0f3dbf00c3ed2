-- Instructions that touch only the innermost frame. They may read globals.
use Rattle.std.specs.Prelude.{◌≡◌, ℕ, Bool, true, false, List, []}
use Rattle.golf_data.specs.declared.code.Instr.{Instr}
use Rattle.golf_data.specs.declared.goroutine.PanicKind.{PanicKind}
use Rattle.golf_model.specs.Views.{FrameView, GoroutineView}
use Rattle.golf_model.specs.Changes.{Change}
use Rattle.golf_model.specs.Actors.{Actor, stands, panics}
use Rattle.golf_model.specs.Turn.{acting}
use Rattle.golf_machine.specs.declared.within.Within.{Within}

abbrev pub is_on_frame : Instr → Bool
is_on_frame (Instr.Int n) = true
is_on_frame (Instr.Bool b) = true
is_on_frame (Instr.Text k) = true
is_on_frame Instr.Unit = true
is_on_frame Instr.Nil = true
is_on_frame (Instr.Load slot) = true
is_on_frame (Instr.Store slot) = true
is_on_frame (Instr.LoadGlobal global) = true
is_on_frame Instr.Drop = true
is_on_frame Instr.Dup = true
is_on_frame Instr.Dup2 = true
is_on_frame Instr.Neg = true
is_on_frame Instr.Not = true
is_on_frame Instr.Add = true
is_on_frame Instr.Sub = true
is_on_frame Instr.Mul = true
is_on_frame Instr.Div = true
is_on_frame Instr.Rem = true
is_on_frame Instr.Eq = true
is_on_frame Instr.Less = true
is_on_frame Instr.AtMost = true
is_on_frame (Instr.Jump target) = true
is_on_frame (Instr.JumpIfNot target) = true
is_on_frame _ = false

-- For each goroutine that has the frame f, the only change is that it has the frame h instead. The frame h is of the
-- same function, and is leaving exactly as f is.
pub record Becomes (act : Actor → List Change) (f h : FrameView) : Type 0 where
  pub stands : (g : ℕ) (r : GoroutineView) (callers : List FrameView) (line : ℕ)
      → act (acting g r f callers line) ≡ stands (acting g r f callers line) h
  pub function : h.function ≡ f.function
  pub leaving : h.leaving ≡ f.leaving

-- for each goroutine that has the frame f, the changes under both are the same
abbrev pub ActsAs : (Actor → List Change) → (Actor → List Change) → FrameView → Type 0
ActsAs act other f = (g : ℕ) (r : GoroutineView) (callers : List FrameView) (line : ℕ)
    → act (acting g r f callers line) ≡ other (acting g r f callers line)

-- The result of an instruction with these changes that is tried on the frame alone. `Done`: it is done. Otherwise the
-- frame is unchanged, and the instruction panics, or no rule fits, or it touches more than the frame.
abbrev pub HasTriedWithin : Bool → Within → (Actor → List Change) → FrameView → FrameView → Type 0
HasTriedWithin on_frame Within.Done act f h = Becomes act f h
HasTriedWithin on_frame Within.ZeroDivisor act f h = (h ≡ f) × ActsAs act (λ a. panics a PanicKind.DivideByZero) f
HasTriedWithin on_frame Within.Stuck act f h = (h ≡ f) × ActsAs act (λ a. []) f
HasTriedWithin on_frame Within.Beyond act f h = (h ≡ f) × (on_frame ≡ false)
