-- The goroutine whose turn it is, and the usual outcomes of its turn as lists of changes. The empty list means that no
-- rule fits.
use Rattle.std.specs.Prelude.{ℕ, ◌+◌, zero, suc, Bool, true, false, List, [], ◌∷◌, Option, Some, None, ℤ}
use Rattle.golf_data.specs.declared.value.Value.{Value}
use Rattle.golf_data.specs.declared.value.Object.{Object}
use Rattle.golf_data.specs.declared.value.Channel.{Channel}
use Rattle.golf_data.specs.declared.goroutine.Ending.{Ending}
use Rattle.golf_data.specs.declared.goroutine.Mode.{Mode}
use Rattle.golf_data.specs.declared.goroutine.PanicKind.{PanicKind}
use Rattle.golf_data.specs.declared.goroutine.Wait.{Wait}
use Rattle.golf_data.specs.declared.goroutine.WaitKind.{WaitKind}
use Rattle.golf_model.specs.Views.{FrameView, GoroutineView}
use Rattle.golf_model.specs.Wakes.{fault, unwinding}
use Rattle.golf_model.specs.Changes.{Change}

-- a goroutine with a frame, in its turn: its number, its innermost frame, the frames below, the line where it was
-- started, and the line of its instruction
pub record Actor : Type 0 where
  pub number : ℕ
  pub frame : FrameView
  pub callers : List FrameView
  pub started : ℕ
  pub line : ℕ

-- the goroutine with these frames
abbrev pub with_frames : Actor → List FrameView → GoroutineView
with_frames a frames = record { frames = frames; mode = Mode.Running; started = a.started }

-- the goroutine with this innermost frame in place of its own
abbrev pub standing : Actor → FrameView → GoroutineView
standing a f = with_frames a (f ∷ a.callers)

-- the frame after its instruction, with these operands
abbrev pub next : FrameView → List Value → FrameView
next f operands = record f { at = f.at + 1; operands = operands }

-- the goroutine goes on with this frame
abbrev pub stands : Actor → FrameView → List Change
stands a f = Change.Become a.number (standing a f) ∷ []

-- it goes on after the instruction, with these operands
abbrev pub goes : Actor → List Value → List Change
goes a operands = stands a (next a.frame operands)

-- it goes on at the target
abbrev pub jumps : Actor → ℕ → List Value → List Change
jumps a target operands = stands a (record a.frame { at = target; operands = operands })

-- it goes on with one more value, if there is one; else no rule fits
abbrev pub leaves : Actor → List Value → Option Value → List Change
leaves a operands None = []
leaves a operands (Some v) = goes a (v ∷ operands)

-- it panics in its innermost frame
abbrev pub panics : Actor → PanicKind → List Change
panics a kind = stands a (unwinding (fault kind a.line) a.frame)

-- a fatal error ends the program at once, and runs no deferred call
abbrev pub dies : Actor → PanicKind → List Change
dies a kind = Change.Finish (Ending.Panicked kind (record { 0 = a.number }) a.line) ∷ []

-- it blocks with this frame
abbrev pub blocks : Actor → FrameView → WaitKind → List Wait → List Change
blocks a f kind waits = Change.Block a.number kind a.line waits (standing a f) ∷ []

-- acts on the value, if there is one; else no rule fits
abbrev pub on_some : {X : Type 0} → (X → List Change) → Option X → List Change
on_some act None = []
on_some act (Some x) = act x

-- takes one operand, two or three, the last one from the top; with fewer no rule fits
abbrev pub taking_one : (Value → List Value → List Change) → List Value → List Change
taking_one act [] = []
taking_one act (x ∷ rest) = act x rest

abbrev pub taking_two : (Value → Value → List Value → List Change) → List Value → List Change
taking_two act [] = []
taking_two act (y ∷ []) = []
taking_two act (y ∷ x ∷ rest) = act x y rest

abbrev pub taking_three : (Value → Value → Value → List Value → List Change) → List Value → List Change
taking_three act [] = []
taking_three act (z ∷ []) = []
taking_three act (z ∷ y ∷ []) = []
taking_three act (z ∷ y ∷ x ∷ rest) = act x y z rest

-- takes n operands, as a list in source order; with fewer no rule fits
abbrev pub taking_from : ℕ → List Value → (List Value → List Value → List Change) → List Value → List Change
taking_from zero taken act rest = act taken rest
taking_from (suc n) taken act [] = []
taking_from (suc n) taken act (v ∷ rest) = taking_from n (v ∷ taken) act rest

abbrev pub taking : ℕ → (List Value → List Value → List Change) → List Value → List Change
taking n act operands = taking_from n [] act operands

-- the first list of changes if the test holds, else the second
abbrev pub choose : Bool → List Change → List Change → List Change
choose true first second = first
choose false first second = second

-- acts on the object of a reference; nil panics, and for any other value no rule fits
abbrev pub at_reference : Actor → (ℕ → List Change) → Value → List Change
at_reference a act (Value.Int n) = []
at_reference a act (Value.Bool b) = []
at_reference a act (Value.Text k) = []
at_reference a act Value.Unit = []
at_reference a act Value.Nil = panics a PanicKind.NilPointer
at_reference a act (Value.Ref o) = act o.0

-- the same, with a given outcome for nil
abbrev pub at_reference_or : List Change → (ℕ → List Change) → Value → List Change
at_reference_or nil act (Value.Int n) = []
at_reference_or nil act (Value.Bool b) = []
at_reference_or nil act (Value.Text k) = []
at_reference_or nil act Value.Unit = []
at_reference_or nil act Value.Nil = nil
at_reference_or nil act (Value.Ref o) = act o.0

-- acts on an object of one kind; for another kind no rule fits
abbrev pub at_struct : (List Value → List Change) → Option Object → List Change
at_struct act None = []
at_struct act (Some (Object.Struct fields)) = act fields
at_struct act (Some (Object.Slice elements)) = []
at_struct act (Some (Object.Chan c)) = []
at_struct act (Some (Object.Mutex locked)) = []
at_struct act (Some (Object.Group n)) = []
at_struct act (Some (Object.Rw n)) = []
at_struct act (Some (Object.Cond v)) = []

abbrev pub at_slice : (List Value → List Change) → Option Object → List Change
at_slice act None = []
at_slice act (Some (Object.Struct fields)) = []
at_slice act (Some (Object.Slice elements)) = act elements
at_slice act (Some (Object.Chan c)) = []
at_slice act (Some (Object.Mutex locked)) = []
at_slice act (Some (Object.Group n)) = []
at_slice act (Some (Object.Rw n)) = []
at_slice act (Some (Object.Cond v)) = []

abbrev pub at_channel : (Channel → List Change) → Option Object → List Change
at_channel act None = []
at_channel act (Some (Object.Struct fields)) = []
at_channel act (Some (Object.Slice elements)) = []
at_channel act (Some (Object.Chan c)) = act c
at_channel act (Some (Object.Mutex locked)) = []
at_channel act (Some (Object.Group n)) = []
at_channel act (Some (Object.Rw n)) = []
at_channel act (Some (Object.Cond v)) = []

abbrev pub at_mutex : (Bool → List Change) → Option Object → List Change
at_mutex act None = []
at_mutex act (Some (Object.Struct fields)) = []
at_mutex act (Some (Object.Slice elements)) = []
at_mutex act (Some (Object.Chan c)) = []
at_mutex act (Some (Object.Mutex locked)) = act locked
at_mutex act (Some (Object.Group n)) = []
at_mutex act (Some (Object.Rw n)) = []
at_mutex act (Some (Object.Cond v)) = []

abbrev pub at_group : (ℤ → List Change) → Option Object → List Change
at_group act None = []
at_group act (Some (Object.Struct fields)) = []
at_group act (Some (Object.Slice elements)) = []
at_group act (Some (Object.Chan c)) = []
at_group act (Some (Object.Mutex locked)) = []
at_group act (Some (Object.Group n)) = act n
at_group act (Some (Object.Rw n)) = []
at_group act (Some (Object.Cond v)) = []

abbrev pub at_rw : (ℤ → List Change) → Option Object → List Change
at_rw act None = []
at_rw act (Some (Object.Struct fields)) = []
at_rw act (Some (Object.Slice elements)) = []
at_rw act (Some (Object.Chan c)) = []
at_rw act (Some (Object.Mutex locked)) = []
at_rw act (Some (Object.Group n)) = []
at_rw act (Some (Object.Rw n)) = act n
at_rw act (Some (Object.Cond v)) = []

abbrev pub at_condition : (Value → List Change) → Option Object → List Change
at_condition act None = []
at_condition act (Some (Object.Struct fields)) = []
at_condition act (Some (Object.Slice elements)) = []
at_condition act (Some (Object.Chan c)) = []
at_condition act (Some (Object.Mutex locked)) = []
at_condition act (Some (Object.Group n)) = []
at_condition act (Some (Object.Rw n)) = []
at_condition act (Some (Object.Cond v)) = act v
