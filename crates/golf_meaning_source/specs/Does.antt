-- When code does what a source does.
use Rattle.std.specs.Prelude.{◌≡◌, ℕ, ◌+◌, ◌<◌, ◌≤◌, List, [], ◌∷◌, ◌++◌, length, Some, slice_get}
use Rattle.golf_data.specs.declared.value.Value.{Value}
use Rattle.golf_check_types.specs.declared.locals.Local.{Local}
use Rattle.golf_code_layout.specs.Piece.{Piece}
use Rattle.golf_code_of.specs.Expressions.{Made}
use Rattle.golf_meaning_flat.specs.Worlds.{World, Part, halted, bind, pushed}
use Rattle.golf_meaning_flat.specs.InstructionEffects.{Frame}
use Rattle.golf_meaning_flat.specs.Structured.{PieceExit, run}
use Rattle.golf_meaning_flat.specs.Laws.{Said}
use Rattle.golf_meaning_source.specs.Names.{Env}
use Rattle.golf_meaning_source.specs.Operations.{Taking, Gives}
use Rattle.golf_meaning_source.specs.Exprs.{Location, read, store}

abbrev pub frame : List Value → List Value → Frame
frame slots operands = record { slots = slots; operands = operands }

-- the way of the code matches the part of the source: if the part goes on, K holds; if it halts, the code halts alike,
-- unless nothing is said of that halt
abbrev pub Sim : {A : Type 0} → Part A → (A → World → PieceExit → Type 0) → PieceExit → Type 0
Sim (Part.Gives a w) K o = K a w o
Sim (Part.Stops h os) K o = Said h (o ≡ PieceExit.Ends (halted h os))

-- it goes on with these operands on top
abbrev pub OnTop : List Value → List Value → List Value → World → PieceExit → Type 0
OnTop slots rest vs u o = o ≡ PieceExit.Through (frame slots (pushed vs rest)) u

-- the environment has the names of the locals, and their values are in their slots
abbrev pub Stored : List Local → Env → List Value → Type 0
Stored [] [] slots = Unit {0}
Stored [] (x ∷ xs) slots = ⊥
Stored (d ∷ ds) [] slots = ⊥
Stored (d ∷ ds) (x ∷ xs) slots = (x.name ≡ d.name) × (slice_get slots d.slot ≡ Some x.value) × Stored ds xs slots

-- the slots of the locals rise, from `low` on, and lie below `high`
abbrev pub SlotsRise : ℕ → ℕ → List Local → Type 0
SlotsRise low high [] = low ≤ high
SlotsRise low high (d ∷ ds) = (low ≤ d.slot) × SlotsRise (d.slot + 1) high ds

-- no local has this slot
abbrev pub Apart : ℕ → List Local → Type 0
Apart i [] = Unit {0}
Apart i (d ∷ ds) = (d.slot ≡ i → ⊥) × Apart i ds

-- the slots below `next` that are not those of the locals stay as they were
abbrev pub Kept : List Local → ℕ → List Value → List Value → Type 0
Kept ds next slots now = (i : ℕ) → i < next → Apart i ds → slice_get now i ≡ slice_get slots i

-- the way goes on with the environment changed
abbrev pub Changed : List Local → List Value → List Value → Env → World → PieceExit → Type 0
Changed ds slots rest env u o = (now : List Value) × (o ≡ PieceExit.Through (frame now rest) u) × Stored ds env now
    × (length now ≡ length slots) × ((i : ℕ) → Apart i ds → slice_get now i ≡ slice_get slots i)

-- the environment of the known names is stored in their slots
pub record Known (ds : List Local) (next : ℕ) (env : Env) (slots : List Value) : Type 0 where
  pub stored : Stored ds env slots
  pub rising : SlotsRise 0 next ds

module _ (taking : Taking) where
  -- the piece takes these operands and gives the same values as the source
  abbrev pub Turns : List Value → Piece → List Value → Gives → Type 0
  Turns slots p takes f = (n at : ℕ) (ts : List ℕ) (rest : List Value) (w : World)
      → Sim (f w) (OnTop slots rest) (run taking.gives n p at ts (frame slots (pushed takes rest)) w)

  -- the code after these operands matches the source after these values
  abbrev pub Tail : {B : Type 0} → List Value → List Value → Piece → List Value → (World → Part B)
      → (B → World → PieceExit → Type 0) → Type 0
  Tail slots rest q vs g L = (n at : ℕ) (ts : List ℕ) (w : World)
      → Sim (g w) L (run taking.gives n q at ts (frame slots (pushed vs rest)) w)

  -- The code of an expression does what the expression does, in this environment: its value, its place, and the
  -- operands that name the place.
  pub record Matches (ds : List Local) (slots : List Value) (env : Env) (value : Gives) (place : Location)
      (parts : Gives)
      (m : Made) : Type 0 where
    pub value_turns : Turns slots m.piece [] value
    pub parts_turn : Turns slots m.parts [] parts
    -- the place is read on top of the operands that name it
    pub again : (rest vs : List Value) (q : Piece) (g : List Value → World → Part Env)
        → ((xs : List Value) → Tail slots rest q (vs ++ xs) (g xs) (Changed ds slots rest))
        → Tail slots rest (Piece.Then m.twice (Piece.Then m.read q)) vs (λ w. bind (read taking env place vs w) g)
        (Changed ds slots rest)
    pub stores : (vs : List Value) (n at : ℕ) (ts : List ℕ) (rest : List Value) (w : World)
        → Sim (store taking env place vs w) (Changed ds slots rest)
        (run taking.gives n m.store at ts (frame slots (pushed vs rest)) w)
