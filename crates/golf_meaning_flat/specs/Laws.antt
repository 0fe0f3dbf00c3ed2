-- The laws of flat and of structured code, as statements.
use Rattle.std.specs.Prelude.{◌≡◌, ℕ, ◌+◌, ◌<◌, ◌≤◌, Bool, List, [], ◌∷◌, ◌++◌, Some, slice_get}
use Rattle.golf_data.specs.declared.code.CodeLine.{CodeLine}
use Rattle.golf_code_layout.specs.Piece.{Piece, size, target, placed}
use Rattle.golf_meaning_flat.specs.Worlds.{Operation, Misfit, Halt, End, Told, World}
use Rattle.golf_meaning_flat.specs.InstructionEffects.{Frame}
use Rattle.golf_meaning_flat.specs.Flat.{exec}
use Rattle.golf_meaning_flat.specs.Structured.{PieceExit, run}

-- these lines are at this place of the code
abbrev pub Stand : List CodeLine → ℕ → List CodeLine → Type 0
Stand code at [] = Unit {0}
Stand code at (l ∷ ls) = (slice_get code at ≡ Some l) × Stand code (at + 1) ls

-- a short meaning must have used at least n instructions
abbrev pub Enough : End → ℕ → ℕ → Type 0
Enough End.Short n j = n ≤ j
Enough (End.Halts h) n j = Unit {0}

module _ (gives : List Bool) where
  -- the code goes from one place to another, by at least one instruction (Leads) or by any number (Comes)
  pub record AdvancesTo (code : List CodeLine) (at : ℕ) (c : Frame) (w : World) (to : ℕ) (d : Frame)
      (u : World) : Type 0 where
    pub by : (k : ℕ) → (j : ℕ) × (k < j) × (exec gives code j at c w ≡ exec gives code k to d u)

  pub record RunsTo (code : List CodeLine) (at : ℕ) (c : Frame) (w : World) (to : ℕ) (d : Frame)
      (u : World) : Type 0 where
    pub by : (k : ℕ) → (j : ℕ) × (k ≤ j) × (exec gives code j at c w ≡ exec gives code k to d u)

  -- the code at a place does what the piece does
  abbrev pub FollowsPiece : List CodeLine → ℕ → ℕ → List ℕ → ℕ → Frame → World → PieceExit → Type 0
  FollowsPiece code n at ts to c w (PieceExit.Through d u) = RunsTo code at c w to d u
  FollowsPiece code n at ts to c w (PieceExit.Leaves k d u) = AdvancesTo code at c w (target ts k) d u
  FollowsPiece code n at ts to c w (PieceExit.Ends t) = (j : ℕ) × Enough t.end n j × (exec gives code j at c w ≡ t)
  FollowsPiece code n at ts to c w PieceExit.Lost = Unit {0}

-- placed code does what its piece does, wherever it is placed
abbrev pub PlacedFollows : Type 0
PlacedFollows = (gives : List Bool) (code : List CodeLine) (n : ℕ) (p : Piece) (at : ℕ) (ts : List ℕ) (c : Frame)
    (w : World) → Stand code at (placed p at ts)
    → FollowsPiece gives code n at ts (at + size p) c w (run gives n p at ts c w)

-- Two meanings under bounds: each bound of one has a bound of the other.

abbrev pub BeginsWith : List Operation → List Operation → Type 0
BeginsWith xs ys = (zs : List Operation) × (xs ≡ ys ++ zs)

-- a meaning that halts is equal to the other; the operations of a short meaning are a prefix of the other's
abbrev pub IsPrefix : End → Told → Told → Type 0
IsPrefix End.Short a b = BeginsWith b.operations a.operations
IsPrefix (End.Halts h) a b = b ≡ a

abbrev pub IsPartOf : Told → Told → Type 0
IsPartOf a b = IsPrefix a.end a b

pub record Agree (f g : ℕ → Told) : Type 0 where
  pub forth : (n : ℕ) → (m : ℕ) × IsPartOf (f n) (g m)
  pub back : (m : ℕ) → (n : ℕ) × IsPartOf (g m) (f n)

-- Whether a halt of the source says that the code halts alike. It says nothing if no rule fits, or if only the source
-- has looked at the kinds of an answer.
abbrev pub Said : Halt → Type 0 → Type 0
Said (Halt.Unfit Misfit.OfAnswer) P = Unit {0}
Said (Halt.Unfit Misfit.OfRule) P = Unit {0}
Said h P = P

-- the code does the meaning; if the meaning is short, the code uses at least n instructions
abbrev pub Done : List Bool → List CodeLine → Frame → World → ℕ → Told → End → Type 0
Done gives code c w n t (End.Halts h) = Said h ((j : ℕ) × (exec gives code j 0 c w ≡ t))
Done gives code c w n t End.Short = (j : ℕ) × (n ≤ j) × (exec gives code j 0 c w ≡ t)

-- a rule fits, and no answer failed because of the kinds of its values
abbrev pub IsRuled : End → Type 0
IsRuled (End.Halts (Halt.Unfit Misfit.OfAnswer)) = ⊥
IsRuled (End.Halts (Halt.Unfit Misfit.OfRule)) = ⊥
IsRuled e = Unit {0}

abbrev pub HasRules : (ℕ → Told) → Type 0
HasRules f = (n : ℕ) → IsRuled (f n).end

abbrev pub BothWays : Type 0
BothWays = (gives : List Bool) (code : List CodeLine) (c : Frame) (w : World) (f : ℕ → Told)
    → ((n : ℕ) → Done gives code c w n (f n) (f n).end) → HasRules f → Agree f (λ m. exec gives code m 0 c w)
