-- The most operands that a frame has at any reachable place of a piece.
use Rattle.std.specs.Prelude.{ℕ, zero, suc, ◌+◌, ◌-◌, Bool, cond, max, List, [], ◌∷◌, Option, Some, None, unwrap_or}
use Rattle.std.specs.Option.{option_map}
use Rattle.golf_data.specs.declared.code.Instr.{Instr}
use Rattle.golf_data.specs.declared.code.SelectCase.{SelectCase}
use Rattle.golf_data.specs.Effects.{taken, left, goes_on, case_left, cases_taken}
use Rattle.golf_code_layout.specs.Piece.{Piece}

-- the number of operands at a place; 0 if the place is not reached

abbrev pub height : Option ℕ → ℕ
height h = unwrap_or h 0

-- the operands at a place that two paths can reach: the first path decides, since both bring the same number
abbrev pub met : Option ℕ → Option ℕ → Option ℕ
met None other = other
met (Some n) other = Some n

-- the targets after a jump to target k with h operands
abbrev pub reached : List (Option ℕ) → ℕ → Option ℕ → List (Option ℕ)
reached [] k h = []
reached (t ∷ ts) zero h = met t h ∷ ts
reached (t ∷ ts) (suc k) h = t ∷ reached ts k h

abbrev pub innermost : List (Option ℕ) → Option ℕ
innermost [] = None
innermost (t ∷ ts) = t

abbrev pub outer : List (Option ℕ) → List (Option ℕ)
outer [] = []
outer (t ∷ ts) = ts

abbrev pub through : List Bool → Instr → ℕ → Option ℕ
through gives i n = cond (goes_on i) (Some (n - taken i + left gives i)) None

abbrev pub behind : List Bool → Instr → Option ℕ → Option ℕ
behind gives i None = None
behind gives i (Some n) = through gives i n

-- the most operands in a piece, the operands after it, and the operands at the targets around
pub record OperandDepth : Type 0 where
  pub most : ℕ
  pub behind : Option ℕ
  pub targets : List (Option ℕ)

abbrev pub above : Option ℕ → ℕ → Option ℕ
above h n = option_map (λ below. below + n) h

-- the cases of a `select`, on top of these operands
abbrev pub chosen : Option ℕ → List SelectCase → List (Option ℕ) → OperandDepth
chosen below [] ts = record { most = 0; behind = None; targets = ts }
chosen below (c ∷ cs) ts =
    let rest = chosen below cs (reached ts c.target (above below (case_left c.kind))) in
    record { most = max (height (above below (case_left c.kind))) rest.most; behind = None; targets = rest.targets }

abbrev pub defaulted : Option ℕ → Option ℕ → OperandDepth → OperandDepth
defaulted below None f = f
defaulted below (Some k) f = record f { targets = reached f.targets k below }

-- a piece that begins with h operands
abbrev pub flow : List Bool → Piece → Option ℕ → List (Option ℕ) → OperandDepth
flow gives Piece.Empty h ts = record { most = 0; behind = h; targets = ts }
flow gives (Piece.Op i line) h ts = let after =
    behind gives i h in record { most = height after; behind = after; targets = ts }
flow gives (Piece.Then p q) h ts =
    let a = flow gives p h ts in
    let b = flow gives q a.behind a.targets in
    record { most = max a.most b.most; behind = b.behind; targets = b.targets }
flow gives (Piece.Exit line k) h ts = record { most = 0; behind = None; targets = reached ts k h }
flow gives (Piece.Unless line k) h ts = let after =
    option_map (λ n. n - 1) h in record { most = height after; behind = after; targets = reached ts k after }
flow gives (Piece.Choose line cases otherwise) h ts = let below =
    option_map (λ n. n - cases_taken cases) h in defaulted below otherwise (chosen below cases ts)
flow gives (Piece.Block p) h ts = let a =
    flow gives p h (None ∷ ts) in record {
      most = a.most;
      behind = met a.behind (innermost a.targets);
      targets = outer a.targets;
    }
flow gives (Piece.Again p) h ts = let a =
    flow gives p h (h ∷ ts) in record { most = a.most; behind = a.behind; targets = outer a.targets }

-- the most operands in the body of a function, which begins without any
unfoldable pub depth : List Bool → Piece → ℕ
depth gives p = (flow gives p (Some 0) []).most
