-- What ranges over slices and over channels share: names that are declared, and steps on known slots.
-- For: `ranging`, golf_meaning_statements/specs/Steps.antt.
-- By: cases of the names, and computing the steps.
use Rattle.std.proofs.Common.{◌≡◌, ℕ, ◌+◌, ◌<◌, Bool, true, false, not, List, [], ◌∷◌, ◌++◌, length, Option, Some, ap}
use Rattle.std.proofs.Common.{subst, slice_get, slice_set, arith, length-append}
use Rattle.std.proofs.lemmas.List.{length-set}
use Rattle.golf_syntax_trees.specs.declared.statements.RangeNames.{RangeNames}
use Rattle.golf_syntax_trees.specs.declared.statements.RangeNames.TheVariants as range
use Rattle.golf_data.specs.declared.value.Value.{Value}
use Rattle.golf_data.specs.declared.code.Instr.{Instr}
use Rattle.golf_check_types.specs.declared.types.GoType.{GoType}
use Rattle.golf_check_types.specs.declared.locals.Local.{Local}
use Rattle.golf_check_types.specs.declared.scopes.Scope.{Scope}
use Rattle.golf_check_types.specs.Scopes.{variable}
use Rattle.golf_check_types.specs.Names.{is_blank}
use Rattle.golf_check_types.specs.Statements as W
use Rattle.golf_check_types.specs.Statements.{behind, range_names, int_type}
use Rattle.golf_code_layout.specs.Piece.{Piece, op}
use Rattle.golf_meaning_flat.specs.Worlds as V
use Rattle.golf_meaning_flat.specs.Worlds.{World}
use Rattle.golf_meaning_flat.specs.InstructionEffects.{on_some}
use Rattle.golf_meaning_flat.specs.Structured.{PieceExit, from_part, then_way, run}
use Rattle.golf_meaning_source.specs.Names.{Env}
use Rattle.golf_meaning_source.specs.Operations.{Taking}
use Rattle.golf_meaning_source.specs.Does.{frame, Tail, Stored, SlotsRise, Known}
use Rattle.golf_meaning_source.proofs.Environments.{set-other, set-same, stored-below}
use Rattle.golf_meaning_statements.specs.Steps.{declared}
use Rattle.golf_meaning_statements.proofs.Flowing.{rising-append}
use Rattle.golf_meaning_statements.proofs.Simples.{stored-new, there-is}

-- slots below this one stay
abbrev pub Below : ℕ → List Value → List Value → Type 0
Below k slots now = (j : ℕ) → j < k → slice_get now j ≡ slice_get slots j

-- it goes on with these names, and lower slots stay
abbrev pub NamedNow : List Local → ℕ → List Value → List Value → Env → World → PieceExit → Type 0
NamedNow al k slots rest env u o = (now : List Value) × (o ≡ PieceExit.Through (frame now rest) u) × Stored al env now
    × (length now ≡ length slots) × Below k slots now

one-name-rises : (b : Bool) (n : List ℕ) (t : Option GoType) (s : Scope)
    → SlotsRise s.next (s.next + length (W.one_new b n t s).slots) (W.one_new b n t s).declares
one-name-rises true n t s = (omega arith, omega arith)
one-name-rises false n t s = omega arith

pub names-rise : (names : RangeNames) (slice : Bool) (el : Option GoType) (s : Scope)
    → SlotsRise s.next (behind s (range_names names slice el s)).next (range_names names slice el s).declares
names-rise range.Neither slice el s = omega arith
names-rise (range.One n) slice el s = one-name-rises (not (is_blank n)) n (W.first_type slice el) s
names-rise (range.Two n m) slice el s =
    let v = W.range_name n (W.first_type slice el) s in
    let s1 = behind s v in
    let w = W.range_name m el s1 in
    let z = length-append v.slots w.slots in
    subst (λ k. SlotsRise s.next k (v.declares ++ w.declares)) (omega (arith, z))
    (rising-append v.declares w.declares s.next s1.next (s1.next + length w.slots)
    (one-name-rises (not (is_blank n)) n (W.first_type slice el) s) (one-name-rises (not (is_blank m)) m el s1))

-- one name at most
abbrev pub Single : RangeNames → Type 0
Single (range.Two n m) = ⊥
Single _ = Unit {0}

module _ (taking : Taking) where
  -- steps whose slots are known

  pub load-step : {v : Value} (n l i : ℕ) (q : Piece) (at : ℕ) (ts : List ℕ) (slots ops : List Value) (w : World)
      → slice_get slots i ≡ Some v → run taking.gives n (Piece.Then (op l (Instr.Load i)) q) at ts (frame slots ops) w
      ≡ run taking.gives n q (at + 1) ts (frame slots (v ∷ ops)) w
  load-step n l i q at ts slots ops w e =
      ap (λ o. then_way (from_part (on_some (λ x. V.Part.Gives (frame slots (x ∷ ops)) w) w o))
      (run taking.gives n q (at + 1) ts)) e

  pub store-step : {old : Value} (n l i : ℕ) (q : Piece) (at : ℕ) (ts : List ℕ) (slots ops : List Value) (w : World)
      (v : Value) → slice_get slots i ≡ Some old
      → run taking.gives n (Piece.Then (op l (Instr.Store i)) q) at ts (frame slots (v ∷ ops)) w ≡ run taking.gives n q
      (at + 1) ts (frame (slice_set slots i v) ops) w
  store-step n l i q at ts slots ops w v e =
      ap (λ o. then_way (from_part (on_some (λ (x : Value). V.Part.Gives (frame (slice_set slots i v) ops) w) w o))
      (run taking.gives n q (at + 1) ts)) e

  pub tail-store : {env : Env} {slots : List Value} (s : Scope) (rest : List Value) (n : List ℕ) (t : Option GoType)
      (l : ℕ)
      → Known s.locals s.next env slots → s.next < length slots → (vs : List Value)
      → Tail taking slots rest (op l (Instr.Store s.next)) vs (declared env n vs)
      (NamedNow (s.locals ++ variable s n t ∷ []) s.next slots rest)
  tail-store {env} {slots} s rest n t l ok lt [] m at ts u = tt
  tail-store {env} {slots} s rest n t l ok lt (v ∷ []) m at ts u =
      let old = there-is slots s.next lt in (
        slice_set slots s.next v,
        ap (λ o. from_part (on_some (λ (x : Value). V.Part.Gives (frame (slice_set slots s.next v) rest) u) u o)) old.1,
        stored-new s.locals env (slice_set slots s.next v) (variable s n t) v
            (stored-below s.locals env slots s.next 0 s.next v (omega arith) ok.rising ok.stored)
            (set-same slots s.next v lt),
        length-set slots s.next v,
        λ j under. set-other slots s.next j v (λ q. omega (arith, q, under)),
      )
  tail-store {env} {slots} s rest n t l ok lt (v ∷ (x ∷ vs)) m at ts u = tt
