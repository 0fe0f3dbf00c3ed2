-- Pieces with their addresses and depths.
use Rattle.std.specs.Prelude.{◌≡◌, true, false, [], ◌∷◌, Some, pos, refl}
use Rattle.golf_data.specs.declared.code.Instr.{Instr}
use Rattle.golf_data.specs.declared.code.CaseKind.{CaseKind}
use Rattle.golf_code_layout.specs.Piece.{Piece, all, op, on, placed}
use Rattle.golf_code_layout.specs.Depth.{depth}

-- for b { if c { continue }; break }: `b` and `c` in slots 0 and 1
loop : Piece
loop = Piece.Block (Piece.Again (all (
    op 1 (Instr.Load 0) ∷ Piece.Unless 1 1
    ∷ Piece.Block (all (op 2 (Instr.Load 1) ∷ Piece.Unless 2 0 ∷ Piece.Exit 3 1 ∷ []))
    ∷ Piece.Exit 4 1 ∷ Piece.Exit 1 0 ∷ [])))

loop-placed : placed loop 10 [] ≡
    on (Instr.Load 0) 1 ∷ on (Instr.JumpIfNot 17) 1 ∷ on (Instr.Load 1) 2 ∷ on (Instr.JumpIfNot 15) 2
    ∷ on (Instr.Jump 10) 3 ∷ on (Instr.Jump 17) 4 ∷ on (Instr.Jump 10) 1 ∷ []
unfolding loop
loop-placed = refl

-- a && b, on top of another operand: the way after the first jump has the operand of one way alone
both : Piece
both = all (
    op 1 (Instr.Int (pos 5))
    ∷ Piece.Block (all (Piece.Block (all (op 1 (Instr.Load 0) ∷ Piece.Unless 1 0 ∷ op 1 (Instr.Load 1) ∷ Piece.Exit 1 1
    ∷ [])) ∷ op 1 (Instr.Bool false) ∷ []))
    ∷ op 1 (Instr.Print 2) ∷ op 1 Instr.Return ∷ [])

both-depth : depth [] both ≡ 2
unfolding both depth
both-depth = refl

-- a call that leaves a value, and one that does not
calls-depth : depth (false ∷ true ∷ []) (all
    (op 1 (Instr.Call 0 0) ∷ op 1 (Instr.Call 1 0) ∷ op 1 (Instr.Print 1) ∷ op 1 Instr.Return ∷ [])) ≡ 1
unfolding depth
calls-depth = refl

-- a choice among a receive with `ok` and `default`; what stands after a jump is led to by no way
choice : Piece
choice = Piece.Block (all (
    Piece.Block (all (
    Piece.Block (all (op 1 (Instr.Load 0) ∷ Piece.Choose 1 (record { kind = CaseKind.TakeOk; target = 0 } ∷ []) (Some 1)
    ∷ []))
    ∷ op 2 Instr.Drop ∷ op 2 Instr.Drop ∷ Piece.Exit 2 1 ∷ []))
    ∷ Piece.Exit 3 0 ∷ op 3 Instr.Nil ∷ op 3 Instr.Nil ∷ op 3 Instr.Nil ∷ []))

choice-placed : placed choice 0 [] ≡
    on (Instr.Load 0) 1 ∷ on (Instr.Select (record { kind = CaseKind.TakeOk; target = 2 } ∷ []) (Some 5)) 1
    ∷ on Instr.Drop 2 ∷ on Instr.Drop 2 ∷ on (Instr.Jump 9) 2 ∷ on (Instr.Jump 9) 3 ∷ on Instr.Nil 3 ∷ on Instr.Nil 3
    ∷ on Instr.Nil 3 ∷ []
unfolding choice
choice-placed = refl

choice-depth : depth [] choice ≡ 2
unfolding choice depth
choice-depth = refl
