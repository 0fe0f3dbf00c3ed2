-- Small codes that have shapes, and bodies that have none.
use Rattle.std.proofs.Common.{◌≡◌, ℕ, zero, suc, ◌+◌, ◌<◌, true, List, [], ◌∷◌, Some, None, inl, refl, sym, ap, subst}
use Rattle.std.proofs.Common.{arith, slice_get, length}
use Rattle.std.specs.Prelude.{pos}
use Rattle.golf_theory.specs.Membership.{Every}
use Rattle.golf_theory.proofs.Lists.{Every-at}
use Rattle.golf_data.specs.declared.value.Value.{Value}
use Rattle.golf_data.specs.declared.code.Code.{Code}
use Rattle.golf_data.specs.declared.code.Function.{Function}
use Rattle.golf_data.specs.declared.code.Instr.{Instr}
use Rattle.golf_data.specs.declared.code.CodeLine.{CodeLine}
use Rattle.golf_data.specs.Masks.{stays_under}
use Rattle.golf_model.proofs.Examples.Writing.{function, push, code_with}
use Rattle.golf_model_typing.specs.Types.{ValueType, Shape, Signature, FunctionTypes, Types, Typing, with_shapes}
use Rattle.golf_model_typing.specs.Shapes.{InstructionFits, FunctionFits, MasksCover, HasShapes}

-- one fact a position
abbrev EachFits : Types → FunctionTypes → ℕ → List Shape → List CodeLine → Type 0
EachFits types ft k [] ls = Unit {0}
EachFits types ft k (sh ∷ shs) [] = ⊥
EachFits types ft k (sh ∷ shs) (l ∷ ls) = InstructionFits types ft k l.instr sh × EachFits types ft (k + 1) shs ls

each-fits : (types : Types) (ft : FunctionTypes) (k : ℕ) (shs : List Shape) (ls : List CodeLine)
    → EachFits types ft k shs ls → (j : ℕ) (sh : Shape) → slice_get shs j ≡ Some sh → (l : CodeLine)
    × (slice_get ls j ≡ Some l) × InstructionFits types ft (k + j) l.instr sh
each-fits types ft k [] ls h j sh e = cc
each-fits types ft k (s ∷ shs) [] h j sh e = absurd h
each-fits types ft k (s ∷ shs) (l ∷ ls) h zero sh e =
    let same : s ≡ sh = cc in (
      l,
      refl,
      subst (λ n. InstructionFits types ft n l.instr sh) (omega arith)
          (subst (InstructionFits types ft k l.instr) same h.0),
    )
each-fits types ft k (s ∷ shs) (l ∷ ls) h (suc j) sh e =
    let r = each-fits types ft (k + 1) shs ls h.1 j sh
    e in (r.0, r.1, subst (λ n. InstructionFits types ft n r.0.instr sh) (omega arith) r.2)

all-fit : (types : Types) (ft : FunctionTypes) (shs : List Shape) (ls : List CodeLine) → EachFits types ft 0 shs ls
    → (k : ℕ) (sh : Shape) → slice_get shs k ≡ Some sh → (l : CodeLine) × (slice_get ls k ≡ Some l)
    × InstructionFits types ft k l.instr sh
all-fit types ft shs ls h k sh e =
    let r = each-fits types ft 0 shs ls h k sh
    e in (r.0, r.1, subst (λ n. InstructionFits types ft n r.0.instr sh) (omega arith) r.2)

-- function 0 makes a channel of integers, starts function 1 on it and sends 7; function 1 receives and prints
abbrev send : Function
send = function 0 0 1 (push 0 ∷ Instr.NewChan (Value.Int (pos 0)) ∷ Instr.Dup ∷ Instr.Go 1 1 ∷ push 7 ∷ Instr.Send
    ∷ Instr.Return ∷ [])

abbrev receive : Function
receive = function 1 1 11 (Instr.Load 0 ∷ Instr.Receive ∷ Instr.Print 1 ∷ Instr.Return ∷ [])

abbrev meeting : Code
meeting = code_with [] (send ∷ receive ∷ [])

abbrev ints : ValueType
ints = ValueType.Chan ValueType.Int

abbrev sender : Signature
sender = record { params = []; locals = []; result = None }

abbrev receiver : Signature
receiver = record { params = ints ∷ []; locals = []; result = None }

-- these operands, with these slots assigned
abbrev shape : List ValueType → List ℕ → Shape
shape operands assigned = record { operands = operands; assigned = assigned }

abbrev sending : List Shape
sending = shape [] [] ∷ shape (ValueType.Int ∷ []) [] ∷ shape (ints ∷ []) [] ∷ shape (ints ∷ ints ∷ []) []
    ∷ shape (ints ∷ []) [] ∷ shape (ValueType.Int ∷ ints ∷ []) [] ∷ shape [] [] ∷ []

abbrev receiving : List Shape
receiving = shape [] (0 ∷ []) ∷ shape (ints ∷ []) (0 ∷ []) ∷ shape (ValueType.Int ∷ []) (0 ∷ []) ∷ shape [] [] ∷ []

abbrev types : Typing
types = record {
  of = record { structs = []; globals = []; functions = sender ∷ receiver ∷ []; texts = 1 };
  shapes = sending ∷ receiving ∷ [];
}

sender-fits : FunctionFits types.of send (with_shapes sender sending)
sender-fits = record {
  slots = refl;
  begins = (shape [] [], refl, refl, tt);
  each = all-fit types.of (with_shapes sender sending) sending send.body (
    ([], refl, (shape (ValueType.Int ∷ []) [], refl, refl, tt)),
    (
      (ValueType.Int, refl, ([], refl, (shape (ints ∷ []) [], refl, refl, tt))),
      (
        (ints, ([], refl, (shape (ints ∷ ints ∷ []) [], refl, refl, tt))),
        (
          (receiver, ints ∷ [], refl, refl, refl, (shape (ints ∷ []) [], refl, refl, tt)),
          (
            (ints ∷ [], refl, (shape (ValueType.Int ∷ ints ∷ []) [], refl, refl, tt)),
            ((ValueType.Int, ([], refl, (shape [] [], refl, refl, tt))), (refl, tt)),
          ),
        ),
      ),
    ),
  );
}

receiver-fits : FunctionFits types.of receive (with_shapes receiver receiving)
receiver-fits = record {
  slots = refl;
  begins = (shape [] (0 ∷ []), refl, refl, (omega arith, tt));
  each = all-fit types.of (with_shapes receiver receiving) receiving receive.body (
    (ints, inl refl, refl, ([], refl, (shape (ints ∷ []) (0 ∷ []), refl, refl, (inl refl, tt)))),
    (
      (ValueType.Int, ([], refl, (shape (ValueType.Int ∷ []) (0 ∷ []), refl, refl, (inl refl, tt)))),
      ((ValueType.Int ∷ [], [], refl, (tt, tt), refl, (shape [] [], refl, refl, tt)), (refl, tt)),
    ),
  );
}

-- a function without masks keeps all its slots
unmasked : (i : List ℕ) (k : ℕ) → Every (λ j. stays_under (slice_get [] k) j ≡ true) i
unmasked [] k = tt
unmasked (j ∷ js) k = (refl, unmasked js k)

pub meeting-has-shapes : HasShapes meeting types
meeting-has-shapes = record {
  texts = refl;
  globals = tt;
  structs = λ k ts e. cc;
  functions = bodies;
  first = (sender, refl, refl);
}
  where
    bodies : (f : ℕ) (sig : Signature) → slice_get types.of.functions f ≡ Some sig
        → (own : List Shape) × (fn : Function) × (slice_get types.shapes f ≡ Some own)
        × (slice_get meeting.functions f ≡ Some fn) × FunctionFits types.of fn (with_shapes sig own)
        × MasksCover fn own
    bodies zero sig e = let same : sender ≡ sig =
        cc in (
          sending,
          send,
          refl,
          refl,
          subst
              (λ (s : Signature). FunctionFits types.of send (with_shapes s sending)) same sender-fits,
          λ k sh e. unmasked sh.assigned k,
        )
    bodies (suc zero) sig e = let same : receiver ≡ sig =
        cc in (
          receiving,
          receive,
          refl,
          refl,
          subst (λ (s : Signature). FunctionFits types.of receive (with_shapes s receiving)) same receiver-fits,
          λ k sh e. unmasked sh.assigned k,
        )
    bodies (suc (suc f)) sig e = cc

-- what the first instruction of a body asks of the shape there, which has no operands
module _ (of : Types) (ft : FunctionTypes) (i : Instr) (ok : FunctionFits of (function 0 1 1 (i ∷ [])) ft) where
  at_first : (sh : Shape) × (sh.operands ≡ []) × Every (λ k. k < length ft.params) sh.assigned
      × InstructionFits of ft 0 i sh
  at_first =
      let b = ok.begins in
      let r = ok.each 0 b.0 b.1 in
      let same : record { instr = i; line = 1 } ≡ r.0 = cc in
      (b.0, b.2, b.3, subst (λ (l : CodeLine). InstructionFits of ft 0 l.instr b.0) (sym same) r.2)

-- a sum of nothing has no shapes
pub sum-of-nothing : (of : Types) (ft : FunctionTypes) → FunctionFits of (function 0 1 1 (Instr.Add ∷ [])) ft → ⊥
sum-of-nothing of ft ok = let f = at_first of ft Instr.Add ok in let e = f.1 in let r = f.3.1 in cc

-- nor has a slot that is read before it is assigned
pub unassigned-slot : (of : Types) (ft : FunctionTypes) → ft.params ≡ []
    → FunctionFits of (function 0 1 1 (Instr.Load 0 ∷ [])) ft → ⊥
unassigned-slot of ft none ok =
    let f = at_first of ft (Instr.Load 0) ok in
    let l = Every-at (λ k. k < length ft.params) f.0.assigned 0 f.2 f.3.1 in
    let n = ap length none in
    omega arith

-- nor has a body whose first instruction goes past its end
pub past-the-end : (of : Types) (ft : FunctionTypes) → FunctionFits of (function 0 1 1 (push 5 ∷ [])) ft → ⊥
past-the-end of ft ok =
    let f = at_first of ft (push 5) ok in
    let r = ok.each 1 f.3.2.0 f.3.2.1 in
    let e = r.1 in
    cc
