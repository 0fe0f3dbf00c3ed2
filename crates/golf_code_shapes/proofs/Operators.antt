-- The code of operators and indices has shapes.
-- For: `expressions_fit`, src/lib.rt
-- By: cases of the operator; no induction
use Rattle.std.proofs.Common.{◌≡◌, ℕ, ◌+◌, true, false, ◌&&◌, List, [], ◌∷◌, Some, refl, sym}
use Rattle.std.proofs.Common.{subst}
use Rattle.std.proofs.lemmas.Bool.{and_parts}
use Rattle.golf_data.specs.declared.code.Instr.{Instr}
use Rattle.golf_syntax_trees.specs.declared.expressions.UnaryOperator.{UnaryOperator}
use Rattle.golf_syntax_trees.specs.declared.expressions.UnaryOperator.TheVariants as unary
use Rattle.golf_syntax_trees.specs.declared.expressions.BinaryOperator.{BinaryOperator}
use Rattle.golf_syntax_trees.specs.declared.expressions.BinaryOperator.TheVariants as binary
use Rattle.golf_check_types.specs.declared.types.Base.TheVariants as base
use Rattle.golf_check_types.specs.declared.types.GoType.{GoType}
use Rattle.golf_check_types.specs.declared.operands.Operand.{Operand}
use Rattle.golf_check_types.specs.declared.operands.Operand.TheVariants as operand
use Rattle.golf_check_types.specs.declared.operands.Given.{Given}
use Rattle.golf_check_types.specs.declared.scopes.Scope.{Scope}
use Rattle.golf_check_types.specs.Types.{has_base, has_layer, is_slice, gives, element}
use Rattle.golf_check_types.specs.Expressions.{Judged, used, given_by, unary_judged, unary_faults, unary_meaning}
use Rattle.golf_check_types.specs.Expressions.{binary_judged, binary_fits, result_base, index_judged}
use Rattle.golf_model_typing.specs.Types.{ValueType, Shape, FunctionTypes, Types}
use Rattle.golf_model_typing.specs.Shapes.{InstructionFits}
use Rattle.golf_code_layout.specs.Piece.{Piece, all, op}
use Rattle.golf_code_shapes.specs.Has.{shape, filled, To}
use Rattle.golf_code_shapes.proofs.Pieces.{has-op}
use Rattle.golf_code_of.specs.declared.tables.Tables.{Tables}
use Rattle.golf_code_of.specs.Expressions.{Made, unary_operator, binary_operator, binary_piece, index}
use Rattle.golf_code_shapes.specs.Types.{base_type, value_type}
use Rattle.golf_code_shapes.specs.Sound.{TurnsOperands, Pushes}
use Rattle.golf_code_shapes.proofs.Typings.{none-left, none-right, kept}
use Rattle.golf_code_shapes.proofs.Turning.{turn-op, one-turn, pair, two-turn, not-behind, either-turn}
use Rattle.golf_code_shapes.proofs.Givens as by
use Rattle.golf_code_shapes.proofs.Names.{Shows, GivesBy, of-used, based, of-giving, of-slice}

module _ (types : Types) (t : Tables) (ft : FunctionTypes) (A : List ℕ) (s : Scope) where
  abbrev Sh : Operand → Made → Type 0
  Sh = Shows types t ft A s

  abbrev Gv : Given → Piece → Type 0
  Gv = GivesBy types t ft A s

  abbrev Pu : Piece → ValueType → Type 0
  Pu = Pushes types ft A

  -- an instruction on one operand, and on two

  pub by-one : (i : Instr) (l : ℕ) (a b : ValueType) (p : Piece) → Pu p a
      → ((full : List Shape) (k : ℕ) (ops : List ValueType) → To (filled ft full) (shape (b ∷ ops) A) (k + 1)
      → InstructionFits types (filled ft full) k i (shape (a ∷ ops) A)) → Pu (all (p ∷ op l i ∷ [])) b
  by-one i l a b p hp r = one-turn types ft A p (op l i) [] (a ∷ []) (b ∷ []) hp
      (turn-op types ft A i l (a ∷ []) (b ∷ []) r)

  -- the instruction takes operands of these types and leaves one of that type
  abbrev TakesTwo : Instr → ValueType → ValueType → ValueType → Type 0
  TakesTwo i a b c = (full : List Shape) (k : ℕ) (ops : List ValueType)
      → To (filled ft full) (shape (c ∷ ops) A) (k + 1)
      → InstructionFits types (filled ft full) k i (shape (b ∷ a ∷ ops) A)

  by-two : (i : Instr) (l : ℕ) (a b c : ValueType) (p q : Piece) → Pu p a → Pu q b → TakesTwo i a b c
      → Pu (all (p ∷ q ∷ op l i ∷ [])) c
  by-two i l a b c p q hp hq r = two-turn types ft A p q (op l i) a b (c ∷ []) hp hq
      (turn-op types ft A i l (b ∷ a ∷ []) (c ∷ []) r)

  and-not : (i : Instr) (l : ℕ) (a b : ValueType) (p q : Piece) → Pu p a → Pu q b → TakesTwo i a b ValueType.Bool
      → Pu (all (p ∷ q ∷ all (op l i ∷ op l Instr.Not ∷ []) ∷ [])) ValueType.Bool
  and-not i l a b p q hp hq r = two-turn types ft A p q _ a b (ValueType.Bool ∷ []) hp hq
      (not-behind types ft A l (op l i) (b ∷ a ∷ []) (turn-op types ft A i l (b ∷ a ∷ []) (ValueType.Bool ∷ []) r))

  -- unary operators

  receives : (l : ℕ) (g : Given) (p : Piece) → (e : GoType) × (element g ≡ Some e)
      × Pu p (ValueType.Chan (value_type e)) → Sh (operand.Outcome (element g)) (unary_operator l unary.Receive p)
  receives l g p h = subst (λ o. Sh (operand.Outcome o) (unary_operator l unary.Receive p)) (sym h.1)
      (by-one Instr.Receive l (ValueType.Chan (value_type h.0)) (value_type h.0) p h.2
      (λ full k ops m. (value_type h.0, (ops, refl, m))))

  operates : (l : ℕ) (o : UnaryOperator) (g : Given) (p : Piece) → unary_faults l s o g ≡ [] → Gv g p
      → Sh (unary_meaning o g) (unary_operator l o p)
  operates l unary.Negate g p none h = by-one Instr.Neg l ValueType.Int ValueType.Int p
      (based types t ft A s base.Int g p (kept l 8 (has_base base.Int g) none) h) (λ full k ops m. (ops, refl, m))
  operates l unary.Not g p none h = by-one Instr.Not l ValueType.Bool ValueType.Bool p
      (based types t ft A s base.Bool g p (kept l 8 (has_base base.Bool g) none) h) (λ full k ops m. (ops, refl, m))
  operates l unary.Receive g p none h = receives l g p
      (of-giving types t ft A s g p (kept l 16 (has_layer gives g) (none-right _ _ none)) h)

  pub on-unary : (l : ℕ) (o : UnaryOperator) (j : Judged) (x : Made) → (unary_judged l s o j).faults ≡ []
      → Sh j.meaning x → Sh (unary_judged l s o j).meaning (unary_operator l o x.piece)
  on-unary l o j x none h = operates l o (given_by j) x.piece (none-right (used l j) _ none)
      (of-used types t ft A s l j x (none-left (used l j) _ none) h)

  -- binary operators

  of-ints : (i : Instr) (l : ℕ) (c : ValueType) (g h : Given) (p q : Piece)
      → (has_base base.Int g && has_base base.Int h) ≡ true → Gv g p → Gv h q → TakesTwo i ValueType.Int ValueType.Int c
      → Pu (all (p ∷ q ∷ op l i ∷ [])) c
  of-ints i l c g h p q holds x y takes =
      let a = by.alike (Pu p) (Pu q) base.Int g h holds x y in
      by-two i l ValueType.Int ValueType.Int c p q a.0 a.1 takes

  not-of-ints : (i : Instr) (l : ℕ) (g h : Given) (p q : Piece) → (has_base base.Int g && has_base base.Int h) ≡ true
      → Gv g p → Gv h q → TakesTwo i ValueType.Int ValueType.Int ValueType.Bool
      → Pu (all (p ∷ q ∷ all (op l i ∷ op l Instr.Not ∷ []) ∷ [])) ValueType.Bool
  not-of-ints i l g h p q holds x y takes =
      let a = by.alike (Pu p) (Pu q) base.Int g h holds x y in
      and-not i l ValueType.Int ValueType.Int p q a.0 a.1 takes

  combines : (l : ℕ) (o : BinaryOperator) (g h : Given) (p q : Piece) → binary_fits o g h ≡ true → Gv g p → Gv h q
      → Pu (binary_piece l o p q) (base_type (result_base o))
  combines l binary.Or g h p q holds x y =
      let a = by.alike (Pu p) (Pu q) base.Bool g h holds x y in
      either-turn types ft A l _ q _ ValueType.Bool (not-behind types ft A l p [] a.0) a.1
      (turn-op types ft A (Instr.Bool true) l [] (ValueType.Bool ∷ []) (λ full k ops m. (ops, refl, m)))
  combines l binary.And g h p q holds x y =
      let a = by.alike (Pu p) (Pu q) base.Bool g h holds x y in
      either-turn types ft A l p q _ ValueType.Bool a.0 a.1
      (turn-op types ft A (Instr.Bool false) l [] (ValueType.Bool ∷ []) (λ full k ops m. (ops, refl, m)))
  combines l binary.Equal g h p q holds x y = let c =
      by.compared (Pu p) (Pu q) g h holds x y in by-two Instr.Eq l c.0 c.0 ValueType.Bool p q c.1 c.2
      (λ full k ops m. (c.0, (ops, refl, m)))
  combines l binary.NotEqual g h p q holds x y = let c =
      by.compared (Pu p) (Pu q) g h holds x y in and-not Instr.Eq l c.0 c.0 p q c.1 c.2
      (λ full k ops m. (c.0, (ops, refl, m)))
  combines l binary.Less g h p q holds x y =
      of-ints Instr.Less l ValueType.Bool g h p q holds x y (λ full k ops m. (ops, refl, m))
  combines l binary.AtMost g h p q holds x y =
      of-ints Instr.AtMost l ValueType.Bool g h p q holds x y (λ full k ops m. (ops, refl, m))
  combines l binary.Greater g h p q holds x y =
      not-of-ints Instr.AtMost l g h p q holds x y (λ full k ops m. (ops, refl, m))
  combines l binary.AtLeast g h p q holds x y =
      not-of-ints Instr.Less l g h p q holds x y (λ full k ops m. (ops, refl, m))
  combines l binary.Add g h p q holds x y =
      of-ints Instr.Add l ValueType.Int g h p q holds x y (λ full k ops m. (ops, refl, m))
  combines l binary.Subtract g h p q holds x y =
      of-ints Instr.Sub l ValueType.Int g h p q holds x y (λ full k ops m. (ops, refl, m))
  combines l binary.Multiply g h p q holds x y =
      of-ints Instr.Mul l ValueType.Int g h p q holds x y (λ full k ops m. (ops, refl, m))
  combines l binary.Divide g h p q holds x y =
      of-ints Instr.Div l ValueType.Int g h p q holds x y (λ full k ops m. (ops, refl, m))
  combines l binary.Remainder g h p q holds x y =
      of-ints Instr.Rem l ValueType.Int g h p q holds x y (λ full k ops m. (ops, refl, m))

  pub on-binary : (l : ℕ) (o : BinaryOperator) (j k : Judged) (x y : Made) → (binary_judged l o j k).faults ≡ []
      → Sh j.meaning x → Sh k.meaning y → Sh (binary_judged l o j k).meaning (binary_operator l o x.piece y.piece)
  on-binary l o j k x y none h i =
      let rest = none-right (used l j) _ none in
      combines l o (given_by j) (given_by k) x.piece y.piece
      (kept l 8 (binary_fits o (given_by j) (given_by k)) (none-right (used l k) _ rest))
      (of-used types t ft A s l j x (none-left (used l j) _ none) h)
      (of-used types t ft A s l k y (none-left (used l k) _ rest) i)

  -- an element of a slice

  indexes : (l : ℕ) (g : Given) (a i : Piece) → Pu i ValueType.Int → (e : GoType) × (element g ≡ Some e)
      × Pu a (ValueType.Slice (value_type e)) → Sh (operand.Element (element g)) (index l a i)
  indexes l g a i hi h = subst (λ o. Sh (operand.Element o) (index l a i)) (sym h.1) (
    one-turn types ft A (all (a ∷ i ∷ [])) (op l Instr.Index) [] (ValueType.Int ∷ ValueType.Slice (value_type h.0) ∷ [])
        (value_type h.0 ∷ []) parts read,
    record {
      told = ValueType.Int ∷ ValueType.Slice (value_type h.0) ∷ [];
      parts = parts;
      twice = λ ops exits. has-op types ft Instr.Dup2 l _ _ exits
          (λ full k m. (ValueType.Slice (value_type h.0), ValueType.Int, (ops, refl, m)));
      read = read;
      store = turn-op types ft A Instr.SetIndex l
          (value_type h.0 ∷ ValueType.Int ∷ ValueType.Slice (value_type h.0) ∷ []) []
          (λ full k ops m. (value_type h.0, (ops, refl, m)));
    },
  )
    where
      parts : TurnsOperands types ft A (all (a ∷ i ∷ [])) [] (ValueType.Int ∷ ValueType.Slice (value_type h.0) ∷ [])
      parts = pair types ft A a i (ValueType.Slice (value_type h.0)) ValueType.Int h.2 hi

      read : TurnsOperands types ft A (op l Instr.Index) (ValueType.Int ∷ ValueType.Slice (value_type h.0) ∷ [])
          (value_type h.0 ∷ [])
      read = turn-op types ft A Instr.Index l (ValueType.Int ∷ ValueType.Slice (value_type h.0) ∷ [])
          (value_type h.0 ∷ []) (λ full k ops m. (value_type h.0, (ops, refl, m)))

  pub on-index : (l : ℕ) (j k : Judged) (x y : Made) → (index_judged l j k).faults ≡ [] → Sh j.meaning x
      → Sh k.meaning y → Sh (index_judged l j k).meaning (index l x.piece y.piece)
  on-index l j k x y none h i =
      let rest = none-right (used l j) _ none in
      let fits = and_parts (has_layer is_slice (given_by j)) (has_base base.Int (given_by k))
      (kept l 8 _ (none-right (used l k) _ rest)) in
      indexes l (given_by j) x.piece y.piece
      (based types t ft A s base.Int (given_by k) y.piece fits.1
      (of-used types t ft A s l k y (none-left (used l k) _ rest) i))
      (of-slice types t ft A s (given_by j) x.piece fits.0
      (of-used types t ft A s l j x (none-left (used l j) _ none) h))
