-- Code that turns operands of some types into others, put together.
-- For: `TurnsOperands`, specs/Sound.antt
-- By: putting the shapes of the parts together; no induction
use Rattle.std.proofs.Common.{ℕ, ◌+◌, List, [], ◌∷◌, ◌++◌, refl}
use Rattle.golf_data.specs.declared.code.Instr.{Instr}
use Rattle.golf_model_typing.specs.Types.{ValueType, Shape, FunctionTypes, Types}
use Rattle.golf_model_typing.specs.Shapes.{InstructionFits}
use Rattle.golf_code_layout.specs.Piece.{Piece, all, op}
use Rattle.golf_code_shapes.specs.Has.{shape, filled, To}
use Rattle.golf_code_shapes.proofs.Pieces.{every-self, has-empty, has-op, has-then, has-exit, has-unless, has-block}
use Rattle.golf_code_of.specs.Expressions.{either}
use Rattle.golf_code_shapes.specs.Sound.{TurnsOperands}

module _ (types : Types) (ft : FunctionTypes) (A : List ℕ) where
  abbrev T : Piece → List ValueType → List ValueType → Type 0
  T = TurnsOperands types ft A

  pub turn-op : (i : Instr) (l : ℕ) (takes leaves : List ValueType)
      → ((full : List Shape) (k : ℕ) (ops : List ValueType) → To (filled ft full) (shape (leaves ++ ops) A) (k + 1)
      → InstructionFits types (filled ft full) k i (shape (takes ++ ops) A)) → T (op l i) takes leaves
  turn-op i l takes leaves r ops exits = has-op types ft i l (shape (takes ++ ops) A) (shape (leaves ++ ops) A) exits
      (λ full k h. r full k ops h)

  pub turn-none : (xs : List ValueType) → T Piece.Empty xs xs
  turn-none xs ops exits = has-empty types ft (shape (xs ++ ops) A) exits

  pub turn-then : (p q : Piece) (xs ys zs : List ValueType) → T p xs ys → T q ys zs → T (Piece.Then p q) xs zs
  turn-then p q xs ys zs hp hq ops exits =
      has-then types ft p q _ (shape (ys ++ ops) A) _ exits (hp ops exits) (hq ops exits)

  pub turn-last : (p : Piece) (xs ys : List ValueType) → T p xs ys → T (all (p ∷ [])) xs ys
  turn-last p xs ys hp ops exits = has-then types ft p Piece.Empty _ (shape (ys ++ ops) A) _ exits (hp ops exits)
      (has-empty types ft (shape (ys ++ ops) A) exits)

  -- the same on top of others
  pub over : (p : Piece) (e : ValueType) (xs : List ValueType) → T p [] (e ∷ []) → T p xs (e ∷ xs)
  over p e xs h ops exits = h (xs ++ ops) exits

  pub one-turn : (p r : Piece) (xs ys zs : List ValueType) → T p xs ys → T r ys zs → T (all (p ∷ r ∷ [])) xs zs
  one-turn p r xs ys zs hp hr = turn-then p (all (r ∷ [])) xs ys zs hp (turn-last r ys zs hr)

  pub pair : (p q : Piece) (a b : ValueType) → T p [] (a ∷ []) → T q [] (b ∷ []) → T (all (p ∷ q ∷ [])) [] (b ∷ a ∷ [])
  pair p q a b hp hq = one-turn p q [] (a ∷ []) (b ∷ a ∷ []) hp (over q b (a ∷ []) hq)

  pub two-turn : (p q r : Piece) (a b : ValueType) (zs : List ValueType) → T p [] (a ∷ []) → T q [] (b ∷ [])
      → T r (b ∷ a ∷ []) zs → T (all (p ∷ q ∷ r ∷ [])) [] zs
  two-turn p q r a b zs hp hq hr =
      turn-then p (all (q ∷ r ∷ [])) [] (a ∷ []) zs hp
      (turn-then q (all (r ∷ [])) (a ∷ []) (b ∷ a ∷ []) zs (over q b (a ∷ []) hq) (turn-last r (b ∷ a ∷ []) zs hr))

  pub not-behind : (l : ℕ) (p : Piece) (xs : List ValueType) → T p xs (ValueType.Bool ∷ [])
      → T (all (p ∷ op l Instr.Not ∷ [])) xs (ValueType.Bool ∷ [])
  not-behind l p xs hp = one-turn p _ xs (ValueType.Bool ∷ []) (ValueType.Bool ∷ []) hp
      (turn-op Instr.Not l (ValueType.Bool ∷ []) (ValueType.Bool ∷ []) (λ full k ops h. (ops, refl, h)))

  pub either-turn : (l : ℕ) (a b c : Piece) (e : ValueType) → T a [] (ValueType.Bool ∷ []) → T b [] (e ∷ [])
      → T c [] (e ∷ []) → T (either l a b c) [] (e ∷ [])
  either-turn l a b c e ha hb hc ops exits =
      let from = shape ops A in
      let end = shape (e ∷ ops) A in
      let inside : List Shape = from ∷ end ∷ exits in
      has-block types ft _ from end exits
      (has-then types ft _ _ from from end (end ∷ exits)
      (has-block types ft _ from from (end ∷ exits)
      (has-then types ft a _ from (shape (ValueType.Bool ∷ ops) A) from inside (ha ops inside)
      (has-then types ft (Piece.Unless l 0) _ (shape (ValueType.Bool ∷ ops) A) from from inside
      (has-unless types ft l 0 ops A inside (A, refl, every-self A))
      (has-then types ft b _ from end from inside (hb ops inside)
      (has-then types ft (Piece.Exit l 1) _ end from from inside
      (has-exit types ft l 1 (e ∷ ops) A from inside (A, refl, every-self A))
      (has-empty types ft from inside))))))
      (has-then types ft c _ from end end (end ∷ exits) (hc ops (end ∷ exits)) (has-empty types ft end (end ∷ exits))))
