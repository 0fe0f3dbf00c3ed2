-- The code of simple statements, variables, `go`, `defer` and `return` leads on.
-- For: `statements_fit`, src/lib.rt; `SimpleFits`, specs/StatementFlow.antt
-- By: cases of the parts of the statement; no induction
use Rattle.std.proofs.Common.{◌≡◌, ℕ, ◌<◌, Bool, true, not, ◌&&◌, List, [], ◌∷◌, ◌++◌, Option, Some, None, refl, sym}
use Rattle.std.proofs.Common.{◌∙◌, subst, arith, pos}
use Rattle.std.proofs.lemmas.Bool.{and_parts}
use Rattle.std.specs.Prelude.{is_none}
use Rattle.std.specs.Option.{option_map}
use Rattle.golf_data.specs.declared.code.Instr.{Instr}
use Rattle.golf_syntax_trees.specs.declared.types.TypeExpr.{TypeExpr}
use Rattle.golf_syntax_trees.specs.declared.expressions.Expr.{Expr}
use Rattle.golf_syntax_trees.specs.declared.statements.UpdateOperator.{UpdateOperator}
use Rattle.golf_syntax_trees.specs.declared.statements.UpdateOperator.TheVariants as update
use Rattle.golf_syntax_trees.specs.declared.statements.SimpleKind.TheVariants as simple
use Rattle.golf_syntax_trees.specs.declared.statements.VarContent.{VarContent}
use Rattle.golf_syntax_trees.specs.declared.statements.VarContent.TheVariants as content
use Rattle.golf_check_types.specs.declared.types.Base.TheVariants as base
use Rattle.golf_check_types.specs.declared.types.GoType.{GoType}
use Rattle.golf_check_types.specs.declared.operands.Given.{Given}
use Rattle.golf_check_types.specs.declared.operands.Given.TheVariants as given_as
use Rattle.golf_check_types.specs.declared.operands.Operand.{Operand}
use Rattle.golf_check_types.specs.declared.operands.Operand.TheVariants as operand
use Rattle.golf_check_types.specs.declared.scopes.Scope.{Scope}
use Rattle.golf_check_types.specs.Faults.{broken}
use Rattle.golf_check_types.specs.Types.{given, type_of, type_given, is_nil, has_base, assignable}
use Rattle.golf_check_types.specs.Written.{write}
use Rattle.golf_check_types.specs.Expressions.{used, named_or_used, given_by, value_faults}
use Rattle.golf_check_types.specs.Judgments.{judge}
use Rattle.golf_check_types.specs.Statements as W
use Rattle.golf_check_types.specs.Statements.{Walk, action_faults, is_place, left_faults, assign_faults, result_faults}
use Rattle.golf_model_typing.specs.Types.{ValueType, Shape, FunctionTypes, Types}
use Rattle.golf_code_layout.specs.Piece.{Piece, all, op}
use Rattle.golf_code_shapes.specs.Has.{shape, Has}
use Rattle.golf_code_shapes.proofs.Pieces.{has-empty, has-op, has-then}
use Rattle.golf_code_of.specs.declared.tables.Tables.{Tables}
use Rattle.golf_code_of.specs.Values.{push, zero_value}
use Rattle.golf_code_of.specs.Expressions.{Made}
use Rattle.golf_code_of.specs.ExpressionCode.{code_at, piece_at}
use Rattle.golf_code_of.specs.Statements as C
use Rattle.golf_code_of.specs.Statements.{drops, updates, assigns, update_instr}
use Rattle.golf_code_shapes.specs.Types.{value_type}
use Rattle.golf_code_shapes.specs.Sound.{ScopeFits, Shown, PushesGiven, TurnsOperands, Pushes, Silent, Places}
use Rattle.golf_code_shapes.specs.StatementFlow.{SimpleFits}
use Rattle.golf_code_shapes.proofs.Typings.{none-left, none-right, kept, carried-on, same-value}
use Rattle.golf_code_shapes.proofs.Turning.{turn-op, turn-none, turn-then, turn-last, one-turn, over}
use Rattle.golf_code_shapes.proofs.Names.{of-used, based, given-to, of-taking, some-type, push-fits}
use Rattle.golf_code_shapes.proofs.Literals.{written-known, zero-fits}
use Rattle.golf_code_shapes.proofs.Exprs.{fits}
use Rattle.golf_code_shapes.proofs.Flows.{Right, quiet, still, moves-fresh}

module _ (types : Types) (t : Tables) (ft : FunctionTypes) where
  abbrev Fits : List ℕ → Scope → Type 0
  Fits = ScopeFits types t ft

  abbrev Is : Walk → (Scope → Piece) → Type 0
  Is w p = SimpleFits types t ft w p

  abbrev Code : ℕ → Scope → Expr → Made
  Code l s e = code_at t l s e

  shown : (l : ℕ) (e : Expr) (s : Scope) (A : List ℕ) → Fits A s → (judge e l s).faults ≡ []
      → Shown types t ft A s.file (judge e l s).meaning (Code l s e)
  shown l e s A ok none = fits types t ft e l s A ok none

  -- the value of an expression that is used
  pub value-of : (l : ℕ) (e : Expr) (s : Scope) (A : List ℕ) → Fits A s → used l (judge e l s) ≡ []
      → PushesGiven types t ft A s.file (given_by (judge e l s)) (piece_at t l s e)
  value-of l e s A ok u = of-used types t ft A s l (judge e l s) (Code l s e) u
      (shown l e s A ok (none-left (judge e l s).faults _ u))

  -- a piece that leaves the operands and slots as they are
  pub calmly : (w : Walk) (p : Scope → Piece) → ((s : Scope) → (w s).declares ≡ [])
      → ((s : Scope) (A : List ℕ) → Fits A s → (w s).faults ≡ [] → Silent types ft A (p s)) → Is w p
  calmly w p quietly h s A ok slots none = still types t ft A s (w s) (p s) (quietly s) ok (h s A ok none)

  -- expressions as statements

  forgets : (l : ℕ) (A : List ℕ) (s : Scope) (m : Operand) (x : Made) → action_faults l m ≡ []
      → Shown types t ft A s.file m x → Silent types ft A (all (x.piece ∷ drops l m ∷ []))
  forgets l A s (operand.Outcome (Some e)) x none h =
      one-turn types ft A x.piece _ [] (value_type e ∷ []) [] h
      (turn-op types ft A Instr.Drop l (value_type e ∷ []) [] (λ full k ops g. (value_type e, (ops, refl, g))))
  forgets l A s (operand.Outcome None) x none h = absurd h
  forgets l A s (operand.Nothing None) x none h =
      one-turn types ft A x.piece Piece.Empty [] [] [] h (turn-none types ft A [])
  forgets l A s (operand.Nothing (Some rule)) x none h = cc
  forgets l A s operand.Unknown x none h = absurd h
  forgets l A s m x none h = let e = none-right (value_faults l m) _ none in cc

  pub right-action : (l : ℕ) (e : Expr) → Is (W.action l e) (C.simple_piece t l (simple.Expression e))
  right-action l e = calmly (W.action l e) (C.simple_piece t l (simple.Expression e)) (λ s. refl)
      (λ s A ok none. let j = judge e l s in forgets l A s j.meaning (Code l s e) (none-right j.faults _ none)
      (shown l e s A ok (none-left j.faults _ none)))

  -- send

  pub right-send : (l : ℕ) (c e : Expr) → Is (W.send l c e) (C.simple_piece t l (simple.Send c e))
  right-send l c e = calmly (W.send l c e) (C.simple_piece t l (simple.Send c e)) (λ s. refl)
      (λ s A ok none. sends s A ok none)
    where
      sends : (s : Scope) (A : List ℕ) → Fits A s → (W.send l c e s).faults ≡ []
          → Silent types ft A (C.simple_piece t l (simple.Send c e) s)
      sends s A ok none =
          let j = judge c l s in
          let k = judge e l s in
          let one = none-right (used l j) _ none in
          let two = none-right (used l k) _ one in
          let carries = broken l 9 (W.is_carried (given_by j) (given_by k)) in
          let may = kept l 16 _ (none-right carries _ two) in
          let ch = of-taking types t ft A s (given_by j) (piece_at t l s c) may
          (value-of l c s A ok (none-left (used l j) _ none)) in
          let fit = subst (λ o. assignable (given_by k) o ≡ true) ch.1
          (carried-on (given_by j) (given_by k) may (kept l 9 _ (none-left carries _ two))) in
          let v = given-to types t ft A s (given_by k) ch.0 (piece_at t l s e) fit
          (value-of l e s A ok (none-left (used l k) _ one)) in
          turn-then types ft A (piece_at t l s c) _ [] (ValueType.Chan (value_type ch.0) ∷ []) [] ch.2
          (turn-then types ft A (piece_at t l s e) _ (ValueType.Chan (value_type ch.0) ∷ [])
          (value_type ch.0 ∷ ValueType.Chan (value_type ch.0) ∷ []) []
          (over types ft A (piece_at t l s e) (value_type ch.0) (ValueType.Chan (value_type ch.0) ∷ []) v)
          (turn-last types ft A _ (value_type ch.0 ∷ ValueType.Chan (value_type ch.0) ∷ []) []
          (turn-op types ft A Instr.Send l (value_type ch.0 ∷ ValueType.Chan (value_type ch.0) ∷ []) []
          (λ full at ops g. (value_type ch.0, (ops, refl, g))))))

  -- places

  stores-in : (A : List ℕ) (x : Made) (e : ValueType) (p : Piece) → Places types ft A x e → Pushes types ft A p e
      → Silent types ft A (assigns x p)
  stores-in A x e p h k =
      turn-then types ft A x.parts _ [] h.told [] h.parts
      (turn-then types ft A p _ h.told (e ∷ h.told) [] (over types ft A p e h.told k)
      (turn-last types ft A x.store (e ∷ h.told) [] h.store))

  drops-in : (A : List ℕ) (x : Made) (e : ValueType) (p : Piece) → Silent types ft A x.parts
      → TurnsOperands types ft A x.store (e ∷ []) [] → Pushes types ft A p e → Silent types ft A (assigns x p)
  drops-in A x e p h st k = turn-then types ft A x.parts _ [] [] [] h
      (turn-then types ft A p _ [] (e ∷ []) [] k (turn-last types ft A x.store (e ∷ []) [] st))

  updates-in : (l : ℕ) (A : List ℕ) (x : Made) (p : Piece) (i : Instr)
      → TurnsOperands types ft A (op l i) (ValueType.Int ∷ ValueType.Int ∷ []) (ValueType.Int ∷ [])
      → Places types ft A x ValueType.Int → Pushes types ft A p ValueType.Int → Silent types ft A (updates l x p i)
  updates-in l A x p i hi h k ops exits =
      let told = h.told ++ ops in
      let end = shape ops A in
      has-then types ft x.parts _ (shape ops A) (shape told A) end exits (h.parts ops exits)
      (has-then types ft x.twice _ (shape told A) (shape (h.told ++ told) A) end exits (h.twice ops exits)
      (has-then types ft x.read _ (shape (h.told ++ told) A) (shape (ValueType.Int ∷ told) A) end exits
      (h.read told exits)
      (has-then types ft p _ (shape (ValueType.Int ∷ told) A) (shape (ValueType.Int ∷ ValueType.Int ∷ told) A) end exits
      (k (ValueType.Int ∷ told) exits)
      (has-then types ft (op l i) _ (shape (ValueType.Int ∷ ValueType.Int ∷ told) A)
      (shape (ValueType.Int ∷ told) A) end exits (hi told exits)
      (has-then types ft x.store Piece.Empty (shape (ValueType.Int ∷ told) A) end end exits (h.store ops exits)
      (has-empty types ft end exits))))))

  -- `=`

  stored : (A : List ℕ) (l : ℕ) (s : Scope) (m : Operand) (x : Made) (g : Given) (p : Piece) → assign_faults l m g ≡ []
      → left_faults l m ≡ [] → Shown types t ft A s.file m x → PushesGiven types t ft A s.file g p
      → Silent types ft A (assigns x p)
  stored A l s operand.Blank x g p none left h k = let e =
      some-type types t ft A s g p k in drops-in A x e.0 p h.0 (h.1 e.0) e.1
  stored A l s (operand.Variable w (Some e)) x g p none left h k =
      stores-in A x (value_type e) p h.1 (given-to types t ft A s g e p
      (kept l 9 (assignable g (Some e)) (none-left (broken l 9 (assignable g (Some e))) _ none)) k)
  stored A l s (operand.Field i (Some e)) x g p none left h k =
      stores-in A x (value_type e) p h.1 (given-to types t ft A s g e p
      (kept l 9 (assignable g (Some e)) (none-left (broken l 9 (assignable g (Some e))) _ none)) k)
  stored A l s (operand.Element (Some e)) x g p none left h k =
      stores-in A x (value_type e) p h.1 (given-to types t ft A s g e p
      (kept l 9 (assignable g (Some e)) (none-left (broken l 9 (assignable g (Some e))) _ none)) k)
  stored A l s (operand.Variable w None) x g p none left h k = absurd h
  stored A l s (operand.Field i None) x g p none left h k = absurd h
  stored A l s (operand.Element None) x g p none left h k = absurd h
  stored A l s operand.Unknown x g p none left h k = absurd h
  stored A l s (operand.Nothing late) x g p none left h k = cc
  stored A l s m x g p none left h k = let e = none-right (broken l 9 (assignable g (type_of m))) _ none in cc

  pub right-assign : (l : ℕ) (p e : Expr) → Is (W.assignment l p e) (C.simple_piece t l (simple.Assign p e))
  right-assign l p e = calmly (W.assignment l p e) (C.simple_piece t l (simple.Assign p e)) (λ s. refl)
      (λ s A ok none. assigned s A ok none)
    where
      assigned : (s : Scope) (A : List ℕ) → Fits A s → (W.assignment l p e s).faults ≡ []
          → Silent types ft A (C.simple_piece t l (simple.Assign p e) s)
      assigned s A ok none =
          let j = judge p l s in
          let k = judge e l s in
          let one = none-right j.faults _ none in
          let two = none-right (left_faults l j.meaning) _ one in
          stored A l s j.meaning (Code l s p) (given_by k) (piece_at t l s e) (none-right (used l k) _ two)
          (none-left (left_faults l j.meaning) _ one) (shown l p s A ok (none-left j.faults _ none))
          (value-of l e s A ok (none-left (used l k) _ two))

  -- `op=`, `++` and `--`

  place-of-int : (A : List ℕ) (l : ℕ) (s : Scope) (m : Operand) (x : Made) → has_base base.Int (given m) ≡ true
      → is_place m ≡ true → Shown types t ft A s.file m x → Places types ft A x ValueType.Int
  place-of-int A l s (operand.Variable w (Some e)) x int place h =
      subst (Places types ft A x) (same-value e.layers [] e.base base.Int int) h.1
  place-of-int A l s (operand.Variable w None) x int place h = absurd h
  place-of-int A l s (operand.Field i (Some e)) x int place h =
      subst (Places types ft A x) (same-value e.layers [] e.base base.Int int) h.1
  place-of-int A l s (operand.Field i None) x int place h = absurd h
  place-of-int A l s (operand.Element (Some e)) x int place h =
      subst (Places types ft A x) (same-value e.layers [] e.base base.Int int) h.1
  place-of-int A l s (operand.Element None) x int place h = absurd h
  place-of-int A l s operand.Unknown x int place h = absurd h
  place-of-int A l s _ x int place h = cc

  arithmetic : (l : ℕ) (A : List ℕ) (o : UpdateOperator)
      → TurnsOperands types ft A (op l (update_instr o)) (ValueType.Int ∷ ValueType.Int ∷ []) (ValueType.Int ∷ [])
  arithmetic l A update.Add = turn-op types ft A Instr.Add l (ValueType.Int ∷ ValueType.Int ∷ []) (ValueType.Int ∷ [])
      (λ full k ops g. (ops, refl, g))
  arithmetic l A update.Subtract = turn-op types ft A Instr.Sub l (ValueType.Int ∷ ValueType.Int ∷ [])
      (ValueType.Int ∷ []) (λ full k ops g. (ops, refl, g))
  arithmetic l A update.Multiply = turn-op types ft A Instr.Mul l (ValueType.Int ∷ ValueType.Int ∷ [])
      (ValueType.Int ∷ []) (λ full k ops g. (ops, refl, g))
  arithmetic l A update.Divide = turn-op types ft A Instr.Div l (ValueType.Int ∷ ValueType.Int ∷ [])
      (ValueType.Int ∷ []) (λ full k ops g. (ops, refl, g))
  arithmetic l A update.Remainder = turn-op types ft A Instr.Rem l (ValueType.Int ∷ ValueType.Int ∷ [])
      (ValueType.Int ∷ []) (λ full k ops g. (ops, refl, g))

  pub right-update : (l : ℕ) (p : Expr) (o : UpdateOperator) (e : Expr)
      → Is (W.update l p e) (C.simple_piece t l (simple.Update p o e))
  right-update l p o e = calmly (W.update l p e) (C.simple_piece t l (simple.Update p o e)) (λ s. refl)
      (λ s A ok none. updated s A ok none)
    where
      updated : (s : Scope) (A : List ℕ) → Fits A s → (W.update l p e s).faults ≡ []
          → Silent types ft A (C.simple_piece t l (simple.Update p o e) s)
      updated s A ok none =
          let j = judge p l s in
          let k = judge e l s in
          let one = none-right (named_or_used l j) _ none in
          let two = none-right (used l k) _ one in
          let sound : Bool = has_base base.Int (given j.meaning) && has_base base.Int (given_by k) in
          let ints = and_parts (has_base base.Int (given j.meaning)) (has_base base.Int (given_by k))
          (kept l 8 sound (none-left (broken l 8 sound) (broken l 10 (is_place j.meaning)) two)) in
          updates-in l A (Code l s p) (piece_at t l s e) (update_instr o) (arithmetic l A o)
          (place-of-int A l s j.meaning (Code l s p) ints.0
          (kept l 10 (is_place j.meaning) (none-right (broken l 8 sound) (broken l 10 (is_place j.meaning)) two))
          (shown l p s A ok (none-left j.faults _ (none-left (named_or_used l j) _ none))))
          (based types t ft A s base.Int (given_by k) (piece_at t l s e) ints.1
          (value-of l e s A ok (none-left (used l k) _ one)))

  pub right-step : (l : ℕ) (p : Expr) (o : UpdateOperator)
      → Is (W.step l p) (λ s. updates l (Code l s p) (op l (Instr.Int (pos 1))) (update_instr o))
  right-step l p o = calmly (W.step l p) (λ s. updates l (Code l s p) (op l (Instr.Int (pos 1))) (update_instr o))
      (λ s. refl) (λ s A ok none. stepped s A ok none)
    where
      stepped : (s : Scope) (A : List ℕ) → Fits A s → (W.step l p s).faults ≡ []
          → Silent types ft A (updates l (Code l s p) (op l (Instr.Int (pos 1))) (update_instr o))
      stepped s A ok none =
          let j = judge p l s in
          let one = none-right (named_or_used l j)
          (broken l 8 (has_base base.Int (given j.meaning)) ++ broken l 10 (is_place j.meaning)) none in
          let sound : Bool = has_base base.Int (given j.meaning) in
          updates-in l A (Code l s p) (op l (Instr.Int (pos 1))) (update_instr o) (arithmetic l A o)
          (place-of-int A l s j.meaning (Code l s p)
          (kept l 8 sound (none-left (broken l 8 sound) (broken l 10 (is_place j.meaning)) one))
          (kept l 10 (is_place j.meaning) (none-right (broken l 8 sound) (broken l 10 (is_place j.meaning)) one))
          (shown l p s A ok (none-left j.faults _ (none-left (named_or_used l j) _ none))))
          (turn-op types ft A (Instr.Int (pos 1)) l [] (ValueType.Int ∷ []) (λ full k ops g. (ops, refl, g)))

  -- `:=` and variables

  -- what a new variable is given
  pub typed : (A : List ℕ) (s : Scope) (g : Given) (p : Piece) → not (is_nil g) ≡ true
      → PushesGiven types t ft A s.file g p
      → (e : GoType) × (type_given g ≡ Some e) × Pushes types ft A p (value_type e)
  typed A s (given_as.Typed e) p holds h = (e, refl, h)
  typed A s given_as.Nil p holds h = cc
  typed A s given_as.Unknown p holds h = absurd h

  pub right-define : (l : ℕ) (n : List ℕ) (e : Expr) → Is (W.definition l n e) (C.simple_piece t l (simple.Define n e))
  right-define l n e s A ok slots none =
      let j = judge e l s in
      let one = none-right (used l j) _ none in
      let two = none-right (broken l 2 _) _ one in
      let v = typed A s (given_by j) (piece_at t l s e) (kept l 23 _ (none-left (broken l 23 _) _ two))
      (value-of l e s A ok (none-left (used l j) _ none)) in
      moves-fresh types t ft l n (type_given (given_by j)) v.0 A s (W.definition l n e s) (piece_at t l s e)
      (record { known = v.1; declares = refl; slot = slots.0; fits = ok; pushes = v.2 })

  right-zero : (l : ℕ) (n : List ℕ) (w : TypeExpr)
      → Is (W.zero l n w) (λ s. all (C.first_value t l (content.Zero w) s ∷ op l (Instr.Store s.next) ∷ []))
  right-zero l n w s A ok slots none =
      let k = written-known w l s (none-left (write w l s).faults _ none) in
      let few = let f = ok.file.texts [] in let g : 0 < types.texts = omega (arith, f) in g in
      moves-fresh types t ft l n (write w l s).type k.0 A s (W.zero l n w s)
      (op l (push (zero_value (write w l s).type))) (record {
        known = k.1;
        declares = refl;
        slot = slots.0;
        fits = ok;
        pushes = subst (λ o. Pushes types ft A (op l (push (zero_value o))) (value_type k.0)) (sym k.1)
            (push-fits types t ft A s l (zero_value (Some k.0)) (value_type k.0)
            (zero-fits types t ft A s few k.0.layers k.0.base));
      })

  right-typed : (l : ℕ) (n : List ℕ) (w : TypeExpr) (e : Expr)
      → Is (W.typed l n w e) (λ s. all (C.first_value t l (content.Typed w e) s ∷ op l (Instr.Store s.next) ∷ []))
  right-typed l n w e s A ok slots none =
      let j = judge e l s in
      let k = written-known w l s (none-left (write w l s).faults _ none) in
      let one = none-right (write w l s).faults _ none in
      let two = none-right (used l j) _ one in
      let fit = subst (λ o. assignable (given_by j) o ≡ true) k.1 (kept l 9 _ (none-right (broken l 2 _) _ two)) in
      moves-fresh types t ft l n (write w l s).type k.0 A s (W.typed l n w e s) (piece_at t l s e) (record {
        known = k.1;
        declares = refl;
        slot = slots.0;
        fits = ok;
        pushes = given-to types t ft A s (given_by j) k.0 (piece_at t l s e) fit
            (value-of l e s A ok (none-left (used l j) _ one));
      })

  right-untyped : (l : ℕ) (n : List ℕ) (e : Expr)
      → Is (W.untyped l n e) (λ s. all (C.first_value t l (content.Untyped e) s ∷ op l (Instr.Store s.next) ∷ []))
  right-untyped l n e s A ok slots none =
      let j = judge e l s in
      let one = none-right (used l j) _ none in
      let v = typed A s (given_by j) (piece_at t l s e) (kept l 23 _ (none-right (broken l 2 _) _ one))
      (value-of l e s A ok (none-left (used l j) _ none)) in
      moves-fresh types t ft l n (type_given (given_by j)) v.0 A s (W.untyped l n e s) (piece_at t l s e)
      (record { known = v.1; declares = refl; slot = slots.0; fits = ok; pushes = v.2 })

  pub right-var : (l : ℕ) (n : List ℕ) (x : VarContent)
      → Is (W.var_content l n x) (λ s. all (C.first_value t l x s ∷ op l (Instr.Store s.next) ∷ []))
  right-var l n (content.Zero w) = right-zero l n w
  right-var l n (content.Typed w e) = right-typed l n w e
  right-var l n (content.Untyped e) = right-untyped l n e

  -- return

  no-result : (o : Option GoType) → is_none o ≡ true → option_map value_type o ≡ None
  no-result None e = refl
  no-result (Some e) h = cc

  returns-value : (l : ℕ) (A : List ℕ) (s : Scope) (exits : List Shape) (o : Option GoType) (g : Given) (p : Piece)
      → ft.result ≡ option_map value_type o → result_faults l o g ≡ [] → PushesGiven types t ft A s.file g p
      → Has types ft (all (p ∷ op l Instr.ReturnValue ∷ [])) (shape [] A) (shape [] A) exits
  returns-value l A s exits None g p e none h = cc
  returns-value l A s exits (Some r) g p e none h =
      has-then types ft p _ (shape [] A) (shape (value_type r ∷ []) A) (shape [] A) exits
      (given-to types t ft A s g r p (kept l 9 (assignable g (Some r)) none) h [] exits)
      (has-then types ft (op l Instr.ReturnValue) Piece.Empty (shape (value_type r ∷ []) A) (shape [] A)
      (shape [] A) exits
      (has-op types ft Instr.ReturnValue l (shape (value_type r ∷ []) A) (shape [] A) exits
      (λ full k m. (value_type r, [], e, refl))) (has-empty types ft (shape [] A) exits))

  pub right-return : (l : ℕ) (o : Option Expr) → Right types t ft (C.return_part t l o)
  right-return l None a s A exits ok ways slots made none = (
    quiet types t ft A exits s (W.returned l None s) _ refl ok
        (has-op types ft Instr.Return l (shape [] A) (shape [] A) exits
        (λ full k m. ok.result ∙ no-result s.result (kept l 13 _ none))),
    tt,
  )
  right-return l (Some e) a s A exits ok ways slots made none =
      let j = judge e l s in (
        quiet types t ft A exits s (W.returned l (Some e) s) _ refl ok
            (returns-value l A s exits s.result (given_by j) (piece_at t l s e) ok.result (none-right (used l j) _ none)
            (value-of l e s A ok (none-left (used l j) _ none))),
        tt,
      )
