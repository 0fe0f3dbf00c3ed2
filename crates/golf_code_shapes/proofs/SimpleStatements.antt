-- The code of each kind of simple statement moves on.
-- For: `statements_fit`, src/lib.rt; `SimpleFits`, specs/StatementFlow.antt
-- By: cases of the kind of statement; no induction
use Rattle.std.proofs.Common.{◌≡◌, ℕ, ◌&&◌, List, [], ◌∷◌, Option, Some, None, refl, sym, subst}
use Rattle.std.proofs.lemmas.Bool.{and_parts}
use Rattle.std.specs.Prelude.{is_some}
use Rattle.golf_data.specs.declared.code.Instr.{Instr}
use Rattle.golf_syntax_trees.specs.declared.expressions.Expr.{Expr}
use Rattle.golf_syntax_trees.specs.declared.statements.UpdateOperator.TheVariants as update
use Rattle.golf_syntax_trees.specs.declared.statements.Simple.{Simple}
use Rattle.golf_syntax_trees.specs.declared.statements.SimpleKind.{SimpleKind}
use Rattle.golf_syntax_trees.specs.declared.statements.SimpleKind.TheVariants as simple
use Rattle.golf_check_types.specs.declared.types.Base.TheVariants as base
use Rattle.golf_check_types.specs.declared.types.GoType.{GoType}
use Rattle.golf_check_types.specs.declared.scopes.Scope.{Scope}
use Rattle.golf_check_types.specs.Faults.{broken}
use Rattle.golf_check_types.specs.Types.{plain}
use Rattle.golf_check_types.specs.Expressions.{used, given_by}
use Rattle.golf_check_types.specs.Judgments.{judge}
use Rattle.golf_check_types.specs.Statements as W
use Rattle.golf_check_types.specs.Statements.{both, behind, carried, pair_faults, pair, bool_type, assigned_name}
use Rattle.golf_check_types.specs.Statements.{put_in_faults, takes_value, assigned_pair_faults, received}
use Rattle.golf_model_typing.specs.Types.{ValueType, FunctionTypes, Types}
use Rattle.golf_code_layout.specs.Piece.{Piece, all, op}
use Rattle.golf_code_shapes.specs.Has.{shape}
use Rattle.golf_code_shapes.proofs.Pieces.{has-empty, has-then}
use Rattle.golf_code_of.specs.declared.tables.Tables.{Tables}
use Rattle.golf_code_of.specs.ExpressionCode.{piece_at}
use Rattle.golf_code_of.specs.Statements as C
use Rattle.golf_code_of.specs.Statements.{stores_name, stores_pair}
use Rattle.golf_code_shapes.specs.Types.{value_type}
use Rattle.golf_code_shapes.specs.Sound.{ScopeFits, Pushes, Silent, TurnsOperands}
use Rattle.golf_code_shapes.specs.StatementFlow.{Moves, SimpleFits, Slotted}
use Rattle.golf_code_shapes.proofs.Typings.{none-left, none-right, kept}
use Rattle.golf_code_shapes.proofs.Turning.{turn-op, turn-then}
use Rattle.golf_code_shapes.proofs.Names.{of-giving}
use Rattle.golf_code_shapes.proofs.Flows.{still}
use Rattle.golf_code_shapes.proofs.Simples.{value-of, right-action, right-send, right-assign, right-update, right-step}
use Rattle.golf_code_shapes.proofs.Simples.{right-define}
use Rattle.golf_code_shapes.proofs.Receives.{pair-taken, stores-assigned}

module _ (types : Types) (t : Tables) (ft : FunctionTypes) where
  abbrev Fits : List ℕ → Scope → Type 0
  Fits = ScopeFits types t ft

  -- a channel that is received from, and what it carries
  pub receives : (l : ℕ) (e : Expr) (s : Scope) (A : List ℕ) → Fits A s → (received l e s).faults ≡ [] → (v : GoType)
      × (carried l e s ≡ Some v) × Pushes types ft A (piece_at t l s e) (ValueType.Chan (value_type v))
  receives l e s A ok none =
      let j = judge e l s in
      of-giving types t ft A s (given_by j) (piece_at t l s e) (kept l 16 _ (none-right (used l j) _ none))
      (value-of types t ft l e s A ok (none-left (used l j) _ none))

  -- the value and `ok`
  receives-both : (l : ℕ) (e : Expr) (s : Scope) (A : List ℕ) (v : GoType)
      → Pushes types ft A (piece_at t l s e) (ValueType.Chan (value_type v))
      → TurnsOperands types ft A (op l Instr.ReceiveOk) (ValueType.Chan (value_type v) ∷ [])
      (ValueType.Bool ∷ value_type v ∷ [])
  receives-both l e s A v h = turn-op types ft A Instr.ReceiveOk l (ValueType.Chan (value_type v) ∷ [])
      (ValueType.Bool ∷ value_type v ∷ []) (λ full k ops g. (value_type v, (ops, refl, g)))

  right-define-received : (l : ℕ) (n m : List ℕ) (e : Expr)
      → SimpleFits types t ft (W.define_received l l n m e) (C.simple_piece t l (simple.DefineReceived n m e))
  right-define-received l n m e s A ok slots none =
      let r = receives l e s A ok (none-left (received l e s).faults _ none) in
      let faults = none-right (received l e s).faults _ none in
      moved r.0 r.1 r.2 faults slots
    where
      moved : (v : GoType) → carried l e s ≡ Some v
          → Pushes types ft A (piece_at t l s e) (ValueType.Chan (value_type v))
          → (pair l n m (carried l e s) s).faults ≡ [] → Slotted ft s.next (pair l n m (carried l e s) s).slots
          → Moves types t ft A (behind s (W.define_received l l n m e s))
          (C.simple_piece t l (simple.DefineReceived n m e) s)
      moved v is h faults slots =
          let clean = subst (λ o. pair_faults l s n m o ≡ []) is
          (none-left (pair_faults l s n m (carried l e s)) _ faults) in
          let p = pair-taken types t ft l s n m v A ok clean
          (subst (λ o. Slotted ft s.next (pair l n m o s).slots) is slots) in
          subst (λ o. Moves types t ft A (behind s (both (received l e s) (pair l n m o s)))
          (all (piece_at t l s e ∷ op l Instr.ReceiveOk ∷ stores_pair l t s n m o ∷ []))) (sym is) (
            p.slots,
            p.more,
            p.fits,
            λ exits.
                has-then types ft (piece_at t l s e) _ (shape [] A) (shape (ValueType.Chan (value_type v) ∷ []) A)
                (shape [] p.slots) exits (h [] exits)
                (has-then types ft (op l Instr.ReceiveOk) _ (shape (ValueType.Chan (value_type v) ∷ []) A)
                (shape (ValueType.Bool ∷ value_type v ∷ []) A) (shape [] p.slots) exits
                (receives-both l e s A v h [] exits)
                (has-then types ft (stores_pair l t s n m (Some v)) Piece.Empty
                (shape (ValueType.Bool ∷ value_type v ∷ []) A) (shape [] p.slots) (shape [] p.slots) exits
                (p.has [] exits) (has-empty types ft (shape [] p.slots) exits))),
          )

  right-assign-received : (l : ℕ) (n m : List ℕ) (e : Expr)
      → SimpleFits types t ft (W.assign_received l n m e) (C.simple_piece t l (simple.AssignReceived n m e))
  right-assign-received l n m e s A ok slots none =
      let r = receives l e s A ok (none-left (received l e s).faults _ none) in
      let faults = none-right (received l e s).faults _ none in
      still types t ft A s (W.assign_received l n m e s) _ refl ok (moved r.0 r.1 r.2 faults)
    where
      moved : (v : GoType) → carried l e s ≡ Some v
          → Pushes types ft A (piece_at t l s e) (ValueType.Chan (value_type v))
          → assigned_pair_faults l (assigned_name s n) (assigned_name s m) (carried l e s) ≡ []
          → Silent types ft A (C.simple_piece t l (simple.AssignReceived n m e) s)
      moved v is h faults =
          let p = assigned_name s n in
          let q = assigned_name s m in
          let clean = subst (λ o. assigned_pair_faults l p q o ≡ []) is faults in
          let there = and_parts (is_some p) (is_some q)
          (kept l 3 _ (none-left (broken l 3 (is_some p && is_some q)) _ clean)) in
          let one = none-right (broken l 3 (is_some p && is_some q)) _ clean in
          let two = none-right (put_in_faults l p (Some v)) _ one in
          let takes = and_parts (takes_value p) (takes_value q)
          (kept l 10 _ (none-right (put_in_faults l q bool_type) _ two)) in
          turn-then types ft A (piece_at t l s e) _ [] (ValueType.Chan (value_type v) ∷ []) [] h
          (turn-then types ft A (op l Instr.ReceiveOk) _ (ValueType.Chan (value_type v) ∷ [])
          (ValueType.Bool ∷ value_type v ∷ []) [] (receives-both l e s A v h)
          (λ ops exits.
          has-then types ft (stores_name l t s m) _ (shape (ValueType.Bool ∷ value_type v ∷ ops) A)
          (shape (value_type v ∷ ops) A) (shape ops A) exits
          (stores-assigned types t ft l s A m (plain base.Bool) ok there.1
          (none-left (put_in_faults l q bool_type) _ two) takes.1 (value_type v ∷ ops) exits)
          (has-then types ft (stores_name l t s n) Piece.Empty (shape (value_type v ∷ ops) A) (shape ops A)
          (shape ops A) exits (stores-assigned types t ft l s A n v ok there.0
          (none-left (put_in_faults l p (Some v)) _ one) takes.0 ops exits)
          (has-empty types ft (shape ops A) exits))))

  pub right-kind : (l : ℕ) (x : SimpleKind) → SimpleFits types t ft (W.simple_kind l x) (C.simple_piece t l x)
  right-kind l (simple.Expression e) = right-action types t ft l e
  right-kind l (simple.Send c e) = right-send types t ft l c e
  right-kind l (simple.Increment p) = right-step types t ft l p update.Add
  right-kind l (simple.Decrement p) = right-step types t ft l p update.Subtract
  right-kind l (simple.Assign p e) = right-assign types t ft l p e
  right-kind l (simple.Update p o e) = right-update types t ft l p o e
  right-kind l (simple.Define n e) = right-define types t ft l n e
  right-kind l (simple.DefineReceived n m e) = right-define-received l n m e
  right-kind l (simple.AssignReceived n m e) = right-assign-received l n m e

  -- a statement that may be missing

  abbrev pub optional-piece : Option Simple → Scope → Piece
  optional-piece None s = Piece.Empty
  optional-piece (Some x) s = C.simple_piece t x.line x.kind s

  pub right-optional : (o : Option Simple) → SimpleFits types t ft (W.optional o) (optional-piece o)
  right-optional None s A ok slots none =
      still types t ft A s W.nothing Piece.Empty refl ok (λ ops exits. has-empty types ft (shape ops A) exits)
  right-optional (Some x) s A ok slots none = right-kind x.line x.kind s A ok slots none
