-- The code of simple statements, variables and `return` by their facts is their code.
-- For: `simple_by`, `var_by` and `return_by`, golf_code_facts/specs/Statements.antt.
-- By: cases of the kind of simple statement; no induction.
use Rattle.std.proofs.Common.{◌≡◌, ℕ, Bool, true, false, cond, List, [], ◌∷◌, ◌++◌, refl, ap, ◌∙◌}
use Rattle.std.specs.Prelude.{Option, Some, None, unwrap_or, pos, not}
use Rattle.golf_syntax_trees.specs.declared.expressions.Expr.{Expr}
use Rattle.golf_syntax_trees.specs.declared.statements.Simple.{Simple}
use Rattle.golf_syntax_trees.specs.declared.statements.SimpleKind.{SimpleKind}
use Rattle.golf_syntax_trees.specs.declared.statements.SimpleKind.TheVariants as simple
use Rattle.golf_syntax_trees.specs.declared.statements.VarContent.{VarContent}
use Rattle.golf_syntax_trees.specs.declared.statements.VarContent.TheVariants as content
use Rattle.golf_data.specs.declared.code.Instr.{Instr}
use Rattle.golf_check_types.specs.declared.facts.Fact.{Fact}
use Rattle.golf_check_types.specs.declared.facts.Fact.TheVariants as fact
use Rattle.golf_check_types.specs.declared.types.GoType.{GoType}
use Rattle.golf_check_types.specs.declared.operands.Operand.{Operand}
use Rattle.golf_check_types.specs.declared.operands.Operand.TheVariants as operand
use Rattle.golf_check_types.specs.declared.scopes.Scope.{Scope}
use Rattle.golf_check_types.specs.Facts.{new_target, target}
use Rattle.golf_check_types.specs.Expressions.{facts_of}
use Rattle.golf_check_types.specs.Judgments.{judge_at}
use Rattle.golf_check_types.specs.Statements as W
use Rattle.golf_check_types.specs.Statements.{Walk, behind, carried, bool_type, is_new, new_or_kept, assigned_name}
use Rattle.golf_check_types.specs.Statements.{assigned}
use Rattle.golf_code_layout.specs.Piece.{Piece, all, op}
use Rattle.golf_code_of.specs.declared.surroundings.Around.{Around}
use Rattle.golf_code_of.specs.declared.tables.Tables.{Tables}
use Rattle.golf_code_of.specs.Expressions.{Made}
use Rattle.golf_code_of.specs.ExpressionCode.{code_at, piece_at}
use Rattle.golf_code_of.specs.Statements.{laid, drops, updates, assigns, update_instr, stores_to, stores_pair}
use Rattle.golf_code_of.specs.Statements.{simple_piece, returns, first_value, optional}
use Rattle.golf_code_facts.specs.Facts.{operand_in, next_is, past_one, skip}
use Rattle.golf_code_facts.specs.Expressions.{taken_at, pushed_at}
use Rattle.golf_code_facts.specs.Statements.{PieceBy, piece_by, stores, stores_next, stores_two, past_two, steps_by}
use Rattle.golf_code_facts.specs.Statements.{defines_by, simple_by, optional_by, var_by, return_by}
use Rattle.golf_code_facts.proofs.Expressions.{made-alone, past-alone, made-among, past-among}

-- code for which no function is made: whatever names are known, it is that by the first facts
pub record PieceFollows (w : Walk) (p : Scope → Piece) (k : List Fact → PieceBy) : Type 0 where
  pub code : (s : Scope) (rest : List Fact) → k ((w s).facts ++ rest) ≡ piece_by (p s) rest

-- Names.

module _ (l : ℕ) (t : Tables) where
  pub stored : (p : Option Operand) → stores l t (unwrap_or p operand.Unknown) ≡ stores_to l t p
  stored None = refl
  stored (Some m) = refl

  pub stored_new : (new : Bool) (p : Option Operand) (s : Scope) (of_type : Option GoType)
      → stores l t (operand_in (target new (unwrap_or p operand.Unknown) s of_type)) ≡ cond new
      (op l (Instr.Store s.next)) (stores_to l t p)
  stored_new true p s of_type = refl
  stored_new false p s of_type = stored p

  -- a new name of a `range`, or `_`
  pub named : (blank : Bool) (s : Scope) (of_type : Option GoType)
      → stores l t (operand_in (target (not blank) operand.Blank s of_type)) ≡ cond blank (op l Instr.Drop)
      (op l (Instr.Store s.next))
  named true s of_type = refl
  named false s of_type = refl

  -- the names of a pair left of `:=`
  abbrev pub first_fact : Scope → List ℕ → Option GoType → Fact
  first_fact s n of_type = target (is_new s n) (assigned s n) s of_type

  abbrev pub second_fact : Scope → List ℕ → List ℕ → Option GoType → Fact
  second_fact s n m of_type = target (is_new s m) (assigned s m)
      (behind s (new_or_kept (is_new s n) (assigned s n) n of_type s)) bool_type

  pub pair_stored : (s : Scope) (n m : List ℕ) (of_type : Option GoType) (rest : List Fact)
      → stores_two l t (first_fact s n of_type ∷ (second_fact s n m of_type ∷ rest)) ≡ stores_pair l t s n m of_type
  pair_stored s n m of_type rest =
      ap (λ p. all (p ∷ stores l t (operand_in (first_fact s n of_type)) ∷ []))
      (stored_new (is_new s m) (assigned_name s m)
      (behind s (new_or_kept (is_new s n) (assigned s n) n of_type s)) bool_type)
      ∙ ap (λ p. all (cond (is_new s m) (op l
      (Instr.Store (behind s (new_or_kept (is_new s n) (assigned s n) n of_type s)).next))
      (stores_to l t (assigned_name s m)) ∷ p ∷ [])) (stored_new (is_new s n) (assigned_name s n) s of_type)
      ∙ ap (λ k. all (cond (is_new s m) (op l (Instr.Store k)) (stores_to l t (assigned_name s m))
      ∷ cond (is_new s n) (op l (Instr.Store s.next)) (stores_to l t (assigned_name s n)) ∷ []))
      (one_slot (is_new s n) (assigned s n))
    where
      one_slot : (new : Bool) (kept : Operand)
          → (behind s (new_or_kept new kept n of_type s)).next ≡ (behind s (W.one_new new n of_type s)).next
      one_slot new kept = refl

-- Simple statements.

module _ (t : Tables) (l : ℕ) where
  abbrev Law : SimpleKind → Type 0
  Law k = (s : Scope) (rest : List Fact) → simple_by t l k ((W.simple_kind l k s).facts ++ rest) ≡ piece_by
      (simple_piece t l k s) rest

  on_expression : (e : Expr) → Law (simple.Expression e)
  on_expression e s rest =
      ap (λ (x : Made). piece_by (all (x.piece ∷ drops l (judge_at l s e).meaning ∷ []))
      (skip (facts_of (judge_at l s e) ++ rest))) (made-alone t l s e rest)
      ∙ ap (piece_by (all (piece_at t l s e ∷ drops l (judge_at l s e).meaning ∷ []))) (past-alone t l s e rest)

  -- two expressions
  both : (k : Made → Made → Piece) (s : Scope) (c e : Expr) (rest : List Fact)
      → (let fs = (facts_of (judge_at l s c) ++ facts_of (judge_at l s e))
      ++ rest in piece_by (k (taken_at t l fs c) (taken_at t l (skip fs) e)) (skip (skip fs))) ≡ piece_by
      (k (code_at t l s c) (code_at t l s e)) rest
  both k s c e rest =
      let E = facts_of (judge_at l s e) in
      let fs = (facts_of (judge_at l s c) ++ E) ++ rest in
      ap (λ x. piece_by (k x (taken_at t l (skip fs) e)) (skip (skip fs))) (made-among t l s c E rest)
      ∙ ap (λ gs. piece_by (k (code_at t l s c) (taken_at t l gs e)) (skip gs)) (past-among t l s c E rest)
      ∙ ap (λ y. piece_by (k (code_at t l s c) y) (skip (E ++ rest))) (made-alone t l s e rest)
      ∙ ap (piece_by (k (code_at t l s c) (code_at t l s e))) (past-alone t l s e rest)

  on_send : (c e : Expr) → Law (simple.Send c e)
  on_send c e s rest = both (λ x y. all (x.piece ∷ y.piece ∷ op l Instr.Send ∷ [])) s c e rest

  on_step : (p : Expr) (i : Instr) (s : Scope) (rest : List Fact)
      → steps_by t l p i (facts_of (judge_at l s p) ++ rest) ≡ piece_by
      (updates l (code_at t l s p) (op l (Instr.Int (pos 1))) i) rest
  on_step p i s rest =
      ap (λ (x : Made). piece_by (updates l x (op l (Instr.Int (pos 1))) i) (skip (facts_of (judge_at l s p) ++ rest)))
      (made-alone t l s p rest)
      ∙ ap (piece_by (updates l (code_at t l s p) (op l (Instr.Int (pos 1))) i)) (past-alone t l s p rest)

  -- an expression, and what is done with the facts after it
  with_others : (k : Piece → List Fact → PieceBy) (s : Scope) (e : Expr) (gs rest : List Fact)
      → (let fs = (facts_of (judge_at l s e) ++ gs) ++ rest in k (pushed_at t l fs e) (skip fs)) ≡ k (piece_at t l s e)
      (gs ++ rest)
  with_others k s e gs rest =
      ap (λ (x : Made). k x.piece (skip ((facts_of (judge_at l s e) ++ gs) ++ rest))) (made-among t l s e gs rest)
      ∙ ap (k (piece_at t l s e)) (past-among t l s e gs rest)

  on_defines : (s : Scope) (e : Expr) (of_type : Option GoType) (rest : List Fact)
      → defines_by t l e ((facts_of (judge_at l s e) ++ new_target s of_type ∷ []) ++ rest) ≡ piece_by
      (all (piece_at t l s e ∷ op l (Instr.Store s.next) ∷ [])) rest
  on_defines s e of_type rest = with_others
      (λ p gs. let y = stores_next l t gs in piece_by (all (p ∷ y.piece ∷ [])) y.left) s e
      (new_target s of_type ∷ []) rest

  on_define_received : (n m : List ℕ) (e : Expr) → Law (simple.DefineReceived n m e)
  on_define_received n m e s rest =
      with_others (λ p gs. piece_by (all (p ∷ op l Instr.ReceiveOk ∷ stores_two l t gs ∷ [])) (past_two gs)) s e
      (first_fact l t s n (carried l e s) ∷ (second_fact l t s n m (carried l e s) ∷ [])) rest
      ∙ ap (λ p. piece_by (all (piece_at t l s e ∷ op l Instr.ReceiveOk ∷ p ∷ [])) rest)
      (pair_stored l t s n m (carried l e s) rest)

  on_assign_received : (n m : List ℕ) (e : Expr) → Law (simple.AssignReceived n m e)
  on_assign_received n m e s rest =
      with_others (λ p gs. piece_by (all (p ∷ op l Instr.ReceiveOk ∷ stores l t (next_is (past_one gs))
      ∷ stores l t (next_is gs) ∷ [])) (past_two gs)) s e
      (fact.Target (assigned s n) ∷ (fact.Target (assigned s m) ∷ [])) rest
      ∙ ap (λ p. piece_by (all (piece_at t l s e ∷ op l Instr.ReceiveOk ∷ p ∷ stores l t (assigned s n) ∷ [])) rest)
      (stored l t (assigned_name s m))
      ∙ ap (λ p. piece_by (all (piece_at t l s e ∷ op l Instr.ReceiveOk ∷ stores_to l t (assigned_name s m) ∷ p ∷ []))
      rest) (stored l t (assigned_name s n))

  pub on_kind : (k : SimpleKind) → Law k
  on_kind (simple.Expression e) = on_expression e
  on_kind (simple.Send c e) = on_send c e
  on_kind (simple.Increment p) = on_step p Instr.Add
  on_kind (simple.Decrement p) = on_step p Instr.Sub
  on_kind (simple.Assign p e) = λ s rest. both (λ x y. assigns x y.piece) s p e rest
  on_kind (simple.Update p o e) = λ s rest. both (λ x y. updates l x y.piece (update_instr o)) s p e rest
  on_kind (simple.Define n e) = λ s rest. on_defines s e _ rest
  on_kind (simple.DefineReceived n m e) = on_define_received n m e
  on_kind (simple.AssignReceived n m e) = on_assign_received n m e

  pub on_simple : (k : SimpleKind) → PieceFollows (W.simple_kind l k) (simple_piece t l k) (simple_by t l k)
  on_simple k = record { code = on_kind k }

-- none has no code
abbrev pub optional_piece : Tables → Option Simple → Scope → Piece
optional_piece t None s = Piece.Empty
optional_piece t (Some x) s = simple_piece t x.line x.kind s

pub optional-lay : (t : Tables) (o : Option Simple) (a : Around) (s : Scope)
    → (optional t o).lay a s ≡ laid (optional_piece t o s)
optional-lay t None a s = refl
optional-lay t (Some x) a s = refl

pub on_optional : (t : Tables) (o : Option Simple)
    → PieceFollows (optional t o).walk (optional_piece t o) (optional_by t o)
on_optional t None = record { code = λ s rest. refl }
on_optional t (Some x) = record { code = on_kind t x.line x.kind }

-- Variables and returns.

module _ (t : Tables) (l : ℕ) where
  abbrev var_piece : VarContent → Scope → Piece
  var_piece x s = all (first_value t l x s ∷ op l (Instr.Store s.next) ∷ [])

  pub on_var : (n : List ℕ) (x : VarContent) → PieceFollows (W.var_content l n x) (var_piece x) (var_by t l x)
  on_var n (content.Zero w) = record { code = λ s rest. refl }
  on_var n (content.Typed w e) = record { code = λ s rest. on_defines t l s e _ rest }
  on_var n (content.Untyped e) = record { code = λ s rest. on_defines t l s e _ rest }

  pub on_return : (e : Option Expr) → PieceFollows (W.returned l e) (returns t l e) (return_by t l e)
  on_return None = record { code = λ s rest. refl }
  on_return (Some e) = record {
    code = λ s rest.
        ap (λ (x : Made). piece_by (all (x.piece ∷ op l Instr.ReturnValue ∷ []))
        (skip (facts_of (judge_at l s e) ++ rest))) (made-alone t l s e rest)
        ∙ ap (piece_by (all (piece_at t l s e ∷ op l Instr.ReturnValue ∷ []))) (past-alone t l s e rest);
  }
