-- A loop over a `range` leads on.
-- For: `statements_fit`, src/lib.rt
-- By: putting the lemmas of the names and of the loop together; no induction
use Rattle.std.proofs.Common.{ℕ, List, ◌++◌, refl}
use Rattle.golf_theory.specs.Membership.{Every}
use Rattle.golf_syntax_trees.specs.declared.expressions.Expr.{Expr}
use Rattle.golf_syntax_trees.specs.declared.statements.RangeNames.{RangeNames}
use Rattle.golf_check_types.specs.Scopes.{begun}
use Rattle.golf_check_types.specs.Expressions.{used, given_by}
use Rattle.golf_check_types.specs.Judgments.{judge}
use Rattle.golf_check_types.specs.Statements as W
use Rattle.golf_check_types.specs.Statements.{behind, range_faults}
use Rattle.golf_model_typing.specs.Types.{FunctionTypes, Types}
use Rattle.golf_code_of.specs.declared.tables.Tables.{Tables}
use Rattle.golf_code_of.specs.ExpressionCode.{piece_at}
use Rattle.golf_code_of.specs.Statements.{StatementPart, block, in_block}
use Rattle.golf_code_of.specs.Loops.{in_loop, ranging}
use Rattle.golf_code_shapes.specs.Sound.{ScopeFits}
use Rattle.golf_code_shapes.specs.StatementFlow.{IsMaking}
use Rattle.golf_code_shapes.proofs.Typings.{none-left, none-right}
use Rattle.golf_code_shapes.proofs.Flows.{Right, quiet, slotted-left, slotted-right}
use Rattle.golf_code_shapes.proofs.Simples.{value-of}
use Rattle.golf_code_shapes.proofs.Branches.{looped}
use Rattle.golf_code_shapes.proofs.Ranges.{RangeFits, over-given}

module _ (types : Types) (t : Tables) (ft : FunctionTypes) where
  -- what the names declare is known inside alone
  pub right-range : (l : ℕ) (names : RangeNames) (e : Expr) (xs : List StatementPart) → Right types t ft (block xs)
      → Right types t ft (in_block (ranging t l names e xs))
  right-range l names e xs right a s A exits ok ways slots made none =
      let s0 = begun s in
      let ok0 : ScopeFits types t ft A s0 = record { file = ok.file; locals = ok.locals; result = ok.result } in
      let j = judge e l s0 in
      let g = given_by j in
      let rs = W.range_slots names g s0 in
      let s1 = behind s0 rs in
      let x = in_loop 2 0 (block xs) in
      let head = none-left (used l j ++ range_faults l names g) _ none in
      let rest = none-right (used l j ++ range_faults l names g) _ none in
      let fit : RangeFits types t ft (Every IsMaking (x.lay a s1).made) names g s0 (x.lay a s1).piece A = record {
        scope_fits = ok0;
        slots = slotted-left types t ft s0.next rs.slots (x.walk s1).slots slots;
        body_fits = λ B E okb r2 r0. looped types t ft (block xs) right 2 0 a s1 B E (record {
          fits = okb;
          breaks = r2;
          continues = r0;
          slots = slotted-right types t ft s0.next s1.next rs.slots (x.walk s1).slots refl slots;
          made = made;
          none = none-right rs.faults _ rest;
        });
      } in
      let h = over-given types t ft l g (piece_at t l s0 e) exits fit (none-right (used l j) _ head)
      (value-of types t ft l e s0 A ok0 (none-left (used l j) _ head)) in
      (quiet types t ft A exits s ((in_block (ranging t l names e xs)).walk s) _ refl ok h.0, h.1)
