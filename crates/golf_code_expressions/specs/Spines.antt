-- The code before and after that of a left operand, and how it grows while expressions wait for theirs.
use Rattle.std.specs.Prelude.{◌≡◌, ℕ, ◌≤◌, Bool, true, false, cond, List, [], ◌∷◌, ◌++◌, map, drop, length, Option}
use Rattle.std.specs.Prelude.{Some, None, Result, Ok, Err}
use Rattle.std.specs.Borrow.{Bor}
use Rattle.golf_base.specs.declared.Memory.{Memory}
use Rattle.golf_syntax_trees.specs.declared.expressions.BinaryOperator.{BinaryOperator}
use Rattle.golf_syntax_trees.specs.declared.expressions.BinaryOperator.TheVariants as binary
use Rattle.golf_syntax_trees.specs.declared.expressions.Expr.{Expr, out-Expr, size-Expr}
use Rattle.golf_syntax_trees.specs.declared.expressions.Element.{Element}
use Rattle.golf_syntax_trees.specs.declared.expressions.Expr.TheOpen.{Expr-F, Selector, Index, Call, Binary}
use Rattle.golf_syntax_trees.specs.Spines.{shown, AreNoLarger}
use Rattle.golf_data.specs.declared.code.Instr.{Instr}
use Rattle.golf_check_types.specs.declared.facts.Fact.{Fact}
use Rattle.golf_check_types.specs.declared.operands.Operand.{Operand}
use Rattle.golf_check_types.specs.declared.operands.Operand.TheVariants as operand
use Rattle.golf_check_types.specs.Calls.{sets_finaliser}
use Rattle.golf_code_layout.specs.Piece.{Piece}
use Rattle.golf_code_layout.specs.Emission.{onto}
use Rattle.golf_code_layout.specs.declared.emitted.Emitted.{Emitted}
use Rattle.golf_code_layout.specs.declared.emitted.Emitted.TheVariants as emit
use Rattle.golf_code_of.specs.declared.tables.Tables.{Tables}
use Rattle.golf_code_of.specs.Expressions.{combining}
use Rattle.golf_code_of.specs.Calls.{ArgumentCode, pushes, calling}
use Rattle.golf_code_facts.specs.Facts.{operand_in, next_is, skip}
use Rattle.golf_code_facts.specs.Expressions.{taking, arguments}
use Rattle.golf_code_expressions.specs.declared.writer.Draft.{Draft}
use Rattle.golf_code_expressions.specs.declared.writer.Writer.{Writer}

-- whether the left operand of a selector with this meaning has code
abbrev pub has_left : Operand → Bool
has_left (operand.Field i t) = true
has_left (operand.Value t) = true
has_left (operand.Method k) = true
has_left (operand.BuiltIn b) = true
has_left _ = false

abbrev pub written_step : Expr-F Expr Element → Operand → Operand → Option Expr
written_step (Selector e n) m callee = cond (has_left m) (Some e) None
written_step (Index a i) m callee = Some a
written_step (Call g xs) m callee = cond (sets_finaliser callee) None (Some g)
written_step (Binary o a b) m callee = Some a
written_step _ m callee = None

-- the left operand of an expression with this meaning, if its code comes first; a call has the meaning `callee`
unfoldable pub written : Expr → Operand → Operand → Option Expr
written e m callee = written_step (out-Expr e) m callee

abbrev pub begun_binary : BinaryOperator → List Emitted → List Emitted
begun_binary binary.Or ms = (ms ++ emit.Block ∷ []) ++ emit.Block ∷ []
begun_binary binary.And ms = (ms ++ emit.Block ∷ []) ++ emit.Block ∷ []
begun_binary _ ms = ms

abbrev pub begun_step : Expr-F Expr Element → List Emitted → List Emitted
begun_step (Binary o a b) ms = begun_binary o ms
begun_step _ ms = ms

-- the parts `ms`, and then those before the code of the left operand
unfoldable pub begun : Expr → List Emitted → List Emitted
begun e ms = begun_step (out-Expr e) ms

-- The parts `ms`, which end with the code of the left operand, and then those after it.

abbrev pub after_selector : ℕ → Operand → List Emitted → List Emitted
after_selector l (operand.Field i t) ms = ms ++ emit.Op (Instr.Field i) l ∷ []
after_selector l (operand.Value t) ms = ms ++ emit.Op Instr.CondMutex l ∷ []
after_selector l _ ms = ms

abbrev pub after_index : ℕ → Piece → List Emitted → List Emitted
after_index l i ms = onto ms i ++ emit.Op Instr.Index l ∷ []

abbrev pub after_call : ℕ → Operand → ℕ → List ArgumentCode → List Emitted → List Emitted
after_call l callee n xs ms = onto (onto ms (pushes xs)) (calling l callee n)

abbrev pub after_either : ℕ → Bool → Piece → List Emitted → List Emitted
after_either l value b ms = (((onto (ms ++ emit.Unless l 0 ∷ []) b ++ emit.Exit l 1 ∷ []) ++ emit.End ∷ [])
    ++ emit.Op (Instr.Bool value) l ∷ []) ++ emit.End ∷ []

abbrev pub after_both : ℕ → BinaryOperator → Piece → List Emitted → List Emitted
after_both l o b ms = onto (onto ms b) (combining l o)

abbrev pub after_binary : ℕ → BinaryOperator → Piece → List Emitted → List Emitted
after_binary l binary.Or b ms = after_either l true b (ms ++ emit.Op Instr.Not l ∷ [])
after_binary l binary.And b ms = after_either l false b ms
after_binary l o b ms = after_both l o b ms

abbrev pub ended_step : Tables → ℕ → Expr-F Expr Element → Operand → List Fact → List Emitted → List Emitted
ended_step t l (Selector e n) m fs ms = after_selector l m ms
ended_step t l (Index a i) m fs ms = after_index l (taking t i l (skip fs)).piece ms
ended_step t l (Call g xs) m fs ms = after_call l (next_is fs) (length xs)
    (arguments l (map (taking t) xs) (skip fs)) ms
ended_step t l (Binary o a b) m fs ms = after_binary l o (taking t b l (skip fs)).piece ms
ended_step t l _ m fs ms = ms

-- the same for an expression with this meaning; these are the facts of its parts
unfoldable pub ended : Tables → ℕ → Expr → Operand → List Fact → List Emitted → List Emitted
ended t l e m fs ms = ended_step t l (out-Expr e) m fs ms

-- the parts after those of all waiting expressions; `ms` ends with the code of the innermost one, and the first of the
-- expressions has the first of the facts
abbrev pub grown : Tables → ℕ → List Expr → List Fact → List Emitted → List Emitted
grown t l [] fs ms = ms
grown t l (e ∷ es) [] ms = ms
grown t l (e ∷ es) (f ∷ fs) ms = ended t l e (operand_in f) fs (grown t l es fs ms)

-- the draft with only its parts replaced
abbrev pub with_emitted : Draft → List Emitted → Draft
with_emitted d ms = record d { emitted = ms }

abbrev pub WritesAfter : {A : Type 0} → Result A Memory → List Emitted → Writer → Writer → Type 0
WritesAfter (Ok a) ms old new = new.draft ≡ with_emitted old.draft ms
WritesAfter (Err e) ms old new = Unit {0}

-- The loop followed the left operands from the expression to an inner one, and these expressions wait for it.
abbrev pub Descended : Expr → Writer → List (Bor Expr) → Expr → Writer → Type 0
Descended e old ws inner new = record {
  whole : (l : ℕ) → grown old.draft.tables.now l (shown ws) old.facts
      (onto new.draft.emitted (taking old.draft.tables.now inner l new.facts).piece) ≡ onto old.draft.emitted
      (taking old.draft.tables.now e l old.facts).piece;
  draft : new.draft ≡ with_emitted old.draft new.draft.emitted;
  facts : new.facts ≡ drop (length ws) old.facts;
  enough : length ws ≤ length old.facts;
  within : AreNoLarger size-Expr (size-Expr e) (shown ws);
  inner : size-Expr inner ≤ size-Expr e;
}

-- the code of a left operand does not come first
abbrev pub Stops : Expr → List Fact → Type 0
Stops e fs = (f : Fact) (gs : List Fact) → fs ≡ f ∷ gs → written e (operand_in f) (next_is gs) ≡ None

-- these expressions wait for the code that was written
abbrev pub RisingCode : ℕ → Expr → Writer → List (Bor Expr) → Draft → Type 0
RisingCode l e old ws d = record {
  whole : grown old.draft.tables.now l (shown ws) old.facts d.emitted ≡ onto old.draft.emitted
      (taking old.draft.tables.now e l old.facts).piece;
  draft : d ≡ with_emitted old.draft d.emitted;
  enough : length ws ≤ length old.facts;
  within : AreNoLarger size-Expr (size-Expr e) (shown ws);
}
