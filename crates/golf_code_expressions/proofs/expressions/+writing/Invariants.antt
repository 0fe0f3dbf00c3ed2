use Rattle.std.proofs.Common.{◌≡◌, ◌+◌, ◌*◌, map, drop, length}
use Rattle.golf_syntax_trees.specs.declared.expressions.Expr.{size-Expr}
use Rattle.golf_code_of.specs.Expressions.{elements}
use Rattle.golf_code_of.specs.Calls.{pushes}
use Rattle.golf_code_facts.specs.Expressions.{taking, arguments, pieces, puts}
use Rattle.golf_code_expressions.specs.WriterClauses.{with_piece}
use Rattle.golf_code_expressions.specs.Spines.{RisingCode}
use Rattle.golf_code_expressions.proofs.expressions.+writing.Given as goal

-- the fields left, after those so far
abbrev pub invariant-put_all-loop-x : goal.invariant-put_all-loop-x
invariant-put_all-loop-x l =
    let t = l.fn.writer.draft.tables.now in
    record {
      tables : l.writer.draft.tables ≡ l.fn.writer.draft.tables;
      draft : with_piece l.writer.draft (puts l.line
          (map (λ x. taking t x.value) (drop l.x-index l.fields)) l.writer.facts) ≡ with_piece l.fn.writer.draft
          (puts l.line (map (λ x. taking t x.value) l.fields) l.fn.writer.facts);
    }

abbrev pub invariant-set_all-loop-i : goal.invariant-set_all-loop-i
invariant-set_all-loop-i l =
    let t = l.fn.writer.draft.tables.now in
    record {
      tables : l.writer.draft.tables ≡ l.fn.writer.draft.tables;
      draft : with_piece l.writer.draft (elements l.line l.i
          (pieces (arguments l.line (map (taking t) (drop l.i l.es)) l.writer.facts))) ≡ with_piece l.fn.writer.draft
          (elements l.line 0 (pieces (arguments l.line (map (taking t) l.es) l.fn.writer.facts)));
    }

abbrev pub invariant-arguments-loop-x : goal.invariant-arguments-loop-x
invariant-arguments-loop-x l =
    let t = l.fn.writer.draft.tables.now in
    record {
      tables : l.writer.draft.tables ≡ l.fn.writer.draft.tables;
      draft : with_piece l.writer.draft (pushes
          (arguments l.line (map (taking t) (drop l.x-index l.xs)) l.writer.facts)) ≡ with_piece l.fn.writer.draft
          (pushes (arguments l.line (map (taking t) l.xs) l.fn.writer.facts));
    }

-- what waits goes on with what was written
abbrev pub invariant-expression-loop-node : goal.invariant-expression-loop-node
invariant-expression-loop-node l = RisingCode l.line l.fn.e l.fn.writer l.waiting l.writer.draft

abbrev pub decreases-expression-loop-node : goal.decreases-expression-loop-node
decreases-expression-loop-node l = length l.waiting

abbrev pub decreases-whole : goal.decreases-whole
decreases-whole l = 16 * size-Expr l.e.now

abbrev pub decreases-rest : goal.decreases-rest
decreases-rest l = 16 * size-Expr l.e.now

abbrev pub decreases-follow : goal.decreases-follow
decreases-follow l = 16 * size-Expr l.e.now + 1

abbrev pub decreases-innermost_at : goal.decreases-innermost_at
decreases-innermost_at l = 16 * size-Expr l.e.now + 1

abbrev pub decreases-expression : goal.decreases-expression
decreases-expression l = 16 * size-Expr l.e.now + 2

abbrev pub decreases-unary_at : goal.decreases-unary_at
decreases-unary_at l = 16 * size-Expr l.e.now + 3

abbrev pub decreases-sized_at : goal.decreases-sized_at
decreases-sized_at l = 16 * size-Expr l.e.now + 3

abbrev pub decreases-put_at : goal.decreases-put_at
decreases-put_at l = 16 * size-Expr l.e.now + 3

abbrev pub decreases-index_at : goal.decreases-index_at
decreases-index_at l = 16 * size-Expr l.i.now + 3

abbrev pub decreases-decided_at : goal.decreases-decided_at
decreases-decided_at l = 16 * size-Expr l.b.now + 3

abbrev pub decreases-both_at : goal.decreases-both_at
decreases-both_at l = 16 * size-Expr l.b.now + 3

abbrev pub decreases-or_at : goal.decreases-or_at
decreases-or_at l = 16 * size-Expr l.b.now + 4

abbrev pub decreases-binary_at : goal.decreases-binary_at
decreases-binary_at l = 16 * size-Expr l.b.now + 5

abbrev pub decreases-put_all : goal.decreases-put_all
decreases-put_all l = 16 * goal.size-put_all l + 4

abbrev pub decreases-struct_at : goal.decreases-struct_at
decreases-struct_at l = 16 * goal.size-struct_at l + 5

abbrev pub decreases-set_all : goal.decreases-set_all
decreases-set_all l = 16 * goal.size-set_all l + 4

abbrev pub decreases-slice_at : goal.decreases-slice_at
decreases-slice_at l = 16 * goal.size-slice_at l + 5

abbrev pub decreases-arguments : goal.decreases-arguments
decreases-arguments l = 16 * goal.size-arguments l + 4

abbrev pub decreases-call_at : goal.decreases-call_at
decreases-call_at l = 16 * goal.size-call_at l + 5

abbrev pub decreases-finaliser_at : goal.decreases-finaliser_at
decreases-finaliser_at l = 16 * size-Expr l.x.now + 3

abbrev pub decreases-finalising_at : goal.decreases-finalising_at
decreases-finalising_at l = 16 * goal.size-finalising_at l + 5

abbrev pub decreases-finalising_with : goal.decreases-finalising_with
decreases-finalising_with l = 16 * size-Expr l.x.now + 4
