use Rattle.golf_check_names.proofs.Wholes.{slice_forms, struct_forms}
use Rattle.golf_check_names.proofs.Spines.{starts, rises}
use Rattle.golf_check_names.proofs.forms.+forming.Goals as goal

pub whole-returns-in-StructLiteral : goal.whole-returns-in-StructLiteral
whole-returns-in-StructLiteral t c =
    struct_forms c.pointer.result c.args.line c.args.scope.now c.args.e.now c.in-StructLiteral.name
    c.as_slice-in-StructLiteral.result.now c.in-StructLiteral.field-1 c.in-StructLiteral.is
    c.as_slice-in-StructLiteral.ensures c.pointer.ensures

pub whole-returns-in-SliceLiteral : goal.whole-returns-in-SliceLiteral
whole-returns-in-SliceLiteral t c =
    slice_forms c.slice.result c.args.line c.args.scope.now c.args.e.now c.in-SliceLiteral.t
    c.get-in-SliceLiteral.result.now c.in-SliceLiteral.field-1 c.in-SliceLiteral.is c.get-in-SliceLiteral.ensures
    c.slice.ensures

pub form-loop-node-init : goal.form-loop-node-init
form-loop-node-init t c = starts c.args.line c.args.scope.now c.args.e.now c.in_ok-waiting.waiting
    c.in_ok-waiting.innermost.now c.in_ok-operand.operand c.in_ok-waiting.ensures.down c.in_ok-operand.ensures

pub form-loop-node-preserved : goal.form-loop-node-preserved
form-loop-node-preserved t c = rises c.args.line c.args.scope.now c.args.e.now c.loop-node.waiting c.pop.new.self
    c.in-Some.node c.loop-node.operand c.in_ok-operand-2.operand c.loop-node.invariant c.in-Some.ensures
    c.in_ok-operand-2.ensures
