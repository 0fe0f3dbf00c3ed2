use Rattle.std.proofs.Common.{◌+◌, ◌∷◌, [], length, map, ap, sym, ◌∙◌}
use Rattle.golf_check_types.specs.declared.operands.Operand.{Operand}
use Rattle.golf_code_layout.specs.Piece.{all, op}
use Rattle.golf_code_of.specs.Calls.{pushes}
use Rattle.golf_code_facts.specs.Facts.{skip_all}
use Rattle.golf_code_facts.specs.Expressions.{taking, arguments}
use Rattle.golf_code_statements.specs.Begins.{begin_of}
use Rattle.golf_code_statements.specs.Begun.{begun}
use Rattle.golf_code_statements.specs.Lays.{after}
use Rattle.golf_code_statements.proofs.Seams.{as_lays}
use Rattle.golf_code_statements.proofs.Begun.{function_begun, method_begun}
use Rattle.golf_code_statements.proofs.begins.begin_callee.Goals as goal

pub returns-in-Function : goal.returns-in-Function
returns-in-Function c =
    let w = c.args.writer.now in
    let l = c.args.line in
    let begin = begin_of c.args.begins in
    let xs = c.args.xs.now in
    let k = c.in-Function.function in
    as_lays c.begin_function.result (begun w.draft.tables.now l begin w.draft.functions c.args.callee.now xs w.facts)
    (all (pushes (arguments l (map (taking w.draft.tables.now) xs) w.facts) ∷ op l (begin (k + 1) (length xs + 0))
    ∷ [])) (skip_all (length xs) w.facts) w c.begin_function.new.writer
    (function_begun w l begin xs k ∙ ap (λ (m : Operand). after w
    (begun w.draft.tables.now l begin w.draft.functions m xs w.facts)) (sym c.in-Function.is))
    c.begin_function.ensures

pub returns-in-Method : goal.returns-in-Method
returns-in-Method c =
    let w = c.args.writer.now in
    let l = c.args.line in
    let begin = begin_of c.args.begins in
    let xs = c.args.xs.now in
    let k = c.in-Method.function in
    as_lays c.begin_function-in-Method.result
    (begun w.draft.tables.now l begin w.draft.functions c.args.callee.now xs w.facts)
    (all (pushes (arguments l (map (taking w.draft.tables.now) xs) w.facts) ∷ op l (begin (k + 1) (length xs + 1))
    ∷ [])) (skip_all (length xs) w.facts) w c.begin_function-in-Method.new.writer
    (method_begun w l begin xs k ∙ ap (λ (m : Operand). after w
    (begun w.draft.tables.now l begin w.draft.functions m xs w.facts)) (sym c.in-Method.is))
    c.begin_function-in-Method.ensures
