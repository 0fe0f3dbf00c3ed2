use Rattle.std.proofs.Common.{ℕ, List, ◌++◌, get_or, pos, ap, ◌∙◌}
use Rattle.std.proofs.lemmas.List.{get_or_default}
use Rattle.golf_data.specs.declared.value.Value.{Value}
use Rattle.golf_model.specs.Values.{bytes_of}
use Rattle.golf_machine.proofs.Lines.{printed_first, printed_later, was_added}
use Rattle.golf_machine.proofs.printed_lines.line_of.Goals as goal
use Rattle.golf_machine.proofs.printed_lines.line_of.Goals.{then-i-gt0+in_ok-push, else-i-gt0}

pub loop-i-preserved : goal.loop-i-preserved
loop-i-preserved c =
    let texts = c.args.texts.now in
    let values = c.args.values.now in
    let i = c.loop-i.i in
    let v : Value = get_or values i (Value.Int (pos 0)) in
    let here = get_or_default values i (Value.Int (pos 0)) v c.loop-i-test.true in
    let added = was_added (bytes_of texts v) c.in_ok-add_value.field-0 c.add_value.new.text c.if-i-gt0.text
    c.if-not-branch.false c.in_ok-add_value.ensures in
    elim c.if-i-gt0.branch [
      | then-i-gt0+in_ok-push w ↦
          let is = added.2 ∙ ap (λ (t : List ℕ). t ++ added.0) (w.text-is ∙ w.in_ok-push.ensures.ok) in
          rw is (printed_later texts values i v c.loop-i.text added.0 w.if-i-gt0.true c.loop-i-test.true here added.1
          c.loop-i.invariant)
      | else-i-gt0 w ↦
          let is = added.2 ∙ ap (λ (t : List ℕ). t ++ added.0) w.text-is in
          rw is (printed_first texts values i v c.loop-i.text added.0 w.if-i-gt0.false c.loop-i-test.true here added.1
          c.loop-i.invariant)
    ]
