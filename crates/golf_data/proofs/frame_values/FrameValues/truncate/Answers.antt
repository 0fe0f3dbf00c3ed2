use Rattle.std.proofs.Common.{List, drop, take, ap, ◌∙◌}
use Rattle.std.proofs.lemmas.List.{drop-take}
use Rattle.golf_data.specs.declared.value.Value.{Value}
use Rattle.golf_data.specs.FrameValues.{SlotsAndOperands}
use Rattle.golf_data.proofs.frame_values.FrameValues.truncate.Goals as goal

pub returns-then-n-operand_count-clause-items : goal.returns-then-n-operand_count-clause-items
returns-then-n-operand_count-clause-items c =
    let n = c.self.inside.slots in
    ap (λ (vs : List Value). drop n vs) c.truncate.ensures.items
    ∙ drop-take n c.args.n c.self.inside.values.items
    ∙ ap (λ (v : SlotsAndOperands). take c.args.n v.operands) c.self.view_is
