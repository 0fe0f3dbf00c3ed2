use Rattle.std.proofs.Common.{ap, ◌∙◌, slice_get}
use Rattle.golf_run_schedules.proofs.Counting.{choice_is, got}
use Rattle.golf_run_schedules.proofs.schedule.Schedule.next_number.Goals as goal

pub returns-in-Choices : goal.returns-in-Choices
returns-in-Choices c more =
    choice_is c.args.self.now c.in-Choices.numbers c.args.done more c.copied.result c.in-Choices.is
    (c.copied.ensures ∙ got c.as_slice.result.now c.args.done c.get.result c.get.ensures.lookup.3
    ∙ ap (λ xs. slice_get xs c.args.done) c.as_slice.ensures)
