use Rattle.std.proofs.Common.{ap, ◌∙◌}
use Rattle.golf_explore_command.specs.Texts.{note_line}
use Rattle.golf_explore_command.specs.Answers.{IsAnswer}
use Rattle.golf_explore_command.specs.declared.found_runs.Answer.{Answer}
use Rattle.golf_explore_command.proofs.Searching.{note-lacks, note-fails, line-fails, search-lacks, answer-whole}
use Rattle.golf_explore_command.proofs.Searching.{answer-fails, cut, short}
use Rattle.golf_explore_command.proofs.top.tell_answer.Goals as goal

pub returns-in-Err : goal.returns-in-Err
returns-in-Err g c = note-lacks c.args.code.now c.args.question c.args.shows _ _ _ _ _ _ c.end.result c.end.ensures

pub returns-in-Err-write_all : goal.returns-in-Err-write_all
returns-in-Err-write_all g c =
    note-fails c.args.code.now c.args.question c.args.shows _ _ _ _ _ _ c.as_slice.result.now
    (c.as_slice.ensures ∙ c.in-Ok.ensures ∙ ap note_line c.states.ensures) c.in-Err-write_all.ensures.prefix
    c.in-Err-write_all.ensures.cause.failed

pub returns-in-Ok-write_all-2 : goal.returns-in-Ok-write_all-2
returns-in-Ok-write_all-2 g c =
    let told = c.in-Ok-answer_to.ensures in
    answer-whole c.args.code.now c.args.question c.args.shows _ _ _ _ _ _ c.as_slice.result.now
    (c.as_slice.ensures ∙ c.in-Ok.ensures ∙ ap note_line c.states.ensures) c.in-Ok-write_all.ensures.ok
    c.in-Ok-write_all.ensures.cause.steady told.1.0 _ _ told.1.1 _ _ c.in-Ok-answer_to.answer.status
    c.in-Ok-answer_to.answer.text c.as_slice-in-Ok-answer_to.result.now told.0 c.as_slice-in-Ok-answer_to.ensures
    c.in-Ok-write_all-2.ensures.ok c.in-Ok-write_all-2.ensures.cause.steady

pub returns-in-Ok-answer_to : goal.returns-in-Ok-answer_to
returns-in-Ok-answer_to g c =
    let told = c.in-Ok-answer_to.ensures in
    answer-fails c.args.code.now c.args.question c.args.shows _ _ _ _ _ _ c.as_slice.result.now
    (c.as_slice.ensures ∙ c.in-Ok.ensures ∙ ap note_line c.states.ensures) c.in-Ok-write_all.ensures.ok
    c.in-Ok-write_all.ensures.cause.steady told.1.0 _ _ told.1.1 _ _ c.in-Ok-answer_to.answer.status
    c.in-Ok-answer_to.answer.text c.as_slice-in-Ok-answer_to.result.now told.0 c.as_slice-in-Ok-answer_to.ensures
    c.in-Err-write_all-2.ensures.prefix c.in-Err-write_all-2.ensures.cause.failed

pub returns-in-Err-Write : goal.returns-in-Err-Write
returns-in-Err-Write g c =
    line-fails c.args.code.now c.args.question c.args.shows _ _ _ _ _ _ c.as_slice.result.now
    (c.as_slice.ensures ∙ c.in-Ok.ensures ∙ ap note_line c.states.ensures) c.in-Ok-write_all.ensures.ok
    c.in-Ok-write_all.ensures.cause.steady _ _ (cut
    (λ (a : Answer). IsAnswer c.args.code.now c.args.question a.status a.text) c.in-Err-Write.field-0
    c.in-Err-Write.field-0-is c.in-Err-Write.ensures)

pub returns : goal.returns
returns g c =
    let told = short (λ (a : Answer). IsAnswer c.args.code.now c.args.question a.status a.text)
    c.in-Err-Memory.field-0 c.in-Err-Memory.field-0-is c.in-Err-Memory.ensures in
    search-lacks c.args.code.now c.args.question c.args.shows _ _ _ _ _ _ c.as_slice.result.now
    (c.as_slice.ensures ∙ c.in-Ok.ensures ∙ ap note_line c.states.ensures) c.in-Ok-write_all.ensures.ok
    c.in-Ok-write_all.ensures.cause.steady told.0 _ _ told.1 _ _ c.end-in-Err-Memory.result
    c.end-in-Err-Memory.ensures
