use Rattle.std.proofs.Common.{true, ◌≡◌, sym, ◌∙◌, arith}
use Rattle.golf_explore_command.proofs.Progressing.{next-told, next-fails}
use Rattle.golf_explore_command.proofs.progress.tell_progress.Goals as goal

pub returns-in_err-write_all-in-Some : goal.returns-in_err-write_all-in-Some
returns-in_err-write_all-in-Some g c first before h =
    next-fails c.args.shows first _ before _ c.args.told h c.if-not-shows.false c.in-Some.next c.in-Some.due
    c.as_slice.result.now c.in-Some.ensures.0 c.in-Some.ensures.1
    (c.as_slice.ensures ∙ c.in_ok-line-in-Some.ensures) _ _ c.in_err-write_all-in-Some.ensures.prefix
    c.in_err-write_all-in-Some.ensures.cause.failed c.from_residual-in_err-write_all-in-Some.result
    c.from_residual-in_err-write_all-in-Some.ensures.0 c.from_residual-in_err-write_all-in-Some.ensures.1

pub returns-in_ok-write_all-in-Some : goal.returns-in_ok-write_all-in-Some
returns-in_ok-write_all-in-Some g c first before h =
    next-told c.args.shows first _ before _ c.args.told h c.if-not-shows.false c.in-Some.next c.in-Some.due
    c.as_slice.result.now c.in-Some.ensures.0 c.in-Some.ensures.1
    (c.as_slice.ensures ∙ c.in_ok-line-in-Some.ensures) _ _ c.in_ok-write_all-in-Some.ensures.ok
    c.in_ok-write_all-in-Some.ensures.cause.steady
