use Rattle.std.proofs.Common.{refl}
use Rattle.golf_command_words.specs.declared.line.CommandLine.{CommandLine}
use Rattle.golf_command.specs.Ways.{Way}
use Rattle.golf_command.proofs.Filing.{went-tells, failed-tells, stopped-tells}
use Rattle.golf_command.proofs.Fetching.{loaded-tells}
use Rattle.golf_command.proofs.top.run_source.Goals as goal

pub returns-in-Err : goal.returns-in-Err
returns-in-Err g c = c.in-Err.ensures.loads (CommandLine.Run c.args.options) tt c.requires _ _

pub returns-in-Ok-run : goal.returns-in-Ok-run
returns-in-Ok-run g c =
    let line = CommandLine.Run c.args.options in
    let loads = c.in-Ok.ensures.loads in
    let l = loads.1 in
    loaded-tells line tt l loads.3 loads.4
    (went-tells line l.bytes c.requires loads.0 c.in-Ok.code l.accepts loads.2 l.only
    (Way.ByOptions c.args.options) refl _ _ c.in-Ok-run.status c.in-Ok-run.ensures.0.status
    c.in-Ok-run.ensures.0.out c.in-Ok-run.ensures.0.err c.in-Ok-run.ensures.1)

pub returns-in-Err-Write : goal.returns-in-Err-Write
returns-in-Err-Write g c =
    let line = CommandLine.Run c.args.options in
    let loads = c.in-Ok.ensures.loads in
    let l = loads.1 in
    let was = rw c.in-Err-Write.field-0-is at c.in-Err-Write.ensures in
    loaded-tells line tt l loads.3 loads.4
    (failed-tells line l.bytes c.requires loads.0 c.in-Ok.code l.accepts loads.2 l.only
    (Way.ByOptions c.args.options) refl _ _ was.done was.later was.cut was.order
    (record { prefix = was.prefix; is_prefix = was.is_prefix; got = was.got; failed = was.failed }))

pub returns : goal.returns
returns g c =
    let line = CommandLine.Run c.args.options in
    let loads = c.in-Ok.ensures.loads in
    let l = loads.1 in
    let was = rw c.in-Err-Memory.field-0-is at c.in-Err-Memory.ensures in
    loaded-tells line tt l loads.3 loads.4
    (stopped-tells line l.bytes c.requires loads.0 c.in-Ok.code l.accepts loads.2 l.only
    (Way.ByOptions c.args.options) refl _ _ _ _ _ _ _ _ _ _ was.done was.later was.order tt c.end.result was.got
    was.steady c.end.ensures)
