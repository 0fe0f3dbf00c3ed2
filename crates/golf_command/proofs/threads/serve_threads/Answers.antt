use Rattle.golf_command_words.specs.declared.line.CommandLine.{CommandLine}
use Rattle.golf_command.proofs.Fetching.{loaded-tells}
use Rattle.golf_command.proofs.Writing.{written-tells, made-by-threads}
use Rattle.golf_command.proofs.threads.serve_threads.Goals as goal

pub returns-in-Err : goal.returns-in-Err
returns-in-Err g c = c.in-Err.ensures.loads (CommandLine.Threads c.args.threads) tt
    (c.requires.some, c.requires.few) _ _

pub returns : goal.returns
returns g c =
    let line = CommandLine.Threads c.args.threads in
    let loads = c.in-Ok.ensures.loads in
    let l = loads.1 in
    loaded-tells line tt l loads.3 loads.4
    (written-tells line l.bytes (c.requires.some, c.requires.few) loads.0 c.in-Ok.code l.accepts loads.2 l.only
    c.texts_by_threads.result c.write_texts.result _ _
    (made-by-threads c.args.threads loads.0 c.in-Ok.code loads.2 c.texts_by_threads.result
    c.texts_by_threads.ensures) c.write_texts.ensures)
