use Rattle.golf_command_words.specs.declared.line.CommandLine.{CommandLine}
use Rattle.golf_command.proofs.Fetching.{loaded-tells}
use Rattle.golf_command.proofs.Writing.{told-tells}
use Rattle.golf_command.proofs.meaning.serve_meaning.Goals as goal

pub returns-in-Err : goal.returns-in-Err
returns-in-Err g c = c.in-Err.ensures CommandLine.Meaning tt tt _ _

pub returns : goal.returns
returns g c =
    let checked = c.in-Ok.checked in
    let loads = c.in-Ok.ensures in
    let l = loads.0 in
    loaded-tells CommandLine.Meaning tt l loads.1 loads.2
    (told-tells l.bytes checked l.accepts l.only c.agreement.result c.write_told.result _ _ c.agreement.ensures
    c.write_told.ensures)
