use Rattle.golf_check.proofs.Laws.{broken_tells}
use Rattle.golf_check.proofs.files.checked_file.Goals as goal

pub returns : goal.returns
returns c =
    broken_tells c.checked_declarations.result c.args.file.now c.as_slice-written.result.now c.as_slice-decls.result.now
    c.in_ok-imports.imports c.as_slice-written.ensures c.as_slice-decls.ensures c.in_ok-imports.ensures.0
    c.in_ok-imports.ensures.1 c.checked_declarations.ensures
