use Rattle.std.proofs.Common.{◌≡◌, subst, ap, ◌∙◌}
use Rattle.std.specs.Prelude.{IfOk}
use Rattle.golf_syntax_trees.specs.declared.declarations.File.{File}
use Rattle.golf_data.specs.declared.code.Code.{Code}
use Rattle.golf_code.proofs.Laws.{code_is}
use Rattle.golf_code.proofs.files.generate.Goals as goal

pub returns : goal.returns
returns c =
    subst (λ (z : Code). IfOk c.code.result (λ code. code ≡ z))
    (code_is c.args.checked.now c.scope.result.now c.as_slice-decls.result.now c.facts.result.now c.scope.ensures
    (c.as_slice-decls.ensures ∙ ap (λ (f : File). f.declarations) c.file.ensures) c.facts.ensures)
    c.code.ensures
