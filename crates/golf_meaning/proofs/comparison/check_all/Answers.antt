use Rattle.std.proofs.Common.{◌∙◌, ap, drop, List}
use Rattle.std.proofs.lemmas.Result.{IfOk-weaker}
use Rattle.golf_syntax_trees.specs.declared.declarations.File.{File}
use Rattle.golf_data.specs.declared.code.Function.{Function}
use Rattle.golf_meaning.proofs.Laws.{all-by-facts, all-agree}
use Rattle.golf_meaning.proofs.comparison.check_all.Goals as goal

pub returns-clause-exact : goal.returns-clause-exact
returns-clause-exact c =
    let both = all-by-facts c.args.checked.now c.args.code.now c.scope.result.now c.as_slice-decls.result.now
    c.facts.result.now c.past_entry-functions.result.now c.scope.ensures
    (c.as_slice-decls.ensures ∙ ap (λ (f : File). f.declarations) c.file.ensures) c.facts.ensures
    (c.past_entry-functions.ensures ∙ ap (λ (fs : List Function). drop 1 fs) c.as_slice.ensures) in
    IfOk-weaker c.begin_with_code.result _ _
    (λ same h. (λ t. both.0 (h.0 t), λ a. h.1 (both.1 a))) c.begin_with_code.ensures

pub returns-clause-agrees : goal.returns-clause-agrees
returns-clause-agrees c = IfOk-weaker c.begin_with_code.result _ _
    (λ same h t. all-agree c.args.checked.now c.args.code.now (h.0 t)) (returns-clause-exact c)
