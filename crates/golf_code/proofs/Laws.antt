-- The code by what was written down of a file is its code.
-- For: `generate`, src/files.rt
-- By: computing
use Rattle.std.proofs.Common.{◌≡◌, List, ap, ◌∙◌}
use Rattle.golf_syntax_trees.specs.declared.declarations.Decl.{Decl}
use Rattle.golf_syntax_trees.specs.declared.declarations.File.{File}
use Rattle.golf_check_types.specs.declared.facts.Fact.{Fact}
use Rattle.golf_check_types.specs.declared.scopes.Scope.{Scope}
use Rattle.golf_check_types.specs.Files.{facts_in}
use Rattle.golf_check.specs.Heads.{scope_of}
use Rattle.golf_code_of.specs.Files.{CodeOf}
use Rattle.golf_code_facts.specs.Files.{tables_by, code_by, CodeBy}
use Rattle.golf_code_facts.proofs.Files.{files-follow}

pub code_is : (f : File) (s : Scope) (xs : List Decl) (fs : List Fact) → s ≡ scope_of f → xs ≡ f.declarations
    → fs ≡ facts_in f → code_by (tables_by xs fs) s.file xs fs ≡ CodeOf f
unfolding scope_of CodeBy
code_is f s xs fs is at told =
    ap (λ ys. code_by (tables_by ys fs) s.file ys fs) at
    ∙ ap (λ gs. code_by (tables_by f.declarations gs) s.file f.declarations gs) told
    ∙ ap (λ (u : Scope). code_by (tables_by f.declarations (facts_in f)) u.file f.declarations (facts_in f)) is
    ∙ files-follow f
