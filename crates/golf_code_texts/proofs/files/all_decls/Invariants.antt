use Rattle.std.proofs.Common.{◌≡◌, drop}
use Rattle.std.specs.Prelude.{flat_map}
use Rattle.golf_code_of.specs.Texts.{decl_texts}
use Rattle.golf_code_texts.specs.AddedTexts.{with_texts}
use Rattle.golf_code_texts.proofs.files.all_decls.Given as goal

abbrev pub invariant-loop-x : goal.invariant-loop-x
invariant-loop-x l = with_texts l.table (flat_map decl_texts (drop l.x-index l.decls)) ≡ with_texts l.fn.table
    (flat_map decl_texts l.decls)
