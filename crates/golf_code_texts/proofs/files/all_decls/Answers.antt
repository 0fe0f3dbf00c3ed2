use Rattle.golf_code_of.specs.Texts.{decl_texts}
use Rattle.golf_code_texts.proofs.Walks.{one_more, no_more}
use Rattle.golf_code_texts.proofs.files.all_decls.Goals as goal

pub loop-x-preserved : goal.loop-x-preserved
loop-x-preserved c =
    one_more decl_texts c.args.decls.now c.loop-x.x-index c.x-item.result c.loop-x.table c.decl.new.table _
    c.loop-x-test.true c.x-item.is c.in_ok-decl.ensures c.loop-x.invariant

pub returns : goal.returns
returns c = no_more decl_texts c.args.decls.now c.loop-x.x-index c.loop-x.table _ c.loop-x-test.false c.loop-x.invariant
