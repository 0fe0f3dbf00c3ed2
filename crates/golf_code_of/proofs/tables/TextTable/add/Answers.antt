use Rattle.std.proofs.Common.{◌∙◌, ap}
use Rattle.golf_code_of.proofs.TableLaws.{insert-texts, texts_in}
use Rattle.golf_code_of.proofs.tables.TextTable.add.Goals as goal

pub returns : goal.returns
returns c = rw (← c.self.view_is) (ap texts_in c.in_ok-insert.ensures.keys
    ∙ insert-texts c.args.text.now c.in_ok-copy.copy c.self.inside.texts.keys
    (c.in_ok-copy.ensures.items_if_clones_equal (λ x y e. e)))
