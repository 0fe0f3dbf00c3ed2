use Rattle.std.proofs.Common.{◌∙◌, ap}
use Rattle.std.specs.Prelude.{unwrap_or}
use Rattle.golf_code_of.proofs.TableLaws.{number-texts}
use Rattle.golf_code_of.proofs.tables.TextTable.place.Goals as goal

pub returns : goal.returns
returns c = rw (← c.self.view_is) (c.unwrap_or.ensures ∙ ap (λ o. unwrap_or o 0) c.get_index_of.ensures.index
    ∙ number-texts c.args.text.now c.self.inside.texts.keys)
