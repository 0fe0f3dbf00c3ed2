use Rattle.std.proofs.Common.{◌∙◌}
use Rattle.golf_check_types.proofs.TableLaws.{lookup-view}
use Rattle.golf_check_types.proofs.table.Table.number_of.Goals as goal

pub returns : goal.returns
returns c = rw (← c.self.view_is) (c.copied.ensures ∙ c.get.ensures.value
    ∙ lookup-view c.self.inside.entries.entries c.args.name.now)
