-- Texts that are added to a table.
use Rattle.std.specs.Prelude.{fold}
use Rattle.golf_code_of.specs.Table.{Texts, with_text}

-- the table with these texts added, each unless the table has it
unfoldable pub with_texts : Texts → Texts → Texts
with_texts table ts = fold with_text table ts
