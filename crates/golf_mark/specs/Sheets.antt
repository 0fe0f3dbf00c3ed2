-- The memory of a marking.
use Rattle.std.specs.Prelude.{◌≡◌, ◌≤◌, ℕ, [], length}
use Rattle.golf_mark.specs.declared.work.Sheet.{Sheet}

-- a flag for each node and for each sleeper, and room for the numbers of all nodes
pub record IsBlank (nodes sleepers : ℕ) (sheet : Sheet) : Type 0 where
  pub flags : length sheet.flags ≡ nodes
  pub awake : length sheet.awake ≡ sleepers
  pub empty : sheet.numbers.items ≡ []
  pub room : nodes ≤ sheet.numbers.spare
