-- The map once a value that it lent was changed.
use Rattle.std.specs.Prelude.{ℕ, List}
use Rattle.std.specs.Borrow.{Lends, MutBor, Fml, RattleType}
use Rattle.golf_theory.specs.Maps.{put}
use Rattle.golf_blocks.specs.contracts.map.BlockMap.{the_row}

module _ (V : RattleType) (s : MutBor (List (ℕ × V.Denot))) (key : ℕ) where
  -- at the end of the loan the key has the last value
  abbrev pub lends_value : MutBor V.Denot → Fml
  lends_value r = Lends (the_row V) V s r (λ w. put key w s.now)
