-- Lists in which each entry follows from earlier ones, by any rule. The newest entry comes first.
use Rattle.std.specs.Prelude.{List, [], ◌∷◌}

module _ {A : Type 0} (Follows : List A → A → Type 0) where
  -- each entry follows from those after it
  abbrev pub IsDerivation : List A → Type 0
  IsDerivation [] = Unit {0}
  IsDerivation (x ∷ earlier) = Follows earlier x × IsDerivation earlier

  -- some derivation ends with x
  abbrev pub Derived : A → Type 0
  Derived x = (earlier : List A) × IsDerivation (x ∷ earlier)
