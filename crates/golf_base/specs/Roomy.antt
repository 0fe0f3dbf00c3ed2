-- The items of a vector, and how many more it can take without memory.
use Rattle.std.specs.Prelude.{ℕ, List, refl}
use Rattle.std.specs.Coded.{Coded, code_by, coded×, coded_ℕ, coded_list}
use Rattle.golf_base.specs.Overwritten.{overwritten}

pub record Roomy (T : Type 0) : Type 0 where
  pub items : List T
  pub spare : ℕ

-- the record is stored as the pair of its fields
abbrev pub roomy_code : {T : Type 0} → Coded T → Coded (Roomy T)
roomy_code c =
    code_by (List _ × ℕ) (coded× (coded_list c) coded_ℕ) (λ r. (r.items, r.spare))
    (λ p. record { items = p.0; spare = p.1 }) (λ _. refl)

-- the same room, with its items overwritten
abbrev pub with_overwritten : {T : Type 0} → Roomy T → List T → Roomy T
with_overwritten old w = record { items = overwritten old.items w; spare = old.spare }
