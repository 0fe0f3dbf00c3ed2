-- The places of a name in a list of variables.
use Rattle.std.specs.Prelude.{ℕ, ◌+◌, ◌-◌, cond, List, [], ◌∷◌, ◌++◌, length, take, Option, unwrap_or, nat_eq}
use Rattle.std.specs.Prelude.{slice_get}
use Rattle.std.specs.Str.{bytes_eq}
use Rattle.std.specs.Cmp.Lexicographic.{pointwise}
use Rattle.std.specs.Global.{Vec}
use Rattle.std.specs.HashMap.{HashMap, get_by}
use Rattle.golf_check_types.specs.declared.locals.Local.{Local}

-- the places of a name, counted from this one on, in rising order
abbrev pub places_from : ℕ → List Local → List ℕ → List ℕ
places_from at [] n = []
places_from at (d ∷ ds) n = cond (bytes_eq n d.name) (at ∷ places_from (at + 1) ds n) (places_from (at + 1) ds n)

abbrev pub places_in : List Local → List ℕ → List ℕ
places_in ds n = places_from 0 ds n

-- the places that a map has for a name
abbrev pub places_at : {S : Type 0} → HashMap (Vec ℕ) (List ℕ) S → List ℕ → List ℕ
places_at m n = unwrap_or (get_by (λ k. pointwise nat_eq n k.items) m) []

abbrev pub with_place : List ℕ → ℕ → List ℕ
with_place ps p = ps ++ p ∷ []

abbrev pub without_place : List ℕ → List ℕ
without_place ps = take (length ps - 1) ps

-- the last place, if there is one
abbrev pub last_place : List ℕ → Option ℕ
last_place ps = slice_get ps (length ps - 1)
