-- Tables of names, and the names that statements declare (Go specification, "Declarations and scope").
use Rattle.std.specs.Prelude.{ℕ, ◌==◌, Bool, false, cond, List, [], ◌∷◌, ◌++◌, Option, Some, None, codes}
use Rattle.std.specs.Str.{bytes_eq}
use Rattle.golf_check_types.specs.declared.locals.Local.{Local}

-- names with their numbers
abbrev pub Table : Type 0
Table = List (List ℕ × ℕ)

-- the number of a name; the first entry of a name counts
abbrev pub number_of : Table → List ℕ → Option ℕ
number_of [] n = None
number_of (x ∷ xs) n = cond (bytes_eq n x.0) (Some x.1) (number_of xs n)

abbrev pub with_found : Option ℕ → Table → List ℕ → ℕ → Table
with_found None t n k = t ++ (n, k) ∷ []
with_found (Some j) t n k = t

-- the table with one more name, unless the name is there
abbrev pub with_name : Table → List ℕ → ℕ → Table
with_name t n k = with_found (number_of t n) t n k

abbrev pub is_number : Option ℕ → ℕ → Bool
is_number None k = false
is_number (Some j) k = j == k

-- the last declaration of this name, or the one that was found before
abbrev pub look_from : Option Local → List Local → List ℕ → Option Local
look_from found [] n = found
look_from found (d ∷ ds) n = look_from (cond (bytes_eq n d.name) (Some d) found) ds n

-- of two locals with one name the later one counts
abbrev pub look : List Local → List ℕ → Option Local
look ds n = look_from None ds n

abbrev pub is_blank : List ℕ → Bool
is_blank n = bytes_eq n (codes "_")
