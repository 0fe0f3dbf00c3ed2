-- Texts by their numbers: the empty text first, and then each different text in order of first appearance (this
-- runtime's rule).
use Rattle.std.specs.Prelude.{ℕ, ◌+◌, cond, fold, List, [], ◌∷◌, ◌++◌}
use Rattle.std.specs.List.{list_any}
use Rattle.std.specs.Str.{bytes_eq}

-- a list of texts, in the order in which they are printed
abbrev pub Texts : Type 0
Texts = List (List ℕ)

-- adds a text at the end, unless it is there already
abbrev pub with_text : Texts → List ℕ → Texts
with_text table t = cond (list_any (bytes_eq t) table) table (table ++ t ∷ [])

abbrev pub table_of : Texts → Texts
table_of ts = fold with_text ([] ∷ []) ts

-- the number of a text, counted from n on; 0, the number of the empty text, if it is not there
abbrev pub number_from : ℕ → Texts → List ℕ → ℕ
number_from n [] t = 0
number_from n (x ∷ xs) t = cond (bytes_eq t x) n (number_from (n + 1) xs t)

unfoldable pub text_number : Texts → List ℕ → ℕ
text_number table t = number_from 0 table t
