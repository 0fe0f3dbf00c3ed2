-- A table, and the map that it is kept as.
-- For: `Table::add` and `Table::number_of`, src/table.rt; `number_of`, specs/Names.antt
-- By: induction over the list of entries
use Rattle.std.proofs.Common.{◌≡◌, ℕ, List, [], ◌∷◌, ◌++◌, map, cond, refl, ap, ◌∙◌, Bool}
use Rattle.std.specs.Prelude.{Some, None, nat_eq}
use Rattle.std.specs.Cmp.Lexicographic.{pointwise}
use Rattle.std.specs.Global.{Vec}
use Rattle.std.specs.Map.{lookup}
use Rattle.std.specs.HashMap.{HashMap}
use Rattle.std.proofs.lemmas.List.{map-append}
use Rattle.indexmap.specs.IndexMap.{insert_entry}
use Rattle.indexmap.proofs.CallerLemmas.{insert_entry-new}
use Rattle.golf_check_types.specs.Names.{Table, number_of}

abbrev pub view_of : List (Vec ℕ × ℕ) → Table
view_of es = map (λ e. (e.0.items, e.1)) es

pub lookup-view : (es : List (Vec ℕ × ℕ)) (n : List ℕ)
    → lookup (λ k. pointwise nat_eq n k.items) es ≡ number_of (view_of es) n
lookup-view [] n = refl
lookup-view (e ∷ es) n = ap (λ o. cond (pointwise nat_eq n e.0.items) (Some e.1) o) (lookup-view es n)

abbrev same_vec : Vec ℕ → Vec ℕ → Bool
same_vec x y = pointwise nat_eq x.items y.items

-- a new name goes last
pub insert-view : {S : Type 0} (m : HashMap (Vec ℕ) ℕ S) (key : Vec ℕ) (n : List ℕ) (k : ℕ) → key.items ≡ n
    → number_of (view_of m.entries) n ≡ None → view_of (insert_entry same_vec m.entries key k) ≡ view_of m.entries
    ++ (n, k) ∷ []
insert-view m key n k is none =
    ap view_of (insert_entry-new same_vec m key k
    (lookup-view m.entries key.items ∙ ap (number_of (view_of m.entries)) is ∙ none))
    ∙ map-append (λ (e : Vec ℕ × ℕ). (e.0.items, e.1)) m.entries ((key, k) ∷ [])
    ∙ ap (λ l. view_of m.entries ++ (l, k) ∷ []) is
