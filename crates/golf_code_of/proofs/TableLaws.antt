-- Texts that are kept as vectors.
-- For: `text_number` (golf_code_of/specs/Table.antt) and `add`, `place` (src/tables.rt)
-- By: induction over the list of texts that are kept
use Rattle.std.proofs.Common.{◌≡◌, ℕ, ◌+◌, Bool, true, false, cond, List, [], ◌∷◌, ◌++◌, map, refl, ap, ◌∙◌}
use Rattle.std.specs.Prelude.{Some, nat_eq, unwrap_or, position, ◌||◌}
use Rattle.std.specs.List.{list_any}
use Rattle.std.specs.Cmp.Lexicographic.{pointwise}
use Rattle.std.specs.List.{position_from}
use Rattle.std.specs.Global.{Vec}
use Rattle.std.proofs.lemmas.List.{map-append}
use Rattle.std.proofs.lemmas.Iterator.Adapters.{position_from-zero}
use Rattle.golf_code_of.specs.Table.{with_text, number_from, text_number}

-- the texts
abbrev pub texts_in : List (Vec ℕ) → List (List ℕ)
texts_in ks = map (λ v. v.items) ks

any-texts : (x : List ℕ) (ks : List (Vec ℕ))
    → list_any (λ v. pointwise nat_eq x v.items) ks ≡ list_any (pointwise nat_eq x) (texts_in ks)
any-texts x [] = refl
any-texts x (k ∷ ks) = ap (λ r. pointwise nat_eq x k.items || r) (any-texts x ks)

number-from : (n : ℕ) (x : List ℕ) (ks : List (Vec ℕ))
    → unwrap_or (position_from (λ v. pointwise nat_eq x v.items) n ks) 0 ≡ number_from n (texts_in ks) x
number-from n x [] = refl
number-from n x (k ∷ ks) = at (pointwise nat_eq x k.items) (number-from (n + 1) x ks)
  where
    at : (b : Bool) → unwrap_or (position_from (λ (v : Vec ℕ). pointwise nat_eq x v.items) (n + 1) ks) 0 ≡ number_from
        (n + 1) (texts_in ks) x
        → unwrap_or (cond b (Some n) (position_from (λ (v : Vec ℕ). pointwise nat_eq x v.items) (n + 1) ks)) 0
        ≡ cond b n (number_from (n + 1) (texts_in ks) x)
    at true same = refl
    at false same = same

pub number-texts : (x : List ℕ) (ks : List (Vec ℕ))
    → unwrap_or (position (λ v. pointwise nat_eq x v.items) ks) 0 ≡ text_number (texts_in ks) x
unfolding text_number
number-texts x ks = ap (λ o. unwrap_or o 0) (position_from-zero (λ (v : Vec ℕ). pointwise nat_eq x v.items) ks)
    ∙ number-from 0 x ks

-- a copy of the text goes last, unless the text is there
pub insert-texts : (x : List ℕ) (copy : Vec ℕ) (ks : List (Vec ℕ)) → copy.items ≡ x
    → texts_in (cond (list_any (λ v. pointwise nat_eq copy.items v.items) ks) ks (ks ++ copy ∷ [])) ≡ with_text
    (texts_in ks) x
insert-texts x copy ks is =
    at (list_any (λ v. pointwise nat_eq copy.items v.items) ks)
    ∙ ap (λ b. cond b (texts_in ks) (texts_in ks ++ x ∷ []))
    (any-texts copy.items ks ∙ ap (λ y. list_any (pointwise nat_eq y) (texts_in ks)) is)
  where
    at : (b : Bool) → texts_in (cond b ks (ks ++ copy ∷ [])) ≡ cond b (texts_in ks) (texts_in ks ++ x ∷ [])
    at true = refl
    at false = map-append (λ (v : Vec ℕ). v.items) ks (copy ∷ []) ∙ ap (λ y. texts_in ks ++ y ∷ []) is
