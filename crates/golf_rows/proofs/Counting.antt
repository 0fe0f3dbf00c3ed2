-- How often a number is a member: of two lists, of a list one member on, of rows one row on.
-- For: `count_row`, `counts_of` and `inverse`, src/inverses.rt; `occurrences` and `in_rows`, specs/Rooms.antt.
-- By: induction over the list, and over the rows.
use Rattle.std.proofs.Common.{◌≡◌, ℕ, ◌+◌, ◌<◌, List, [], ◌∷◌, ◌++◌, length, take, drop, get_or, set, cond, Bool, inl}
use Rattle.std.proofs.Common.{inr, refl, ap, sym, subst, ◌∙◌, arith, take-append-drop, eq-eqb, ne_eqb}
use Rattle.std.proofs.lemmas.Bool.{cases_eq}
use Rattle.std.proofs.lemmas.List.{take_more, drop_more, get_or-set_same, get_or-set_other}
use Rattle.golf_rows.specs.Rooms.{occurrences, in_rows}

-- how often a number stands in a list that begins with it, or with another
pub occurs-own : (n : ℕ) (ms : List ℕ) → occurrences n (n ∷ ms) ≡ 1 + occurrences n ms
occurs-own n ms = ap (λ (b : Bool). cond b 1 0 + occurrences n ms) (eq-eqb n n refl)

pub occurs-other : (n m : ℕ) (ms : List ℕ) → (m ≡ n → ⊥) → occurrences n (m ∷ ms) ≡ occurrences n ms
occurs-other n m ms apart = ap (λ (b : Bool). cond b 1 0 + occurrences n ms) (ne_eqb m n apart)
    ∙ (let none : 0 + occurrences n ms ≡ occurrences n ms = omega arith in none)

occurs-append : (n : ℕ) (xs ys : List ℕ) → occurrences n (xs ++ ys) ≡ occurrences n xs + occurrences n ys
occurs-append n [] ys = let none : occurrences n ys ≡ 0 + occurrences n ys = omega arith in none
occurs-append n (x ∷ xs) ys = omega (arith, occurs-append n xs ys)

rows-append : (n : ℕ) (xs ys : List (List ℕ)) → in_rows n (xs ++ ys) ≡ in_rows n xs + in_rows n ys
rows-append n [] ys = let none : in_rows n ys ≡ 0 + in_rows n ys = omega arith in none
rows-append n (x ∷ xs) ys = omega (arith, rows-append n xs ys)

-- one member more
pub occurs-more : (n i : ℕ) (xs : List ℕ) → i < length xs
    → occurrences n (take (i + 1) xs) ≡ occurrences n (take i xs) + occurrences n (get_or xs i 0 ∷ [])
occurs-more n i xs low = ap (occurrences n) (take_more xs i 0 low) ∙ occurs-append n (take i xs) (get_or xs i 0 ∷ [])

-- those up to a place, and the others
pub occurs-cut : (n i : ℕ) (xs : List ℕ) → occurrences n (take i xs) + occurrences n (drop i xs) ≡ occurrences n xs
occurs-cut n i xs = sym (occurs-append n (take i xs) (drop i xs)) ∙ ap (occurrences n) (take-append-drop i xs)

pub occurs-next : (n i : ℕ) (xs : List ℕ) → i < length xs
    → occurrences n (drop i xs) ≡ occurrences n (get_or xs i 0 ∷ drop (i + 1) xs)
occurs-next n i xs low = ap (occurrences n) (drop_more xs i 0 low)

-- one row more
pub rows-more : (n i : ℕ) (rows : List (List ℕ)) → i < length rows
    → in_rows n (take (i + 1) rows) ≡ in_rows n (take i rows) + occurrences n (get_or rows i [])
rows-more n i rows low = ap (in_rows n) (take_more rows i [] low) ∙ rows-append n (take i rows) (get_or rows i [] ∷ [])
    ∙ (let none : in_rows n (take i rows) + (occurrences n (get_or rows i []) + 0) ≡ in_rows n (take i rows)
    + occurrences n (get_or rows i []) = omega arith in none)

-- one row less to come
pub rows-next : (n i : ℕ) (rows : List (List ℕ)) → i < length rows
    → in_rows n (drop i rows) ≡ occurrences n (get_or rows i []) + in_rows n (drop (i + 1) rows)
rows-next n i rows low = ap (in_rows n) (drop_more rows i [] low)

-- a number that stands in a list once more is counted once more
pub counted-more : (counts : List ℕ) (at n : ℕ) → at < length counts
    → get_or (set counts at (get_or counts at 0 + 1)) n 0 ≡ get_or counts n 0 + occurrences n (at ∷ [])
counted-more counts at n low = elim (cases_eq n at) [
  | inl same ↦ subst (λ (k : ℕ). get_or (set counts at (get_or counts at 0 + 1)) k 0 ≡ get_or counts k 0 + occurrences k
      (at ∷ [])) (sym same) (get_or-set_same counts at (get_or counts at 0 + 1) 0 low
      ∙ (let one : get_or counts at 0 + 1 ≡ get_or counts at 0 + occurrences at (at ∷ []) = omega
      (arith, occurs-own at []) in one))
  | inr apart ↦ get_or-set_other counts at n (get_or counts at 0 + 1) 0 apart
      ∙ (let none : get_or counts n 0 ≡ get_or counts n 0 + occurrences n (at ∷ []) = omega
      (arith, occurs-other n at [] (λ e. apart (sym e))) in none)
]
