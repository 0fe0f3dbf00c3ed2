-- Rows that stand one after another in one list: one is read, one is added, some are taken away.
-- For: `FlatRows`, src/flat.rt; `rows_from` and `AreEnds`, specs/Ends.antt.
-- By: induction over the ends.
use Rattle.std.proofs.Common.{◌≡◌, ℕ, zero, suc, ◌+◌, ◌-◌, ◌<◌, ◌≤◌, List, [], ◌∷◌, ◌++◌, length, take, drop, get_or}
use Rattle.std.proofs.Common.{Some, slice_get, refl, sym, ap, subst, ◌∙◌, arith, length-append, length-drop}
use Rattle.std.proofs.Common.{length-take-le, take_all, drop-drop, take-take}
use Rattle.std.proofs.lemmas.List.{drop-take, take-append-le, drop-append-le, nil_from_length}
use Rattle.golf_rows.specs.Ends.{rows_from, AreEnds}

-- there is a row for each end
pub length-rows : (from : ℕ) (ends members : List ℕ) → length (rows_from from ends members) ≡ length ends
length-rows from [] members = refl
length-rows from (end ∷ ends) members = omega (arith, length-rows end ends (drop (end - from) members))

-- the first place is within the bound
pub ends-from : (from : ℕ) (ends : List ℕ) (bound : ℕ) → AreEnds from ends bound → from ≤ bound
ends-from from [] bound h = h
ends-from from (end ∷ ends) bound h = omega (arith, h.0, ends-from end ends bound h.1)

-- a wider bound
pub ends-wider : (from : ℕ) (ends : List ℕ) (bound wider : ℕ) → bound ≤ wider → AreEnds from ends bound
    → AreEnds from ends wider
ends-wider from [] bound wider le h = omega (arith, h)
ends-wider from (end ∷ ends) bound wider le h = (h.0, ends-wider end ends bound wider le h.1)

-- the last end is a bound
pub ends-last : (from : ℕ) (ends : List ℕ) (bound : ℕ) → AreEnds from ends bound
    → AreEnds from ends (get_or (from ∷ ends) (length ends) 0)
ends-last from [] bound h = omega arith
ends-last from (end ∷ ends) bound h = (h.0, ends-last end ends bound h.1)

-- and the least one
pub last-within : (from : ℕ) (ends : List ℕ) (bound : ℕ) → AreEnds from ends bound
    → get_or (from ∷ ends) (length ends) 0 ≤ bound
last-within from [] bound h = h
last-within from (end ∷ ends) bound h = last-within end ends bound h.1

-- fewer ends
pub ends-take : (n from : ℕ) (ends : List ℕ) (bound : ℕ) → AreEnds from ends bound → AreEnds from (take n ends) bound
ends-take zero from ends bound h = ends-from from ends bound h
ends-take (suc n) from [] bound h = h
ends-take (suc n) from (end ∷ ends) bound h = (h.0, ends-take n end ends bound h.1)

-- one more end
pub ends-push : (from : ℕ) (ends : List ℕ) (end bound : ℕ) → end ≤ bound → AreEnds from ends end
    → AreEnds from (ends ++ end ∷ []) bound
ends-push from [] end bound le h = (h, le)
ends-push from (e ∷ ends) end bound le h = (h.0, ends-push e ends end bound le h.1)

-- where a row begins and ends
pub between : (from : ℕ) (ends : List ℕ) (bound i : ℕ) → AreEnds from ends bound → i < length ends
    → (from ≤ get_or (from ∷ ends) i 0) × (get_or (from ∷ ends) i 0 ≤ get_or ends i 0) × (get_or ends i 0 ≤ bound)
between from [] bound i h low = absurd (omega (arith, low))
between from (end ∷ ends) bound zero h low = (omega arith, h.0, ends-from end ends bound h.1)
between from (end ∷ ends) bound (suc i) h low =
    let b = between end ends bound i h.1 (omega (arith, low)) in
    (omega (arith, h.0, b.0), b.1, b.2)

-- the same ends, of the members that are left after the first row
later : (from end : ℕ) (ends members : List ℕ) → AreEnds from (end ∷ ends) (from + length members)
    → AreEnds end ends (end + length (drop (end - from) members))
later from end ends members h =
    let within = ends-from end ends (from + length members) h.1 in
    let same : from + length members ≡ end + length (drop (end - from) members) =
    omega (arith, h.0, within, length-drop (end - from) members) in
    subst (λ (bound : ℕ). AreEnds end ends bound) same h.1

-- the row at a place
pub row-at : (from : ℕ) (ends members : List ℕ) (i : ℕ) → AreEnds from ends (from + length members) → i < length ends
    → slice_get (rows_from from ends members) i ≡ Some
    (drop (get_or (from ∷ ends) i 0 - from) (take (get_or ends i 0 - from) members))
row-at from [] members i h low = absurd (omega (arith, low))
row-at from (end ∷ ends) members zero h low =
    let none : 0 ≡ from - from = omega arith in
    ap (λ (n : ℕ). Some (drop n (take (end - from) members))) none
row-at from (end ∷ ends) members (suc i) h low =
    let rest = drop (end - from) members in
    let s = get_or (end ∷ ends) i 0 in
    let t = get_or ends i 0 in
    let under : i < length ends = omega (arith, low) in
    let b = between end ends (from + length members) i h.1 under in
    let to : (end - from) + (t - end) ≡ t - from = omega (arith, h.0, b.0, b.1) in
    let on : (end - from) + (s - end) ≡ s - from = omega (arith, h.0, b.0) in
    let cut : take (t - end) rest ≡ drop (end - from) (take (t - from) members) =
    sym (drop-take (end - from) (t - end) members) ∙ ap (λ (n : ℕ). drop (end - from) (take n members)) to in
    row-at end ends rest i (later from end ends members h) under
    ∙ ap (λ (xs : List ℕ). Some (drop (s - end) xs)) cut
    ∙ ap Some (drop-drop (s - end) (end - from) (take (t - from) members))
    ∙ ap (λ (n : ℕ). Some (drop n (take (t - from) members))) on

-- one more row
pub rows-push : (from : ℕ) (ends members row : List ℕ) (end : ℕ) → AreEnds from ends (from + length members)
    → get_or (from ∷ ends) (length ends) 0 ≡ from + length members → end ≡ from + length members + length row
    → rows_from from (ends ++ end ∷ []) (members ++ row) ≡ rows_from from ends members ++ row ∷ []
rows-push from [] members row end h last is =
    let none : members ≡ [] = nil_from_length members (omega (arith, last)) in
    let all : take (end - from) row ≡ row = take_all (end - from) row (omega (arith, is)) in
    ap (λ (xs : List ℕ). take (end - from) (xs ++ row) ∷ []) none ∙ ap (λ (xs : List ℕ). xs ∷ []) all
rows-push from (e ∷ ends) members row end h last is =
    let k = e - from in
    let within = ends-from e ends (from + length members) h.1 in
    let few : k ≤ length members = omega (arith, h.0, within) in
    let more : e + length (drop k members) ≡ from + length members =
    omega (arith, h.0, within, length-drop k members) in
    let rest = rows-push e ends (drop k members) row end (later from e ends members h) (last ∙ sym more)
    (omega (arith, is, more)) in
    ap (λ (xs : List ℕ). xs ∷ rows_from e (ends ++ end ∷ []) (drop k (members ++ row)))
    (take-append-le k members row few)
    ∙ ap (λ (xs : List ℕ). take k members ∷ rows_from e (ends ++ end ∷ []) xs) (drop-append-le k members row few)
    ∙ ap (λ (xss : List (List ℕ)). take k members ∷ xss) rest

-- fewer rows
pub rows-take : (n from : ℕ) (ends members : List ℕ)
    → rows_from from (take n ends) members ≡ take n (rows_from from ends members)
rows-take zero from ends members = refl
rows-take (suc n) from [] members = refl
rows-take (suc n) from (end ∷ ends) members =
    ap (λ (xss : List (List ℕ)). take (end - from) members ∷ xss) (rows-take n end ends (drop (end - from) members))

-- what stands after the last row belongs to none
pub rows-prefix : (from : ℕ) (ends members : List ℕ) (n : ℕ) → AreEnds from ends (from + n) → n ≤ length members
    → rows_from from ends (take n members) ≡ rows_from from ends members
rows-prefix from [] members n h le = refl
rows-prefix from (end ∷ ends) members n h le =
    let k = end - from in
    let within = ends-from end ends (from + n) h.1 in
    let few : k ≤ n = omega (arith, h.0, within) in
    let left : k + (n - k) ≡ n = omega (arith, few) in
    let bound : from + n ≡ end + (n - k) = omega (arith, h.0, within) in
    let rest : drop k (take n members) ≡ take (n - k) (drop k members) =
    ap (λ (m : ℕ). drop k (take m members)) (sym left) ∙ drop-take k (n - k) members in
    ap (λ (xs : List ℕ). xs ∷ rows_from end ends (drop k (take n members))) (take-take k n members few)
    ∙ ap (λ (xs : List ℕ). take k members ∷ rows_from end ends xs) rest
    ∙ ap (λ (xss : List (List ℕ)). take k members ∷ xss)
    (rows-prefix end ends (drop k members) (n - k) (subst (λ (b : ℕ). AreEnds end ends b) bound h.1)
    (omega (arith, le, length-drop k members)))

-- a row that is there has an end
pub end-there : (ends members : List ℕ) (rows : List (List ℕ)) (at : ℕ) → rows_from 0 ends members ≡ rows
    → at < length rows → at < length ends
end-there ends members rows at is low = omega (arith, low, ap length is, length-rows 0 ends members)

-- the same ends, from 0 on
ends-zero : (ends members : List ℕ) → AreEnds 0 ends (length members) → AreEnds 0 ends (0 + length members)
ends-zero ends members h = let same : length members ≡ 0 + length members =
    omega arith in subst (λ (bound : ℕ). AreEnds 0 ends bound) same h

-- the row at a place, from 0 on
pub row-of-all : (ends members : List ℕ) (i : ℕ) → AreEnds 0 ends (length members) → i < length ends
    → slice_get (rows_from 0 ends members) i ≡ Some (drop (get_or (0 ∷ ends) i 0) (take (get_or ends i 0) members))
row-of-all ends members i h low =
    let start : get_or (0 ∷ ends) i 0 - 0 ≡ get_or (0 ∷ ends) i 0 = omega arith in
    let end : get_or ends i 0 - 0 ≡ get_or ends i 0 = omega arith in
    row-at 0 ends members i (ends-zero ends members h) low
    ∙ ap (λ (n : ℕ). Some (drop n (take (get_or ends i 0 - 0) members))) start
    ∙ ap (λ (n : ℕ). Some (drop (get_or (0 ∷ ends) i 0) (take n members))) end

-- members are cut where the last row ends: nothing is lost
pub cut-same : (ends members : List ℕ) → AreEnds 0 ends (length members) → let last =
    get_or (0 ∷ ends) (length ends) 0 in (length (take last members) ≡ last)
    × AreEnds 0 ends (length (take last members)) × (rows_from 0 ends (take last members) ≡ rows_from 0 ends members)
cut-same ends members h =
    let last = get_or (0 ∷ ends) (length ends) 0 in
    let within = last-within 0 ends (length members) h in
    let size : length (take last members) ≡ last = length-take-le last members within in
    let own = ends-last 0 ends (length members) h in
    let zero-on : last ≡ 0 + last = omega arith in (
      size,
      subst (λ (bound : ℕ). AreEnds 0 ends bound) (sym size) own,
      rows-prefix 0 ends members last (subst (λ (bound : ℕ). AreEnds 0 ends bound) zero-on own) within,
    )

-- and a row is added there
pub push-same : (ends members row : List ℕ) (end : ℕ) → AreEnds 0 ends (length members)
    → end ≡ get_or (0 ∷ ends) (length ends) 0 + length row → let added =
    take (get_or (0 ∷ ends) (length ends) 0) members ++ row in AreEnds 0 ends (length added)
    × (rows_from 0 ends added ≡ rows_from 0 ends members) × AreEnds 0 (ends ++ end ∷ []) (length added)
    × (rows_from 0 (ends ++ end ∷ []) added ≡ rows_from 0 ends members ++ row ∷ [])
push-same ends members row end h is =
    let last = get_or (0 ∷ ends) (length ends) 0 in
    let kept = take last members in
    let cut = cut-same ends members h in
    let size : length (kept ++ row) ≡ end = omega (arith, length-append kept row, cut.0, is) in
    let own = ends-last 0 ends (length members) h in
    let zero-on : last ≡ 0 + last = omega arith in
    let front : take last (kept ++ row) ≡ kept = take-append-le last kept row (omega (arith, cut.0))
    ∙ take_all last kept (omega (arith, cut.0)) in (
      ends-wider 0 ends last (length (kept ++ row)) (omega (arith, size, is)) own,
      sym (rows-prefix 0 ends (kept ++ row) last (subst (λ (bound : ℕ). AreEnds 0 ends bound) zero-on own)
          (omega (arith, size, is))) ∙ ap (rows_from 0 ends) front ∙ cut.2,
      ends-push 0 ends end (length (kept ++ row)) (omega (arith, size))
          (ends-wider 0 ends last end (omega (arith, is)) own),
      rows-push 0 ends kept row end (ends-zero ends kept cut.1) (omega (arith, cut.0)) (omega (arith, is, cut.0))
          ∙ ap (λ (rows : List (List ℕ)). rows ++ row ∷ []) cut.2,
    )

-- where a new row begins
pub start-last : (ends s : List ℕ) (n start : ℕ) → start ≡ get_or (0 ∷ s) n 0 → s ≡ ends → n ≡ length ends
    → start ≡ get_or (0 ∷ ends) (length ends) 0
start-last ends s n start is same size = is ∙ ap (λ (k : ℕ). get_or (0 ∷ s) k 0) size
    ∙ ap (λ (es : List ℕ). get_or (0 ∷ es) (length ends) 0) same
