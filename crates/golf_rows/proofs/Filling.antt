-- Rows that are filled up to their room: made, one member more, full at the end.
-- For: `RoomyRows`, src/rooms.rt; `roomy_from`, `AreRooms`, `given` and `spare_at`, specs/Rooms.antt.
-- By: induction over the ends, and over the rows.
use Rattle.std.proofs.Common.{◌≡◌, ℕ, zero, suc, ◌+◌, ◌-◌, ◌<◌, ◌≤◌, List, [], ◌∷◌, ◌++◌, length, take, drop, set}
use Rattle.std.proofs.Common.{get_or, map, inl, inr, refl, sym, ap, subst, ◌∙◌, arith, length-drop, drop-set-lt}
use Rattle.std.proofs.lemmas.Bool.{cases_eq}
use Rattle.std.proofs.lemmas.List.{take-set-le, drop-set-add, take_more_set, length-map}
use Rattle.golf_theory.specs.Membership.{In}
use Rattle.golf_base.specs.Roomy.{Roomy}
use Rattle.golf_rows.specs.Rows.{row_of}
use Rattle.golf_rows.specs.Ends.{rows_from, AreEnds}
use Rattle.golf_rows.specs.Rooms.{occurrences, room_for, spare_at, given, roomy_from, AreRooms}
use Rattle.golf_rows.proofs.Counting.{occurs-own, occurs-other, occurs-more, occurs-cut, occurs-next}

abbrev row : List ℕ → ℕ → Roomy ℕ
row items spare = record { items = items; spare = spare }

-- ---- how rooms lie

pub rooms-from : (from : ℕ) (ends nexts : List ℕ) (bound : ℕ) → AreRooms from ends nexts bound → from ≤ bound
rooms-from from [] [] bound h = h
rooms-from from [] (n ∷ ns) bound h = absurd h
rooms-from from (e ∷ ends) [] bound h = absurd h
rooms-from from (e ∷ ends) (n ∷ nexts) bound h = omega (arith, h.0, h.1, rooms-from e ends nexts bound h.2)

-- rooms are ends
pub rooms-ends : (from : ℕ) (ends nexts : List ℕ) (bound : ℕ) → AreRooms from ends nexts bound → AreEnds from ends bound
rooms-ends from [] [] bound h = h
rooms-ends from [] (n ∷ ns) bound h = absurd h
rooms-ends from (e ∷ ends) [] bound h = absurd h
rooms-ends from (e ∷ ends) (n ∷ nexts) bound h = (omega (arith, h.0, h.1), rooms-ends e ends nexts bound h.2)

-- the place of the next member of a row that has room
pub room-at : (from : ℕ) (ends nexts members : List ℕ) (bound i : ℕ) → AreRooms from ends nexts bound
    → 0 < spare_at (roomy_from from ends nexts members) i → (i < length nexts) × (from ≤ get_or nexts i 0)
    × (get_or nexts i 0 < get_or ends i 0) × (get_or ends i 0 ≤ bound)
room-at from [] [] members bound i h some = absurd (omega (arith, some))
room-at from [] (n ∷ ns) members bound i h some = absurd h
room-at from (e ∷ ends) [] members bound i h some = absurd h
room-at from (e ∷ ends) (n ∷ nexts) members bound zero h some =
    (omega arith, h.0, omega (arith, h.1, some), rooms-from e ends nexts bound h.2)
room-at from (e ∷ ends) (n ∷ nexts) members bound (suc i) h some =
    let r = room-at e ends nexts (drop (e - from) members) bound i h.2 some in
    (omega (arith, r.0), omega (arith, h.0, h.1, r.1), r.2, r.3)

-- ---- one more member

-- the rooms stay
pub rooms-given : (from : ℕ) (ends nexts members : List ℕ) (bound i : ℕ) → AreRooms from ends nexts bound
    → 0 < spare_at (roomy_from from ends nexts members) i
    → AreRooms from ends (set nexts i (get_or nexts i 0 + 1)) bound
rooms-given from [] [] members bound i h some = absurd (omega (arith, some))
rooms-given from [] (n ∷ ns) members bound i h some = absurd h
rooms-given from (e ∷ ends) [] members bound i h some = absurd h
rooms-given from (e ∷ ends) (n ∷ nexts) members bound zero h some = (omega (arith, h.0), omega (arith, h.1, some), h.2)
rooms-given from (e ∷ ends) (n ∷ nexts) members bound (suc i) h some =
    (h.0, h.1, rooms-given e ends nexts (drop (e - from) members) bound i h.2 some)

-- the row of the number has taken the member, and no other row is touched
pub roomy-given : (from : ℕ) (ends nexts members : List ℕ) (i x : ℕ) → AreRooms from ends nexts (from + length members)
    → 0 < spare_at (roomy_from from ends nexts members) i
    → roomy_from from ends (set nexts i (get_or nexts i 0 + 1)) (set members (get_or nexts i 0 - from) x) ≡ given
    (roomy_from from ends nexts members) i x
roomy-given from [] [] members i x h some = absurd (omega (arith, some))
roomy-given from [] (n ∷ ns) members i x h some = absurd h
roomy-given from (e ∷ ends) [] members i x h some = absurd h
roomy-given from (e ∷ ends) (n ∷ nexts) members zero x h some =
    let bound = rooms-from e ends nexts (from + length members) h.2 in
    let more : n + 1 - from ≡ (n - from) + 1 = omega (arith, h.0) in
    let less : e - (n + 1) ≡ e - n - 1 = omega arith in
    let items : take (n + 1 - from) (set members (n - from) x) ≡ take (n - from) members ++ x ∷ [] =
    ap (λ (k : ℕ). take k (set members (n - from) x)) more
    ∙ take_more_set members (n - from) x (omega (arith, h.0, h.1, some, bound)) in
    let rest : drop (e - from) (set members (n - from) x) ≡ drop (e - from) members =
    drop-set-lt (e - from) members (n - from) x (omega (arith, h.0, h.1, some)) in
    ap (λ (xs : List ℕ). row xs (e - (n + 1)) ∷ roomy_from e ends nexts (drop (e - from) (set members (n - from) x)))
    items
    ∙ ap (λ (k : ℕ). row (take (n - from) members ++ x ∷ []) k
    ∷ roomy_from e ends nexts (drop (e - from) (set members (n - from) x))) less
    ∙ ap (λ (xs : List ℕ). row (take (n - from) members ++ x ∷ []) (e - n - 1) ∷ roomy_from e ends nexts xs) rest
roomy-given from (e ∷ ends) (n ∷ nexts) members (suc i) x h some =
    let k = e - from in
    let rest = drop k members in
    let next = get_or nexts i 0 in
    let bound = rooms-from e ends nexts (from + length members) h.2 in
    let r = room-at e ends nexts rest (from + length members) i h.2 some in
    let more : from + length members ≡ e + length rest = omega (arith, h.0, h.1, bound, length-drop k members) in
    let at : next - from ≡ k + (next - e) = omega (arith, h.0, h.1, r.1) in
    let own : take (n - from) (set members (next - from) x) ≡ take (n - from) members =
    take-set-le (n - from) members (next - from) x (omega (arith, h.1, r.1)) in
    let later : drop k (set members (next - from) x) ≡ set rest (next - e) x =
    ap (λ (j : ℕ). drop k (set members j x)) at ∙ drop-set-add k members (next - e) x in
    ap (λ (xs : List ℕ). row xs (e - n) ∷ roomy_from e ends (set nexts i (next + 1))
    (drop k (set members (next - from) x))) own
    ∙ ap (λ (xs : List ℕ). row (take (n - from) members) (e - n) ∷ roomy_from e ends (set nexts i (next + 1)) xs) later
    ∙ ap (λ (rows : List (Roomy ℕ)). row (take (n - from) members) (e - n) ∷ rows)
    (roomy-given e ends nexts rest i x (subst (λ (b : ℕ). AreRooms e ends nexts b) more h.2) some)

-- ---- made

-- one more empty row
pub rooms-open : (from : ℕ) (ends nexts : List ℕ) (next end bound : ℕ) → AreRooms from ends nexts next → next ≤ end
    → end ≤ bound → AreRooms from (ends ++ end ∷ []) (nexts ++ next ∷ []) bound
rooms-open from [] [] next end bound h le lt = (h, le, lt)
rooms-open from [] (n ∷ ns) next end bound h le lt = absurd h
rooms-open from (e ∷ ends) [] next end bound h le lt = absurd h
rooms-open from (e ∷ ends) (n ∷ nexts) next end bound h le lt =
    (h.0, h.1, rooms-open e ends nexts next end bound h.2 le lt)

pub roomy-open : (from : ℕ) (ends nexts members : List ℕ) (next end : ℕ) → AreRooms from ends nexts next
    → get_or (from ∷ ends) (length ends) 0 ≡ next
    → roomy_from from (ends ++ end ∷ []) (nexts ++ next ∷ []) members ≡ roomy_from from ends nexts members
    ++ room_for (end - next) ∷ []
roomy-open from [] [] members next end h last =
    let none : next - from ≡ 0 = omega (arith, last) in
    ap (λ (k : ℕ). row (take k members) (end - next) ∷ []) none
roomy-open from [] (n ∷ ns) members next end h last = absurd h
roomy-open from (e ∷ ends) [] members next end h last = absurd h
roomy-open from (e ∷ ends) (n ∷ nexts) members next end h last =
    ap (λ (rows : List (Roomy ℕ)). row (take (n - from) members) (e - n) ∷ rows)
    (roomy-open e ends nexts (drop (e - from) members) next end h.2 last)

-- the last end, with one more
pub last-open : (from : ℕ) (ends : List ℕ) (end : ℕ)
    → get_or (from ∷ (ends ++ end ∷ [])) (length (ends ++ end ∷ [])) 0 ≡ end
last-open from [] end = refl
last-open from (e ∷ ends) end = last-open e ends end

-- ---- full

-- rows without room are those that end there
pub full-rows : (from : ℕ) (ends nexts members : List ℕ) (bound : ℕ) → AreRooms from ends nexts bound
    → ((n : ℕ) → spare_at (roomy_from from ends nexts members) n ≡ 0)
    → rows_from from ends members ≡ map (λ (r : Roomy ℕ). r.items) (roomy_from from ends nexts members)
full-rows from [] [] members bound h full = refl
full-rows from [] (n ∷ ns) members bound h full = absurd h
full-rows from (e ∷ ends) [] members bound h full = absurd h
full-rows from (e ∷ ends) (n ∷ nexts) members bound h full =
    let same : e ≡ n = omega (arith, h.1, full 0) in
    ap (λ (k : ℕ). take (k - from) members ∷ rows_from e ends (drop (e - from) members)) same
    ∙ ap (λ (rows : List (List ℕ)). take (n - from) members ∷ rows)
    (full-rows e ends nexts (drop (e - from) members) bound h.2 (λ k. full (suc k)))

-- ---- what is given

pub length-given : (rows : List (Roomy ℕ)) (n x : ℕ) → length (given rows n x) ≡ length rows
length-given [] n x = refl
length-given (r ∷ rows) zero x = refl
length-given (r ∷ rows) (suc n) x = omega (arith, length-given rows n x)

pub items-given : (rows : List (Roomy ℕ)) (n x : ℕ)
    → map (λ (r : Roomy ℕ). r.items) (given rows n x) ≡ set (map (λ (r : Roomy ℕ). r.items) rows) n
    (row_of (map (λ (r : Roomy ℕ). r.items) rows) n ++ x ∷ [])
items-given [] n x = refl
items-given (r ∷ rows) zero x = refl
items-given (r ∷ rows) (suc n) x = ap (λ (l : List (List ℕ)). r.items ∷ l) (items-given rows n x)

-- a row with room is there
pub spare-there : (rows : List (Roomy ℕ)) (n : ℕ) → 0 < spare_at rows n → n < length rows
spare-there [] n some = absurd (omega (arith, some))
spare-there (r ∷ rows) zero some = omega arith
spare-there (r ∷ rows) (suc n) some = omega (arith, spare-there rows n some)

spare-own : (rows : List (Roomy ℕ)) (n x : ℕ) → 0 < spare_at rows n → spare_at (given rows n x) n + 1 ≡ spare_at rows n
spare-own [] n x some = absurd (omega (arith, some))
spare-own (r ∷ rows) zero x some = omega (arith, some)
spare-own (r ∷ rows) (suc n) x some = spare-own rows n x some

spare-other : (rows : List (Roomy ℕ)) (n k x : ℕ) → (k ≡ n → ⊥) → spare_at (given rows n x) k ≡ spare_at rows k
spare-other [] n k x apart = refl
spare-other (r ∷ rows) zero zero x apart = absurd (apart refl)
spare-other (r ∷ rows) zero (suc k) x apart = refl
spare-other (r ∷ rows) (suc n) zero x apart = refl
spare-other (r ∷ rows) (suc n) (suc k) x apart = spare-other rows n k x (λ e. apart (ap (λ (j : ℕ). suc j) e))

-- ---- empty rows

pub spare-empty : (counts : List ℕ) (n : ℕ) → spare_at (map room_for counts) n ≡ get_or counts n 0
spare-empty [] n = refl
spare-empty (c ∷ counts) zero = refl
spare-empty (c ∷ counts) (suc n) = spare-empty counts n

pub items-empty : (counts : List ℕ) (n s : ℕ) → In s (row_of (map (λ (r : Roomy ℕ). r.items) (map room_for counts)) n)
    → ⊥
items-empty [] n s i = i
items-empty (c ∷ counts) zero s i = i
items-empty (c ∷ counts) (suc n) s i = items-empty counts n s i

-- from 0 on
pub roomy-given-all : (ends nexts members : List ℕ) (i x : ℕ) → AreRooms 0 ends nexts (length members)
    → 0 < spare_at (roomy_from 0 ends nexts members) i
    → roomy_from 0 ends (set nexts i (get_or nexts i 0 + 1)) (set members (get_or nexts i 0) x) ≡ given
    (roomy_from 0 ends nexts members) i x
roomy-given-all ends nexts members i x h some =
    let at : get_or nexts i 0 ≡ get_or nexts i 0 - 0 = omega arith in
    let same : length members ≡ 0 + length members = omega arith in
    ap (λ (k : ℕ). roomy_from 0 ends (set nexts i (get_or nexts i 0 + 1)) (set members k x)) at
    ∙ roomy-given 0 ends nexts members i x (subst (λ (b : ℕ). AreRooms 0 ends nexts b) same h) some

pub spare-there-items : (rows : List (Roomy ℕ)) (n : ℕ) → 0 < spare_at rows n
    → n < length (map (λ (r : Roomy ℕ). r.items) rows)
spare-there-items rows n some = omega (arith, spare-there rows n some, length-map rows (λ (r : Roomy ℕ). r.items))

-- there is room for the next number of a list, some of whose members have been added
pub has-room : (rows old : List (Roomy ℕ)) (ms : List ℕ) (i : ℕ) → i < length ms
    → ((n : ℕ) → occurrences n ms ≤ spare_at old n)
    → ((n : ℕ) → spare_at rows n + occurrences n (take i ms) ≡ spare_at old n) → 0 < spare_at rows (get_or ms i 0)
has-room rows old ms i low fits was =
    let n = get_or ms i 0 in
    omega (arith, fits n, was n, occurs-cut n i ms, occurs-next n i ms low, occurs-own n (drop (i + 1) ms))

-- one more is added
pub spare-next : (rows : List (Roomy ℕ)) (ms : List ℕ) (i x : ℕ) → i < length ms → 0 < spare_at rows (get_or ms i 0)
    → (k : ℕ) → spare_at (given rows (get_or ms i 0) x) k + occurrences k (take (i + 1) ms) ≡ spare_at rows k
    + occurrences k (take i ms)
spare-next rows ms i x low some k =
    let n = get_or ms i 0 in
    elim (cases_eq k n) [
      | inl same ↦
          subst (λ (j : ℕ). spare_at (given rows n x) j + occurrences j (take (i + 1) ms) ≡ spare_at rows j
          + occurrences j (take i ms)) (sym same)
          (omega (arith, spare-own rows n x some, occurs-more n i ms low, occurs-own n []))
      | inr apart ↦ omega (
        arith,
        spare-other rows n k x apart,
        occurs-more k i ms low,
        occurs-other k n [] (λ e. apart (sym e)),
      )
    ]
