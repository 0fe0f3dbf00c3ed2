-- One step of closing up: an item is kept or skipped.
-- For: `kept` (golf_theory/specs/Flags.antt) and `close_up` (src/flagged_items.rt)
-- By: the laws of std on parts of lists
use Rattle.std.proofs.Common.{◌≡◌, ℕ, zero, suc, ◌+◌, ◌<◌, ◌≤◌, Bool, true, false, cond, List, []}
use Rattle.std.proofs.Common.{◌∷◌, ◌++◌, length, take, drop, set, get_or, refl, sym, ap, ◌∙◌, arith}
use Rattle.std.specs.Prelude.{nat_lt}
use Rattle.std.specs.List.{SwappedAt}
use Rattle.std.proofs.lemmas.Bool.{ltb-true, ltb-false}
use Rattle.std.proofs.lemmas.List.{drop_more, take_more_set, drop-set-lt, set-set, length-set, append_assoc}
use Rattle.golf_theory.specs.Flags.{kept}

-- one step from the last flag on
pub kept_more : {X : Type 0} (keep : List Bool) (xs : List X) (at : ℕ) (b : Bool) (d : X) → at < length keep
    → length keep ≡ length xs → get_or keep at false ≡ b
    → kept (drop at keep) (drop at xs) ≡ cond b (get_or xs at d ∷ kept (drop (suc at) keep) (drop (suc at) xs))
    (kept (drop (suc at) keep) (drop (suc at) xs))
kept_more {X} keep xs at b d l same f =
    let two : at + 1 ≡ suc at = omega arith in
    let flags : drop at keep ≡ b ∷ drop (suc at) keep = drop_more keep at false l
    ∙ ap (λ (z : Bool). z ∷ drop (at + 1) keep) f ∙ ap (λ (n : ℕ). b ∷ drop n keep) two in
    let items : drop at xs ≡ get_or xs at d ∷ drop (suc at) xs = drop_more xs at d (omega arith)
    ∙ ap (λ (n : ℕ). get_or xs at d ∷ drop n xs) two in
    ap (λ (z : List Bool). kept z (drop at xs)) flags ∙ ap (λ (z : List X). kept (b ∷ drop (suc at) keep) z) items

-- the item at `at` is flagged, among as many flags as items, and no more were kept than stand below it
pub record NextKept {X : Type 0} (keep : List Bool) (now : List X) (count at : ℕ) : Type 0 where
  pub within : at < length keep
  pub whole : length now ≡ length keep
  pub below : count ≤ at
  pub flag : get_or keep at false ≡ true

-- one step of closing up: the item goes after those that were kept
pub closed_more : {X : Type 0} (keep : List Bool) (now all : List X) (count at : ℕ) (x : X) → NextKept keep now count at
    → x ≡ get_or now at x → take count now ++ kept (drop at keep) (drop at now) ≡ all
    → take (count + 1) (set now count x) ++ kept (drop (at + 1) keep) (drop (at + 1) (set now count x)) ≡ all
closed_more {X} keep now all count at x next is e =
    let two : at + 1 ≡ suc at = omega arith in
    let rest : List X = kept (drop (suc at) keep) (drop (suc at) now) in
    let front : take (count + 1) (set now count x) ≡ take count now ++ x ∷ [] =
    take_more_set now count x (omega (arith, next.within, next.whole, next.below)) in
    let back : drop (at + 1) (set now count x) ≡ drop (suc at) now =
    drop-set-lt (at + 1) now count x (omega (arith, next.below)) ∙ ap (λ (n : ℕ). drop n now) two in
    ap (λ (z : List X). z ++ kept (drop (at + 1) keep) (drop (at + 1) (set now count x))) front
    ∙ ap (λ (z : List X). (take count now ++ x ∷ []) ++ kept (drop (at + 1) keep) z) back
    ∙ ap (λ (n : ℕ). (take count now ++ x ∷ []) ++ kept (drop n keep) (drop (suc at) now)) two
    ∙ append_assoc (take count now) (x ∷ []) rest
    ∙ ap (λ (z : X). take count now ++ z ∷ rest) is
    ∙ ap (λ (z : List X). take count now ++ z)
    (sym (kept_more keep now at true x next.within (sym next.whole) next.flag))
    ∙ e

-- what is written after the front of a list does not change that prefix
take-past : {X : Type 0} (xs : List X) (n i : ℕ) (y : X) → n ≤ i → take n (set xs i y) ≡ take n xs
take-past [] n i y l = refl
take-past (x ∷ xs) zero i y l = refl
take-past (x ∷ xs) (suc n) zero y l = absurd (omega (arith, l))
take-past {X} (x ∷ xs) (suc n) (suc i) y l = ap (λ (z : List X). x ∷ z) (take-past xs n i y (omega (arith, l)))

-- an item of a list that is long enough to have one
some-item : {X : Type 0} (xs : List X) (n : ℕ) → n < length xs → X
some-item [] n l = absurd (omega arith)
some-item (x ∷ xs) n l = x

pub skipped_more : {X : Type 0} (keep : List Bool) (now all : List X) (count at : ℕ) → at < length keep
    → length now ≡ length keep → get_or keep at false ≡ false → take count now
    ++ kept (drop at keep) (drop at now) ≡ all → take count now ++ kept (drop (at + 1) keep) (drop (at + 1) now) ≡ all
skipped_more {X} keep now all count at l same f e =
    let two : at + 1 ≡ suc at = omega arith in
    let d : X = some-item now at (omega arith) in
    ap (λ (n : ℕ). take count now ++ kept (drop n keep) (drop n now)) two
    ∙ ap (λ (z : List X). take count now ++ z) (sym (kept_more keep now at false d l (sym same) f))
    ∙ e

same-item : {X : Type 0} (xs : List X) (i : ℕ) (d e : X) → i < length xs → get_or xs i d ≡ get_or xs i e
same-item [] i d e l = absurd (omega arith)
same-item (x ∷ xs) zero d e l = refl
same-item (x ∷ xs) (suc i) d e l = same-item xs i d e (omega arith)

-- one step of closing up: the item changes places with the one after those that were kept
pub swapped_more : {X : Type 0} (keep : List Bool) (now later all : List X) (count at : ℕ) → NextKept keep now count at
    → SwappedAt now later count at → take count now ++ kept (drop at keep) (drop at now) ≡ all → take (count + 1) later
    ++ kept (drop (at + 1) keep) (drop (at + 1) later) ≡ all
swapped_more {X} keep now later all count at next sw e =
    let d : X = some-item now at (omega (arith, next.within, next.whole)) in
    let x : X = get_or now at d in
    let y : X = get_or now count d in
    let one : List X = set now count x in
    let two : later ≡ set one at y = sw.3 d in
    let front : take (count + 1) (set one at y) ≡ take (count + 1) one =
    elim (nat_lt count at) as (λ b. nat_lt count at ≡ b → take (count + 1) (set one at y) ≡ take (count + 1) one) [
      | true ↦ λ b. let less = ltb-true count at b in take-past one (count + 1) at y (omega (arith, less))
      | false ↦ λ b. let least = ltb-false count at b in
          let is : count ≡ at = omega (arith, least, next.below) in
          ap (take (count + 1)) (unmoved now count at d is)
    ] refl in
    let back : drop (at + 1) (set one at y) ≡ drop (at + 1) one = drop-set-lt (at + 1) one at y (omega arith) in
    ap (λ (z : List X). take (count + 1) z ++ kept (drop (at + 1) keep) (drop (at + 1) z)) two
    ∙ ap (λ (z : List X). z ++ kept (drop (at + 1) keep) (drop (at + 1) (set one at y))) front
    ∙ ap (λ (z : List X). take (count + 1) one ++ kept (drop (at + 1) keep) z) back
    ∙ closed_more keep now all count at x next (same-item now at d x (omega (arith, next.within, next.whole))) e
  where
    unmoved : {X : Type 0} (xs : List X) (i j : ℕ) (d : X) → i ≡ j
        → set (set xs i (get_or xs j d)) j (get_or xs i d) ≡ set xs i (get_or xs j d)
    unmoved {X} xs i j d same =
        ap (λ k. set (set xs i (get_or xs j d)) k (get_or xs i d)) (sym same)
        ∙ set-set xs i (get_or xs j d) (get_or xs i d)
        ∙ ap (λ k. set xs i (get_or xs k d)) same

pub swapped-length : {X : Type 0} (now later : List X) (i j : ℕ) → j < length now → SwappedAt now later i j
    → length later ≡ length now
swapped-length {X} now later i j l sw =
    let d : X = some-item now j l in
    let one : List X = set now i (get_or now j d) in
    ap length (sw.3 d) ∙ length-set one j (get_or now i d) ∙ length-set now i (get_or now j d)
