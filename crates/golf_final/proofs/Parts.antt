-- Numbers from 0, flags and rows.
-- For: `count_up`, `preventing` and `keeps`, src/keep_rule.rt
-- By: induction over n, the numbers that are counted, and over the list of rows
use Rattle.std.proofs.Common.{◌≡◌, ℕ, zero, suc, ◌+◌, ◌<◌, inl, inr, Bool, false, List, [], ◌∷◌, ◌++◌, length, get_or}
use Rattle.std.proofs.Common.{refl, sym, ap, ◌∙◌, subst, arith}
use Rattle.std.specs.Prelude.{◌↔◌, IsTrue}
use Rattle.std.proofs.lemmas.Bool.{cases_eq}
use Rattle.std.proofs.lemmas.List.{get_or_push, get_or_append_left}
use Rattle.golf_theory.specs.Membership.{In, Every}
use Rattle.golf_theory.proofs.Lists.{Every-from, In-left, In-push, In-cases}
use Rattle.golf_base.specs.declared.ids.ObjectId.{ObjectId}
use Rattle.golf_model.specs.Graph.{NumbersRise}
use Rattle.golf_marks.specs.Flags.{IsSet}
use Rattle.golf_rows.specs.Rows.{row_of}
use Rattle.golf_final.specs.Backward.{HasNumbers}

-- so many numbers, one after another
abbrev pub counted : ℕ → ℕ → List ObjectId
counted first zero = []
counted first (suc n) = record { 0 = first } ∷ counted (first + 1) n

pub counted-more : (first n : ℕ) → counted first (n + 1) ≡ counted first n ++ record { 0 = first + n } ∷ []
counted-more first zero = let z : first ≡ first + 0 = omega arith in ap (λ (k : ℕ). record { 0 = k } ∷ []) z
counted-more first (suc n) =
    let z : (first + 1) + n ≡ first + suc n = omega arith in
    let next : suc n + 1 ≡ suc (n + 1) = omega arith in
    ap (counted first) next ∙ ap (λ (xs : List ObjectId). record { 0 = first } ∷ xs)
    (counted-more (first + 1) n ∙ ap (λ (k : ℕ). counted (first + 1) n ++ record { 0 = k } ∷ []) z)

counted-length : (first n : ℕ) → length (counted first n) ≡ n
counted-length first zero = refl
counted-length first (suc n) = ap suc (counted-length (first + 1) n)

counted-rises : (first n : ℕ) → NumbersRise first (counted first n)
counted-rises first zero = tt
counted-rises first (suc n) = (omega arith, counted-rises (first + 1) n)

pub counted-numbers : (n : ℕ) (xs : List ObjectId) → xs ≡ counted 0 n → HasNumbers 0 n xs
counted-numbers n xs is = subst (HasNumbers 0 n) (sym is)
    (record { count = counted-length 0 n; rise = counted-rises 0 n })

-- members that are all below a bound
pub rows-below : (b : ℕ) (rows : List (List ℕ)) → ((n p : ℕ) → In p (row_of rows n) → p < b)
    → Every (λ row. Every (λ p. p < b) row) rows
rows-below b [] h = tt
rows-below b (row ∷ rows) h = (Every-from (λ p. p < b) row (h 0), rows-below b rows (λ n p i. h (suc n) p i))

-- one more node that satisfies the test
pub more-members : (P : ℕ → Type 0) (xs : List ℕ) (n : ℕ) → P n → ((p : ℕ) → In p xs ↔ ((p < n) × P p)) → (p : ℕ)
    → In p (xs ++ n ∷ []) ↔ ((p < n + 1) × P p)
more-members P xs n h all p = (
  λ i. elim (In-cases p xs (n ∷ []) i) [
    | inl j ↦ let r = (all p).0 j in (omega (arith, r.0), r.1)
    | inr j ↦ elim j [ inl e ↦ (omega (arith, e), subst P (sym e) h) | inr none ↦ absurd none ]
  ],
  λ r. elim (cases_eq p n) [
    | inl e ↦ subst (λ (q : ℕ). In q (xs ++ n ∷ [])) (sym e) (In-push n xs)
    | inr apart ↦ In-left p xs (n ∷ []) ((all p).1 (omega (arith, r.0, apart), r.1))
  ],
)

-- one that does not
pub same-members : (P : ℕ → Type 0) (xs : List ℕ) (n : ℕ) → (P n → ⊥) → ((p : ℕ) → In p xs ↔ ((p < n) × P p)) → (p : ℕ)
    → In p xs ↔ ((p < n + 1) × P p)
same-members P xs n none all p = (
  λ i. let r = (all p).0 i in (omega (arith, r.0), r.1),
  λ r. elim (cases_eq p n) [
    | inl e ↦ absurd (none (subst P e r.1))
    | inr apart ↦ (all p).1 (omega (arith, r.0, apart), r.1)
  ],
)

-- one more flag
pub more-flags : (P : ℕ → Type 0) (flags : List Bool) (n : ℕ) (b : Bool) → length flags ≡ n → (IsTrue b ↔ P n)
    → ((s : ℕ) → s < n → IsSet flags s ↔ P s) → (s : ℕ) → s < n + 1 → IsSet (flags ++ b ∷ []) s ↔ P s
more-flags P flags n b size last all s low = elim (cases_eq s n) [
  | inl e ↦
      let at : get_or (flags ++ b ∷ []) s false ≡ b = get_or_push flags b false s (size ∙ sym e) in
      (λ h. subst P (sym e) (last.0 (sym at ∙ h)), λ h. at ∙ last.1 (subst P e h))
  | inr apart ↦
      let at : get_or (flags ++ b ∷ []) s false ≡ get_or flags s false =
      get_or_append_left flags (b ∷ []) false s (omega (arith, apart, size)) in
      (λ h. (all s (omega (arith, apart))).0 (sym at ∙ h), λ h. at ∙ (all s (omega (arith, apart))).1 h)
]
