-- Flags, and the numbers of those that are set.
-- For: `numbers_of`, src/close.rt; `IsSet`, golf_marks/specs/Flags.antt.
-- By: cases of the place of the flag; no induction.
use Rattle.std.proofs.Common.{◌≡◌, ℕ, ◌+◌, ◌<◌, ◌⊎◌, inl, inr, List, [], ◌∷◌, ◌++◌, length, get_or, set, Bool, true}
use Rattle.std.proofs.Common.{false, cond, not, sym, ap, ◌∙◌, subst, arith}
use Rattle.std.specs.Prelude.{count_by, ◌↔◌}
use Rattle.std.specs.List.Sorted.{IsStrictlyIncreasing}
use Rattle.std.proofs.lemmas.Bool.{cases_eq, cases_lt}
use Rattle.std.proofs.lemmas.List.{get_or-set_same, get_or-set_other, get_or_past, get_or_push, get_or_append_left}
use Rattle.std.proofs.lemmas.List.{length_push}
use Rattle.std.proofs.lemmas.List.Sums.{sum_by-set}
use Rattle.golf_theory.specs.Membership.{In}
use Rattle.golf_theory.proofs.Lists.{In-left, In-cases, In-push, In-get_or}
use Rattle.golf_marks.specs.Flags.{IsSet}

pub IsSet-below : (flags : List Bool) (n : ℕ) → IsSet flags n → n < length flags
IsSet-below flags n h = elim (cases_lt n (length flags)) [ inl l ↦ l | inr past ↦ cc (get_or_past flags n false past) ]

pub IsSet-set : (flags : List Bool) (p q : ℕ) → p < length flags → IsSet (set flags p true) q → (q ≡ p) ⊎ IsSet flags q
IsSet-set flags p q low h = elim (cases_eq q p) [
  | inl e ↦ inl e
  | inr n ↦ inr
      (sym (get_or-set_other flags p q true false n) ∙ h)
]

pub set-IsSet : (flags : List Bool) (p q : ℕ) → p < length flags → (q ≡ p) ⊎ IsSet flags q → IsSet (set flags p true) q
set-IsSet flags p q low h = elim (cases_eq q p) [
  | inl e ↦ subst (λ (x : ℕ). IsSet (set flags p true) x) (sym e) (get_or-set_same flags p true false low)
  | inr n ↦ elim h [ inl e ↦ absurd (n e) | inr i ↦ get_or-set_other flags p q true false n ∙ i ]
]

-- a flag that is not set is one of those that are not set
pub unset_one : (flags : List Bool) (p : ℕ) → p < length flags → get_or flags p false ≡ false
    → count_by not (set flags p true) + 1 ≡ count_by not flags
unset_one flags p low off =
    let e = sum_by-set (λ (x : Bool). cond (not x) 1 0) flags p true false low in
    let f = ap (λ (b : Bool). let n : ℕ = cond (not b) 1 0 in n) off in
    omega (arith, e, f)

-- a larger number at the end of rising ones
pub IsStrictlyIncreasing-push : (xs : List ℕ) (n : ℕ) → IsStrictlyIncreasing xs → ((m : ℕ) → In m xs → m < n)
    → IsStrictlyIncreasing (xs ++ n ∷ [])
IsStrictlyIncreasing-push xs n rising below k low =
    let left : get_or (xs ++ n ∷ []) k 0 ≡ get_or xs k 0 =
    get_or_append_left xs (n ∷ []) 0 k (omega (arith, length_push xs n)) in
    elim (cases_lt (k + 1) (length xs)) [
      | inl l ↦ omega (arith, left, get_or_append_left xs (n ∷ []) 0 (k + 1) l, rising k l)
      | inr end ↦
          let last : length xs ≡ k + 1 = omega (arith, length_push xs n) in
          omega (arith, left, get_or_push xs n 0 (k + 1) last, below (get_or xs k 0) (In-get_or xs k 0 (omega arith)))
    ]

-- the numbers of the first flags that are set
abbrev pub AreNumbers : List Bool → ℕ → List ℕ → Type 0
AreNumbers flags i ns = IsStrictlyIncreasing ns × ((n : ℕ) → In n ns ↔ ((n < i) × IsSet flags n))

pub AreNumbers-yes : (flags : List Bool) (i : ℕ) (ns : List ℕ) → IsSet flags i → AreNumbers flags i ns
    → AreNumbers flags (i + 1) (ns ++ i ∷ [])
AreNumbers-yes flags i ns on a = (
  IsStrictlyIncreasing-push ns i a.0 (λ m h. ((a.1 m).0 h).0),
  λ n. (
    λ h. elim (In-cases n ns (i ∷ []) h) [
      | inl j ↦ (omega (arith, ((a.1 n).0 j).0), ((a.1 n).0 j).1)
      | inr j ↦ elim j [
        | inl e ↦ (omega (arith, e), subst (λ (x : ℕ). IsSet flags x) (sym e) on)
        | inr none ↦
            absurd none
      ]
    ],
    λ h. elim (cases_eq n i) [
      | inl e ↦ subst (λ (x : ℕ). In x (ns ++ i ∷ [])) (sym e) (In-push i ns)
      | inr apart ↦ In-left n ns (i ∷ []) ((a.1 n).1 (omega (arith, h.0, apart), h.1))
    ],
  ),
)

pub AreNumbers-no : (flags : List Bool) (i : ℕ) (ns : List ℕ) → get_or flags i false ≡ false → AreNumbers flags i ns
    → AreNumbers flags (i + 1) ns
AreNumbers-no flags i ns off a = (
  a.0,
  λ n. (
    λ h. (omega (arith, ((a.1 n).0 h).0), ((a.1 n).0 h).1),
    λ h. elim (cases_eq n i) [
      | inl e ↦ cc (ap (λ (x : ℕ). get_or flags x false) e)
      | inr apart ↦ (a.1 n).1 (omega (arith, h.0, apart), h.1)
    ],
  ),
)
