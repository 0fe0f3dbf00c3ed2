-- Rows that gain members.
-- For: `add` and `add_to_all`, src/rows.rt; `AddsTo`, golf_rows/specs/Rows.antt.
-- By: cases of the row; induction over the list of rows for an empty row more.
use Rattle.std.proofs.Common.{◌≡◌, ℕ, zero, suc, ◌+◌, ◌<◌, ◌⊎◌, inl, inr, List, [], ◌∷◌, ◌++◌, length, get_or, set}
use Rattle.std.proofs.Common.{take, sym, subst, arith}
use Rattle.std.proofs.lemmas.Bool.{cases_eq}
use Rattle.std.proofs.lemmas.List.{get_or-set_same, get_or-set_other, take_more}
use Rattle.golf_theory.specs.Membership.{In}
use Rattle.golf_theory.proofs.Lists.{In-left, In-right, In-cases, In-push}
use Rattle.golf_rows.specs.Rows.{row_of, AddsTo, IsInverseBelow}

-- one more member at the end of the row of a number
pub AddsTo-one : (rows : List (List ℕ)) (s n : ℕ) → n < length rows
    → AddsTo (λ k. k ≡ n) s rows (set rows n (row_of rows n ++ s ∷ []))
AddsTo-one rows s n low k t = elim (cases_eq k n) [
  | inl same ↦
      let is : row_of (set rows n (row_of rows n ++ s ∷ [])) k ≡ row_of rows k ++ s ∷ [] =
      subst (λ (j : ℕ). row_of (set rows n (row_of rows n ++ s ∷ [])) j ≡ row_of rows j ++ s ∷ []) (sym same)
      (get_or-set_same rows n (row_of rows n ++ s ∷ []) [] low) in (
        λ h. elim (In-cases t (row_of rows k) (s ∷ []) (subst (λ (l : List ℕ). In t l) is h)) [
          | inl i ↦ inl i
          | inr i ↦ elim i [ inl e ↦ inr (e, same) | inr none ↦ absurd none ]
        ],
        λ h. subst (λ (l : List ℕ). In t l) (sym is) (elim h [
          | inl i ↦ In-left t (row_of rows k) (s ∷ []) i
          | inr e ↦ subst (λ (x : ℕ). In x (row_of rows k ++ s ∷ [])) (sym e.0) (In-push s (row_of rows k))
        ]),
      )
  | inr apart ↦
      let is : row_of (set rows n (row_of rows n ++ s ∷ [])) k ≡ row_of rows k =
      get_or-set_other rows n k (row_of rows n ++ s ∷ []) [] apart in (
        λ h. inl (subst (λ (l : List ℕ). In t l) is h),
        λ h. subst (λ (l : List ℕ). In t l) (sym is) (elim h [ inl i ↦ i | inr e ↦ absurd (apart e.1) ]),
      )
]

-- those of two kinds are these together
pub record Together (A B C : ℕ → Type 0) : Type 0 where
  pub left : (n : ℕ) → A n → C n
  pub right : (n : ℕ) → B n → C n
  pub cases : (n : ℕ) → C n → A n ⊎ B n

-- two additions, one after the other
pub AddsTo-more : {A B C : ℕ → Type 0} (s : ℕ) (a b c : List (List ℕ)) → Together A B C → AddsTo A s a b
    → AddsTo B s b c → AddsTo C s a c
AddsTo-more s a b c both f g n t = (
  λ h. elim ((g n t).0 h) [
    | inl i ↦ elim ((f n t).0 i) [ inl j ↦ inl j | inr e ↦ inr (e.0, both.left n e.1) ]
    | inr e ↦ inr (e.0, both.right n e.1)
  ],
  λ h. elim h [
    | inl i ↦ (g n t).1 (inl ((f n t).1 (inl i)))
    | inr e ↦ elim (both.cases n e.1) [
      | inl k ↦ (g n t).1 (inl ((f n t).1 (inr (e.0, k))))
      | inr k ↦ (g n t).1
          (inr (e.0, k))
    ]
  ],
)

-- one more member is entered
pub IsInverseBelow-more : (count : ℕ) (named : ℕ → List ℕ) (s : ℕ) (old new : List (List ℕ)) → length new ≡ length old
    → IsInverseBelow s count named old → AddsTo (λ n. In n (named s)) s old new → IsInverseBelow (s + 1) count named new
IsInverseBelow-more count named s old new size w adds = record {
  row_count = omega (arith, w.row_count);
  members = λ n t. (
    λ h. elim ((adds n t).0 h) [
      | inl i ↦ let m = (w.members n t).0 i in (omega (arith, m.0), m.1)
      | inr e ↦ (omega (arith, e.0), subst (λ (x : ℕ). In n (named x)) (sym e.0) e.1)
    ],
    λ h. elim (cases_eq t s) [
      | inl same ↦ (adds n t).1 (inr (same, subst (λ (x : ℕ). In n (named x)) same h.1))
      | inr apart ↦ (adds n t).1 (inl ((w.members n t).1 (omega (arith, h.0, apart), h.1)))
    ],
  );
}

-- one more empty row
pub empty-push : (rows : List (List ℕ)) → ((n s : ℕ) → In s (row_of rows n) → ⊥) → (n s : ℕ)
    → In s (row_of (rows ++ [] ∷ []) n) → ⊥
empty-push [] none zero s h = h
empty-push [] none (suc n) s h = h
empty-push (row ∷ rows) none zero s h = none zero s h
empty-push (row ∷ rows) none (suc n) s h = empty-push rows (λ m t i. none (suc m) t i) n s h

-- nothing is entered in empty rows
pub IsInverseBelow-none : (count : ℕ) (named : ℕ → List ℕ) (rows : List (List ℕ)) → length rows ≡ count
    → ((n s : ℕ) → In s (row_of rows n) → ⊥) → IsInverseBelow 0 count named rows
IsInverseBelow-none count named rows size none =
    record { row_count = size; members = λ n s. (λ h. absurd (none n s h), λ h. absurd (omega (arith, h.0))) }

-- the first numbers of a list have gained the member, and so does the next one
pub AddsTo-next : (s i : ℕ) (nodes : List ℕ) (a b c : List (List ℕ)) → i < length nodes
    → AddsTo (λ n. In n (take i nodes)) s a b → AddsTo (λ n. n ≡ get_or nodes i 0) s b c
    → AddsTo (λ n. In n (take (i + 1) nodes)) s a c
AddsTo-next s i nodes a b c low f g =
    let step : take (i + 1) nodes ≡ take i nodes ++ get_or nodes i 0 ∷ [] = take_more nodes i 0 low in
    let both : Together (λ n. In n (take i nodes)) (λ n. n ≡ get_or nodes i 0) (λ n. In n (take (i + 1) nodes)) =
    record {
      left = λ n h. subst (λ (l : List ℕ). In n l) (sym step) (In-left n (take i nodes) (get_or nodes i 0 ∷ []) h);
      right = λ n e. subst (λ (l : List ℕ). In n l) (sym step)
          (In-right n (take i nodes) (get_or nodes i 0 ∷ []) (inl e));
      cases = λ n h. elim (In-cases n (take i nodes) (get_or nodes i 0 ∷ []) (subst (λ (l : List ℕ). In n l) step h)) [
        | inl j ↦ inl j
        | inr j ↦ elim j [ inl e ↦ inr e | inr none ↦ absurd none ]
      ];
    } in
    AddsTo-more s a b c both f g

-- the same, of rows that are told in another way
pub IsInverseBelow-same : (bound count : ℕ) (named other : ℕ → List ℕ) (rows : List (List ℕ))
    → ((n : ℕ) → named n ≡ other n) → IsInverseBelow bound count named rows → IsInverseBelow bound count other rows
IsInverseBelow-same bound count named other rows same w = record {
  row_count = w.row_count;
  members = λ n s. (
    λ h. let m = (w.members n s).0 h in (m.0, subst (λ (l : List ℕ). In n l) (same s) m.1),
    λ h. (w.members n s).1 (h.0, subst (λ (l : List ℕ). In n l) (sym (same s)) h.1),
  );
}
