-- Flags and links that are added.
-- For: `IsSet` (golf_marks/specs/Flags.antt) and `flags_of`, `are_set` (src/flags.rt)
-- By: induction over the list for what is read in it once more is added
use Rattle.std.proofs.Common.{◌≡◌, ℕ, zero, suc, ◌+◌, ◌<◌, inl, inr, List, [], ◌∷◌, ◌++◌, length, get_or, set, take}
use Rattle.std.proofs.Common.{replicate, Some, Bool, true, false, refl, sym, subst, arith}
use Rattle.std.specs.Prelude.{◌↔◌, slice_get}
use Rattle.std.proofs.lemmas.Bool.{cases_lt}
use Rattle.std.proofs.lemmas.List.{get_or_past, get_or-replicate, length-replicate, take_more}
use Rattle.golf_theory.specs.Membership.{In, Every}
use Rattle.golf_theory.proofs.Lists.{In-left, In-right, In-cases}
use Rattle.golf_marks.specs.Flags.{IsSet}
use Rattle.golf_marks.proofs.Flags.{IsSet-set, set-IsSet}

pub unset : (n p : ℕ) → IsSet (replicate n false) p → ⊥
unset n p h = elim (cases_lt p n) [
  | inl low ↦ cc (get_or-replicate n p false false low)
  | inr past ↦ cc (get_or_past (replicate n false) p false (omega (arith, length-replicate {A = Bool} n false)))
]

-- one more of a list of places is set
pub set_more : (flags : List Bool) (places : List ℕ) (i : ℕ) → i < length places → get_or places i 0 < length flags
    → ((p : ℕ) → IsSet flags p ↔ In p (take i places)) → (p : ℕ) → IsSet (set flags (get_or places i 0) true) p
    ↔ In p (take (i + 1) places)
set_more flags places i low fits h p =
    let step : take (i + 1) places ≡ take i places ++ get_or places i 0 ∷ [] = take_more places i 0 low in (
      λ s. subst (λ (l : List ℕ). In p l) (sym step) (elim (IsSet-set flags (get_or places i 0) p fits s) [
        | inl e ↦ In-right p (take i places) (get_or places i 0 ∷ []) (inl e)
        | inr t ↦ In-left p (take i places) (get_or places i 0 ∷ []) ((h p).0 t)
      ]),
      λ k. set-IsSet flags (get_or places i 0) p fits
          (elim (In-cases p (take i places) (get_or places i 0 ∷ []) (subst (λ (l : List ℕ). In p l) step k)) [
            | inl j ↦ inr ((h p).1 j)
            | inr j ↦ elim j [ inl e ↦ inl e | inr none ↦ absurd none ]
          ]),
    )

-- what each of the first has, and the next one, the first and it have
pub Every-next : (P : ℕ → Type 0) (places : List ℕ) (i : ℕ) → i < length places → Every P (take i places)
    → P (get_or places i 0) → Every P (take (i + 1) places)
Every-next P places i low a b = subst (Every P) (sym (take_more places i 0 low)) (push (take i places) a)
  where
    push : (xs : List ℕ) → Every P xs → Every P (xs ++ get_or places i 0 ∷ [])
    push [] c = (b, tt)
    push (x ∷ xs) c = (c.0, push xs c.1)

-- an item of a prefix, and the last one
pub slice_get-left : {X : Type 0} (xs ys : List X) (i : ℕ) (x : X) → slice_get xs i ≡ Some x
    → slice_get (xs ++ ys) i ≡ Some x
slice_get-left [] ys i x e = absurd (cc)
slice_get-left (y ∷ xs) ys zero x e = e
slice_get-left (y ∷ xs) ys (suc i) x e = slice_get-left xs ys i x e

pub slice_get-last : {X : Type 0} (xs : List X) (x : X) → slice_get (xs ++ x ∷ []) (length xs) ≡ Some x
slice_get-last [] x = refl
slice_get-last (y ∷ xs) x = slice_get-last xs x

-- an item that is got is the one that is there
pub same_item : {X : Type 0} (xs : List X) (i : ℕ) (x y : X) → slice_get xs i ≡ Some x → slice_get xs i ≡ Some y → x ≡ y
same_item xs i x y e f = cc
