-- Tests of lists, and the facts that they decide.
-- For: `is_in`, `any_of` and `all_of`, specs/Membership.antt
-- By: induction over the list that is tested
use Rattle.std.proofs.Common.{◌≡◌, ℕ, Bool, true, false, List, [], ◌∷◌, ◌++◌, ◌==◌, ◌⊎◌, ◌||◌, inl, inr, refl, sym, ap}
use Rattle.std.proofs.Common.{◌∙◌}
use Rattle.std.proofs.lemmas.Bool.{eqb-true, eq-eqb, or_cases, or_left, or_right, false_from_ne_true, both_ways}
use Rattle.std.proofs.lemmas.Bool.{cases_Bool}
use Rattle.golf_theory.specs.Membership.{In, is_in, any_of}
use Rattle.golf_theory.proofs.Lists.{In-cases, In-left, In-right}

pub is_in-from : (x : ℕ) (xs : List ℕ) → In x xs → is_in x xs ≡ true
is_in-from x [] h = absurd h
is_in-from x (y ∷ ys) (inl e) = or_left (x == y) (is_in x ys) (eq-eqb x y e)
is_in-from x (y ∷ ys) (inr h) = or_right (x == y) (is_in x ys) (is_in-from x ys h)

pub In-from : (x : ℕ) (xs : List ℕ) → is_in x xs ≡ true → In x xs
In-from x [] h = cc
In-from x (y ∷ ys) h = elim (or_cases (x == y) (is_in x ys) h) [
  | inl e ↦ inl (eqb-true x y e)
  | inr a ↦ inr
      (In-from x ys a)
]

pub is_in-out : (x : ℕ) (xs : List ℕ) → (In x xs → ⊥) → is_in x xs ≡ false
is_in-out x xs n = false_from_ne_true (is_in x xs) (λ t. n (In-from x xs t))

pub not_in-from : (x : ℕ) (xs : List ℕ) → is_in x xs ≡ false → In x xs → ⊥
not_in-from x xs f i = both_ways (is_in x xs) f (is_in-from x xs i)

-- a number is a member or is not
pub cases_in : (x : ℕ) (xs : List ℕ) → In x xs ⊎ (In x xs → ⊥)
cases_in x xs = elim (cases_Bool (is_in x xs)) [ inl t ↦ inl (In-from x xs t) | inr f ↦ inr (not_in-from x xs f) ]

-- two tests that are true of the same are the same
pub same_test : (a b : Bool) → (a ≡ true → b ≡ true) → (b ≡ true → a ≡ true) → a ≡ b
same_test true true f g = refl
same_test true false f g = sym (f refl)
same_test false true f g = g refl
same_test false false f g = refl

pub is_in-same : (x : ℕ) (xs ys : List ℕ) → (In x xs → In x ys) → (In x ys → In x xs) → is_in x xs ≡ is_in x ys
is_in-same x xs ys f g = same_test (is_in x xs) (is_in x ys) (λ t. is_in-from x ys (f (In-from x xs t)))
    (λ t. is_in-from x xs (g (In-from x ys t)))

pub is_in-append : (x : ℕ) (xs ys : List ℕ) → is_in x (xs ++ ys) ≡ (is_in x xs || is_in x ys)
is_in-append x xs ys = same_test (is_in x (xs ++ ys)) (is_in x xs || is_in x ys)
    (λ t. elim (In-cases x xs ys (In-from x (xs ++ ys) t)) [
      | inl a ↦ or_left (is_in x xs) _
          (is_in-from x xs a)
      | inr a ↦ or_right (is_in x xs) _ (is_in-from x ys a)
    ])
    (λ t. is_in-from x (xs ++ ys) (elim (or_cases (is_in x xs) (is_in x ys) t) [
      | inl a ↦ In-left x xs ys
          (In-from x xs a)
      | inr a ↦ In-right x xs ys (In-from x ys a)
    ]))

module _ {X : Type 0} (test : X → Bool) where
  pub any_of-from : (xs : List X) (x : X) → In x xs → test x ≡ true → any_of test xs ≡ true
  any_of-from [] x h t = absurd h
  any_of-from (y ∷ ys) x (inl e) t = or_left (test y) (any_of test ys) (ap test (sym e) ∙ t)
  any_of-from (y ∷ ys) x (inr h) t = or_right (test y) (any_of test ys) (any_of-from ys x h t)

  pub from_any_of : (xs : List X) → any_of test xs ≡ true → (x : X) × In x xs × (test x ≡ true)
  from_any_of [] h = cc
  from_any_of (y ∷ ys) h = elim (or_cases (test y) (any_of test ys) h) [
    | inl t ↦ (y, inl refl, t)
    | inr a ↦ let r = from_any_of ys a in (r.0, inr r.1, r.2)
  ]
