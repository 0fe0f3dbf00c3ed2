-- What is derived is closed under the rule, has each property that the rule keeps, and grows with the rule.
-- For: `Derived`, specs/Derivation.antt; `Reached`, specs/Reached.antt
-- By: induction over the derivation, a list in which each entry follows from those after it
use Rattle.std.proofs.Common.{List, [], ◌∷◌, ◌++◌, inl, inr, refl, sym, subst}
use Rattle.golf_theory.specs.Membership.{In, Every}
use Rattle.golf_theory.specs.Derivation.{IsDerivation, Derived}
use Rattle.golf_theory.specs.Reached.{Follows, Reached}
use Rattle.golf_theory.proofs.Lists.{In-left, In-right}

module _ {A : Type 0} (Follows : List A → A → Type 0) where
  -- what the rule keeps holds of each entry
  pub all_derived : (S : A → Type 0) → ((earlier : List A) (x : A) → ((y : A) → In y earlier → S y) → Follows earlier x
      → S x) → (xs : List A) → IsDerivation Follows xs → (y : A) → In y xs → S y
  all_derived S keeps [] d y h = absurd h
  all_derived S keeps (x ∷ xs) d y (inl e) = subst S (sym e) (keeps xs x (all_derived S keeps xs d.1) d.0)
  all_derived S keeps (x ∷ xs) d y (inr h) = all_derived S keeps xs d.1 y h

  -- induction over what is derived
  pub Derived-all : (S : A → Type 0) → ((earlier : List A) (x : A) → ((y : A) → In y earlier → S y) → Follows earlier x
      → S x) → (x : A) → Derived Follows x → S x
  Derived-all S keeps x d = all_derived S keeps (x ∷ d.0) d.1 x (inl refl)

  -- each entry of a derivation is derived
  pub Derived-in : (xs : List A) → IsDerivation Follows xs → (y : A) → In y xs → Derived Follows y
  Derived-in [] d y h = absurd h
  Derived-in (x ∷ xs) d y (inl e) = subst (Derived Follows) (sym e) (xs, d)
  Derived-in (x ∷ xs) d y (inr h) = Derived-in xs d.1 y h

  -- a rule that asks for members of the earlier list alone, and so holds of each list that has them
  abbrev pub Grows : Type 0
  Grows = (xs ys : List A) (x : A) → ((y : A) → In y xs → In y ys) → Follows xs x → Follows ys x

  -- two derivations, one after the other
  pub joined : Grows → (xs ys : List A) → IsDerivation Follows xs → IsDerivation Follows ys
      → IsDerivation Follows (xs ++ ys)
  joined grows [] ys d e = e
  joined grows (x ∷ xs) ys d e = (grows xs (xs ++ ys) x (λ y h. In-left y xs ys h) d.0, joined grows xs ys d.1 e)

  -- one list that has each of them derived
  pub gathered : Grows → (xs : List A) → Every (Derived Follows) xs → (ys : List A) × IsDerivation Follows ys
      × ((y : A) → In y xs → In y ys)
  gathered grows [] a = ([], tt, λ y h. h)
  gathered grows (x ∷ xs) a =
      let r = gathered grows xs a.1 in (
        (x ∷ a.0.0) ++ r.0,
        joined grows (x ∷ a.0.0) r.0 a.0.1 r.1,
        λ y h. elim h [ inl e ↦ inl e | inr i ↦ In-right y (x ∷ a.0.0) r.0 (r.2 y i) ],
      )

  -- what follows from derived ones is derived
  pub Derived-closed : Grows → (xs : List A) (x : A) → Every (Derived Follows) xs → Follows xs x → Derived Follows x
  Derived-closed grows xs x a f = let r = gathered grows xs a in (r.0, (grows xs r.0 x r.2 f, r.1))

-- a wider rule derives more
module _ {A : Type 0} (F G : List A → A → Type 0) (wider : (earlier : List A) (x : A) → F earlier x → G earlier x) where
  pub derivation_wider : (xs : List A) → IsDerivation F xs → IsDerivation G xs
  derivation_wider [] d = tt
  derivation_wider (x ∷ xs) d = (wider xs x d.0, derivation_wider xs d.1)

  pub Derived-wider : (x : A) → Derived F x → Derived G x
  Derived-wider x d = (d.0, derivation_wider (x ∷ d.0) d.1)

-- what is reached from roots by steps
module _ {A : Type 0} (Root : A → Type 0) (Leads : A → A → Type 0) where
  pub Reached-root : (x : A) → Root x → Reached Root Leads x
  Reached-root x r = ([], (inl r, tt))

  pub Reached-step : (q x : A) → Reached Root Leads q → Leads q x → Reached Root Leads x
  Reached-step q x d l = (q ∷ d.0, (inr (q, inl refl, l), d.1))

  -- it is in each set that has the roots and is closed under the steps
  pub Reached-least : (S : A → Type 0) → ((x : A) → Root x → S x) → ((q x : A) → S q → Leads q x → S x) → (x : A)
      → Reached Root Leads x → S x
  Reached-least S roots closed x d = Derived-all (Follows Root Leads) S
      (λ earlier y all h. elim h [ inl r ↦ roots y r | inr t ↦ closed t.0 y (all t.0 t.1) t.2 ]) x d

  pub Follows-grows : (xs ys : List A) (x : A) → ((y : A) → In y xs → In y ys) → Follows Root Leads xs x
      → Follows Root Leads ys x
  Follows-grows xs ys x more h = elim h [ inl r ↦ inl r | inr t ↦ inr (t.0, more t.0 t.1, t.2) ]

-- a map of places that carries roots and steps over carries what is reached over
module _ {A B : Type 0} (Root : A → Type 0) (Leads : A → A → Type 0) (Root' : B → Type 0) (Leads' : B → B → Type 0)
    (f : A → B) where
  pub Reached-over : ((x : A) → Root x → Root' (f x)) → ((q x : A) → Leads q x → Leads' (f q) (f x)) → (x : A)
      → Reached Root Leads x → Reached Root' Leads' (f x)
  Reached-over roots steps x d = Reached-least Root Leads (λ y. Reached Root' Leads' (f y))
      (λ y r. Reached-root Root' Leads' (f y) (roots y r))
      (λ q y h l. Reached-step Root' Leads' (f q) (f y) h (steps q y l)) x d
