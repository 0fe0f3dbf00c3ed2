-- The computed least set is closed under its rule, each member follows from those after it, and it is what is derived.
-- For: `least`, specs/Least.antt; `least_law`, src/lib.rt
-- By: induction over the members that are computed, and over n, the rounds that are left
use Rattle.std.proofs.Common.{◌≡◌, ℕ, zero, suc, ◌≤◌, Bool, true, false, cond, List, [], ◌∷◌, length, Option, Some}
use Rattle.std.proofs.Common.{None, ◌⊎◌, inl, inr, refl, sym, ap, ◌∙◌, subst, arith}
use Rattle.golf_theory.specs.Membership.{In}
use Rattle.golf_theory.specs.Least.{pick, with_rest, next_of, grown, least}
use Rattle.golf_theory.specs.Derivation.{IsDerivation, Derived}
use Rattle.golf_theory.proofs.Derivations.{Derived-all, Derived-in, Derived-wider}

module _ {X : Type 0} where
  -- what a pick says
  abbrev Picked : (X → Bool) → List X → Option (X × List X) → Type 0
  Picked test xs None = (x : X) → In x xs → test x ≡ false
  Picked test xs (Some p) = (test p.0 ≡ true) × (length xs ≡ suc (length p.1))
      × ((x : X) → In x xs → (x ≡ p.0) ⊎ In x p.1) × In p.0 xs × ((x : X) → In x p.1 → In x xs)

  picked_more : (test : X → Bool) (x : X) (xs : List X) → test x ≡ false → (m : Option (X × List X)) → Picked test xs m
      → Picked test (x ∷ xs) (with_rest x m)
  picked_more test x xs f None h = λ y i. elim i [ inl e ↦ ap test e ∙ f | inr a ↦ h y a ]
  picked_more test x xs f (Some p) h = (
    h.0,
    ap suc h.1,
    λ y i. elim i [
      | inl e ↦ inr (inl e)
      | inr a ↦
          elim (h.2 y a) [ inl e ↦ inl e | inr b ↦ inr (inr b) ]
    ],
    inr h.3,
    λ y i. elim i [ inl e ↦ inl e | inr a ↦ inr (h.4 y a) ],
  )

  picked : (test : X → Bool) (xs : List X) → Picked test xs (pick test xs)
  picked test [] = λ x i. absurd i
  picked test (x ∷ xs) =
      elim (test x) as (λ b. test x ≡ b → Picked test (x ∷ xs) (cond b (Some (x, xs)) (with_rest x (pick test xs)))) [
        | true ↦ λ t. (t, refl, λ y i. i, inl refl, λ y i. inr i)
        | false ↦ λ t. picked_more test x xs t (pick test xs) (picked test xs)
      ] refl

  module _ (rule : List X → X → Bool) where
    -- the rule as a relation
    abbrev pub Gives : List X → X → Type 0
    Gives xs x = rule xs x ≡ true

    -- a rule that more members never make false
    abbrev pub Monotone : Type 0
    Monotone = (xs ys : List X) (x : X) → ((y : X) → In y xs → In y ys) → rule xs x ≡ true → rule ys x ≡ true

    -- what the rule gives from candidates is a candidate
    abbrev pub Covers : List X → Type 0
    Covers candidates = (xs : List X) (x : X) → ((y : X) → In y xs → In y candidates) → rule xs x ≡ true
        → In x candidates

    kept_of : (n : ℕ) (got : List X) (m : Option (X × List X))
        → ((got left : List X) (x : X) → In x got → In x (grown rule n got left)) → (x : X) → In x got
        → In x (next_of (grown rule n) got m)
    kept_of n got None ih x i = i
    kept_of n got (Some p) ih x i = ih (p.0 ∷ got) p.1 x (inr i)

    kept : (n : ℕ) (got left : List X) (x : X) → In x got → In x (grown rule n got left)
    kept zero got left x i = i
    kept (suc n) got left x i = kept_of n got (pick (rule got) left) (kept n) x i

    abbrev ClosedAmong : List X → List X → Type 0
    ClosedAmong left got = (x : X) → In x left → rule got x ≡ true → In x got

    closed_of : (n : ℕ) (got left : List X) → length left ≤ suc n → (m : Option (X × List X)) → Picked (rule got) left m
        → ((got left : List X) → length left ≤ n → ClosedAmong left (grown rule n got left))
        → ClosedAmong left (next_of (grown rule n) got m)
    closed_of n got left l None p ih x i t = cc (p x i)
    closed_of n got left l (Some q) p ih x i t = elim (p.2 x i) [
      | inl e ↦ subst (λ z. In z (grown rule n (q.0 ∷ got) q.1)) (sym e) (kept n (q.0 ∷ got) q.1 q.0 (inl refl))
      | inr a ↦ let e = p.1 in ih (q.0 ∷ got) q.1 (omega arith) x a t
    ]

    none_left : (left : List X) → length left ≤ 0 → (x : X) → In x left → ⊥
    none_left [] l x i = i
    none_left (y ∷ ys) l x i = omega arith

    closed_among : (n : ℕ) (got left : List X) → length left ≤ n → ClosedAmong left (grown rule n got left)
    closed_among zero got left l = λ x i t. absurd (none_left left l x i)
    closed_among (suc n) got left l = closed_of n got left l (pick (rule got) left) (picked (rule got) left)
        (closed_among n)

    -- a candidate that the rule gives from the set is in it
    pub least_closed : (candidates : List X) (x : X) → In x candidates → rule (least rule candidates) x ≡ true
        → In x (least rule candidates)
    least_closed candidates = closed_among (length candidates) [] candidates (omega arith)

    -- each by the ones after it
    abbrev pub InTurn : List X → List X → Type 0
    InTurn candidates [] = Unit {0}
    InTurn candidates (x ∷ xs) = (rule xs x ≡ true) × In x candidates × InTurn candidates xs

    in_turn_of : (candidates : List X) (n : ℕ) (got left : List X) → ((x : X) → In x left → In x candidates)
        → InTurn candidates got → (m : Option (X × List X)) → Picked (rule got) left m
        → ((got left : List X) → ((x : X) → In x left → In x candidates) → InTurn candidates got
        → InTurn candidates (grown rule n got left)) → InTurn candidates (next_of (grown rule n) got m)
    in_turn_of candidates n got left f h None p ih = h
    in_turn_of candidates n got left f h (Some q) p ih = ih (q.0 ∷ got) q.1 (λ x i. f x (p.4 x i)) (p.0, f q.0 p.3, h)

    in_turn : (candidates : List X) (n : ℕ) (got left : List X) → ((x : X) → In x left → In x candidates)
        → InTurn candidates got → InTurn candidates (grown rule n got left)
    in_turn candidates zero got left f h = h
    in_turn candidates (suc n) got left f h =
        in_turn_of candidates n got left f h (pick (rule got) left) (picked (rule got) left) (in_turn candidates n)

    pub least_in_turn : (candidates : List X) → InTurn candidates (least rule candidates)
    least_in_turn candidates = in_turn candidates (length candidates) [] candidates (λ x i. i) tt

    -- what every member has: it holds of a member that the rule gives from members that have it
    pub by_turns : (candidates : List X) (P : X → Type 0)
        → ((xs : List X) (x : X) → ((y : X) → In y xs → P y) → rule xs x ≡ true → In x candidates → P x) → (xs : List X)
        → InTurn candidates xs → (x : X) → In x xs → P x
    by_turns candidates P f [] h x i = absurd i
    by_turns candidates P f (y ∷ ys) h x (inl e) = subst P (sym e) (f ys y (by_turns candidates P f ys h.2) h.0 h.1)
    by_turns candidates P f (y ∷ ys) h x (inr i) = by_turns candidates P f ys h.2 x i

    pub least_all : (candidates : List X) (P : X → Type 0)
        → ((xs : List X) (x : X) → ((y : X) → In y xs → P y) → rule xs x ≡ true → In x candidates → P x) → (x : X)
        → In x (least rule candidates) → P x
    least_all candidates P f = by_turns candidates P f (least rule candidates) (least_in_turn candidates)

    pub least_candidates : (candidates : List X) (x : X) → In x (least rule candidates) → In x candidates
    least_candidates candidates = least_all candidates (λ x. In x candidates) (λ xs x h t i. i)

    turns_derive : (candidates xs : List X) → InTurn candidates xs → IsDerivation Gives xs
    turns_derive candidates [] h = tt
    turns_derive candidates (x ∷ xs) h = (h.0, turns_derive candidates xs h.2)

    -- the list is a derivation, so each member is derived
    pub least_derivation : (candidates : List X) → IsDerivation Gives (least rule candidates)
    least_derivation candidates = turns_derive candidates (least rule candidates) (least_in_turn candidates)

    pub Derived-least : (candidates : List X) (x : X) → In x (least rule candidates) → Derived Gives x
    Derived-least candidates x i = Derived-in Gives (least rule candidates) (least_derivation candidates) x i

    -- what is derived is a member, if the candidates cover the rule
    pub least-Derived : (candidates : List X) → Monotone → Covers candidates → (x : X) → Derived Gives x
        → In x (least rule candidates)
    least-Derived candidates more covers x d = Derived-all Gives (λ y. In y (least rule candidates))
        (λ earlier y all t. let u = more earlier (least rule candidates) y all t in least_closed candidates y
        (covers (least rule candidates) y (least_candidates candidates) u) u) x d

  -- the members are those that the relation derives which the rule decides
  module _ (rule : List X → X → Bool) (F : List X → X → Type 0)
      (sound : (xs : List X) (x : X) → rule xs x ≡ true → F xs x)
      (complete : (xs : List X) (x : X) → F xs x → rule xs x ≡ true) where
    pub decided-sound : (candidates : List X) (x : X) → In x (least rule candidates) → Derived F x
    decided-sound candidates x i = Derived-wider (Gives rule) F sound x (Derived-least rule candidates x i)

    pub decided-complete : (candidates : List X) → Monotone rule → Covers rule candidates → (x : X) → Derived F x
        → In x (least rule candidates)
    decided-complete candidates more covers x d =
        least-Derived rule candidates more covers x (Derived-wider F (Gives rule) complete x d)
