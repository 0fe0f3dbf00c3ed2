-- Marking one place after another.
-- For: `Gains`, specs/UnderWay.antt; `claim_all`, src/work.rt
-- By: cases of which list a place is in; for its index, induction over the list of places
use Rattle.std.proofs.Common.{◌≡◌, ℕ, zero, suc, ◌<◌, ◌≤◌, ◌⊎◌, inl, inr, List, [], ◌∷◌, ◌++◌, length, get_or, arith}
use Rattle.std.proofs.Common.{sym, ap, ◌∙◌, subst, append_assoc}
use Rattle.golf_theory.specs.Membership.{In}
use Rattle.golf_theory.proofs.Lists.{In-left, In-cases}
use Rattle.golf_mark.specs.UnderWay.{Working, Gains}

pub Gains-trans : (Kind : ℕ → Type 0) (a b c : Working) → Gains Kind a b → Gains Kind b c → Gains Kind a c
Gains-trans Kind a b c f g = record {
  places = g.places ∙ f.places;
  added = (
    f.added.0 ++ g.added.0,
    g.added.1 ∙ ap (λ (l : List ℕ). l ++ g.added.0) f.added.1 ∙ append_assoc a.order f.added.0 g.added.0,
    λ p h. elim (In-cases p f.added.0 g.added.0 h) [ inl i ↦ f.added.2 p i | inr i ↦ g.added.2 p i ],
  );
}

pub Gains-into : (Kind Other : ℕ → Type 0) (a b : Working) → ((p : ℕ) → Kind p → Other p) → Gains Kind a b
    → Gains Other a b
Gains-into Kind Other a b into f = record {
  places = f.places;
  added = (f.added.0, f.added.1, λ p h. into p (f.added.2 p h));
}

pub Gains-keeps : (Kind : ℕ → Type 0) (a b : Working) (p : ℕ) → Gains Kind a b → In p a.order → In p b.order
Gains-keeps Kind a b p f h = subst (λ (l : List ℕ). In p l) (sym f.added.1) (In-left p a.order f.added.0 h)

-- what is marked was marked before, or is of the kind
pub Gains-cases : (Kind : ℕ → Type 0) (a b : Working) (p : ℕ) → Gains Kind a b → In p b.order → In p a.order ⊎ Kind p
Gains-cases Kind a b p f h = elim (In-cases p a.order f.added.0 (subst (λ (l : List ℕ). In p l) f.added.1 h)) [
  | inl i ↦
      inl i
  | inr i ↦ inr (f.added.2 p i)
]

-- one more place is marked
pub Gains-one : (Kind : ℕ → Type 0) (a b : Working) (p : ℕ) → b.places ≡ a.places → b.order ≡ a.order ++ p ∷ [] → Kind p
    → Gains Kind a b
Gains-one Kind a b p places order k = record {
  places = places;
  added = (p ∷ [], order, λ q h. elim h [ inl e ↦ subst Kind (sym e) k | inr none ↦ absurd none ]);
}

-- each member has a place
pub place_of : (xs : List ℕ) (p : ℕ) → In p xs → (k : ℕ) × (k < length xs) × (get_or xs k 0 ≡ p)
place_of [] p h = absurd h
place_of (x ∷ xs) p (inl e) = (zero, omega arith, sym e)
place_of (x ∷ xs) p (inr h) = let r = place_of xs p h in (suc r.0, omega (arith, r.1), r.2)

-- what holds at each place of a list holds of each member
pub In-all : (P : ℕ → Type 0) (xs : List ℕ) (i : ℕ) → length xs ≤ i → ((k : ℕ) → k < i → P (get_or xs k 0)) → (p : ℕ)
    → In p xs → P p
In-all P xs i all f p h = let r = place_of xs p h in let low : r.0 < i = omega (arith, r.1) in subst P r.2 (f r.0 low)
