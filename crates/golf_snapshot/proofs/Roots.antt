-- The references of the goroutines that are live at once.
-- For: `awake_refs` and `sleeping`, golf_snapshot/specs/Parts.antt.
-- By: induction over the list of goroutines.
use Rattle.std.proofs.Common.{◌≡◌, ℕ, Bool, true, false, not, List, [], ◌∷◌, Some, inl, inr, refl, sym, subst}
use Rattle.std.proofs.Common.{slice_get}
use Rattle.std.proofs.lemmas.Bool.{not-true}
use Rattle.golf_theory.specs.Membership.{In}
use Rattle.golf_theory.specs.Maps.{Entry}
use Rattle.golf_theory.proofs.Lists.{In-left, In-right, In-cases, In-filter, In-filter_old}
use Rattle.golf_model.specs.Views.{GoroutineView}
use Rattle.golf_model.specs.State.{State}
use Rattle.golf_model.specs.Refs.{goroutine_refs, refs_if}
use Rattle.golf_snapshot.specs.Parts.{is_awake, awake_refs, sleeping}
use Rattle.golf_snapshot.proofs.Ranking.{Entry-In, In-Entry, In-place}

-- whose reference it is
abbrev pub OfAwake : List (ℕ × GoroutineView) → ℕ → Type 0
OfAwake es o = (g : ℕ) × (r : GoroutineView) × Entry es g r × (is_awake g r ≡ true) × In o (goroutine_refs r)

awake-one : (b : Bool) (xs : List ℕ) (o : ℕ) → In o (refs_if b xs) → (b ≡ true) × In o xs
awake-one true xs o h = (refl, h)
awake-one false xs o h = absurd h

one-awake : (b : Bool) (xs : List ℕ) (o : ℕ) → b ≡ true → In o xs → In o (refs_if b xs)
one-awake true xs o e h = h
one-awake false xs o e h = cc

pub awake-sound : (es : List (ℕ × GoroutineView)) (o : ℕ) → In o (awake_refs es) → OfAwake es o
awake-sound [] o h = absurd h
awake-sound (e ∷ es) o h = elim (In-cases o (refs_if (is_awake e.0 e.1) (goroutine_refs e.1)) (awake_refs es) h) [
  | inl i ↦ (let a = awake-one (is_awake e.0 e.1) (goroutine_refs e.1) o i in (e.0, e.1, inl (refl, refl), a.0, a.1))
  | inr i ↦ (let a = awake-sound es o i in (a.0, a.1, inr a.2, a.3, a.4))
]

pub awake-complete : (es : List (ℕ × GoroutineView)) (o g : ℕ) (r : GoroutineView) → Entry es g r → is_awake g r ≡ true
    → In o (goroutine_refs r) → In o (awake_refs es)
awake-complete [] o g r h a i = absurd h
awake-complete (e ∷ es) o g r (inl h) a i =
    In-left o (refs_if (is_awake e.0 e.1) (goroutine_refs e.1)) (awake_refs es)
    (one-awake (is_awake e.0 e.1) (goroutine_refs e.1) o
    (subst (λ (q : GoroutineView). is_awake e.0 q ≡ true) h.1 (subst (λ k. is_awake k r ≡ true) h.0 a))
    (subst (λ (q : GoroutineView). In o (goroutine_refs q)) h.1 i))
awake-complete (e ∷ es) o g r (inr h) a i =
    In-right o (refs_if (is_awake e.0 e.1) (goroutine_refs e.1)) (awake_refs es) (awake-complete es o g r h a i)

-- who is not live at once sleeps, and who sleeps is not
pub asleep-place : (s : State) (g : ℕ) (r : GoroutineView) → Entry s.goroutines g r → is_awake g r ≡ false → (j : ℕ)
    × (slice_get (sleeping s) j ≡ Some (g, r))
asleep-place s g r h a =
    let t : not (is_awake g r) ≡ true = subst (λ b. not b ≡ true) (sym a) refl in
    In-place (sleeping s) (g, r) (In-filter_old (λ (e : ℕ × GoroutineView). not (is_awake e.0 e.1))
    (g, r) s.goroutines t (In-Entry s.goroutines g r h))

pub sleeping-entry : (s : State) (e : ℕ × GoroutineView) → In e (sleeping s) → Entry s.goroutines e.0 e.1
    × (is_awake e.0 e.1 ≡ false)
sleeping-entry s e h =
    let a = In-filter (λ (d : ℕ × GoroutineView). not (is_awake d.0 d.1)) e s.goroutines
    h in (Entry-In s.goroutines e a.0, not-true (is_awake e.0 e.1) a.1)
