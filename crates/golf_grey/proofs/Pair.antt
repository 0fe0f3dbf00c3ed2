-- The hands of a pool of two have the numbers 0 and 1, and two hands of different numbers are all.
-- For: `two_hands` and `end`, golf_tests_collector/src/marking/hands.rt
-- By: cases of how many hands there are; no induction
use Rattle.std.proofs.Common.{◌≡◌, ◌≢◌, ℕ, zero, suc, true, false, eqb, List, [], ◌∷◌, length, get_or, refl, sym, ap}
use Rattle.std.proofs.Common.{◌∙◌, subst, arith, ⊎_elim}
use Rattle.std.specs.Prelude.{Some, slice_get, remove}
use Rattle.std.proofs.lemmas.Option.{get_or_from_slice_get}
use Rattle.std.proofs.lemmas.Bool.Decides.{eqb_tells}
use mathlib.Core.Option.{some, some-injective, some-ne-none}
use lib.ListN.{get_elem?}
use Rattle.golf_grey.specs.declared.hand.GreyHand.{GreyHand}
use Rattle.golf_grey.specs.Hands.{Thief, AllHandsIn, FallTo0, IsHandIn}

-- the last one has the number 0, and the first one the number 1
pub pair : (thieves : List Thief) (capacity places : ℕ) (hands rest : List GreyHand) (first second : GreyHand)
    → length thieves ≡ 2 → AllHandsIn thieves capacity places hands → FallTo0 (length thieves) hands
    → slice_get hands 1 ≡ Some first → rest ≡ remove hands 1 → slice_get rest 0 ≡ Some second
    → (IsHandIn thieves capacity places first × (first.number ≡ 0))
    × (IsHandIn thieves capacity places second × (second.number ≡ 1))
pair thieves capacity places [] rest first second two all falls a r b = absurd (omega (arith, all.0, two))
pair thieves capacity places (x ∷ []) rest first second two all falls a r b = absurd (omega (arith, all.0, two))
pair thieves capacity places (x ∷ y ∷ []) rest first second two all falls a r b =
    let one : y ≡ first = get_or_from_slice_get (x ∷ y ∷ []) 1 first first a in
    let other : x ≡ second = sym (ap (λ (l : List GreyHand). get_or l 0 second) r)
    ∙ get_or_from_slice_get rest 0 second second b in (
      subst (λ (h : GreyHand). IsHandIn thieves capacity places h × (h.number ≡ 0)) one
          (all.1 1 y refl, omega (arith, two, falls 1 y refl)),
      subst (λ (h : GreyHand). IsHandIn thieves capacity places h × (h.number ≡ 1)) other
          (all.1 0 x refl, omega (arith, two, falls 0 x refl)),
    )
pair thieves capacity places (x ∷ y ∷ z ∷ more) rest first second two all falls a r b =
    absurd (omega (arith, all.0, two))

pub both : (thieves : List Thief) (capacity places : ℕ) (one other : GreyHand) → length thieves ≡ 2
    → IsHandIn thieves capacity places one → IsHandIn thieves capacity places other → one.number ≢ other.number
    → AllHandsIn thieves capacity places (one ∷ other ∷ [])
both thieves capacity places one other two a b differ = (
  sym two,
  fits,
  λ j from low. ⊎_elim
      (λ (is : (eqb one.number j ≡ true) × (one.number ≡ j)). (0, one, refl, is.1))
      (λ (no : (eqb one.number j ≡ false) × (one.number ≢ j)).
      (1, other, refl, omega (arith, a.low, b.low, differ, no.1, two, low)))
      (eqb_tells one.number j),
)
  where
    fits : (k : ℕ) (h : GreyHand) → get_elem? (one ∷ other ∷ []) k ≡ some h → IsHandIn thieves capacity places h
    fits zero h e = subst (IsHandIn thieves capacity places) (some-injective one h e) a
    fits (suc zero) h e = subst (IsHandIn thieves capacity places) (some-injective other h e) b
    fits (suc (suc k)) h e = absurd (some-ne-none h (sym e))
