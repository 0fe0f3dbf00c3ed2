-- What is computed is what the paths say.
-- For: `is_needed`, specs/Live.antt; `Needed`, specs/Paths.antt
-- By: induction over the path from an instruction to a read of the slot
use Rattle.std.proofs.Common.{◌≡◌, ℕ, zero, suc, ◌<◌, ◌==◌, Bool, true, false, not, List, length, Option, Some, None}
use Rattle.std.proofs.Common.{inl, inr, refl, sym, ap, ◌∙◌, arith, slice_get}
use Rattle.std.proofs.lemmas.Bool.{eqb-true, eq-eqb, or_cases, or_left, or_right, and_parts, and_from}
use Rattle.std.proofs.lemmas.Bool.{false_from_ne_true, not_from_false, cases_lt}
use Rattle.std.proofs.lemmas.Option.{slice_get_within}
use Rattle.golf_theory.specs.Membership.{In, is_in, any_of}
use Rattle.golf_theory.proofs.Tests.{is_in-from, In-from, any_of-from, from_any_of}
use Rattle.golf_theory.proofs.LeastLaws.{least_closed, least_all}
use Rattle.golf_data.specs.declared.code.Instr.{Instr}
use Rattle.golf_data.specs.declared.code.CodeLine.{CodeLine}
use Rattle.golf_live.specs.Paths.{successors, Needed}
use Rattle.golf_live.specs.Live.{loads, stores, wants, line_wants, positions, needed, is_needed}

loads-is : (slot : ℕ) (i : Instr) → loads slot i ≡ true → i ≡ Instr.Load slot
loads-is slot (Instr.Load j) e = ap Instr.Load (sym (eqb-true slot j e))
loads-is slot _ e = cc

not-true : (b : Bool) → not b ≡ true → b ≡ true → ⊥
not-true true e f = cc
not-true false e f = cc

stores-not : (slot : ℕ) (i : Instr) → not (stores slot i) ≡ true → i ≡ Instr.Store slot → ⊥
stores-not slot i n e = not-true (stores slot i) n (ap (stores slot) e ∙ eq-eqb slot slot refl)

not-stores : (slot : ℕ) (i : Instr) → (i ≡ Instr.Store slot → ⊥) → not (stores slot i) ≡ true
not-stores slot (Instr.Store j) n = not_from_false (slot == j)
    (false_from_ne_true (slot == j) (λ t. n (ap Instr.Store (sym (eqb-true slot j t)))))
not-stores slot _ n = refl

-- if what comes next satisfies a test that tells the needed
pub wants-needed : (body : List CodeLine) (slot k : ℕ) (l : CodeLine) (test : ℕ → Bool) → slice_get body k ≡ Some l
    → ((j : ℕ) → test j ≡ true → Needed body slot j) → wants slot test k l.instr ≡ true → Needed body slot k
wants-needed body slot k l test e h w = elim (or_cases (loads slot l.instr) _ w) [
  | inl t ↦ Needed.Read k l e (loads-is slot l.instr t)
  | inr t ↦ (let p = and_parts (not (stores slot l.instr)) (any_of test (successors l.instr k)) t in
      let j = from_any_of test (successors l.instr k) p.1 in
      Needed.Later k j.0 l e (stores-not slot l.instr p.0) j.1 (h j.0 j.2))
]

pub wants-read : (slot k : ℕ) (l : CodeLine) (test : ℕ → Bool) → l.instr ≡ Instr.Load slot
    → wants slot test k l.instr ≡ true
wants-read slot k l test r = or_left (loads slot l.instr) _ (ap (loads slot) r ∙ eq-eqb slot slot refl)

pub wants-later : (slot k j : ℕ) (l : CodeLine) (test : ℕ → Bool) → (l.instr ≡ Instr.Store slot → ⊥)
    → In j (successors l.instr k) → test j ≡ true → wants slot test k l.instr ≡ true
wants-later slot k j l test n i t = or_right (loads slot l.instr) _
    (and_from (not (stores slot l.instr)) _ (not-stores slot l.instr n) (any_of-from test (successors l.instr k) j i t))

positions-in : (n k : ℕ) → k < n → In k (positions n)
positions-in zero k l = absurd (omega (arith, l))
positions-in (suc n) k l = elim (cases_lt k n) [
  | inl less ↦ inr (positions-in n k less)
  | inr more ↦ inl
      (let e : k ≡ n = omega (arith, l, more) in e)
]

module _ (body : List CodeLine) (slot : ℕ) where
  abbrev rule : List ℕ → ℕ → Bool
  rule got k = line_wants slot (λ j. is_in j got) k (slice_get body k)

  line-sound : (xs : List ℕ) (k : ℕ) (m : Option CodeLine) → slice_get body k ≡ m
      → ((j : ℕ) → In j xs → Needed body slot j) → line_wants slot (λ j. is_in j xs) k m ≡ true → Needed body slot k
  line-sound xs k None e h w = cc
  line-sound xs k (Some l) e h w = wants-needed body slot k l (λ j. is_in j xs) e (λ j t. h j (In-from j xs t)) w

  pub needed-sound : (k : ℕ) → In k (needed body slot) → Needed body slot k
  unfolding needed
  needed-sound k i = least_all rule (positions (length body)) (Needed body slot)
      (λ xs x h t m. line-sound xs x (slice_get body x) refl h t) k i

  closed : (k : ℕ) (l : CodeLine) → slice_get body k ≡ Some l
      → wants slot (λ j. is_in j (needed body slot)) k l.instr ≡ true → In k (needed body slot)
  unfolding needed
  closed k l e w = least_closed rule (positions (length body)) k
      (positions-in (length body) k (slice_get_within body k l e))
      (ap (line_wants slot (λ j. is_in j (needed body slot)) k) e ∙ w)

  pub needed-complete : (k : ℕ) → Needed body slot k → In k (needed body slot)
  needed-complete _ (Needed.Read k l e r) = closed k l e (wants-read slot k l (λ j. is_in j (needed body slot)) r)
  needed-complete _ (Needed.Later k j l e n i h) =
      closed k l e (wants-later slot k j l (λ m. is_in m (needed body slot)) n i
      (is_in-from j (needed body slot) (needed-complete j h)))

  pub is_needed-sound : (k : ℕ) → is_needed body k slot ≡ true → Needed body slot k
  is_needed-sound k t = needed-sound k (In-from k (needed body slot) t)

  pub is_needed-complete : (k : ℕ) → Needed body slot k → is_needed body k slot ≡ true
  is_needed-complete k n = is_in-from k (needed body slot) (needed-complete k n)
