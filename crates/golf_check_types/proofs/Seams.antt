-- Which rule is the first that is broken, if one part is checked and then another.
-- For: `StopsAt` and `AnswersOrFault`, specs/Faults.antt
-- By: cases of the answer; no induction
use Rattle.std.proofs.Common.{◌≡◌, ℕ, ◌-◌, List, [], ◌∷◌, ◌++◌, length, sym, ap, subst, ◌∙◌, append_assoc, arith}
use Rattle.std.proofs.Common.{length-append}
use Rattle.std.specs.Prelude.{Result, Ok, Err, slice_set}
use Rattle.std.proofs.Math.Seq.{set-append_seam}
use Rattle.golf_check_types.specs.declared.fault.TypeFault.{TypeFault}
use Rattle.golf_check_types.specs.declared.fault.TypeFault.TheVariants as answers
use Rattle.golf_check_types.specs.declared.operands.Operand.{Operand}
use Rattle.golf_check_types.specs.declared.facts.Fact.{Fact}
use Rattle.golf_check_types.specs.declared.facts.Fact.TheVariants as fact
use Rattle.golf_check_types.specs.Facts.{with_parts, part}
use Rattle.golf_check_types.specs.Faults.{Fault, IsFirst, StopsAt, AnswersOrFault}

pub none_of_both : (xs ys : List Fault) → xs ≡ [] → ys ≡ [] → xs ++ ys ≡ []
none_of_both xs ys p q = ap (λ zs. zs ++ ys) p ∙ q

first_front : (r l : ℕ) (xs ys : List Fault) → IsFirst r l xs → IsFirst r l (xs ++ ys)
first_front r l [] ys h = absurd h
first_front r l (f ∷ fs) ys h = h

-- what refuses the first part refuses both
pub refuses_front : (e : TypeFault) (xs ys : List Fault) → StopsAt e xs → StopsAt e (xs ++ ys)
refuses_front answers.Memory xs ys h = tt
refuses_front (answers.At line rule) xs ys h = first_front rule line xs ys h

-- if the first part breaks nothing, what refuses the second refuses both
pub refuses_behind : (e : TypeFault) (xs ys : List Fault) → xs ≡ [] → StopsAt e ys → StopsAt e (xs ++ ys)
refuses_behind e xs ys p h = subst (λ zs. StopsAt e (zs ++ ys)) (sym p) h

-- if the first part breaks nothing, the answer of the second tells of both
pub tells_behind : {A : Type 0} (r : Result A TypeFault) (xs ys : List Fault) (P Q : A → Type 0) → xs ≡ []
    → ((a : A) → P a → Q a) → AnswersOrFault r ys P → AnswersOrFault r (xs ++ ys) Q
tells_behind (Ok a) xs ys P Q p f h = (none_of_both xs ys p h.0, f a h.1)
tells_behind (Err e) xs ys P Q p f h = refuses_behind e xs ys p h

-- a place that was kept is filled
pub slot : {A : Type 0} (old inner new : List A) (x y : A) (at : ℕ) → at ≡ length old → new ≡ (old ++ x ∷ []) ++ inner
    → slice_set new at y ≡ old ++ y ∷ inner
slot old inner new x y at e h = ap (λ n. slice_set new n y) e
    ∙ (ap (λ xs. slice_set xs (length old) y) (h ∙ append_assoc old (x ∷ []) inner) ∙ set-append_seam old x inner y)

-- A place that was kept is filled with a fact that counts those after it.

after_place : (old inner new : List Fact) (x : Fact) (at : ℕ) → at ≡ length old → new ≡ (old ++ x ∷ []) ++ inner
    → length new - at - 1 ≡ length inner
after_place old inner new x at e h =
    let a = ap length h in
    let b = length-append (old ++ x ∷ []) inner in
    let c = length-append old (x ∷ []) in
    omega (arith, a, b, c, e)

-- by a fact of any kind that has a number
filled : (count : ℕ → Fact) (old inner new : List Fact) (x : Fact) (at n : ℕ) → at ≡ length old → new ≡ (old ++ x ∷ [])
    ++ inner → n ≡ length new - at - 1 → slice_set new at (count n) ≡ old ++ count (length inner) ∷ inner
filled count old inner new x at n e h i = slot old inner new x (count n) at e h
    ∙ ap (λ k. old ++ count k ∷ inner) (i ∙ after_place old inner new x at e h)

pub expression_filled : {m k : Operand} (old inner new : List Fact) (x : Fact) (at n : ℕ) → at ≡ length old
    → new ≡ (old ++ x ∷ []) ++ inner → k ≡ m → n ≡ length new - at - 1
    → slice_set new at (fact.Expression k n) ≡ old ++ with_parts m inner
expression_filled {k = k} old inner new x at n e h i j = filled (fact.Expression k) old inner new x at n e h j
    ∙ ap (λ z. old ++ fact.Expression z (length inner) ∷ inner) i

pub part_filled : (old inner new : List Fact) (x : Fact) (at n : ℕ) → at ≡ length old → new ≡ (old ++ x ∷ []) ++ inner
    → n ≡ length new - at - 1 → slice_set new at (fact.Part n) ≡ old ++ part inner
part_filled old inner new x at n e h j = filled fact.Part old inner new x at n e h j

pub function_filled : (old inner new : List Fact) (x : Fact) (a s at n : ℕ) → at ≡ length old → new ≡ (old ++ x ∷ [])
    ++ inner → n ≡ length new - at - 1
    → slice_set new at (fact.Function a s n) ≡ old ++ fact.Function a s (length inner) ∷ inner
function_filled old inner new x a s at n e h j = filled (fact.Function a s) old inner new x at n e h j
