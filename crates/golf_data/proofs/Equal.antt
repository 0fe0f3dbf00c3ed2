-- What derived equality says.
-- For: `same_lines`, src/equality.rt
-- By: induction over the variants of an enum
use Rattle.std.proofs.Common.{◌≡◌, ℕ, Bool, true, false, ◌&&◌, suc, ◌+◌, ◌<◌, ◌≤◌, List, [], ◌∷◌, length, drop, get_or}
use Rattle.std.proofs.Common.{drop-cons, cond, inl, inr, sym, refl, ap, subst, ◌∙◌, arith, rules, nat_eq}
use Rattle.std.proofs.Math.ListN.{drop_of_length-le}
use Rattle.std.specs.Bool.{Decides}
use Rattle.std.specs.Option.{option_eq}
use Rattle.std.specs.Cmp.{unsigned_Decides, signed_Decides, booleans_Decides}
use Rattle.std.specs.Cmp.Lexicographic.{pointwise, pointwise_decides}
use Rattle.std.proofs.lemmas.Bool.Decides.{Decides-like, Decides-and}
use Rattle.std.proofs.lemmas.Slice.Eq.{slice_eq-Decides}
use denote.Struct.Field.{Field}
use denote.Enum.Declared.{Record, Choice, left_or, right_or, values_one}
use denote.Enum.Compared.{Each, by}
use Rattle.golf_data.specs.declared.code.Instr.{Instr}
use Rattle.golf_data.specs.declared.code.CodeLine.{CodeLine}
use Rattle.golf_data.specs.contracts.code.Instr.{enum}
use Rattle.golf_data.specs.contracts.code.InstrPartialEq.TheImpl as instrs
use Rattle.golf_data.specs.contracts.code.CodeLinePartialEq.TheImpl as lines
use Rattle.golf_data.specs.contracts.code.SelectCasePartialEq.TheImpl as cases
use Rattle.golf_data.specs.contracts.value.ValuePartialEq.TheImpl as values

-- a test that decides whether two values are equal
record IsTest {A : Type 0} (E : A → A → Bool) : Type 0 where
  pub it : (x y : A) → Decides (E x y) (x ≡ y)

-- the fields of a variant: one, or two
one : {A : Type 0} {E : A → A → Bool} → ((x y : A) → Decides (E x y) (x ≡ y))
    → IsTest (λ (x y : A × Unit {0}). E x.0 y.0)
one d = record { it = λ x y. Decides-like _ (λ e. ap (λ z. (z, tt)) e) (λ e. ap (λ z. z.0) e) (d x.0 y.0) }

two : {A B : Type 0} {E : A → A → Bool} {F : B → B → Bool} → ((x y : A) → Decides (E x y) (x ≡ y))
    → ((x y : B) → Decides (F x y) (x ≡ y)) → IsTest (λ (x y : A × (B × Unit {0})). E x.0 y.0 && F x.1.0 y.1.0)
two d f = record {
  it = λ x y. Decides-like _ (λ h. rw (h.0, h.1)) (λ e. (ap (λ z. z.0) e, ap (λ z. z.1.0) e))
      (Decides-and _ _ (d x.0 y.0) (f x.1.0 y.1.0));
}

-- The test of each variant decides whether its fields are equal. Without fields it is true.
abbrev AreTests : (Fss : List (List Field)) → Each Bool Fss → Type 0
AreTests [] es = Unit {0}
AreTests ([] ∷ Fss) es = cond (es.0 tt tt) (AreTests Fss es.1) ⊥
AreTests ((F ∷ Fs) ∷ Fss) es = IsTest es.0 × AreTests Fss es.1

split : (Fs : List Field) (Fss : List (List Field)) (es : Each Bool (Fs ∷ Fss)) → AreTests (Fs ∷ Fss) es
    → IsTest es.0 × AreTests Fss es.1
split [] Fss es all = let h = holds (es.0 tt tt) all in (record { it = λ x y. (λ t. refl, λ e. h.0) }, h.1)
  where
    holds : {P : Type 0} (b : Bool) → cond b P ⊥ → (b ≡ true) × P
    holds true p = (refl, p)
    holds false p = absurd p
split (F ∷ Fs) Fss es all = all

variants_decide : (Fss : List (List Field)) (es : Each Bool Fss) → AreTests Fss es → (c d : Choice Fss)
    → Decides (by false false Fss es c d) (c ≡ d)
variants_decide [] es all c d = absurd c
variants_decide (Fs ∷ Fss) es all (inl x) (inl y) =
    Decides-like _ (λ e. ap inl e) (λ e. ap (left_or x) e) ((split Fs Fss es all).0.it x y)
variants_decide (Fs ∷ Fss) es all (inl x) (inr y) = (λ t. cc, λ e. cc)
variants_decide (Fs ∷ Fss) es all (inr x) (inl y) = (λ t. cc, λ e. cc)
variants_decide (Fs ∷ Fss) es all (inr x) (inr y) =
    Decides-like _ (λ e. ap inr e) (λ e. ap (right_or x) e) (variants_decide Fss es.1 (split Fs Fss es all).1 x y)

enum_decides : (N : Record) (es : Each Bool N.parts) → AreTests N.parts es → (x y : N.D)
    → Decides (by false false N.parts es (N.as_values x) (N.as_values y)) (x ≡ y)
enum_decides N es all x y =
    Decides-like _ (values_one N x y) (λ e. ap N.as_values e)
    (variants_decide N.parts es all (N.as_values x) (N.as_values y))

instr_decides : (i j : Instr) → Decides (instrs.eq-value.it i j) (i ≡ j)
instr_decides =
    let int = one signed_Decides in
    let bool = one booleans_Decides in
    let number = one unsigned_Decides in
    let value = one {E = values.eq-value.it} (λ x y. search rules) in
    let numbers = two unsigned_Decides unsigned_Decides in
    let choice = two {F = option_eq nat_eq} (pointwise_decides {E = cases.eq-value.it} (λ x y. search rules))
    (λ x y. search rules) in
    enum_decides enum _ (search (int, bool, number, value, numbers, choice) depth 40)

line_decides : (x y : CodeLine) → Decides (lines.eq-value.it x y) (x ≡ y)
line_decides x y = Decides-like _ (λ h. rw (h.0, h.1)) (λ e. (ap (λ z. z.instr) e, ap (λ z. z.line) e))
    (Decides-and _ _ (instr_decides x.instr y.instr) (unsigned_Decides x.line y.line))

pub lines_decide : (xs ys : List CodeLine) (r : Bool) → r ≡ pointwise lines.eq-value.it xs ys → Decides r (xs ≡ ys)
lines_decide = slice_eq-Decides line_decides

-- what was read of two lists at one place is equal
pub record EqualAt {A : Type 0} (xs ys : List A) (n : ℕ) : Type 0 where
  pub left : A
  pub right : A
  pub within_left : n < length xs
  pub within_right : n < length ys
  pub left_is : left ≡ get_or xs n left
  pub right_is : right ≡ get_or ys n right
  pub equal : left ≡ right

-- two lists that have the same items at the first places, and one place more
pub same-so-far : {A : Type 0} (xs ys : List A) (n : ℕ) → EqualAt xs ys n → (drop n xs ≡ drop n ys → xs ≡ ys)
    → drop (n + 1) xs ≡ drop (n + 1) ys → xs ≡ ys
same-so-far xs ys n here before rest =
    let next : n + 1 ≡ suc n = omega arith in
    let after = rw next at rest in
    let x = drop-cons xs n here.left here.within_left in
    let y = drop-cons ys n here.right here.within_right in
    before cc

pub same-to-end : {A : Type 0} (xs ys : List A) (n : ℕ) → length xs ≡ length ys → length xs ≤ n
    → (drop n xs ≡ drop n ys → xs ≡ ys) → xs ≡ ys
same-to-end xs ys n e l before = before (drop_of_length-le xs l ∙ sym (drop_of_length-le ys (subst (λ k. k ≤ n) e l)))
