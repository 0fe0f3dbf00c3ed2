-- What the digits of a number are.
-- For: `is_digit`, `newlines` (golf_lex_tokens/specs/Bytes.antt)
-- By: induction over the digits of the number
use Rattle.std.proofs.Common.{◌≡◌, ℕ, ◌+◌, ◌<◌, ◌≤◌, ◌%◌, ◌^◌, true, false, ◌&&◌, refl, sym, ap, subst, ◌∙◌, List, []}
use Rattle.std.proofs.Common.{◌∷◌, ◌++◌, decimal, arith}
use Rattle.std.proofs.lemmas.Bool.{and_parts}
use Rattle.std.specs.Prelude.{nat_eq}
use Rattle.std.specs.List.{list_all}
use Rattle.std.proofs.lemmas.Bool.Decides.{nat_tests}
use Rattle.std.proofs.lemmas.Fmt.{decimal_by_steps}
use Rattle.golf_lex_tokens.specs.Bytes.{is_digit, newlines}

-- a digit that is not 0, and digits
pub record IsNumber (ds : List ℕ) : Type 0 where
  pub first : ℕ
  pub rest : List ℕ
  pub are : ds ≡ first ∷ rest
  pub least : 49 ≤ first
  pub most : first ≤ 57
  pub digits : list_all is_digit rest ≡ true

pub digit : (n : ℕ) → n < 10 → is_digit (48 + n) ≡ true
digit n h = grind (arith, nat_tests)

one_digit : (n : ℕ) → n < 10 → list_all is_digit ((48 + n) ∷ []) ≡ true
one_digit n h = ap (λ t. t && true) (digit n h)

pub all-append : (ds es : List ℕ) → list_all is_digit ds ≡ true → list_all is_digit es ≡ true
    → list_all is_digit (ds ++ es) ≡ true
all-append [] es h g = g
all-append (d ∷ ds) es h g = let p = and_parts (is_digit d) (list_all is_digit ds) h in ap
    (λ t. t && list_all is_digit (ds ++ es)) p.0 ∙ all-append ds es p.1 g

number-more : (m n : ℕ) (ds : List ℕ) → IsNumber ds → m < 10 → IsNumber (ds ++ (48 + m) ∷ [])
number-more m n ds i small = record {
  first = i.first;
  rest = i.rest ++ (48 + m) ∷ [];
  are = ap (λ xs. xs ++ (48 + m) ∷ []) i.are;
  least = i.least;
  most = i.most;
  digits = all-append i.rest ((48 + m) ∷ []) i.digits (one_digit m small);
}

pub number : (n : ℕ) → 1 ≤ n → n < 2 ^ 64 → IsNumber (decimal n)
number n some fits = decimal_by_steps (λ m ds. 1 ≤ m → IsNumber ds)
    (λ m small pos. record {
      first = 48 + m;
      rest = [];
      are = refl;
      least = omega arith;
      most = omega arith;
      digits = refl;
    })
    (λ m ds large front pos. number-more (m % 10) m ds (front (omega arith)) (omega arith)) n fits some

pub all-digits : (ds : List ℕ) → IsNumber ds → list_all is_digit ds ≡ true
all-digits ds i = subst (λ xs. list_all is_digit xs ≡ true) (sym i.are)
    (ap (λ t. t && list_all is_digit i.rest)
    (let e : is_digit i.first ≡ true = (let a = i.least in let b = i.most in grind (arith, nat_tests)) in e) ∙ i.digits)

-- digits are no newlines
digit-newline : (d : ℕ) → is_digit d ≡ true → nat_eq d 10 ≡ false
digit-newline d h = grind (arith, nat_tests)

pub no-newlines : (ds : List ℕ) → list_all is_digit ds ≡ true → newlines ds ≡ 0
no-newlines [] h = refl
no-newlines (d ∷ ds) h =
    let p = and_parts (is_digit d) (list_all is_digit ds) h in
    rw (digit-newline d p.0) (no-newlines ds p.1)
