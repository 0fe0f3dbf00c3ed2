-- The clauses of a `select`: if targets rise, the place of a clause is how many of the targets are lower.
-- For: `lower`, golf_meaning_flat/specs/Flat.antt; `cases_from`, golf_code_of/specs/Selects.antt.
-- By: induction over the list of clauses, and over their number.
use Rattle.std.proofs.Common.{◌≡◌, ℕ, zero, suc, ◌+◌, ◌-◌, ◌<◌, ◌≤◌, Bool, true, false, cond, List, [], ◌∷◌, ◌++◌}
use Rattle.std.proofs.Common.{length, map, Option, Some, None, refl, ap, sym, ◌∙◌, subst, ⊎_elim, arith}
use Rattle.std.specs.Prelude.{nat_lt}
use Rattle.std.specs.Option.{option_map}
use Rattle.std.proofs.lemmas.Bool.{cases_lt, ltb-true, lt-ltb}
use Rattle.golf_data.specs.declared.code.SelectCase.{SelectCase}
use Rattle.golf_data.specs.declared.code.CaseKind.{CaseKind}
use Rattle.golf_code_layout.specs.Piece.{target, case_at}
use Rattle.golf_code_of.specs.Selects.{ClausePart, cases_from, default_from}
use Rattle.golf_meaning_flat.specs.Flat.{targets, lower}
use Rattle.golf_meaning_flat.specs.Structured.{placed_targets}

-- at most one clause is `default`
abbrev pub OneDefault : List ClausePart → Type 0
OneDefault [] = Unit {0}
OneDefault (c ∷ cs) = (c.kind ≡ None → (i : ℕ) → default_from i cs ≡ None) × OneDefault cs

-- the targets rise
abbrev pub Rise : (ℕ → ℕ) → ℕ → Type 0
Rise f n = (p q : ℕ) → p < q → q < n → f p < f q

lower-some : (xs : List SelectCase) (t x : ℕ)
    → lower (targets xs (Some t)) x ≡ lower (targets xs None) x + cond (nat_lt t x) 1 0
lower-some [] t x = by (nat_lt t x)
  where
    by : (b : Bool) → cond b (suc (lower [] x)) (lower [] x) ≡ 0 + cond b 1 0
    by true = refl
    by false = refl
lower-some (c ∷ cs) t x = by (nat_lt c.target x) (lower-some cs t x)
  where
    by : (b : Bool) → lower (targets cs (Some t)) x ≡ lower (targets cs None) x + cond (nat_lt t x) 1 0
        → cond b (suc (lower (targets cs (Some t)) x)) (lower (targets cs (Some t)) x) ≡ cond b
        (suc (lower (targets cs None) x)) (lower (targets cs None) x) + cond (nat_lt t x) 1 0
    by true e = omega (arith, e)
    by false e = e

below-is : (a b : ℕ) → a < b → nat_lt a b ≡ true
below-is a b h = lt-ltb a b h

not-below : (a b : ℕ) → b ≤ a → nat_lt a b ≡ false
not-below a b h = by (nat_lt a b) refl
  where
    by : (c : Bool) → nat_lt a b ≡ c → c ≡ false
    by true e = let k = ltb-true a b e in absurd (omega (arith, h, k))
    by false e = refl

at-most : (f : ℕ → ℕ) (n i j : ℕ) → Rise f n → i < n → j ≤ i → f j ≤ f i
at-most f n i j r li le =
    ⊎_elim
    (λ lt. let k = r j i lt li in omega (arith, k))
    (λ ge. let same : j ≡ i = omega (arith, ge, le) in subst (λ z. f z ≤ f i) (sym same) (omega arith))
    (cases_lt j i)

counted : (f : ℕ → ℕ) (n i j : ℕ) → Rise f n → i < n → j < n → nat_lt (f i) (f j) ≡ nat_lt i j
counted f n i j r li lj =
    ⊎_elim
    (λ lt. below-is (f i) (f j) (r i j lt lj) ∙ sym (below-is i j lt))
    (λ le. not-below (f i) (f j) (at-most f n i j r li le) ∙ sym (not-below i j le))
    (cases_lt i j)

-- how many of the numbers from i on, so many, are below j
abbrev pub among : ℕ → ℕ → ℕ → ℕ
among i zero j = 0
among i (suc k) j = cond (nat_lt i j) 1 0 + among (i + 1) k j

abbrev placed_from : ℕ → List ClausePart → List ℕ → List ℕ
placed_from i cs ts = placed_targets (cases_from i cs) (default_from i cs) ts

one-more : (b : Bool) (k : ℕ) → cond b (suc k) k ≡ cond b 1 0 + k
one-more true k = omega arith
one-more false k = omega arith

-- the targets of the clauses from this one on that are lower than a target
lower-among : (ts : List ℕ) (n i j : ℕ) (cs : List ClausePart) → Rise (target ts) n → i + length cs ≤ n → j < n
    → OneDefault cs → lower (placed_from i cs ts) (target ts j) ≡ among i (length cs) j
lower-among ts n i j [] r le lj one = refl
lower-among ts n i j (c ∷ cs) r le lj one =
    by c.kind refl (lower-among ts n (i + 1) j cs r (omega (arith, le)) lj one.1)
  where
    here : nat_lt (target ts i) (target ts j) ≡ nat_lt i j
    here = counted (target ts) n i j r (omega (arith, le)) lj

    by : (k : Option CaseKind) → c.kind ≡ k
        → lower (placed_from (i + 1) cs ts) (target ts j) ≡ among (i + 1) (length cs) j
        → lower (placed_from i (c ∷ cs) ts) (target ts j) ≡ cond (nat_lt i j) 1 0 + among (i + 1) (length cs) j
    by (Some k) e rest =
        subst (λ o. lower (placed_targets (Rattle.golf_code_of.specs.Selects.case_to i o ++ cases_from (i + 1) cs)
        (Rattle.golf_code_of.specs.Selects.default_or i o (default_from (i + 1) cs)) ts) (target ts j) ≡ cond
        (nat_lt i j) 1 0 + among (i + 1) (length cs) j) (sym e)
        (one-more (nat_lt (target ts i) (target ts j)) (lower (placed_from (i + 1) cs ts) (target ts j))
        ∙ ap (λ b. cond b 1 0 + lower (placed_from (i + 1) cs ts) (target ts j)) here
        ∙ ap (λ z. cond (nat_lt i j) 1 0 + z) rest)
    by None e rest =
        subst (λ o. lower (placed_targets (Rattle.golf_code_of.specs.Selects.case_to i o ++ cases_from (i + 1) cs)
        (Rattle.golf_code_of.specs.Selects.default_or i o (default_from (i + 1) cs)) ts) (target ts j) ≡ cond
        (nat_lt i j) 1 0 + among (i + 1) (length cs) j) (sym e)
        (lower-some (map (case_at ts) (cases_from (i + 1) cs)) (target ts i) (target ts j)
        ∙ swapped (lower (targets (map (case_at ts) (cases_from (i + 1) cs)) None) (target ts j))
        (cond (nat_lt (target ts i) (target ts j)) 1 0)
        ∙ ap (λ b. cond b 1 0 + lower (targets (map (case_at ts) (cases_from (i + 1) cs)) None) (target ts j)) here
        ∙ ap (λ o. cond (nat_lt i j) 1 0 + lower
        (targets (map (case_at ts) (cases_from (i + 1) cs)) (option_map (target ts) o)) (target ts j))
        (sym (one.0 e (i + 1)))
        ∙ ap (λ z. cond (nat_lt i j) 1 0 + z) rest)
      where
        swapped : (a b : ℕ) → a + b ≡ b + a
        swapped a b = omega arith

nothing-more : (z : ℕ) → z ≡ 0 → 0 + z ≡ 0
nothing-more z e = omega (arith, e)

past : (i k j : ℕ) → j ≤ i → among i k j ≡ 0
past i zero j le = refl
past i (suc k) j le = ap (λ b. cond b 1 0 + among (i + 1) k j) (not-below i j le)
    ∙ nothing-more (among (i + 1) k j) (past (i + 1) k j (omega (arith, le)))

one-and : (z i j : ℕ) → i < j → z ≡ j - (i + 1) → 1 + z ≡ j - i
one-and z i j lt e = omega (arith, lt, e)

none-and : (i j : ℕ) → i ≤ j → j ≤ i → 0 ≡ j - i
none-and i j le ge = omega (arith, le, ge)

among-all : (i k j : ℕ) → i ≤ j → j ≤ i + k → among i k j ≡ j - i
among-all i zero j le up = omega (arith, le, up)
among-all i (suc k) j le up =
    ⊎_elim
    (λ lt. ap (λ b. cond b 1 0 + among (i + 1) k j) (below-is i j lt)
    ∙ one-and (among (i + 1) k j) i j lt (among-all (i + 1) k j (omega (arith, lt)) (omega (arith, up))))
    (λ ge. past i (suc k) j ge ∙ none-and i j le ge)
    (cases_lt i j)

-- the place of the clause that begins at the target of its number is its number
pub rank-is : (ts : List ℕ) (j : ℕ) (cs : List ClausePart) → Rise (target ts) (length cs) → j < length cs
    → OneDefault cs → lower (placed_targets (cases_from 0 cs) (default_from 0 cs) ts) (target ts j) ≡ j
rank-is ts j cs r lj one = let e = lower-among ts (length cs) 0 j cs r (omega arith) lj one in let f =
    among-all 0 (length cs) j (omega arith) (omega (arith, lj)) in e ∙ f ∙ from-zero j
  where
    from-zero : (z : ℕ) → z - 0 ≡ z
    from-zero z = omega arith
