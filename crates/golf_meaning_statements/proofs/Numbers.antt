-- The operation of a `select`: the number of a clause is its place, and the clause that an answer names is found.
-- For: `clause_of`, golf_meaning_flat/specs/Flat.antt; `cases_from`, golf_code_of/specs/Selects.antt.
-- By: induction over the list of clauses.
use Rattle.std.proofs.Common.{◌≡◌, ℕ, ◌+◌, ◌==◌, ◌<◌, ◌≤◌, Bool, true, false, cond, List, [], ◌∷◌, ◌++◌, length, map}
use Rattle.std.proofs.Common.{Option, Some, None, refl, ap, sym, ◌∙◌, ⊎_elim, arith}
use Rattle.std.specs.Prelude.{is_some, ◌&&◌}
use Rattle.std.specs.Option.{option_map}
use Rattle.std.proofs.lemmas.Bool.{false≢true, eqb-false, cases_lt}
use Rattle.std.proofs.lemmas.Map.Views.{exact_unsigned_eq}
use Rattle.golf_data.specs.declared.code.CaseKind.{CaseKind}
use Rattle.golf_data.specs.declared.code.SelectCase.{SelectCase}
use Rattle.golf_code_of.specs.Selects.{ClausePart, case_to, cases_from, default_or, default_from}
use Rattle.golf_meaning_flat.specs.Flat.{relabelled, default_of, clause_of}
use Rattle.golf_meaning_statements.specs.Selects.{no_default, one_default}
use Rattle.golf_meaning_statements.proofs.Ranks.{OneDefault}

none-of : (xs : List ClausePart) → no_default xs ≡ true → (i : ℕ) → default_from i xs ≡ None
none-of [] f i = refl
none-of (x ∷ xs) f i = one x.kind f (λ g. none-of xs g (i + 1))
  where
    one : (o : Option CaseKind) → (is_some o && no_default xs) ≡ true
        → (no_default xs ≡ true → default_from (i + 1) xs ≡ None) → default_or i o (default_from (i + 1) xs) ≡ None
    one None g rest = absurd (false≢true g)
    one (Some kind) g rest = rest g

at-most-one : (xs : List ClausePart) → no_default xs ≡ true → one_default xs ≡ true
at-most-one [] f = refl
at-most-one (x ∷ xs) f = one x.kind f (at-most-one xs)
  where
    one : (o : Option CaseKind) → (is_some o && no_default xs) ≡ true → (no_default xs ≡ true → one_default xs ≡ true)
        → cond (is_some o) (one_default xs) (no_default xs) ≡ true
    one None g rest = absurd (false≢true g)
    one (Some kind) g rest = rest g

pub one-of : (cs : List ClausePart) → one_default cs ≡ true → OneDefault cs
one-of [] e = tt
one-of (c ∷ cs) e = by c.kind refl e (one-of cs)
  where
    by : (o : Option CaseKind) → c.kind ≡ o → cond (is_some o) (one_default cs) (no_default cs) ≡ true
        → (one_default cs ≡ true → OneDefault cs) → OneDefault (c ∷ cs)
    by None is f rest = (λ k i. none-of cs f i, rest (at-most-one cs f))
    by (Some kind) is f rest = (λ k i. absurd (cc (is, k)), rest f)

module _ (label : ℕ → ℕ) where
  pub relabel : (i : ℕ) (cs : List ClausePart) → ((j : ℕ) → i ≤ j → j < i + length cs → label j ≡ j)
      → map (relabelled label) (cases_from i cs) ≡ cases_from i cs
  relabel i [] h = refl
  relabel i (c ∷ cs) h = by c.kind (relabel (i + 1) cs (λ j le lt. h j (omega (arith, le)) (omega (arith, lt))))
      (h i (omega arith) (omega arith))
    where
      by : (o : Option CaseKind) → map (relabelled label) (cases_from (i + 1) cs) ≡ cases_from (i + 1) cs → label i ≡ i
          → map (relabelled label) (case_to i o ++ cases_from (i + 1) cs) ≡ case_to i o ++ cases_from (i + 1) cs
      by None e f = e
      by (Some kind) e f = ap (λ z. case_at kind z ∷ map (relabelled label) (cases_from (i + 1) cs)) f
          ∙ ap (λ zs. case_at kind i ∷ zs) e
        where
          case_at : CaseKind → ℕ → SelectCase
          case_at q z = record { kind = q; target = z }

  pub relabel-default : (i : ℕ) (cs : List ClausePart) → ((j : ℕ) → i ≤ j → j < i + length cs → label j ≡ j)
      → option_map label (default_from i cs) ≡ default_from i cs
  relabel-default i [] h = refl
  relabel-default i (c ∷ cs) h = by c.kind
      (relabel-default (i + 1) cs (λ j le lt. h j (omega (arith, le)) (omega (arith, lt))))
      (h i (omega arith) (omega arith))
    where
      by : (o : Option CaseKind) → option_map label (default_from (i + 1) cs) ≡ default_from (i + 1) cs → label i ≡ i
          → option_map label (default_or i o (default_from (i + 1) cs)) ≡ default_or i o (default_from (i + 1) cs)
      by None e f = ap Some f
      by (Some kind) e f = e

  -- no case from this place on is that of an earlier clause
  later-none : (i k : ℕ) (cs : List ClausePart) (o : Option ℕ) → k < i
      → ((j : ℕ) → i ≤ j → j < i + length cs → label j ≡ j)
      → clause_of label k (cases_from i cs) o ≡ default_of label k o
  later-none i k [] o lt h = refl
  later-none i k (c ∷ cs) o lt h = by c.kind
      (later-none (i + 1) k cs o (omega (arith, lt)) (λ j le u. h j (omega (arith, le)) (omega (arith, u))))
      (label i == k) refl
    where
      by : (q : Option CaseKind) → clause_of label k (cases_from (i + 1) cs) o ≡ default_of label k o → (b : Bool)
          → (label i == k) ≡ b → clause_of label k (case_to i q ++ cases_from (i + 1) cs) o ≡ default_of label k o
      by None e b f = e
      by (Some kind) e true f = let same = exact_unsigned_eq (label i) k f in let is =
          h i (omega arith) (omega arith) in absurd (omega (arith, same, is, lt))
      by (Some kind) e false f = ap (λ b. cond b (Some i) (clause_of label k (cases_from (i + 1) cs) o)) f ∙ e

  -- among these there is no default
  or-default : (i k : ℕ) (cs : List ClausePart) (t : ℕ) (x : ℕ) → clause_of label k (cases_from i cs) None ≡ Some x
      → clause_of label k (cases_from i cs) (Some t) ≡ Some x
  or-default i k [] t x e = absurd (cc)
  or-default i k (c ∷ cs) t x e = by c.kind (or-default (i + 1) k cs t x) e
    where
      by : (q : Option CaseKind) → (clause_of label k (cases_from (i + 1) cs) None ≡ Some x
          → clause_of label k (cases_from (i + 1) cs) (Some t) ≡ Some x)
          → clause_of label k (case_to i q ++ cases_from (i + 1) cs) None ≡ Some x
          → clause_of label k (case_to i q ++ cases_from (i + 1) cs) (Some t) ≡ Some x
      by None r f = r f
      by (Some kind) r f = one (label i == k) f
        where
          one : (b : Bool) → cond b (Some i) (clause_of label k (cases_from (i + 1) cs) None) ≡ Some x
              → cond b (Some i) (clause_of label k (cases_from (i + 1) cs) (Some t)) ≡ Some x
          one true g = g
          one false g = r g

  -- the place of a clause leads to its number
  pub clause-is : (i k : ℕ) (cs : List ClausePart) → OneDefault cs → ((j : ℕ) → i ≤ j → j < i + length cs → label j ≡ j)
      → i ≤ k → k < i + length cs → clause_of label k (cases_from i cs) (default_from i cs) ≡ Some k
  clause-is i k [] one h le lt = absurd (omega (arith, le, lt))
  clause-is i k (c ∷ cs) one h le lt = at-kind c.kind refl (label i == k) refl
      (λ f. clause-is (i + 1) k cs one.1 later (other f) (omega (arith, lt)))
    where
      later : (j : ℕ) → i + 1 ≤ j → j < i + 1 + length cs → label j ≡ j
      later j le2 lt2 = h j (omega (arith, le2)) (omega (arith, lt2))

      here : label i ≡ i
      here = h i (omega arith) (omega arith)

      other : (label i == k) ≡ false → i + 1 ≤ k
      other f = ⊎_elim (λ p. omega (arith, p)) (λ p. absurd (eqb-false (label i) k f (here ∙ alike p))) (cases_lt i k)
        where
          alike : k ≤ i → i ≡ k
          alike p = omega (arith, p, le)

      at-kind : (q : Option CaseKind) → c.kind ≡ q → (b : Bool) → (label i == k) ≡ b
          → ((label i == k) ≡ false → clause_of label k (cases_from (i + 1) cs) (default_from (i + 1) cs) ≡ Some k)
          → clause_of label k (case_to i q ++ cases_from (i + 1) cs) (default_or i q (default_from (i + 1) cs)) ≡ Some k
      at-kind (Some kind) is true f rest = let same =
          exact_unsigned_eq (label i) k f in ap
          (λ b. cond b (Some i) (clause_of label k (cases_from (i + 1) cs) (default_from (i + 1) cs))) f
          ∙ ap Some (sym here ∙ same)
      at-kind (Some kind) is false f rest = ap
          (λ b. cond b (Some i) (clause_of label k (cases_from (i + 1) cs) (default_from (i + 1) cs))) f ∙ rest f
      at-kind None is true f rest =
          let same = exact_unsigned_eq (label i) k f in
          let less : k < i + 1 = omega (arith, same, here) in
          later-none (i + 1) k cs (Some i) less later ∙ ap (λ b. cond b (Some i) None) f ∙ ap Some (sym here ∙ same)
      at-kind None is false f rest =
          or-default (i + 1) k cs i k (ap (λ o. clause_of label k (cases_from (i + 1) cs) o) (sym (one.0 is (i + 1)))
          ∙ rest f)
