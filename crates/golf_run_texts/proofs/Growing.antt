-- One text more of those that stand one after another.
-- For: `add_entries` (src/lines.rt) and `add_reports` (src/runs.rt), `add_more` (src/reasons.rt)
-- By: induction over the list of items whose texts they are
use Rattle.std.proofs.Common.{◌≡◌, ℕ, suc, ◌+◌, ◌<◌, List, [], ◌∷◌, ◌++◌, length, take, get_or, ap, ◌∙◌, append_assoc}
use Rattle.std.proofs.Common.{append-nil, sym, arith}
use Rattle.std.proofs.Math.Seq.{take-suc}

-- the text of one, and of all
module _ {A : Type 0} (one : A → List ℕ) (all : List A → List ℕ) (none : all [] ≡ [])
    (more : (x : A) (xs : List A) → all (x ∷ xs) ≡ one x ++ all xs) where
  all-append : (xs ys : List A) → all (xs ++ ys) ≡ all xs ++ all ys
  all-append [] ys = ap (λ t. t ++ all ys) (sym none)
  all-append (x ∷ xs) ys =
      more x (xs ++ ys) ∙ ap (λ t. one x ++ t) (all-append xs ys) ∙ sym (append_assoc (one x) (all xs) (all ys))
      ∙ ap (λ t. t ++ all ys) (sym (more x xs))

  all-one : (x : A) → all (x ∷ []) ≡ one x
  all-one x = more x [] ∙ ap (λ t. one x ++ t) none ∙ append-nil (one x)

  pub one-more : (xs : List A) (i : ℕ) (d : A) (old text later new : List ℕ) → i < length xs → text ≡ old
      ++ all (take i xs) → new ≡ one (get_or xs i d) → later ≡ text ++ new
      → later ≡ old ++ all (take (i + 1) xs)
  one-more xs i d old text later new within so is grown =
      let next : i + 1 ≡ suc i = omega arith in
      grown ∙ ap (λ t. t ++ new) so ∙ append_assoc old (all (take i xs)) new
      ∙ ap (λ t. old ++ (all (take i xs) ++ t)) (is ∙ sym (all-one (get_or xs i d)))
      ∙ ap (λ t. old ++ t) (sym (all-append (take i xs) (get_or xs i d ∷ []))
      ∙ ap all (sym (ap (λ n. take n xs) next ∙ take-suc xs i d within)))
