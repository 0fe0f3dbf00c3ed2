-- What is found and set at a place of a stack, counted from its top, and the targets of a choice.
-- For: `Nesting::set`, src/nesting.rt; `reached` and `met`, golf_code_layout/specs/Depth.antt
-- By: induction over the stack, and over the list of cases
use Rattle.std.proofs.Common.{◌≡◌, ℕ, zero, suc, ◌+◌, ◌-◌, ◌<◌, List, [], ◌∷◌, ◌++◌, length, refl, ap, ◌∙◌, sym, arith}
use Rattle.std.specs.Prelude.{max, Option, Some, None, slice_get, slice_set, unwrap_or, reverse}
use Rattle.std.proofs.Math.Nat.{max-zero}
use Rattle.std.proofs.Math.Seq.{set-append_seam}
use Rattle.std.proofs.lemmas.List.{set-append_left, length-reverse, reverse-append}
use Rattle.std.specs.Option.{option_map}
use Rattle.golf_data.specs.declared.code.SelectCase.{SelectCase}
use Rattle.golf_code_layout.specs.Piece.{target}
use Rattle.golf_data.specs.Effects.{case_left, cases_taken}
use Rattle.golf_code_layout.specs.Depth.{height, met, reached, above, chosen, defaulted}
use Rattle.golf_code_targets.specs.declared.heights.Heights.{Heights}
use Rattle.golf_code_targets.specs.Heights.{takes_in, choice_flow, case_chosen, cases_chosen, default_chosen}

pub target_got : (ts : List ℕ) (k : ℕ) → unwrap_or (slice_get ts k) 0 ≡ target ts k
target_got [] zero = refl
target_got [] (suc k) = refl
target_got (t ∷ ts) zero = refl
target_got (t ∷ ts) (suc k) = target_got ts k

pub reached_there : (ts : List (Option ℕ)) (k : ℕ) (h t : Option ℕ) → slice_get ts k ≡ Some t
    → slice_set ts k (met t h) ≡ reached ts k h
reached_there [] zero h t is = (cc)
reached_there [] (suc k) h t is = (cc)
reached_there (x ∷ ts) zero h t is = (cc)
reached_there (x ∷ ts) (suc k) h t is = ap (λ r. x ∷ r) (reached_there ts k h t is)

pub reached_past : (ts : List (Option ℕ)) (k : ℕ) (h : Option ℕ) → slice_get ts k ≡ None → reached ts k h ≡ ts
reached_past [] zero h is = refl
reached_past [] (suc k) h is = refl
reached_past (x ∷ ts) zero h is = (cc)
reached_past (x ∷ ts) (suc k) h is = ap (λ r. x ∷ r) (reached_past ts k h is)

-- An item of a list by its place from the end is one of the turned list.

turned : {A : Type 0} (x : A) (xs : List A) → reverse (x ∷ xs) ≡ reverse xs ++ x ∷ []
turned x xs = reverse-append (x ∷ []) xs

pub set_reverse : {A : Type 0} (xs : List A) (k j : ℕ) (v : A) → k + suc j ≡ length xs
    → slice_set (reverse xs) k v ≡ reverse (slice_set xs j v)
set_reverse [] k j v is = absurd (omega (arith, is))
set_reverse (x ∷ xs) k zero v is =
    let e = length-reverse xs in
    let at : k ≡ length (reverse xs) = omega (arith, is, e) in
    ap (λ ys. slice_set ys k v) (turned x xs) ∙ ap (λ n. slice_set (reverse xs ++ x ∷ []) n v) at
    ∙ set-append_seam (reverse xs) x [] v ∙ sym (turned v xs)
set_reverse (x ∷ xs) k (suc j) v is =
    let e = length-reverse xs in
    let lt : k < length (reverse xs) = omega (arith, is, e) in
    ap (λ ys. slice_set ys k v) (turned x xs) ∙ set-append_left (reverse xs) (x ∷ []) k v lt
    ∙ ap (λ ys. ys ++ x ∷ []) (set_reverse xs k j v (omega (arith, is))) ∙ sym (turned x (slice_set xs j v))

-- The cases, and then `default`.

pub max_both : (m a b : ℕ) → max (max m a) b ≡ max m (max a b)
max_both m a b = omega arith

abbrev chosen_as : Option ℕ → List SelectCase → Heights → Heights
chosen_as below cs s = record s {
  most = max s.most (chosen below cs s.targets).most;
  targets = (chosen below cs s.targets).targets;
}

chosen_in : (below : Option ℕ) (cs : List SelectCase) (s : Heights) → cases_chosen below cs s ≡ chosen_as below cs s
chosen_in below [] s = ap (λ m. record s { most = m }) (sym (max-zero s.most))
chosen_in below (c ∷ cs) s =
    let ts = reached s.targets c.target (above below (case_left c.kind)) in
    chosen_in below cs (case_chosen below c s)
    ∙ ap (λ m. record s { most = m; targets = (chosen below cs ts).targets })
    (max_both s.most (height (above below (case_left c.kind))) (chosen below cs ts).most)

chosen_behind : (below : Option ℕ) (cs : List SelectCase) (ts : List (Option ℕ)) → (chosen below cs ts).behind ≡ None
chosen_behind below [] ts = refl
chosen_behind below (c ∷ cs) ts = refl

default_taken : (below : Option ℕ) (cs : List SelectCase) (otherwise : Option ℕ) (s : Heights)
    → default_chosen below otherwise (chosen_as below cs s) ≡ takes_in s
    (defaulted below otherwise (chosen below cs s.targets))
default_taken below cs None s = ap (λ h. record (chosen_as below cs s) { here = h })
    (sym (chosen_behind below cs s.targets))
default_taken below cs (Some k) s =
    ap (λ h. record (chosen_as below cs s) { here = h; targets = reached (chosen below cs s.targets).targets k below })
    (sym (chosen_behind below cs s.targets))

pub choice_taken : (cs : List SelectCase) (otherwise : Option ℕ) (s : Heights)
    → default_chosen (option_map (λ n. n - cases_taken cs) s.here) otherwise
    (cases_chosen (option_map (λ n. n - cases_taken cs) s.here) cs s) ≡ takes_in s (choice_flow cs otherwise s)
choice_taken cs otherwise s =
    let below = option_map (λ n. n - cases_taken cs) s.here in
    ap (default_chosen below otherwise) (chosen_in below cs s) ∙ default_taken below cs otherwise s
