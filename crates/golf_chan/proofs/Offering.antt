-- Cases that take their operands, from the last one to the first.
-- For: `offers_of`, src/offers.rt; `offers_of`, golf_model/specs/Selects.antt
-- By: induction over i, the cases before the one in turn
use Rattle.std.proofs.Common.{◌≡◌, ℕ, zero, suc, ◌+◌, ◌-◌, ◌<◌, ◌≤◌, List, [], ◌∷◌, ◌++◌, length, take, drop, get_or}
use Rattle.std.proofs.Common.{Some, None, refl, sym, ap, ◌∙◌, arith}
use Rattle.std.specs.Prelude.{reverse}
use Rattle.std.proofs.lemmas.List.{drop_more, take_all, drop_all, append-nil, length-take-le}
use Rattle.golf_data.specs.declared.value.Value.{Value}
use Rattle.golf_data.specs.declared.code.SelectCase.{SelectCase}
use Rattle.golf_model.specs.Selects.{Taken, and_case, take_case, offers_of}
use Rattle.golf_state.proofs.Tops.{reverse-take}

-- one case more
pub offers-more : (ks : List SelectCase) (i : ℕ) (d : SelectCase) (vs : List Value) (t : Taken) → i < length ks
    → offers_of (drop (i + 1) ks) vs ≡ Some t
    → offers_of (drop i ks) vs ≡ take_case (get_or ks i d) (get_or ks i d).kind t
offers-more ks i d vs t l h =
    ap (λ (js : List SelectCase). offers_of js vs) (drop_more ks i d l) ∙ ap (and_case (get_or ks i d)) h

-- too few operands for the later cases are too few for all
pub offers-none : (i : ℕ) (ks : List SelectCase) (vs : List Value) → offers_of (drop i ks) vs ≡ None
    → offers_of ks vs ≡ None
offers-none zero ks vs h = h
offers-none (suc i) [] vs h = h
offers-none (suc i) (k ∷ ks) vs h = ap (and_case k) (offers-none i ks vs h)

module _ {X : Type 0} where
  take-less : (m n : ℕ) (xs : List X) → m ≤ n → take m (take n xs) ≡ take m xs
  take-less zero n xs l = refl
  take-less (suc m) zero xs l = absurd (omega arith)
  take-less (suc m) (suc n) [] l = refl
  take-less (suc m) (suc n) (x ∷ xs) l = ap (λ (ys : List X). x ∷ ys) (take-less m n xs (omega arith))

  -- without the last ones of the first items
  pub reverse-less : (end n : ℕ) (xs : List X) → end ≤ length xs
      → drop n (reverse (take end xs)) ≡ reverse (take (end - n) xs)
  reverse-less end n xs l =
      sym (reverse-take n (take end xs))
      ∙ ap (λ k. reverse (take (k - n) (take end xs))) (length-take-le end xs l)
      ∙ ap reverse (take-less (end - n) end xs (omega arith))

  pub reverse-rest : (end n : ℕ) (xs : List X) → end ≤ length xs → n ≡ length xs - end
      → reverse (take end xs) ≡ drop n (reverse xs)
  reverse-rest end n xs l e =
      let same : end ≡ length xs - n = omega arith in
      ap (λ k. reverse (take k xs)) same ∙ reverse-take n xs

  -- a list that was written over whole
  pub written : (xs ys : List X) → length ys ≡ length xs → ys ≡ take (length xs) (ys ++ drop (length ys) xs)
  written xs ys e =
      sym (ap (λ (zs : List X). take (length xs) (ys ++ zs)) (drop_all (length ys) xs (omega (arith, e)))
      ∙ ap (take (length xs)) (append-nil ys)
      ∙ take_all (length xs) ys (omega (arith, e)))
