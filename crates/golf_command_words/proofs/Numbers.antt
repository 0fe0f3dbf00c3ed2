-- What a written list of numbers gains, number by number.
-- For: `add_numbers`, src/values.rt; `numbers_of`, specs/Values.antt
-- By: cases of the cut at the first comma and of the number before it; no induction
use Rattle.std.proofs.Common.{◌≡◌, ◌∙◌, ℕ, zero, suc, ◌-◌, Bool, true, false, refl, sym, ap, subst, true≢false, ◌<◌}
use Rattle.std.proofs.Common.{◌≤◌, List, [], ◌∷◌, ◌++◌, Option, Some, None, Result, Ok, Err, IfOk, option_map}
use Rattle.std.proofs.Common.{option_and_then, append_assoc, arith}
use Rattle.golf_command_words.specs.Values.{GainsNumbers, Text, after_comma, cut, number_of, numbers_of}

numbers_more : (more : ℕ) (text : Text) → 0 < more
    → numbers_of more text ≡ after_comma (cut 44 text) text (numbers_of (more - 1))
unfolding numbers_of
numbers_more zero text some = absurd (omega arith)
numbers_more (suc k) text some =
    let less : suc k - 1 ≡ k = omega arith in
    ap (λ n. after_comma (cut 44 text) text (numbers_of n)) (sym less)

pub gains_none : (more : ℕ) (text : Text) (list : List ℕ) → more ≤ 0
    → GainsNumbers (numbers_of more text) list list false
unfolding numbers_of
gains_none more text list none =
    let is_zero : 0 ≡ more = omega arith in
    subst (λ n. GainsNumbers (numbers_of n text) list list false) is_zero refl

-- a text without a comma is a list if it is a number
pub gains_last : {E : Type 0} {more : ℕ} (text : Text) (list new : List ℕ) (r : Result Bool E) → 0 < more
    → None ≡ cut 44 text
    → IfOk r (GainsNumbers (option_map (λ (n : ℕ). n ∷ []) (number_of text)) list new)
    → IfOk r (GainsNumbers (numbers_of more text) list new)
gains_last {more = more} text list new (Ok is_list) some alone h =
    subst (λ o. GainsNumbers o list new is_list) (ap (λ o. after_comma o text (numbers_of (more - 1))) alone
    ∙ sym (numbers_more more text some)) h
gains_last text list new (Err e) some alone h = tt

gains_first : (o : Option (List ℕ)) (list new : List ℕ) (n : ℕ) (b : Bool) → GainsNumbers o (list ++ n ∷ []) new b
    → GainsNumbers (option_map (λ (ns : List ℕ). n ∷ ns) o) list new b
gains_first None list new n b h = h
gains_first (Some ns) list new n b h = (h.0, h.1 ∙ append_assoc list (n ∷ []) ns)

-- no number before the first comma: the text is no list
pub gains_no_first : {more : ℕ} {first rest : Text} (text : Text) (list new : List ℕ) → 0 < more
    → Some (first, rest) ≡ cut 44 text
    → (is_first : Bool) → is_first ≡ false
    → GainsNumbers (option_map (λ (n : ℕ). n ∷ []) (number_of first)) list new is_first
    → GainsNumbers (numbers_of more text) list new false
gains_no_first {more} {first} {rest} text list new some parts is_first is h =
    subst (λ o. GainsNumbers o list new false)
    (ap (λ o. after_comma o text (numbers_of (more - 1))) parts ∙ sym (numbers_more more text some))
    (none (number_of first) (subst (GainsNumbers (option_map (λ (n : ℕ). n ∷ []) (number_of first)) list new) is h))
  where
    none : (o : Option ℕ) → GainsNumbers (option_map (λ (n : ℕ). n ∷ []) o) list new false
        → GainsNumbers (option_and_then (λ (n : ℕ). option_map (λ (ns : List ℕ). n ∷ ns) (numbers_of (more - 1) rest))
        o) list
        new false
    none None h = refl
    none (Some n) h = absurd (true≢false (sym h.0))

-- a number before the first comma: what the rest gains after it, the text gains
pub gains_more : {more : ℕ} {first rest : Text} (text : Text) (list pushed : List ℕ) → 0 < more
    → Some (first, rest) ≡ cut 44 text
    → (is_first : Bool) → is_first ≡ true → GainsNumbers
    (option_map (λ (n : ℕ). n ∷ []) (number_of first)) list pushed is_first
    → (is_list : Bool) (new : List ℕ) → GainsNumbers (numbers_of (more - 1) rest) pushed new is_list
    → GainsNumbers (numbers_of more text) list new is_list
gains_more {more} {first} {rest} text list pushed some parts is_first is h is_list new gained =
    subst (λ o. GainsNumbers o list new is_list)
    (ap (λ o. after_comma o text (numbers_of (more - 1))) parts ∙ sym (numbers_more more text some))
    (one (number_of first) (subst (GainsNumbers (option_map (λ (n : ℕ). n ∷ []) (number_of first)) list pushed) is h))
  where
    one : (o : Option ℕ) → GainsNumbers (option_map (λ (n : ℕ). n ∷ []) o) list pushed true
        → GainsNumbers (option_and_then (λ (n : ℕ). option_map (λ (ns : List ℕ). n ∷ ns) (numbers_of (more - 1) rest))
        o) list
        new is_list
    one None h = absurd (true≢false h)
    one (Some n) h = gains_first (numbers_of (more - 1) rest) list new n is_list
        (subst (λ old. GainsNumbers (numbers_of (more - 1) rest) old new is_list) h.1 gained)

-- what the rest of a text is answered, the whole is
pub gains_whole : {E : Type 0} (o whole : Option (List ℕ)) (list begun new : List ℕ) (r : Result Bool E)
    → ((is_list : Bool) (new : List ℕ) → GainsNumbers o list new is_list → GainsNumbers whole begun new is_list)
    → IfOk r (GainsNumbers o list new) → IfOk r (GainsNumbers whole begun new)
gains_whole o whole list begun new (Ok is_list) onward h = onward is_list new h
gains_whole o whole list begun new (Err e) onward h = tt
