-- Views of goroutines and frames: what is added at the end of a list stands on top.
-- For: `frame_views` (golf_model/specs/Views.antt) and `taking` (golf_model/specs/Actors.antt)
-- By: induction over the list of values that are taken
use Rattle.std.proofs.Common.{◌≡◌, ℕ, zero, suc, ◌<◌, List, [], ◌∷◌, ◌++◌, map, length, refl, ap, ◌∙◌, sym, arith}
use Rattle.std.specs.Prelude.{reverse}
use Rattle.std.proofs.lemmas.List.{reverse-append, reverse-reverse, length-reverse, map-append}
use mathlib.Core.List.{reverse_aux}
use Rattle.golf_data.specs.declared.value.Value.{Value}
use Rattle.golf_data.specs.declared.goroutine.Frame.{Frame}
use Rattle.golf_model.specs.Views.{frame_view, frame_views}
use Rattle.golf_model.specs.Changes.{Change}
use Rattle.golf_model.specs.Actors.{taking_from, taking}

pub reverse-push : {X : Type 0} (xs : List X) (x : X) → reverse (xs ++ x ∷ []) ≡ x ∷ reverse xs
reverse-push xs x = reverse-append xs (x ∷ [])

pub frame_views-push : (fs : List Frame) (f : Frame) → frame_views (fs ++ f ∷ []) ≡ frame_view f ∷ frame_views fs
frame_views-push fs f = ap reverse (map-append frame_view fs (f ∷ [])) ∙ reverse-push (map frame_view fs) (frame_view f)

taking_from-takes : (xs rest taken : List Value) (act : List Value → List Value → List Change)
    → taking_from (length xs) taken act (xs ++ rest) ≡ act (reverse_aux xs taken) rest
taking_from-takes [] rest taken act = refl
taking_from-takes (x ∷ xs) rest taken act = taking_from-takes xs rest (x ∷ taken) act

-- the last operands of a list are taken in their order
pub taking-last : (rest arguments : List Value) (act : List Value → List Value → List Change)
    → taking (length arguments) act (reverse (rest ++ arguments)) ≡ act arguments (reverse rest)
taking-last rest arguments act =
    ap (taking (length arguments) act) (reverse-append rest arguments)
    ∙ ap (λ n. taking n act (reverse arguments ++ reverse rest)) (sym (length-reverse arguments))
    ∙ taking_from-takes (reverse arguments) (reverse rest) [] act
    ∙ ap (λ xs. act xs (reverse rest)) (reverse-reverse arguments)

taking_from-short : (n : ℕ) (xs taken : List Value) (act : List Value → List Value → List Change) → length xs < n
    → taking_from n taken act xs ≡ []
taking_from-short zero xs taken act l = absurd (omega arith)
taking_from-short (suc n) [] taken act l = refl
taking_from-short (suc n) (x ∷ xs) taken act l = taking_from-short n xs (x ∷ taken) act (omega arith)

-- with fewer operands no rule fits
pub taking-short : (n : ℕ) (xs : List Value) (act : List Value → List Value → List Change) → length xs < n
    → taking n act xs ≡ []
taking-short n xs act l = taking_from-short n xs [] act l
