-- What is read from a list at an index.
-- For: slices and vectors, as contracts of std see them
-- By: induction over the list
use Rattle.std.proofs.Common.{◌≡◌, ℕ, zero, suc, ◌<◌, List, [], ◌∷◌, length, Option, Some, None, refl, sym, arith}
use Rattle.std.proofs.Common.{slice_get, slice_set}
use Rattle.std.specs.Borrow.{Bor}
use Rattle.std.specs.Slice.{IsItemAt}
use Rattle.std.proofs.lemmas.Bool.{ltb-true, ltb-false}
use Rattle.std.proofs.lemmas.Option.{slice_get_read, slice_get_past}

-- what `get` answers
pub item-at : {X : Type 0} (xs : List X) (i : ℕ) (x : Bor X) → IsItemAt xs i (Some x) → slice_get xs i ≡ Some x.now
item-at xs i x h = slice_get_read xs (length xs) i x.now refl (ltb-true i (length xs) (sym h.0)) h.1

pub no_item-at : {X : Type 0} (xs : List X) (i : ℕ) → IsItemAt xs i None → slice_get xs i ≡ None
no_item-at xs i h = slice_get_past xs i (ltb-false i (length xs) (sym h.0))

module _ {X : Type 0} where
  pub set-here : (xs : List X) (i : ℕ) (x : X) → i < length xs → slice_get (slice_set xs i x) i ≡ Some x
  set-here [] i x l = absurd (omega (arith, l))
  set-here (y ∷ ys) zero x l = refl
  set-here (y ∷ ys) (suc i) x l = set-here ys i x (omega (arith, l))

  -- one place has one item
  pub same-item : (o : Option X) (x y : X) → o ≡ Some x → o ≡ Some y → x ≡ y
  same-item o x y h k = cc
