-- Lists that are compared part by part: in two halves, from the end, and place by place.
-- For: `same_halves`, src/objects.rt; the stacks and loops of src/frames.rt; `is_same_heap`, src/heaps.rt
-- By: induction over the lists for one place more
use Rattle.std.proofs.Common.{◌≡◌, ℕ, zero, suc, ◌+◌, ◌<◌, ◌≤◌, Bool, false, List, [], ◌∷◌, ◌++◌, map, reverse, length}
use Rattle.std.proofs.Common.{take, drop, get_or, Some, option_map, refl, sym, ap, ◌∙◌, append_assoc, arith, slice_get}
use Rattle.std.specs.Bool.{Decides}
use Rattle.std.proofs.lemmas.List.{reverse-reverse, take-append-drop, append_cancel_left, take-append-le}
use Rattle.std.proofs.lemmas.Option.{slice_get-map, slice_get_read}

module _ {X : Type 0} where
  -- two lists are the same exactly when their reverses are
  pub straight : (xs ys : List X) → reverse xs ≡ reverse ys → xs ≡ ys
  straight xs ys e = sym (reverse-reverse xs) ∙ ap reverse e ∙ reverse-reverse ys

  pub reversed : (xs ys : List X) (r : Bool) → Decides r (xs ≡ ys) → Decides r (reverse xs ≡ reverse ys)
  reversed xs ys r d = (λ t. ap reverse (d.0 t), λ e. d.1 (straight xs ys e))

  take-all : (xs ys : List X) → take (length xs) (xs ++ ys) ≡ xs
  take-all [] ys = refl
  take-all (x ∷ xs) ys = ap (λ (zs : List X). x ∷ zs) (take-all xs ys)

  -- the first list is the front of the third: both joins are the same exactly when the second list is the rest of the
  -- third and the fourth
  pub cut-same : (xs ys zs us head rest : List X) (r : Bool) → head ≡ take (length xs) zs → rest ≡ drop (length xs) zs
      → xs ≡ head → Decides r (ys ≡ rest ++ us) → Decides r (xs ++ ys ≡ zs ++ us)
  cut-same xs ys zs us head rest r h t e d =
      let whole : zs ≡ xs ++ rest = sym (take-append-drop (length xs) zs)
      ∙ ap (λ (vs : List X). vs ++ drop (length xs) zs) (sym h ∙ sym e) ∙ ap (λ (vs : List X). xs ++ vs) (sym t) in
      let all : zs ++ us ≡ xs ++ (rest ++ us) = ap (λ (vs : List X). vs ++ us) whole ∙ append_assoc xs rest us in (
        λ y. ap (λ (vs : List X). xs ++ vs) (d.0 y) ∙ sym all,
        λ q. d.1 (append_cancel_left xs ys (rest ++ us) (q ∙ all)),
      )

  -- the first list is not the front of the third: the joins differ
  pub cut-other : (xs ys zs us head : List X) (r : Bool) → length xs ≤ length zs → head ≡ take (length xs) zs
      → r ≡ false → Decides r (xs ≡ head) → Decides r (xs ++ ys ≡ zs ++ us)
  cut-other xs ys zs us head r l h f d =
      (λ t. cc, λ q. d.1 (sym (take-all xs ys) ∙ ap (take (length xs)) q ∙ take-append-le (length xs) zs us l ∙ sym h))

  drop-nothing : (n : ℕ) → drop {A = X} n [] ≡ []
  drop-nothing zero = refl
  drop-nothing (suc n) = refl

  -- lists with the same item at a place, and the same items behind it, are the same from there on
  one-place : (xs ys : List X) (n : ℕ) → slice_get xs n ≡ slice_get ys n → drop (suc n) xs ≡ drop (suc n) ys
      → drop n xs ≡ drop n ys
  one-place [] [] n e d = refl
  one-place [] (y ∷ ys) zero e d = cc
  one-place (x ∷ xs) [] zero e d = cc
  one-place (x ∷ xs) (y ∷ ys) zero e d = let h : x ≡ y = cc e in ap (λ z. z ∷ xs) h ∙ ap (λ (zs : List X). y ∷ zs) d
  one-place [] (y ∷ ys) (suc n) e d = sym (drop-nothing n) ∙ one-place [] ys n e d
  one-place (x ∷ xs) [] (suc n) e d = one-place xs [] n e d ∙ drop-nothing n
  one-place (x ∷ xs) (y ∷ ys) (suc n) e d = one-place xs ys n e d

  -- one turn of a loop that compares two lists place by place
  pub so-far : {P : Type 0} (xs ys : List X) (n : ℕ) → slice_get xs n ≡ slice_get ys n → (drop n xs ≡ drop n ys → P)
      → drop (n + 1) xs ≡ drop (n + 1) ys → P
  so-far xs ys n e before rest =
      let next : n + 1 ≡ suc n = omega arith in
      before (one-place xs ys n e (ap (λ k. drop k xs) (sym next) ∙ rest ∙ ap (λ k. drop k ys) next))

-- the items at one place have the same image exactly when the images of the lists have the same item there
module _ {X Y : Type 0} (f : X → Y) (xs ys : List X) (n : ℕ) (x y : X) where
  read-as : (zs : List X) (z : X) → n < length zs → z ≡ get_or zs n z → slice_get (map f zs) n ≡ Some (f z)
  read-as zs z l e = slice_get-map f zs n ∙ ap (λ o. option_map f o) (slice_get_read zs (length zs) n z refl l e)

  pub place-same : n < length xs → n < length ys → x ≡ get_or xs n x → y ≡ get_or ys n y → f x ≡ f y
      → slice_get (map f xs) n ≡ slice_get (map f ys) n
  place-same lx ly ex ey e = read-as xs x lx ex ∙ ap Some e ∙ sym (read-as ys y ly ey)

  pub same-place : n < length xs → n < length ys → x ≡ get_or xs n x → y ≡ get_or ys n y → map f xs ≡ map f ys
      → f x ≡ f y
  same-place lx ly ex ey e = let h = sym (read-as xs x lx ex) ∙ ap (λ (zs : List Y). slice_get zs n) e
      ∙ read-as ys y ly ey in cc h
