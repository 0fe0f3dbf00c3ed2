-- What concerns one number in a map of three parts, of which the first has smaller numbers and the last greater ones.
-- For: `entries_in` (golf_blocks/specs/Blocks.antt)
-- By: induction over the first part, and over the second
use Rattle.std.proofs.Common.{◌≡◌, ℕ, zero, suc, ◌<◌, ◌≤◌, Bool, true, false, cond, not, List, [], ◌∷◌, ◌++◌, length}
use Rattle.std.proofs.Common.{take, drop, Some, ◌==◌, nat_lt, refl, ap, ◌∙◌, subst, arith, slice_get}
use Rattle.std.proofs.lemmas.Bool.{ne_eqb, lt-ltb, le-ltb}
use Rattle.golf_theory.specs.Maps.{insert, only, Rises, AllBelow}
use Rattle.golf_theory.proofs.MapOrder.{Rises-less}
use Rattle.golf_theory.proofs.Placing.{only_below}
use Rattle.golf_theory.specs.Flags.{kept, left_out}

module _ {X : Type 0} where
  pub rises-append : (j m : ℕ) (es fs : List (ℕ × X)) → j ≤ m → Rises j es → AllBelow m es → Rises m fs
      → Rises j (es ++ fs)
  rises-append j m [] fs l r a s = Rises-less j m fs l s
  rises-append j m (e ∷ es) fs l r a s = (r.0, rises-append (suc e.0) m es fs (omega (arith, a.0)) r.1 a.1 s)

  pub below-append : (n : ℕ) (es fs : List (ℕ × X)) → AllBelow n es → AllBelow n fs → AllBelow n (es ++ fs)
  below-append n [] fs a b = b
  below-append n (e ∷ es) fs a b = (a.0, below-append n es fs a.1 b)

  pub below-drop : (n i : ℕ) (es : List (ℕ × X)) → AllBelow n es → AllBelow n (drop i es)
  below-drop n zero es a = a
  below-drop n (suc i) [] a = tt
  below-drop n (suc i) (e ∷ es) a = below-drop n i es a.1

  pub below-at : (n i : ℕ) (es : List (ℕ × X)) (e : ℕ × X) → AllBelow n es → slice_get es i ≡ Some e → e.0 < n
  below-at n i [] e a h = absurd (cc)
  below-at n zero (f ∷ es) e a h = let same : f ≡ e = cc in omega (arith, a.0, ap (λ (x : ℕ × X). x.0) same)
  below-at n (suc i) (f ∷ es) e a h = below-at n i es e a.1 h

  pub rises-take : (j i : ℕ) (es : List (ℕ × X)) → Rises j es → Rises j (take i es)
  rises-take j zero es r = tt
  rises-take j (suc i) [] r = tt
  rises-take j (suc i) (e ∷ es) r = (r.0, rises-take (suc e.0) i es r.1)

  -- an entry, with those up to it and those behind it
  pub record Cut (j i : ℕ) (e : ℕ × X) (es : List (ℕ × X)) : Type 0 where
    pub least : j ≤ e.0
    pub below : AllBelow (suc e.0) (take (suc i) es)
    pub above : Rises (suc e.0) (drop (suc i) es)

  pub cut-at : (j i : ℕ) (es : List (ℕ × X)) (e : ℕ × X) → Rises j es → slice_get es i ≡ Some e → Cut j i e es
  cut-at j i [] e r h = absurd (cc)
  cut-at j zero (f ∷ es) e r h =
      let same : f ≡ e = cc in
      let number : f.0 ≡ e.0 = ap (λ (x : ℕ × X). x.0) same in
      record {
        least = omega (arith, r.0, number);
        below = (omega (arith, number), tt);
        above = subst (λ (n : ℕ). Rises (suc n) es) number r.1;
      }
  cut-at j (suc i) (f ∷ es) e r h =
      let rest = cut-at (suc f.0) i es e r.1 h in
      let less : suc f.0 ≤ e.0 = rest.least in
      record {
        least = omega (arith, r.0, less);
        below = (omega (arith, less), rest.below);
        above = rest.above;
      }

  -- there is a number between the bounds, if there is an entry
  pub some-between : (j n : ℕ) (es : List (ℕ × X)) → 0 < length es → Rises j es → AllBelow n es → j < n
  some-between j n [] l r a = absurd (omega (arith, l))
  some-between j n (e ∷ es) l r a = omega (arith, r.0, a.0)

  -- ---- one entry more

  insert-left : (g : ℕ) (v : X) (ms bs : List (ℕ × X)) → Rises (suc g) bs → insert g v (ms ++ bs) ≡ insert g v ms ++ bs
  insert-left g v [] [] r = refl
  insert-left g v [] (b ∷ bs) r = ap (λ t. cond t (b ∷ insert g v bs) ((g, v) ∷ b ∷ bs))
      (le-ltb b.0 g (omega (arith, r.0)))
  insert-left g v (m ∷ ms) bs r =
      elim (nat_lt m.0 g) as (λ t. cond t (m ∷ insert g v (ms ++ bs)) ((g, v) ∷ m ∷ (ms ++ bs)) ≡ cond t
      (m ∷ insert g v ms) ((g, v) ∷ m ∷ ms) ++ bs) [
        | true ↦ ap (λ (zs : List (ℕ × X)). m ∷ zs) (insert-left g v ms bs r)
        | false ↦ refl
      ]

  pub insert-middle : (g : ℕ) (v : X) (us ms bs : List (ℕ × X)) → AllBelow g us → Rises (suc g) bs
      → insert g v (us ++ (ms ++ bs)) ≡ us ++ (insert g v ms ++ bs)
  insert-middle g v [] ms bs u r = insert-left g v ms bs r
  insert-middle g v (a ∷ us) ms bs u r =
      ap (λ t. cond t (a ∷ insert g v (us ++ (ms ++ bs))) ((g, v) ∷ a ∷ (us ++ (ms ++ bs)))) (lt-ltb a.0 g u.0)
      ∙ ap (λ (zs : List (ℕ × X)). a ∷ zs) (insert-middle g v us ms bs u.1 r)

  pub insert-last : (g : ℕ) (v : X) (es : List (ℕ × X)) → AllBelow g es → insert g v es ≡ es ++ (g, v) ∷ []
  insert-last g v [] a = refl
  insert-last g v (e ∷ es) a =
      ap (λ t. cond t (e ∷ insert g v es) ((g, v) ∷ e ∷ es)) (lt-ltb e.0 g a.0)
      ∙ ap (λ (zs : List (ℕ × X)). e ∷ zs) (insert-last g v es a.1)

  pub insert-length : (g : ℕ) (v : X) (es : List (ℕ × X)) → length (insert g v es) ≡ suc (length es)
  insert-length g v [] = refl
  insert-length g v (e ∷ es) = elim (nat_lt e.0 g) as (λ t. length (cond t (e ∷ insert g v es) ((g, v) ∷ e ∷ es)) ≡ suc
      (suc (length es))) [
        | true ↦ ap suc (insert-length g v es)
        | false ↦ refl
      ]

  -- ---- one entry less

  only-append : (p : ℕ → Bool) (es fs : List (ℕ × X)) → only p (es ++ fs) ≡ only p es ++ only p fs
  only-append p [] fs = refl
  only-append p (e ∷ es) fs = elim (p e.0) as (λ b. cond b (e ∷ only p (es ++ fs)) (only p (es ++ fs)) ≡ cond b
      (e ∷ only p es) (only p es) ++ only p fs) [
        | true ↦ ap (λ (zs : List (ℕ × X)). e ∷ zs) (only-append p es fs)
        | false ↦ only-append p es fs
      ]

  pub only-length : (p : ℕ → Bool) (es : List (ℕ × X)) → length (only p es) ≤ length es
  only-length p [] = omega arith
  only-length p (e ∷ es) = let h = only-length p
      es in elim (p e.0) as (λ b. length (cond b (e ∷ only p es) (only p es)) ≤ suc (length es)) [
        | true ↦ omega (arith, h)
        | false ↦ omega (arith, h)
      ]

  pub only-under : (g : ℕ) (es : List (ℕ × X)) → AllBelow g es → only (λ h. not (h == g)) es ≡ es
  only-under g [] a = refl
  only-under g (e ∷ es) a =
      ap (λ b. cond (not b) (e ∷ only (λ h. not (h == g)) es) (only (λ h. not (h == g)) es))
      (ne_eqb e.0 g (λ q. omega (arith, a.0, q)))
      ∙ ap (λ (zs : List (ℕ × X)). e ∷ zs) (only-under g es a.1)

  pub only-middle : (g : ℕ) (us ms bs : List (ℕ × X)) → AllBelow g us → Rises (suc g) bs
      → only (λ h. not (h == g)) (us ++ (ms ++ bs)) ≡ us ++ (only (λ h. not (h == g)) ms ++ bs)
  only-middle g us ms bs u r =
      only-append (λ h. not (h == g)) us (ms ++ bs)
      ∙ ap (λ (zs : List (ℕ × X)). zs ++ only (λ h. not (h == g)) (ms ++ bs)) (only-under g us u)
      ∙ ap (λ (zs : List (ℕ × X)). us ++ zs)
      (only-append (λ h. not (h == g)) ms bs
      ∙ ap (λ (zs : List (ℕ × X)). only (λ h. not (h == g)) ms ++ zs) (only_below g (suc g) bs (omega arith) r))

-- ---- flags

module _ {X : Type 0} where
  pub kept-length : (bits : List Bool) (xs : List X) → length (kept bits xs) ≤ length xs
  kept-length [] xs = omega arith
  kept-length (b ∷ bits) [] = omega arith
  kept-length (b ∷ bits) (x ∷ xs) = let h =
      kept-length bits xs in elim b as (λ c. length (cond c (x ∷ kept bits xs) (kept bits xs)) ≤ suc (length xs)) [
        | true ↦ omega (arith, h)
        | false ↦ omega (arith, h)
      ]

  pub left-split : (m : ℕ) (bits : List Bool) (xs ys : List X) → m ≡ length xs
      → left_out bits (xs ++ ys) ≡ left_out (take m bits) xs ++ left_out (drop m bits) ys
  left-split zero bits [] ys e = refl
  left-split zero bits (x ∷ xs) ys e = absurd (omega (arith, e))
  left-split (suc m) bits [] ys e = absurd (omega (arith, e))
  left-split (suc m) [] (x ∷ xs) ys e = refl
  left-split (suc m) (b ∷ bits) (x ∷ xs) ys e =
      elim b as (λ c. cond c (left_out bits (xs ++ ys)) (x ∷ left_out bits (xs ++ ys)) ≡ cond c
      (left_out (take m bits) xs) (x ∷ left_out (take m bits) xs) ++ left_out (drop m bits) ys) [
        | true ↦ left-split m bits xs ys (omega (arith, e))
        | false ↦ ap (λ (zs : List X). x ∷ zs) (left-split m bits xs ys (omega (arith, e)))
      ]
