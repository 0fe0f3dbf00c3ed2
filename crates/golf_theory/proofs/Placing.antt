-- Numbers in rising lists, and the entries of a list of places.
-- For: `entries` and `placed`, specs/Stored.antt
-- By: induction over the list of places, and over the list of entries
use Rattle.std.proofs.Common.{◌≡◌, ℕ, zero, suc, ◌+◌, ◌<◌, ◌≤◌, Bool, true, false, cond, not, List, [], ◌∷◌, Option}
use Rattle.std.proofs.Common.{Some, None, ◌==◌, refl, sym, ap, ◌∙◌, arith, slice_get, slice_set}
use Rattle.std.proofs.lemmas.Bool.{eqb-true, eq-eqb, ne_eqb, le-ltb, lt-ltb}
use Rattle.golf_theory.specs.Maps.{find, put, only, keys_where, Rises}
use Rattle.golf_theory.specs.Stored.{entries, placed}
use Rattle.golf_theory.proofs.MapFinds.{find_below}
use Rattle.golf_theory.proofs.MapOrder.{Rises-less}

pub Rises-entries : {X : Type 0} (k : ℕ) (xs : List (Option X)) → Rises k (entries k xs)
Rises-entries k [] = tt
Rises-entries k (None ∷ xs) = Rises-less k (suc k) (entries (suc k) xs) (omega arith) (Rises-entries (suc k) xs)
Rises-entries k (Some x ∷ xs) = (omega arith, Rises-entries (suc k) xs)

-- a key below all is not there
pub put_below : {X : Type 0} (g : ℕ) (v : X) (k : ℕ) (es : List (ℕ × X)) → g < k → Rises k es → put g v es ≡ es
put_below g v k [] l r = refl
put_below g v k (e ∷ es) l r =
    ap (λ b. (e.0, cond b v e.1) ∷ put g v es) (ne_eqb g e.0 (λ a. omega arith))
    ∙ ap (λ (z : List _). e ∷ z) (put_below g v (suc e.0) es (omega arith) r.1)

pub only_below : {X : Type 0} (g k : ℕ) (es : List (ℕ × X)) → g < k → Rises k es → only (λ h. not (h == g)) es ≡ es
only_below g k [] l r = refl
only_below g k (e ∷ es) l r =
    ap (λ b. cond (not b) (e ∷ only (λ h. not (h == g)) es) (only (λ h. not (h == g)) es))
    (ne_eqb e.0 g (λ a. omega arith))
    ∙ ap (λ (z : List _). e ∷ z) (only_below g (suc e.0) es (omega arith) r.1)

pub entries-set : {X : Type 0} (k : ℕ) (xs : List (Option X)) (i : ℕ) (v w : X) → slice_get xs i ≡ Some (Some w)
    → entries k (slice_set xs i (Some v)) ≡ put (k + i) v (entries k xs)
entries-set k [] i v w h = cc
entries-set k (None ∷ xs) zero v w h = cc
entries-set k (None ∷ xs) (suc i) v w h = entries-set (suc k) xs i v w h
    ∙ ap (λ n. put n v (entries (suc k) xs)) (omega arith)
entries-set k (Some x ∷ xs) zero v w h =
    ap (λ (z : List _). (k, v) ∷ z) (sym (put_below (k + 0) v (suc k) (entries (suc k) xs) (omega arith)
    (Rises-entries (suc k) xs)))
    ∙ ap (λ b. (k, cond b v x) ∷ put (k + 0) v (entries (suc k) xs)) (sym (eq-eqb (k + 0) k (omega arith)))
entries-set k (Some x ∷ xs) (suc i) v w h =
    ap (λ (z : List _). (k, x) ∷ z) (entries-set (suc k) xs i v w h
    ∙ ap (λ n. put n v (entries (suc k) xs)) (omega arith))
    ∙ ap (λ b. (k, cond b v x) ∷ put (k + suc i) v (entries (suc k) xs)) (sym (ne_eqb (k + suc i) k (λ a. omega arith)))

-- a place that is emptied has its key cut
pub entries-clear : {X : Type 0} (k : ℕ) (xs : List (Option X)) (i : ℕ)
    → entries k (slice_set xs i None) ≡ only (λ h. not (h == k + i)) (entries k xs)
entries-clear k [] i = refl
entries-clear k (None ∷ xs) zero = sym (only_below (k + 0) (suc k) (entries (suc k) xs) (omega arith)
    (Rises-entries (suc k) xs))
entries-clear k (None ∷ xs) (suc i) = entries-clear (suc k) xs i
    ∙ ap (λ n. only (λ h. not (h == n)) (entries (suc k) xs)) (omega arith)
entries-clear k (Some x ∷ xs) zero =
    sym (only_below (k + 0) (suc k) (entries (suc k) xs) (omega arith) (Rises-entries (suc k) xs))
    ∙ ap (λ b. cond (not b) ((k, x) ∷ only (λ h. not (h == k + 0)) (entries (suc k) xs))
    (only (λ h. not (h == k + 0)) (entries (suc k) xs))) (sym (eq-eqb k (k + 0) (omega arith)))
entries-clear k (Some x ∷ xs) (suc i) =
    ap (λ (z : List _). (k, x) ∷ z) (entries-clear (suc k) xs i
    ∙ ap (λ n. only (λ h. not (h == n)) (entries (suc k) xs)) (omega arith))
    ∙ ap (λ b. cond (not b) ((k, x) ∷ only (λ h. not (h == k + suc i)) (entries (suc k) xs))
    (only (λ h. not (h == k + suc i)) (entries (suc k) xs))) (sym (ne_eqb k (k + suc i) (λ a. omega arith)))

pub find-entries : {X : Type 0} (k : ℕ) (xs : List (Option X)) (i : ℕ) (v : X) → slice_get xs i ≡ Some (Some v)
    → find (k + i) (entries k xs) ≡ Some v
find-entries k [] i v h = cc
find-entries k (None ∷ xs) zero v h = cc
find-entries k (None ∷ xs) (suc i) v h = ap (λ n. find n (entries (suc k) xs)) (omega arith)
    ∙ find-entries (suc k) xs i v h
find-entries k (Some x ∷ xs) zero v h = ap (λ b. cond b (Some x) (find (k + 0) (entries (suc k) xs)))
    (eq-eqb (k + 0) k (omega arith)) ∙ cc
find-entries k (Some x ∷ xs) (suc i) v h =
    ap (λ b. cond b (Some x) (find (k + suc i) (entries (suc k) xs))) (ne_eqb (k + suc i) k (λ a. omega arith))
    ∙ ap (λ n. find n (entries (suc k) xs)) (omega arith) ∙ find-entries (suc k) xs i v h

-- and back
pub at-entries : {X : Type 0} (k : ℕ) (xs : List (Option X)) (i : ℕ) (v : X) → find (k + i) (entries k xs) ≡ Some v
    → slice_get xs i ≡ Some (Some v)
at-entries k [] i v h = cc
at-entries k (None ∷ xs) zero v h = cc (find_below (k + 0) (suc k) (entries (suc k) xs) (omega arith)
    (Rises-entries (suc k) xs))
at-entries k (None ∷ xs) (suc i) v h = at-entries (suc k) xs i v
    (ap (λ n. find n (entries (suc k) xs)) (omega arith) ∙ h)
at-entries k (Some x ∷ xs) zero v h = ap Some
    (sym (ap (λ b. cond b (Some x) (find (k + 0) (entries (suc k) xs))) (eq-eqb (k + 0) k (omega arith))) ∙ h)
at-entries k (Some x ∷ xs) (suc i) v h =
    at-entries (suc k) xs i v (ap (λ n. find n (entries (suc k) xs)) (omega arith)
    ∙ sym (ap (λ b. cond b (Some x) (find (k + suc i) (entries (suc k) xs))) (ne_eqb (k + suc i) k (λ a. omega arith)))
    ∙ h)

-- a value that passes brings its key to its place among the keys that pass
module _ {X : Type 0} (p : ℕ → X → Bool) (g : ℕ) (v : X) where
  placed_below : (k : ℕ) (es : List (ℕ × X)) → g < k → Rises k es → placed g (keys_where p es) ≡ g ∷ keys_where p es
  placed_below k [] l r = refl
  placed_below k (e ∷ es) l r =
      elim (p e.0 e.1) as (λ b. placed g (cond b (e.0 ∷ keys_where p es) (keys_where p es)) ≡ g
      ∷ cond b (e.0 ∷ keys_where p es) (keys_where p es)) [
        | true ↦ ap (λ b. cond b (g ∷ e.0 ∷ keys_where p es) (e.0 ∷ placed g (keys_where p es)))
            (lt-ltb g e.0 (omega arith))
        | false ↦ placed_below (suc e.0) es (omega arith) r.1
      ]

  found_above : (j : ℕ) (fs : List (ℕ × X)) (old : X) → find g fs ≡ Some old → Rises (suc j) fs → j ≤ g
  found_above j [] old i q = cc
  found_above j (f ∷ fs) old i q =
      elim (g == f.0) as (λ b. g == f.0 ≡ b → cond b (Some f.1) (find g fs) ≡ Some old → j ≤ g) [
        | true ↦ λ u m. let same : g ≡ f.0 = eqb-true g f.0 u in omega arith
        | false ↦ λ u m. let k : f.0 ≤ g = found_above f.0 fs old m q.1 in omega arith
      ] refl i

  pub keys_where-put_in : (k : ℕ) (es : List (ℕ × X)) (old : X) → Rises k es → find g es ≡ Some old → p g old ≡ false
      → p g v ≡ true → keys_where p (put g v es) ≡ placed g (keys_where p es)
  keys_where-put_in k [] old r h f t = cc
  keys_where-put_in k (e ∷ es) old r h f t =
      elim (g == e.0) as (λ b. g == e.0 ≡ b → cond b (Some e.1) (find g es) ≡ Some old
      → cond (p e.0 (cond b v e.1)) (e.0 ∷ keys_where p (put g v es)) (keys_where p (put g v es)) ≡ placed g
      (cond (p e.0 e.1) (e.0 ∷ keys_where p es) (keys_where p es))) [
        | true ↦ λ u i.
            let same : g ≡ e.0 = eqb-true g e.0 u in
            let was : p e.0 e.1 ≡ false = ap (λ n. p n e.1) (sym same) ∙ ap (p g) (cc) ∙ f in
            ap (λ b. cond b (e.0 ∷ keys_where p (put g v es)) (keys_where p (put g v es)))
            (ap (λ n. p n v) (sym same) ∙ t)
            ∙ ap (λ (z : List (ℕ × X)). e.0 ∷ keys_where p z) (put_below g v (suc e.0) es (omega arith) r.1)
            ∙ ap (λ n. n ∷ keys_where p es) (sym same)
            ∙ sym (placed_below (suc e.0) es (omega arith) r.1)
            ∙ ap (λ b. placed g (cond b (e.0 ∷ keys_where p es) (keys_where p es))) (sym was)
        | false ↦ λ u i.
            let rest = keys_where-put_in (suc e.0) es old r.1 i f t in
            elim (p e.0 e.1) as (λ b. cond b (e.0 ∷ keys_where p (put g v es)) (keys_where p (put g v es)) ≡ placed g
            (cond b (e.0 ∷ keys_where p es) (keys_where p es))) [
              | true ↦ ap (λ (z : List ℕ). e.0 ∷ z) rest
                  ∙ ap (λ b. cond b (g ∷ e.0 ∷ keys_where p es) (e.0 ∷ placed g (keys_where p es)))
                  (sym (le-ltb g e.0 (found_above e.0 es old i r.1)))
              | false ↦ rest
            ]
      ] refl h
