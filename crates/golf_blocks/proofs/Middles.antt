-- What concerns one number in a list of three parts, of which the first has smaller numbers and the last greater ones.
-- For: `entries_in` (specs/Blocks.antt)
-- By: induction over the first part, and over the second
use Rattle.std.proofs.Common.{◌≡◌, ℕ, zero, suc, ◌+◌, ◌<◌, ◌≤◌, true, false, cond, List, [], ◌∷◌, ◌++◌}
use Rattle.std.proofs.Common.{length, Option, Some, ◌==◌, nat_lt, refl, ap, ◌∙◌, arith, slice_get, slice_set}
use Rattle.std.proofs.lemmas.Bool.{ne_eqb, ltb-false}
use Rattle.golf_theory.specs.Maps.{find, Rises, AllBelow, rank}
use Rattle.golf_theory.proofs.MapFinds.{find_below}

module _ {X : Type 0} where
  find-left : (g : ℕ) (ms bs : List (ℕ × X)) → Rises (suc g) bs → find g (ms ++ bs) ≡ find g ms
  find-left g [] bs r = find_below g (suc g) bs (omega arith) r
  find-left g (m ∷ ms) bs r = ap (λ (o : Option X). cond (g == m.0) (Some m.1) o) (find-left g ms bs r)

  pub find-middle : (g : ℕ) (us ms bs : List (ℕ × X)) → AllBelow g us → Rises (suc g) bs
      → find g (us ++ (ms ++ bs)) ≡ find g ms
  find-middle g [] ms bs u r = find-left g ms bs r
  find-middle g (a ∷ us) ms bs u r =
      ap (λ b. cond b (Some a.1) (find g (us ++ (ms ++ bs)))) (ne_eqb g a.0 (λ e. omega (arith, u.0, e)))
      ∙ find-middle g us ms bs u.1 r

  pub rank-least : (k : ℕ) (es : List (ℕ × X)) (e : ℕ × X) → slice_get es (rank k es) ≡ Some e → k ≤ e.0
  rank-least k [] e h = absurd (cc)
  rank-least k (f ∷ es) e h = elim (nat_lt f.0 k) as (λ t. nat_lt f.0 k ≡ t
      → slice_get (f ∷ es) (cond t (suc (rank k es)) 0) ≡ Some e → k ≤ e.0) [
        | true ↦ λ t i. rank-least k es e i
        | false ↦ λ t i. let l = ltb-false f.0 k t in let same : f ≡ e =
            cc in omega (arith, l, ap (λ (x : ℕ × X). x.0) same)
      ] refl h

-- ---- by index

module _ {X : Type 0} where
  pub get-left : (ms bs : List X) (i : ℕ) → i < length ms → slice_get (ms ++ bs) i ≡ slice_get ms i
  get-left [] bs i l = absurd (omega (arith, l))
  get-left (m ∷ ms) bs zero l = refl
  get-left (m ∷ ms) bs (suc i) l = get-left ms bs i (omega (arith, l))

  pub get-middle : (us ms bs : List X) (i j : ℕ) → i < length ms → j ≡ length us + i
      → slice_get (us ++ (ms ++ bs)) j ≡ slice_get ms i
  get-middle [] ms bs i j l e = ap (slice_get (ms ++ bs)) (let q : j ≡ i = omega (arith, e) in q) ∙ get-left ms bs i l
  get-middle (a ∷ us) ms bs i zero l e = absurd (omega (arith, e))
  get-middle (a ∷ us) ms bs i (suc j) l e = get-middle us ms bs i j l (omega (arith, e))

  set-left : (ms bs : List X) (i : ℕ) (x : X) → i < length ms → slice_set (ms ++ bs) i x ≡ slice_set ms i x ++ bs
  set-left [] bs i x l = absurd (omega (arith, l))
  set-left (m ∷ ms) bs zero x l = refl
  set-left (m ∷ ms) bs (suc i) x l = ap (λ (zs : List X). m ∷ zs) (set-left ms bs i x (omega (arith, l)))

  pub set-middle : (us ms bs : List X) (i j : ℕ) (x : X) → i < length ms → j ≡ length us + i
      → slice_set (us ++ (ms ++ bs)) j x ≡ us ++ (slice_set ms i x ++ bs)
  set-middle [] ms bs i j x l e = ap (λ (k : ℕ). slice_set (ms ++ bs) k x) (let q : j ≡ i = omega (arith, e) in q)
      ∙ set-left ms bs i x l
  set-middle (a ∷ us) ms bs i zero x l e = absurd (omega (arith, e))
  set-middle (a ∷ us) ms bs i (suc j) x l e =
      ap (λ (zs : List X). a ∷ zs) (set-middle us ms bs i j x l (omega (arith, e)))
