use Rattle.std.proofs.Common.{◌≡◌, ℕ, zero, suc, ◌+◌, List, [], ◌∷◌, length, slice_get, drop, refl, sym, ap, ◌∙◌, arith}
use Rattle.std.proofs.lemmas.List.{length-drop}
use Rattle.golf_state.proofs.runnable.Runnable.at.Goals as goal

same : (k : ℕ) → k ≡ k + 0
same k = omega arith

more : (k n : ℕ) → suc (k + n) ≡ k + suc n
more k n = omega arith

behind : (n k : ℕ) (xs : List ℕ) → slice_get (drop n xs) k ≡ slice_get xs (k + n)
behind zero k xs = ap (slice_get xs) (same k)
behind (suc n) k [] = refl
behind (suc n) k (x ∷ xs) = behind n k xs ∙ ap (slice_get (x ∷ xs)) (more k n)

pub overflow_add-place : goal.overflow_add-place
overflow_add-place c =
    let r = c.self.inside in
    let n = ap (λ (xs : List ℕ). length xs) c.self.view_is in
    let m = length-drop r.skipped r.roster.now.running in
    omega (arith, c.requires, n, m, c.self.invariant.1)

pub returns : goal.returns
returns c =
    let r = c.self.inside in
    ap (λ (xs : List ℕ). slice_get xs c.args.place) (sym c.self.view_is)
    ∙ behind r.skipped c.args.place r.roster.now.running ∙ c.running_at.ensures
