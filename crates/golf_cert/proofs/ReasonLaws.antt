-- A place has one reason.
-- For: `OneReason` (golf_cert/specs/Laws.antt) and `reasons_are_unique` (src/laws.rt)
-- By: induction over the distance from the end of the reason
use Rattle.std.proofs.Common.{◌≡◌, ℕ, zero, suc, ◌+◌, ◌-◌, ◌<◌, List, length, get_or, sym, ap, ◌∙◌, subst, arith}
use Rattle.std.proofs.lemmas.List.{get_or_push, length_push, same_lists, get_or_default}
use Rattle.golf_model.specs.declared.graph.GraphParts.{GraphParts}
use Rattle.golf_cert.specs.Levels.{IsLeastBefore, IsReason}
use Rattle.golf_cert.specs.Laws.{OneReason}
use Rattle.golf_cert.proofs.Trails.{level_once}

-- the last place of a reason is the one that it is of
pub reason_last : (g : GraphParts) (p : ℕ) (a : List ℕ) → IsReason g p a → (length a ≡ length a - 1 + 1)
    × (get_or a (length a - 1) 0 ≡ p)
reason_last g p a r =
    let size : length a ≡ length r.ends.0 + 1 = ap length r.ends.1 ∙ length_push r.ends.0 p in (
      omega (arith, size),
      ap (λ (l : List ℕ). get_or l (length a - 1) 0) r.ends.1
          ∙ get_or_push r.ends.0 p 0 (length a - 1) (omega (arith, size)),
    )

-- of two places that are the least before the same one, each is the other
least_once : (g : GraphParts) (level next x y : ℕ) → IsLeastBefore g level next x → IsLeastBefore g level next y → x ≡ y
least_once g level next x y a b = omega (arith, a.least y b.at_level b.justifies, b.least x a.at_level a.justifies)

-- counted from the last one, all places are the same
same_from_last : (g : GraphParts) (p : ℕ) (a b : List ℕ) → IsReason g p a → IsReason g p b → (m : ℕ) → m < length a
    → get_or a (length a - 1 - m) 0 ≡ get_or b (length a - 1 - m) 0
same_from_last g p a b ra rb zero low =
    let size : length a ≡ length b = level_once g p (length a) (length b) ra.level rb.level in
    let same : get_or a (length a - 1) 0 ≡ get_or b (length a - 1) 0 = (reason_last g p a ra).1
    ∙ sym ((reason_last g p b rb).1) ∙ ap (λ (n : ℕ). get_or b (n - 1) 0) (sym size) in
    let none : length a - 1 - zero ≡ length a - 1 = omega arith in
    subst (λ (j : ℕ). get_or a j 0 ≡ get_or b j 0) (sym none) same
same_from_last g p a b ra rb (suc m) low =
    let size : length a ≡ length b = level_once g p (length a) (length b) ra.level rb.level in
    let n : ℕ = length a in
    let k : ℕ = n - 1 - suc m in
    let next : n - 1 - m ≡ k + 1 = omega (arith, low) in
    let rest : get_or a (k + 1) 0 ≡ get_or b (k + 1) 0 =
    subst (λ (j : ℕ). get_or a j 0 ≡ get_or b j 0) next (same_from_last g p a b ra rb m (omega (arith, low))) in
    let ia = ra.before k (omega (arith, low)) in
    let ib = rb.before k (omega (arith, low, size)) in
    least_once g (k + 1) (get_or a (k + 1) 0) (get_or a k 0) (get_or b k 0) ia
    (subst (λ (x : ℕ). IsLeastBefore g (k + 1) x (get_or b k 0)) (sym rest) ib)

pub reason_once : OneReason
reason_once g p a b ra rb =
    let size : length a ≡ length b = level_once g p (length a) (length b) ra.level rb.level in
    same_lists a b size (λ k d low.
    let back : length a - 1 - (length a - 1 - k) ≡ k = omega (arith, low) in
    let same : get_or a k 0 ≡ get_or b k 0 =
    subst (λ (j : ℕ). get_or a j 0 ≡ get_or b j 0) back
    (same_from_last g p a b ra rb (length a - 1 - k) (omega (arith, low))) in
    get_or_default a k d 0 low ∙ same ∙ get_or_default b k 0 d (omega (arith, low, size)))
