use Rattle.std.proofs.Common.{◌≡◌, ◌∷◌, [], ◌++◌, arith, subst, sym, ℕ, List, ap, length, ◌∙◌}
use Rattle.std.proofs.lemmas.List.{length_push}
use Rattle.golf_theory.specs.Membership.{In}
use Rattle.golf_rows.specs.Rows.{row_of}
use Rattle.golf_rows.proofs.Adding.{empty-push}
use Rattle.golf_rows.proofs.rows.empty_rows.Goals as goal

pub loop-preserved : goal.loop-preserved
loop-preserved c =
    let old = c.loop.rows in
    let is : c.push.new.self ≡ old ++ [] ∷ [] = c.in_ok-push.ensures.ok
    ∙ ap (λ (row : List ℕ). old ++ row ∷ []) c.new.ensures in (
      omega (arith, ap length is, length_push old [], c.loop.invariant.0),
      subst (λ (rows : List (List ℕ)). (n s : ℕ) → In s (row_of rows n) → ⊥) (sym is)
          (empty-push old c.loop.invariant.1),
    )
