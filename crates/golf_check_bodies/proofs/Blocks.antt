-- A block whose facts are counted, and two walks one after the other.
-- For: `case` and `default_clause`, src/statements.rt; `counted`, `in_block` and `then`,
-- golf_check_types/specs/Statements.antt
-- By: computing; no induction
use Rattle.std.proofs.Common.{◌≡◌, ℕ, ◌-◌, List, [], ◌∷◌, ◌++◌, length, refl, sym, ap, ◌∙◌, append_assoc}
use Rattle.std.specs.Prelude.{slice_set}
use Rattle.golf_check_types.specs.declared.facts.Fact.{Fact}
use Rattle.golf_check_types.specs.declared.facts.Fact.TheVariants as fact
use Rattle.golf_check_types.specs.declared.scopes.Scope.{Scope}
use Rattle.golf_check_types.specs.Facts.{part}
use Rattle.golf_check_types.specs.Scopes.{begun, closed_to}
use Rattle.golf_check_types.specs.Statements.{Walk, Walked, behind, then, in_block, counted}
use Rattle.golf_check_types.proofs.Seams.{none_of_both, part_filled}
use Rattle.golf_check_types.proofs.WalkLaws.{behind-both, behind-closed}

-- a walk that breaks nothing: the scope and the facts after it
abbrev pub Passed : Walked → Scope → Scope → List Fact → List Fact → Type 0
Passed w s t old new = (w.faults ≡ []) × ((t ≡ behind s w) × (new ≡ old ++ w.facts))

-- one walk, and then another
pub passed_both : (a b : Walk) (s t u : Scope) (old mid new : List Fact) → Passed (a s) s t old mid
    → Passed (b t) t u mid new → Passed (then a b s) s u old new
passed_both a b s t u old mid new h k =
    let there : b t ≡ b (behind s (a s)) = ap b h.1.0 in (
      none_of_both (a s).faults (b (behind s (a s))).faults h.0 (sym (ap (λ (w : Walked). w.faults) there) ∙ k.0),
      (
        k.1.0 ∙ (ap (λ z. behind z (b z)) h.1.0 ∙ behind-both s (a s) (b (behind s (a s)))),
        k.1.1 ∙ (ap (λ (w : Walked). mid ++ w.facts) there
            ∙ (ap (λ fs. fs ++ (b (behind s (a s))).facts) h.1.1
            ∙ append_assoc old (a s).facts (b (behind s (a s))).facts)),
      ),
    )

-- a block whose facts are counted: it is begun, walked and ended, and then its place is filled
pub counted_block : (w : Walk) (s t u v : Scope) (old kept mid new : List Fact) (mark at : ℕ) → t ≡ begun s
    → mark ≡ length s.locals → at ≡ length old → kept ≡ old ++ fact.Part 0 ∷ [] → Passed (w t) t u kept mid
    → v ≡ closed_to mark u → new ≡ slice_set mid at (fact.Part (length mid - at - 1))
    → Passed (counted (in_block w) s) s v old new
counted_block w s t u v old kept mid new mark at begins marked here keeps h closes fills =
    let same : w t ≡ w (begun s) = ap w begins in (
      sym (ap (λ (x : Walked). x.faults) same) ∙ h.0,
      (
        closes ∙ (ap (closed_to mark) h.1.0 ∙
            (ap (λ n. closed_to n (behind t (w t))) marked
            ∙ (ap (λ z. closed_to (length s.locals) (behind z (w z))) begins ∙ behind-closed s (w (begun s))))),
        fills ∙ (part_filled old (w t).facts mid (fact.Part 0) at (length mid - at - 1) here
            (h.1.1 ∙ ap (λ fs. fs ++ (w t).facts) keeps) refl ∙ ap (λ (x : Walked). old ++ part x.facts) same),
      ),
    )
