-- Scopes after what was walked.
-- For: `behind` and `both`, specs/Statements.antt
-- By: computing; no induction
use Rattle.std.proofs.Common.{◌≡◌, ℕ, ◌+◌, ◌-◌, List, [], ◌++◌, length, sym, ap, ◌∙◌, append_assoc, append-nil}
use Rattle.std.proofs.Common.{length-append, arith}
use Rattle.std.proofs.Math.Seq.{take-append_seam}
use Rattle.golf_check_types.specs.declared.facts.Fact.{Fact}
use Rattle.golf_check_types.specs.declared.locals.Local.{Local}
use Rattle.golf_check_types.specs.declared.scopes.Scope.{Scope}
use Rattle.golf_check_types.specs.Faults.{Fault}
use Rattle.golf_check_types.specs.Scopes.{declared, begun, closed_to}
use Rattle.golf_check_types.specs.Statements.{Walked, judges, both, behind, closed}

scope_at : Scope → List Local → ℕ → Scope
scope_at s ds n = record s { locals = ds; next = n }

pub behind-judges : (s : Scope) (fs : List Fault) (ts : List Fact) → behind s (judges fs ts) ≡ s
unfolding scope_at
behind-judges s fs ts = ap (λ ds. scope_at s ds (s.next + 0)) (append-nil s.locals)
    ∙ ap (λ n. scope_at s s.locals n) (let e : s.next + 0 ≡ s.next = omega arith in e)

-- a walk that leaves the scope as it is
pub stays : (s : Scope) → s ≡ declared s [] 0
unfolding scope_at
stays s = sym (behind-judges s [] [])

pub behind-both : (s : Scope) (a b : Walked) → behind (behind s a) b ≡ behind s (both a b)
unfolding scope_at
behind-both s a b =
    ap (λ ds. scope_at s ds (s.next + length a.slots + length b.slots)) (append_assoc s.locals a.declares b.declares)
    ∙ ap (λ n. scope_at s (s.locals ++ (a.declares ++ b.declares)) n)
    (let e : s.next + length a.slots + length b.slots ≡ s.next + length (a.slots ++ b.slots) = omega
    (arith, length-append a.slots b.slots) in e)

pub behind-closed : (s : Scope) (w : Walked) → closed_to (length s.locals) (behind (begun s) w) ≡ behind s (closed w)
unfolding scope_at
behind-closed s w =
    ap (λ ds. record (scope_at s ds (s.next + length w.slots)) { depth = s.depth + 1 - 1 })
    (take-append_seam s.locals w.declares ∙ sym (append-nil s.locals))
    ∙ ap (λ d. record (scope_at s (s.locals ++ []) (s.next + length w.slots)) { depth = d })
    (let e : s.depth + 1 - 1 ≡ s.depth = omega arith in e)
