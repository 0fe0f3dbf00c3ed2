use Rattle.std.proofs.Common.{inr, ◌≡◌, ℕ, ◌+◌, ◌++◌, List, Bool, false, length, replicate, refl, sym, ap, ◌∙◌, subst}
use Rattle.std.proofs.Common.{arith}
use Rattle.std.proofs.lemmas.Bool.{both_ways}
use Rattle.golf_theory.specs.Membership.{In}
use Rattle.golf_cert.specs.declared.links.Link.{Link}
use Rattle.golf_cert.specs.declared.links.Verdict.TheVariants.{Proved, Refused}
use Rattle.golf_marks.specs.Flags.{IsSet}
use Rattle.golf_cert.specs.Links.{places_of, IsJustifiedAmong, IsClosedSet, IsVerdictOn}
use Rattle.golf_cert.specs.Verification.{IsVerifying}
use Rattle.golf_cert.proofs.VerdictLaws.{verifying_none, verifying_more, verifying_fails, verifying_ends, closed_alike}
use Rattle.golf_cert.proofs.VerdictLaws.{told_proved, told_refused}
use Rattle.golf_cert.proofs.verdicts.verify.Goals as goal

pub loop-number-init : goal.loop-number-init
loop-number-init c =
    let off : ℕ → List Bool = λ n. replicate n false in
    verifying_none c.args.graph.now c.as_slice-links.result.now c.extend_with.new.self
    (c.in_ok-extend_with.ensures.ok ∙ ap (λ (l : List Bool). l ++ off c.places_in-places.result) c.new-placed.ensures
    ∙ ap off c.places_in-places.ensures.count)

pub returns-in-None : goal.returns-in-None
returns-in-None c =
    let g = c.args.graph.now in
    let links = c.as_slice-links.result.now in
    let r = verifying_fails g links c.loop-number.number c.link_at.result c.loop-number.placed c.loop-number.invariant
    c.link_at.ensures (subst (λ (l : List Bool). IsJustifiedAmong g (IsSet l) c.link_at.result → ⊥)
    c.as_slice-in-loop-number-2.ensures c.in-None.ensures) in
    subst (λ (l : List Link). IsVerdictOn g l (Refused c.loop-number.number)) c.as_slice-links.ensures
    (told_refused g links c.loop-number.number r)

pub loop-number-preserved : goal.loop-number-preserved
loop-number-preserved c =
    let g = c.args.graph.now in
    let links = c.as_slice-links.result.now in
    subst (IsVerifying g links (c.loop-number.number + 1)) (sym c.set.ensures)
    (verifying_more g links c.loop-number.number c.in-Some.place c.link_at.result c.loop-number.placed
    c.loop-number.invariant c.link_at.ensures c.in-Some.ensures.0 c.in-Some.ensures.1
    (subst (λ (l : List Bool). IsJustifiedAmong g (IsSet l) c.link_at.result) c.as_slice-in-loop-number-2.ensures
    c.in-Some.ensures.2))

pub returns-then-not-is_closed : goal.returns-then-not-is_closed
returns-then-not-is_closed c =
    let g = c.args.graph.now in
    let links = c.as_slice-links.result.now in
    let placed = c.loop-number.placed in
    let end : c.loop-number.number ≡ length links = omega arith in
    let e = verifying_ends g links c.loop-number.number placed end c.loop-number.invariant in
    let open_ = λ (k : IsClosedSet g (λ p. In p (places_of g links))).
    both_ways c.is_closed.result c.if-not-is_closed.true
    (c.is_closed.ensures.1 (subst (λ (l : List Bool). IsClosedSet g (IsSet l)) (sym c.as_slice-2.ensures)
    (closed_alike g (λ p. In p (places_of g links)) (IsSet placed) (λ p. ((e.1 p).1, (e.1 p).0)) k))) in
    subst (λ (l : List Link). IsVerdictOn g l (Refused (length links))) c.as_slice-links.ensures
    (told_refused g links (length links) (inr (refl, e.0, open_)))

pub returns : goal.returns
returns c =
    let g = c.args.graph.now in
    let links = c.as_slice-links.result.now in
    let placed = c.loop-number.placed in
    let end : c.loop-number.number ≡ length links = omega arith in
    let e = verifying_ends g links c.loop-number.number placed end c.loop-number.invariant in
    let closed = closed_alike g (IsSet placed) (λ p. In p (places_of g links)) e.1
    (subst (λ (l : List Bool). IsClosedSet g (IsSet l)) c.as_slice-2.ensures
    (c.is_closed.ensures.0 c.if-not-is_closed.false)) in
    subst (λ (l : List Link). IsVerdictOn g l Proved) c.as_slice-links.ensures (told_proved g links e.0 closed)
