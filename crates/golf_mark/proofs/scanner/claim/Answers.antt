use Rattle.std.proofs.Common.{ℕ, ◌<◌, List, inl, inr, refl, sym, subst}
use Rattle.golf_theory.specs.Membership.{In}
use Rattle.golf_marks.specs.Places.{place_count, IsJustified}
use Rattle.golf_marks.specs.Seats.{graph_in, known}
use Rattle.golf_mark.proofs.scanner.claim.Goals as goal

pub claim_batch-requires-clause-claimable : goal.claim_batch-requires-clause-claimable
claim_batch-requires-clause-claimable c = λ p h.
    let g = graph_in c.args.marks.now in
    let Can : ℕ → Type 0 = λ q. (q < place_count g) × IsJustified g (known c.args.scanner.now.seat) q in
    elim (subst (λ (l : List ℕ). In p l) c.of.ensures.place h) [
      | inl e ↦ subst Can (sym e) (c.requires.place, c.requires.justified)
      | inr none ↦ absurd none
    ]

pub returns-clause-there : goal.returns-clause-there
returns-clause-there c = c.claim_batch.ensures.there c.args.place
    (subst (λ (l : List ℕ). In c.args.place l) (sym c.of.ensures.place) (inl refl))
