use Rattle.std.proofs.Common.{ℕ, List, refl, sym, subst, arith, below_more}
use Rattle.std.proofs.lemmas.Bool.{both_ways}
use Rattle.golf_theory.specs.Membership.{Every}
use Rattle.golf_theory.proofs.Lists.{Every-at, Every-from}
use Rattle.golf_marks.specs.Flags.{IsSet}
use Rattle.golf_marks.proofs.Flags.{IsSet-below}
use Rattle.golf_cert.proofs.verdicts.is_closed.Goals as goal

pub returns-then-not-are_set : goal.returns-then-not-are_set
returns-then-not-are_set c =
    let P : ℕ → Type 0 = IsSet c.args.placed.now in (
      λ h. absurd (cc),
      λ k. absurd (both_ways c.are_set.result c.if-not-are_set.true
          (c.are_set.ensures.1 (subst (λ (l : List ℕ). Every P l) (sym c.roots.ensures)
          (Every-from P c.args.graph.now.roots k.roots)))),
    )

pub loop-place-preserved : goal.loop-place-preserved
loop-place-preserved c = below_more _ _ c.loop-place.invariant (c.is_scanned.ensures.0 c.if-not-is_scanned.false)

pub returns-then-not-is_scanned : goal.returns-then-not-is_scanned
returns-then-not-is_scanned c = (
  λ h. absurd (cc),
  λ k. absurd (both_ways c.is_scanned.result c.if-not-is_scanned.true
      (c.is_scanned.ensures.1 (λ s q j. k.justified c.loop-place.place q s j))),
)

pub returns : goal.returns
returns c =
    let P : ℕ → Type 0 = IsSet c.args.placed.now in (
      λ _. record {
        roots = λ p h. Every-at P c.args.graph.now.roots p
            (subst (λ (l : List ℕ). Every P l) c.roots.ensures (c.are_set.ensures.0 c.if-not-are_set.false)) h;
        justified = λ p q s j. c.loop-place.invariant p
            (omega (arith, IsSet-below c.args.placed.now p s, c.requires.size, c.places_in-place-end.ensures.count)) s q
            j;
      },
      λ _. refl,
    )
