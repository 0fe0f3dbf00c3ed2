use Rattle.std.proofs.Common.{ℕ, List, get_or, refl, subst, arith}
use Rattle.std.proofs.lemmas.Bool.{both_ways}
use Rattle.std.proofs.lemmas.List.{take_all}
use Rattle.golf_theory.specs.Membership.{Every}
use Rattle.golf_theory.proofs.Lists.{Every-at, In-get_or}
use Rattle.golf_marks.specs.Flags.{IsSet}
use Rattle.golf_cert.proofs.FlagLaws.{Every-next}
use Rattle.golf_cert.proofs.flags.are_set.Goals as goal

pub loop-place-preserved : goal.loop-place-preserved
loop-place-preserved c = Every-next (IsSet c.args.flags.now) c.args.places.now c.loop-place.place-index
    (omega arith) c.loop-place.invariant (c.is_set.ensures.0 c.if-not-is_set.false)

pub returns-then-not-is_set : goal.returns-then-not-is_set
returns-then-not-is_set c = (
  λ h. absurd (cc),
  λ a.
      let ps = c.args.places.now in
      let i : ℕ = c.loop-place.place-index in
      absurd (both_ways c.is_set.result c.if-not-is_set.true
      (c.is_set.ensures.1 (Every-at (IsSet c.args.flags.now) ps (get_or ps i 0) a
      (In-get_or ps i 0 (omega arith))))),
)

pub returns : goal.returns
returns c = (
  λ _. subst (λ (l : List ℕ). Every (IsSet c.args.flags.now) l)
      (take_all c.loop-place.place-index c.args.places.now (omega arith)) c.loop-place.invariant,
  λ _. refl,
)
