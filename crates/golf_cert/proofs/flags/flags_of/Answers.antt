use Rattle.std.proofs.Common.{◌≡◌, ℕ, ◌+◌, ◌<◌, ◌++◌, List, Bool, true, false, length, get_or, replicate, take, sym, ap}
use Rattle.std.proofs.Common.{◌∙◌, subst, arith}
use Rattle.std.specs.Prelude.{◌↔◌}
use Rattle.std.proofs.lemmas.List.{take_all, length-set, length-replicate}
use Rattle.golf_theory.specs.Membership.{In}
use Rattle.golf_theory.proofs.Lists.{Every-at, In-get_or}
use Rattle.golf_marks.specs.Flags.{IsSet}
use Rattle.golf_cert.proofs.FlagLaws.{set_more, unset}
use Rattle.golf_cert.proofs.flags.flags_of.Goals as goal

pub loop-place-init : goal.loop-place-init
loop-place-init c =
    let is : c.extend_with.new.self ≡ replicate c.args.count false = c.in_ok-extend_with.ensures.ok
    ∙ ap (λ (l : List Bool). l ++ replicate c.args.count false) c.new-flags.ensures in
    record {
      size = ap length is ∙ length-replicate {A = Bool} c.args.count false;
      members = λ p. (λ h. absurd (unset c.args.count p (subst (λ (l : List Bool). IsSet l p) is h)), λ h. absurd h);
    }

pub set-requires : goal.set-requires
set-requires c =
    let ps = c.args.places.now in
    let i : ℕ = c.loop-place.place-index in
    omega (
      arith,
      Every-at (λ p. p < c.args.count) ps (get_or ps i 0) c.requires (In-get_or ps i 0 (omega arith)),
      c.loop-place.invariant.size,
    )

pub loop-place-preserved : goal.loop-place-preserved
loop-place-preserved c =
    let ps = c.args.places.now in
    let i : ℕ = c.loop-place.place-index in
    let low : get_or ps i 0 < length c.loop-place.flags =
    omega (
      arith,
      Every-at (λ p. p < c.args.count) ps (get_or ps i 0) c.requires (In-get_or ps i 0 (omega arith)),
      c.loop-place.invariant.size,
    ) in
    record {
      size = ap length c.set.ensures ∙ length-set c.loop-place.flags (get_or ps i 0) true ∙ c.loop-place.invariant.size;
      members = subst (λ (l : List Bool). (p : ℕ) → IsSet l p ↔ In p (take (i + 1) ps)) (sym c.set.ensures)
          (set_more c.loop-place.flags ps i (omega arith) low c.loop-place.invariant.members);
    }

pub returns-clause-members : goal.returns-clause-members
returns-clause-members c = subst (λ (l : List ℕ). (p : ℕ) → IsSet c.loop-place.flags p ↔ In p l)
    (take_all c.loop-place.place-index c.args.places.now (omega arith)) c.loop-place.invariant.members
