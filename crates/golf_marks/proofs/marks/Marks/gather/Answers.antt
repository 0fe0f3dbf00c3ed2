use Rattle.std.proofs.Common.{◌∷◌, [], List, inl, inr, subst}
use Rattle.golf_theory.specs.Membership.{In, Every}
use Rattle.golf_theory.proofs.Lists.{Every-from, Every-right}
use Rattle.golf_marks.specs.declared.marks.MarkSeat.{MarkSeat}
use Rattle.golf_marks.specs.Seats.{known, IsSeatOf}
use Rattle.golf_marks.proofs.Closing.{gathers_first, gathers_next}
use Rattle.golf_marks.proofs.marks.Marks.gather.Goals as goal

pub loop-other-init : goal.loop-other-init
loop-other-init c = gathers_first c.args.self.now c.args.seats c.pop.new.self c.in-Some.seat c.requires.seats
    c.in-Some.ensures

pub join-requires-clause-other : goal.join-requires-clause-other
join-requires-clause-other c =
    let P : MarkSeat → Type 0 = IsSeatOf c.args.self.now in
    (Every-right P c.pop-in-loop-other.new.self (c.in-Some-pop.other ∷ [])
    (subst (λ (l : List MarkSeat). Every P l) c.in-Some-pop.ensures c.loop-other.invariant.seats)).0

pub loop-other-preserved : goal.loop-other-preserved
loop-other-preserved c =
    gathers_next c.args.self.now c.args.seats c.loop-other.seats c.pop-in-loop-other.new.self c.loop-other.seat
    c.in-Some-pop.other c.join.new.seat
    c.loop-other.invariant c.in-Some-pop.ensures
    (record {
      seat = c.join.ensures.seat;
      parts = c.join.ensures.parts;
      claimed = c.join.ensures.claimed;
      known = c.join.ensures.known;
    })

pub returns-clause-known : goal.returns-clause-known
returns-clause-known c = λ p. Every-from (λ s. In p (known s) → In p (known c.loop-other.seat)) c.args.seats (λ s h k.
    elim (c.loop-other.invariant.known p s h k) [
      | inl i ↦ absurd (subst (λ (l : List MarkSeat). In s l) c.in_default-pop.ensures.0 i)
      | inr i ↦ i
    ])
