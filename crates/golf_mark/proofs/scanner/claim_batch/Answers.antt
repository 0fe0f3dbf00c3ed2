use Rattle.std.proofs.Common.{ℕ, ◌<◌, inl, inr, List, length, sym, ap, subst, arith}
use Rattle.std.proofs.lemmas.List.{length-append}
use Rattle.golf_theory.specs.Membership.{In}
use Rattle.golf_theory.proofs.Lists.{Every-from, In-left, In-right}
use Rattle.golf_theory.proofs.Derivations.{Follows-grows}
use Rattle.golf_model.specs.Graph.{Justifies}
use Rattle.golf_marks.specs.Batches.{batched}
use Rattle.golf_marks.specs.Places.{place_count, IsJustified}
use Rattle.golf_marks.specs.Seats.{graph_in, claimed, known}
use Rattle.golf_mark.specs.ScannerState.{with_seat}
use Rattle.golf_mark.proofs.Winning.{Wins-trans, Wins-looked, Wins-won}
use Rattle.golf_mark.proofs.scanner.claim_batch.Goals as goal

pub glance-missing-requires-clause-places : goal.glance-missing-requires-clause-places
glance-missing-requires-clause-places c = Every-from (λ p. p < place_count (graph_in c.args.marks.now))
    (batched c.args.batch.now) (λ p h. (c.requires.claimable p h).0)

pub returns-then-is_empty-clause-wins : goal.returns-then-is_empty-clause-wins
returns-then-is_empty-clause-wins c = Wins-looked c.args.marks.now c.args.scanner.now c.glance-missing.new.seat
    c.requires.fits c.glance-missing.ensures.same
    (record { claimed = c.glance-missing.ensures.claimed; known = c.glance-missing.ensures.kept })

pub returns-then-is_empty-clause-there : goal.returns-then-is_empty-clause-there
returns-then-is_empty-clause-there c = λ p h. elim (c.glance-missing.ensures.there p h) [
  | inl left ↦ absurd (subst (λ (l : List ℕ). In p l) (c.is_empty.ensures.0 c.if-is_empty.true) left)
  | inr knows ↦ knows
]

pub claim-won-requires-clause-places : goal.claim-won-requires-clause-places
claim-won-requires-clause-places c = Every-from (λ p. p < place_count (graph_in c.args.marks.now))
    (batched c.glance-missing.result) (λ p h. (c.requires.claimable p (c.glance-missing.ensures.part p h)).0)

pub claim-won-requires-clause-justified : goal.claim-won-requires-clause-justified
claim-won-requires-clause-justified c =
    let g = graph_in c.args.marks.now in
    Every-from (IsJustified g (known c.glance-missing.new.seat)) (batched c.glance-missing.result) (λ p h.
    Follows-grows (λ q. In q g.roots) (Justifies g) (known c.args.scanner.now.seat) (known c.glance-missing.new.seat) p
    c.glance-missing.ensures.kept (c.requires.claimable p (c.glance-missing.ensures.part p h)).1)

pub push_all-requires : goal.push_all-requires
push_all-requires c = omega (
  arith,
  c.requires.fits.room,
  c.claim-won.ensures.bounded,
  ap length c.claim-won.ensures.claimed,
  length-append (claimed c.glance-missing.new.seat) (batched c.claim-won.result),
  ap length c.glance-missing.ensures.claimed,
)

pub returns-clause-wins : goal.returns-clause-wins
returns-clause-wins c =
    let marks = c.args.marks.now in
    let a = c.args.scanner.now in
    let b = with_seat a c.glance-missing.new.seat in
    let looked = Wins-looked marks a c.glance-missing.new.seat c.requires.fits c.glance-missing.ensures.same
    (record { claimed = c.glance-missing.ensures.claimed; known = c.glance-missing.ensures.kept }) in
    Wins-trans marks a b _ looked
    (Wins-won marks b _ (batched c.glance-missing.result) (batched c.claim-won.result)
    (λ p h. (c.requires.claimable p (c.glance-missing.ensures.part p h)).0) looked.fits (record {
      same = c.claim-won.ensures.same;
      part = c.claim-won.ensures.part;
      bounded = c.claim-won.ensures.bounded;
      claimed = c.claim-won.ensures.claimed;
      known = c.claim-won.ensures.known;
      items = c.push_all.ensures.items;
      spare = c.push_all.ensures.spare;
    }))

pub returns-clause-there : goal.returns-clause-there
returns-clause-there c = λ p h.
    let own = known c.glance-missing.new.seat in
    let left = batched c.glance-missing.result in
    subst (λ (l : List ℕ). In p l) (sym c.claim-won.ensures.known) (elim (c.glance-missing.ensures.there p h) [
      | inl missing ↦ In-right p own left missing
      | inr knows ↦ In-left p own left knows
    ])
