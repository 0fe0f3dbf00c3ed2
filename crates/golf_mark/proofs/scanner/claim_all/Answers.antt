use Rattle.std.proofs.Common.{◌≡◌, ℕ, ◌<◌, ◌⊎◌, inl, inr, List, length, get_or, refl, sym, ap, ◌∙◌, subst, arith}
use Rattle.std.proofs.Common.{below_more}
use Rattle.golf_theory.specs.Membership.{In}
use Rattle.golf_theory.proofs.Lists.{In-get_or, Every-at}
use Rattle.golf_marks.specs.Batches.{batched}
use Rattle.golf_marks.specs.Places.{place_count, IsJustified}
use Rattle.golf_marks.specs.Seats.{graph_in, known}
use Rattle.golf_mark.proofs.Gaining.{In-all, place_of}
use Rattle.golf_mark.proofs.Winning.{Wins-none, Wins-trans, claimable_wins}
use Rattle.golf_mark.proofs.scanner.claim_all.Goals as goal

pub loop-place-init : goal.loop-place-init
loop-place-init c =
    let cases = c.in-Some.ensures.cases in
    let mine : (p : ℕ) → p ≡ c.in-Some.first.now → In p (batched c.of-batch.result) =
    λ p e. subst (λ (l : List ℕ). In p l) (sym c.of-batch.ensures.place) (inl e) in record {
      wins = Wins-none c.args.marks.now c.args.scanner.now c.requires.fits;
      some = omega (arith, ap (λ (l : List ℕ). length l) c.of-batch.ensures.place);
      from = λ p h. elim (subst (λ (l : List ℕ). In p l) c.of-batch.ensures.place h) [
        | inl e ↦ subst (λ (l : List ℕ). In p l) (sym cases.0) (inl e)
        | inr none ↦ absurd none
      ];
      first = λ q e. inl (mine q (ap (λ (l : List ℕ). get_or l 0 0) (sym e ∙ cases.0)));
      there = λ k less. absurd (omega (arith, less));
    }

pub make_ready-requires-clause-fits : goal.make_ready-requires-clause-fits
make_ready-requires-clause-fits c = c.loop-place.invariant.wins.fits

pub make_ready-requires-clause-some : goal.make_ready-requires-clause-some
make_ready-requires-clause-some c = c.loop-place.invariant.some

pub make_ready-requires-clause-claimable : goal.make_ready-requires-clause-claimable
make_ready-requires-clause-claimable c =
    let marks = c.args.marks.now in
    let i = c.loop-place.invariant in
    let old = known c.args.scanner.now.seat in
    claimable_wins marks c.args.scanner.now c.loop-place.scanner (batched c.loop-place.batch) i.wins (λ p h. (
      Every-at (λ q. q < place_count (graph_in marks)) c.args.places.now p c.requires.places (i.from p h),
      Every-at (IsJustified (graph_in marks) old) c.args.places.now p c.requires.justified (i.from p h),
    ))

pub loop-place-preserved : goal.loop-place-preserved
loop-place-preserved c =
    let i = c.loop-place.invariant in
    let rest = c.in-Some.rest.now in
    let x : ℕ = get_or rest c.loop-place.place-index 0 in
    let new = batched c.insert.new.self in
    let knows = known c.make_ready.new.scanner.seat in
    let x-in : In x new = (c.insert.ensures.added x).1 (inr refl) in
    let carry : (p : ℕ) → In p (batched c.loop-place.batch) ⊎ In p (known c.loop-place.scanner.seat)
    → In p new ⊎ In p knows = λ p h. elim h [
      | inl k ↦ elim (c.make_ready.ensures.there p k) [
        | inl stays ↦ inl ((c.insert.ensures.added p).1 (inl stays))
        | inr known_now ↦ inr known_now
      ]
      | inr k ↦ inr (c.make_ready.ensures.wins.known p k)
    ] in record {
      wins = Wins-trans c.args.marks.now c.args.scanner.now c.loop-place.scanner c.make_ready.new.scanner i.wins
          c.make_ready.ensures.wins;
      some = omega (arith, (place_of new x x-in).1);
      from = λ p h. elim ((c.insert.ensures.added p).0 h) [
        | inl k ↦ i.from p (c.make_ready.ensures.part p k)
        | inr e ↦ subst (λ (l : List ℕ). In p l) (sym c.in-Some.ensures.cases.0)
            (inr (subst (λ (y : ℕ). In y rest) (sym e)
            (In-get_or rest c.loop-place.place-index 0 c.loop-place-test.true)))
      ];
      first = λ q e. carry q (i.first q e);
      there = below_more _ _ (λ k h. carry (get_or rest k 0) (i.there k h)) (inl x-in);
    }

pub claim_batch-requires-clause-fits : goal.claim_batch-requires-clause-fits
claim_batch-requires-clause-fits c = c.loop-place.invariant.wins.fits

pub claim_batch-requires-clause-some : goal.claim_batch-requires-clause-some
claim_batch-requires-clause-some c = c.loop-place.invariant.some

pub claim_batch-requires-clause-claimable : goal.claim_batch-requires-clause-claimable
claim_batch-requires-clause-claimable c =
    let marks = c.args.marks.now in
    let i = c.loop-place.invariant in
    let old = known c.args.scanner.now.seat in
    claimable_wins marks c.args.scanner.now c.loop-place.scanner (batched c.loop-place.batch) i.wins (λ p h. (
      Every-at (λ q. q < place_count (graph_in marks)) c.args.places.now p c.requires.places (i.from p h),
      Every-at (IsJustified (graph_in marks) old) c.args.places.now p c.requires.justified (i.from p h),
    ))

pub returns-clause-wins : goal.returns-clause-wins
returns-clause-wins c = Wins-trans c.args.marks.now c.args.scanner.now c.loop-place.scanner c.claim_batch.new.scanner
    c.loop-place.invariant.wins c.claim_batch.ensures.wins

pub returns-clause-there : goal.returns-clause-there
returns-clause-there c = λ p h.
    let i = c.loop-place.invariant in
    let rest = c.in-Some.rest.now in
    let Held : ℕ → Type 0 = λ q. In q (batched c.loop-place.batch) ⊎ In q (known c.loop-place.scanner.seat) in
    let held : Held p = elim (subst (λ (l : List ℕ). In p l) c.in-Some.ensures.cases.0 h) [
      | inl e ↦ subst Held (sym e) (i.first c.in-Some.first.now c.in-Some.ensures.cases.0)
      | inr r ↦ In-all Held rest c.loop-place.place-index (omega arith) i.there p r
    ] in
    elim held [
      | inl k ↦ c.claim_batch.ensures.there p k
      | inr k ↦ c.claim_batch.ensures.wins.known p k
    ]
