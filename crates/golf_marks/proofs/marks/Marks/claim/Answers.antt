use Rattle.std.proofs.Common.{ℕ, ◌<◌, ◌++◌, List, sym, ap, ◌∙◌, subst, arith}
use Rattle.golf_model.specs.declared.graph.GraphParts.{GraphParts}
use Rattle.golf_theory.specs.Membership.{In}
use Rattle.golf_theory.proofs.Lists.{Every-at}
use Rattle.golf_marks.specs.Batches.{batched}
use Rattle.golf_marks.specs.Bits.{marked_in}
use Rattle.golf_marks.specs.Places.{place_count, word_count, IsJustified}
use Rattle.golf_marks.specs.Seats.{graph_in, claimed, known}
use Rattle.golf_marks.specs.declared.rule.View.{View}
use Rattle.golf_marks.proofs.Batches.{batched_is, first_of, unset_part}
use Rattle.golf_marks.proofs.BitLaws.{marked_set}
use Rattle.golf_marks.proofs.Steps.{claims}
use Rattle.golf_marks.proofs.marks.Marks.claim.Goals as goal

pub fetch_or-was-requires : goal.fetch_or-was-requires
fetch_or-was-requires c =
    let m = c.args.self.now in
    let s = c.args.seat.now in
    let b = c.args.batch.now in
    let key = m.table.shared.key in
    let in_batch : (p : ℕ) → In p (marked_in b.word b.bits) → In p (batched b) =
    λ p h. subst (λ (xs : List ℕ). In p xs) (sym (batched_is b)) h in
    let low : (p : ℕ) → In p (marked_in b.word b.bits) → p < place_count (graph_in m) =
    λ p h. Every-at (λ q. q < place_count (graph_in m)) (batched b) p c.requires.places (in_batch p h) in
    let some = first_of (batched b) c.requires.some in
    let there = subst (λ (xs : List ℕ). In some.0 xs) (batched_is b) some.1 in
    let word : b.word < word_count (graph_in m) =
    omega (arith, (marked_set b.word b.bits some.0 there).0, low some.0 there) in
    let just : (p : ℕ) → In p (marked_in b.word b.bits) → IsJustified (graph_in m) (known s) p =
    λ p h. Every-at (IsJustified (graph_in m) (known s)) (batched b) p c.requires.justified (in_batch p h) in
    let Can : GraphParts → Type 0 = λ g. (b.word < word_count g)
    × ((p : ℕ) → In p (marked_in b.word b.bits) → p < place_count g)
    × ((p : ℕ) → In p (marked_in b.word b.bits) → IsJustified g (known s) p) in
    let can = subst Can (sym c.requires.seat.graph) (word, low, just) in (
      c.requires.seat.table,
      omega (arith, word, m.sized),
      claims key m.table.shared.table_id.slots s.seat.id s.seat.me.0 s.seat.me.1 b.word b.bits s.live can.0 can.1 can.2,
    )

pub returns-clause-part : goal.returns-clause-part
returns-clause-part c = λ p h.
    let b = c.args.batch.now in
    subst (λ (xs : List ℕ). In p xs) (sym (batched_is b))
    (unset_part b.word b.bits c.fetch_or-was.result p c.fetch_or-was.type_inv
    (subst (λ (xs : List ℕ). In p xs) c.without.ensures.places h))

pub returns-clause-claimed : goal.returns-clause-claimed
returns-clause-claimed c = ap (λ (v : View). v.claimed) c.fetch_or-was.ensures.2.0.view
    ∙ ap (λ (xs : List ℕ). claimed c.args.seat.now ++ xs) (sym c.without.ensures.places)

pub returns-clause-known : goal.returns-clause-known
returns-clause-known c = ap (λ (v : View). v.known) c.fetch_or-was.ensures.2.0.view
    ∙ ap (λ (xs : List ℕ). known c.args.seat.now ++ xs) (sym (batched_is c.args.batch.now))

pub returns-clause-once : goal.returns-clause-once
returns-clause-once c = λ p h. c.fetch_or-was.ensures.2.0.once p
    (subst (λ (xs : List ℕ). In p xs) c.without.ensures.places h)
