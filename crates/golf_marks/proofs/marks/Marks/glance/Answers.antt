use Rattle.std.proofs.Common.{ℕ, ◌<◌, inl, inr, List, sym, ap, subst, arith}
use Rattle.golf_model.specs.declared.graph.GraphParts.{GraphParts}
use Rattle.golf_theory.specs.Membership.{In}
use Rattle.golf_theory.proofs.Lists.{Every-at, In-left, In-right}
use Rattle.golf_marks.specs.declared.rule.View.{View}
use Rattle.golf_marks.specs.Batches.{batched}
use Rattle.golf_marks.specs.Bits.{marked_in}
use Rattle.golf_marks.specs.Places.{place_count, word_count}
use Rattle.golf_marks.specs.Seats.{graph_in, known}
use Rattle.golf_marks.proofs.Batches.{batched_is, first_of, unset_part, unset_clear, unset_or_marked}
use Rattle.golf_marks.proofs.BitLaws.{marked_set}
use Rattle.golf_marks.proofs.Steps.{glances}
use Rattle.golf_marks.proofs.marks.Marks.glance.Goals as goal

pub load-found-requires : goal.load-found-requires
load-found-requires c =
    let m = c.args.self.now in
    let s = c.args.seat.now in
    let b = c.args.batch.now in
    let some = first_of (batched b) c.requires.some in
    let low : some.0 < place_count (graph_in m) =
    Every-at (λ q. q < place_count (graph_in m)) (batched b) some.0 c.requires.places some.1 in
    let there = subst (λ (xs : List ℕ). In some.0 xs) (batched_is b) some.1 in
    let word : b.word < word_count (graph_in m) = omega (arith, (marked_set b.word b.bits some.0 there).0, low) in (
      c.requires.seat.table,
      omega (arith, word, m.sized),
      glances m.table.shared.key m.table.shared.table_id.slots s.seat.id s.seat.me.0 s.seat.me.1 b.word s.live
          (subst (λ (g : GraphParts). b.word < word_count g) (sym c.requires.seat.graph) word),
    )

pub returns-clause-part : goal.returns-clause-part
returns-clause-part c = λ p h.
    let b = c.args.batch.now in
    subst (λ (xs : List ℕ). In p xs) (sym (batched_is b))
    (unset_part b.word b.bits c.load-found.result p c.load-found.type_inv
    (subst (λ (xs : List ℕ). In p xs) c.without.ensures.places h))

pub returns-clause-kept : goal.returns-clause-kept
returns-clause-kept c = λ p h.
    let t = c.load-found.ensures.2.0 in
    subst (λ (xs : List ℕ). In p xs) (sym (ap (λ (v : View). v.known) t.view))
    (In-left p (known c.args.seat.now) (marked_in c.args.batch.now.word c.load-found.result) h)

pub returns-clause-there : goal.returns-clause-there
returns-clause-there c = λ p h.
    let b = c.args.batch.now in
    let n : ℕ = c.load-found.result in
    let t = c.load-found.ensures.2.0 in
    elim (unset_or_marked b.word b.bits n p c.load-found.type_inv (subst (λ (xs : List ℕ). In p xs) (batched_is b) h)) [
      | inl clear ↦ inl (subst (λ (xs : List ℕ). In p xs) (sym c.without.ensures.places) clear)
      | inr set ↦ inr (subst (λ (xs : List ℕ). In p xs) (sym (ap (λ (v : View). v.known) t.view))
          (In-right p (known c.args.seat.now) (marked_in b.word n) set))
    ]

pub returns-clause-knew : goal.returns-clause-knew
returns-clause-knew c = λ p h k.
    let b = c.args.batch.now in
    let clear = unset_clear b.word b.bits c.load-found.result p c.load-found.type_inv
    (subst (λ (xs : List ℕ). In p xs) c.without.ensures.places h) in
    omega (arith, c.load-found.ensures.2.0.known p clear.0 k, clear.1)

pub returns-clause-unclaimed : goal.returns-clause-unclaimed
returns-clause-unclaimed c = λ p h.
    let b = c.args.batch.now in
    let clear = unset_clear b.word b.bits c.load-found.result p c.load-found.type_inv
    (subst (λ (xs : List ℕ). In p xs) c.without.ensures.places h) in
    c.load-found.ensures.2.0.unclaimed p clear.0 clear.1
