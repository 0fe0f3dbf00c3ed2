use Rattle.std.proofs.Common.{◌≡◌, ℕ, ◌+◌, ◌<◌, ◌≤◌, List, Bool, sym, ap, ◌∙◌, subst, arith}
use Rattle.std.specs.Prelude.{slice_index, ◌==◌, ◌↔◌}
use Rattle.std.specs.Mem.Slots.{slots_items}
use Rattle.golf_theory.specs.Membership.{In}
use Rattle.golf_theory.proofs.Lists.{Every-from, Every-at}
use Rattle.golf_model.specs.Graph.{node_count, sleeper_count}
use Rattle.golf_marks.specs.Bits.{word_of, bit_at}
use Rattle.golf_marks.specs.Flags.{IsSet}
use Rattle.golf_marks.specs.Seats.{graph_in, known, claim_count}
use Rattle.golf_marks.proofs.BitLaws.{bit_small}
use Rattle.golf_marks.proofs.Steps.{closes}
use Rattle.golf_marks.proofs.Closing.{HasMarked-words}
use Rattle.golf_marks.proofs.marks.Marks.close.Goals as goal

pub returns-clause-marked : goal.returns-clause-marked
returns-clause-marked c =
    let self = c.args.self in
    let last = c.close_with-closed.ensures.values.2 in
    let seat = c.gather-seat.result.seat in
    let words = slots_items c.close_with-closed.result.words in
    let count : ℕ → ℕ = λ p. claim_count p c.args.seats in
    let all = c.gather-seat.ensures.parts ∙ c.requires.all in
    let is : (p : ℕ) → bit_at words p ≡ count p = λ p. ap (λ (ws : List ℕ). bit_at ws p) (sym last.2)
    ∙ closes self.table.shared.key last.0 seat.id seat.me.0 last.1.0 last.1.1 all p
    ∙ c.gather-seat.ensures.claimed p in
    let once : (p : ℕ) → count p ≤ 1 = λ p. omega (arith, is p, bit_small p (slice_index words (word_of p))) in
    HasMarked-words words count (node_count (graph_in self)) (sleeper_count (graph_in self)) _ is once (record {
      flag_count = c.fill-flags.ensures.length ∙ self.flag_for_each;
      flags = λ k h. c.fill-flags.ensures.flags k (omega (arith, self.flag_for_each));
      awake_count = c.fill-awake.ensures.length ∙ self.awake_for_each;
      awake = λ k h. c.fill-awake.ensures.flags k (omega (arith, self.awake_for_each))
          ∙ ap (λ (n : ℕ). bit_at words (n + k) == 1) (c.len-nodes.ensures ∙ self.flag_for_each);
      rising = c.numbers_of-order.ensures.rising;
      members = subst (λ (l : List Bool). (n : ℕ) → In n c.numbers_of-order.result ↔ IsSet l n) c.as_slice.ensures
          c.numbers_of-order.ensures.members;
    })

pub returns-clause-once : goal.returns-clause-once
returns-clause-once c = λ p.
    let last = c.close_with-closed.ensures.values.2 in
    let seat = c.gather-seat.result.seat in
    let all = c.gather-seat.ensures.parts ∙ c.requires.all in
    omega (
      arith,
      closes c.args.self.table.shared.key last.0 seat.id seat.me.0 last.1.0 last.1.1 all p,
      c.gather-seat.ensures.claimed p,
      bit_small p (slice_index last.0.words (word_of p)),
    )

pub returns-clause-known : goal.returns-clause-known
returns-clause-known c = λ p. Every-from (λ s. In p (known s) → 0 < claim_count p c.args.seats) c.args.seats (λ s h k.
    let last = c.close_with-closed.ensures.values.2 in
    let seat = c.gather-seat.result.seat in
    let all = c.gather-seat.ensures.parts ∙ c.requires.all in
    let knows = Every-at (λ t. In p (known t) → In p (known c.gather-seat.result)) c.args.seats s
    (c.gather-seat.ensures.known p) h k in
    let one = (last.1.0.views seat.id seat.me.0 last.1.1).known p knows in
    omega (
      arith,
      one,
      closes c.args.self.table.shared.key last.0 seat.id seat.me.0 last.1.0 last.1.1 all p,
      c.gather-seat.ensures.claimed p,
    ))

pub returns-clause-sound : goal.returns-clause-sound
returns-clause-sound c = λ p h.
    let last = c.close_with-closed.ensures.values.2 in
    let seat = c.gather-seat.result.seat in
    let all = c.gather-seat.ensures.parts ∙ c.requires.all in
    last.1.0.sound p (omega (
      arith,
      h,
      closes c.args.self.table.shared.key last.0 seat.id seat.me.0 last.1.0 last.1.1
          all p,
      c.gather-seat.ensures.claimed p,
      bit_small p (slice_index last.0.words (word_of p)),
    ))
