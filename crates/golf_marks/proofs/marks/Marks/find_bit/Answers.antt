use Rattle.std.proofs.Common.{ℕ, ◌<◌, ◌==◌, refl, sym, subst, arith}
use mathlib.Core.Option.{none}
use prog.Atomic.{either}
use Rattle.atomic_table.specs.Table.{Allows, step}
use Rattle.golf_model.specs.declared.graph.GraphParts.{GraphParts}
use Rattle.golf_marks.specs.Bits.{word_of}
use Rattle.golf_marks.specs.Places.{place_count}
use Rattle.golf_marks.specs.Rule.{Holds, Looks, LookTells}
use Rattle.golf_marks.proofs.Steps.{looks}
use Rattle.golf_marks.proofs.marks.Marks.find_bit.Goals as goal

pub compare_exchange-found-requires : goal.compare_exchange-found-requires
compare_exchange-found-requires c =
    let m = c.args.self.now in
    let s = c.args.seat.now in
    let p : ℕ = c.args.place in
    let key = m.table.shared.key in
    let slots : ℕ = m.table.shared.table_id.slots in
    let low : p < place_count s.seat.me.0.graph =
    subst (λ (d : GraphParts). p < place_count d) (sym c.requires.seat.graph) c.requires.place in
    let word : word_of p < m.table.shared.table_id.words = omega (arith, m.sized, c.requires.place) in
    let Can : ℕ → Type 0 = λ k. Allows (Holds key) slots s.seat.id s.seat.me (word_of p) (λ n. either (n == k) k n)
    (LookTells (step slots (word_of p) k k none) s.seat.me) in (
      c.requires.seat.table,
      word,
      subst Can (sym c.mask-own.ensures)
          (looks key slots s.seat.id s.seat.me.0 s.seat.me.1 p s.live low),
    )

pub returns-clause-tells : goal.returns-clause-tells
returns-clause-tells c =
    subst (λ (b : ℕ). Looks c.args.place c.args.seat.now.seat.me.0 b c.compare_exchange-found.new.seat.me.0)
    (sym c.bit.ensures)
    (c.compare_exchange-found.ensures.2.0 c.args.place refl (sym c.mask-own.ensures))
