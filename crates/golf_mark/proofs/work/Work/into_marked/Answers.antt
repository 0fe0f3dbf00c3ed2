use Rattle.std.proofs.Common.{◌≡◌, ◌+◌, ◌-◌, ◌≤◌, ℕ, List, Bool, take, drop, length, ap, ◌∙◌, subst, sym, arith}
use Rattle.std.specs.Prelude.{◌↔◌}
use Rattle.golf_theory.specs.Membership.{In}
use Rattle.golf_model.specs.declared.graph.Marked.{Marked}
use Rattle.golf_marks.specs.Flags.{IsSet}
use Rattle.golf_mark.specs.UnderWay.{Working}
use Rattle.golf_mark.proofs.Marked.{HasMarked-cut, HasMarked-same}
use Rattle.golf_mark.proofs.work.Work.into_marked.Goals as goal

pub returns : goal.returns
returns c =
    let bits = c.self.inside.bits.items in
    let nodes : ℕ = length c.args.sheet.flags in
    let P : ℕ → Type 0 = λ p. In p c.self.inside.order.items in
    let places : nodes + length c.args.sheet.awake ≡ length bits = c.requires.places
    ∙ ap (λ (w : Working). w.places) (sym c.self.view_is) in
    let low : nodes ≤ length bits = omega (arith, places) in
    let front : c.split_at.result.0.now ≡ take nodes bits = c.split_at.ensures.front
    ∙ ap (λ (l : List Bool). take c.len.result l) c.as_slice.ensures.value
    ∙ ap (λ (n : ℕ). take n bits) c.len.ensures in
    let back : c.split_at.result.1.now ≡ drop nodes bits = c.split_at.ensures.back
    ∙ ap (λ (l : List Bool). drop c.len.result l) c.as_slice.ensures.value
    ∙ ap (λ (n : ℕ). drop n bits) c.len.ensures in
    let marked : Marked = record {
      flags = c.copied.result;
      order = c.numbers_of-order.result;
      awake = c.copied-2.result;
    } in
    rw (← c.self.view_is) (HasMarked-same nodes (length bits - nodes) (length c.args.sheet.awake) P P marked
    (omega (arith, places)) (λ p. (λ h. h, λ h. h))
    (HasMarked-cut bits c.self.inside.order.items nodes marked low c.self.invariant.listed
    (c.copied.ensures ∙ front) (c.copied-2.ensures ∙ back) c.numbers_of-order.ensures.rising
    (subst (λ (l : List Bool). (n : ℕ) → In n c.numbers_of-order.result ↔ IsSet l n) front
    c.numbers_of-order.ensures.members)))
