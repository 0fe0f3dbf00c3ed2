use Rattle.std.proofs.Common.{ℕ, ◌+◌, List, subst, sym, ap, ◌∙◌, arith, rules}
use Rattle.golf_base.specs.Roomy.{Roomy}
use Rattle.golf_marks.proofs.Flags.{AreNumbers, AreNumbers-yes, AreNumbers-no}
use Rattle.golf_marks.proofs.close.numbers_of.Goals as goal
use Rattle.golf_marks.proofs.close.numbers_of.Goals.{then-flag, else-flag}

pub loop-number-preserved : goal.loop-number-preserved
loop-number-preserved c =
    let i : ℕ = c.loop-number.number in
    let flags = c.args.flags.now in
    let Done : List ℕ → Type 0 = λ ns. AreNumbers flags (i + 1) ns in
    elim c.if-flag.branch [
      | then-flag w ↦ record {
        numbers = subst Done (sym (ap (λ (r : Roomy ℕ). r.items) w.numbers-is ∙ w.push_ready.ensures.items))
            (AreNumbers-yes flags i c.loop-number.numbers.items (search rules) c.loop-number.invariant.numbers);
        room = omega (
          arith,
          c.loop-number.invariant.room,
          w.push_ready.ensures.spare,
          ap (λ (r : Roomy ℕ). r.spare) w.numbers-is,
        );
      }
      | else-flag w ↦ record {
        numbers = subst Done (sym (ap (λ (r : Roomy ℕ). r.items) w.numbers-is))
            (AreNumbers-no flags i c.loop-number.numbers.items (search rules) c.loop-number.invariant.numbers);
        room = omega (arith, c.loop-number.invariant.room, ap (λ (r : Roomy ℕ). r.spare) w.numbers-is);
      }
    ]
