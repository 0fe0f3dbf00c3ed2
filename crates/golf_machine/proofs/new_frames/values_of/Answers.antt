use Rattle.std.proofs.Common.{true, ◌-◌, length, refl, sym, arith, ◌≡◌}
use Rattle.golf_data.proofs.Clears.{all-stay}
use Rattle.golf_machine.proofs.new_frames.values_of.Goals as goal

-- if there is no mask each slot stays
pub returns-in-None : goal.returns-in-None
returns-in-None c =
    let rest : c.saturating_sub-rest.result ≡ c.args.function.now.slots - length c.args.arguments.now = omega arith in
    let none = rw c.as_slice.ensures at c.in-None.ensures.value in
    record {
      slots = rw (c.in_ok-values.ensures.slots, rest, ← none) (sym (all-stay (λ i. true) 0 _ (λ i l. refl)));
      operands = c.in_ok-values.ensures.operands;
    }
