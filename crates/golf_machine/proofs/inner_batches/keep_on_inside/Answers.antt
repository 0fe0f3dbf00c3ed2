use Rattle.std.proofs.Common.{ℕ, ◌∙◌, sym, ap, slice_get}
use Rattle.golf_machine.proofs.Lone.{one-inside}
use Rattle.golf_machine.proofs.inner_batches.keep_on_inside.Goals as goal

pub loop-number-preserved : goal.loop-number-preserved
loop-number-preserved g c = record {
  kept = one-inside c.in-Over.is c.loop-number.invariant.kept c.in-Some-next.ensures.0 c.in-Some-next.ensures.1
      c.in_ok-turn_in.ensures.ok;
  function = c.loop-number.invariant.function
      ∙ ap (λ (n : ℕ). slice_get c.args.code.now.functions n) (sym c.in_ok-turn_in.ensures.function);
  stays = c.in_ok-turn_in.ensures.stays;
}
