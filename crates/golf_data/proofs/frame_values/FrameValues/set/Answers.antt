use Rattle.std.proofs.Common.{◌<◌, length, take, subst, sym, arith}
use Rattle.std.proofs.lemmas.List.{length-take}
use Rattle.golf_data.specs.FrameValues.{SlotsAndOperands}
use Rattle.golf_data.proofs.Prefixes.{one-slot}
use Rattle.golf_data.proofs.frame_values.FrameValues.set.Goals as goal

pub returns-then-at-lt64 : goal.returns-then-at-lt64
returns-then-at-lt64 c =
    let n = c.self.inside.slots in
    let xs = c.self.inside.values.items in
    let within : c.args.at < length (take n xs) =
    subst (λ (v : SlotsAndOperands). c.args.at < length v.slots) (sym c.self.view_is) c.requires in
    rw (← c.self.view_is) (one-slot n c.args.at _ xs c.args.value (omega (arith, within, length-take n xs)))

pub returns-else-at-lt64 : goal.returns-else-at-lt64
returns-else-at-lt64 c =
    let n = c.self.inside.slots in
    let xs = c.self.inside.values.items in
    let within : c.args.at < length (take n xs) =
    subst (λ (v : SlotsAndOperands). c.args.at < length v.slots) (sym c.self.view_is) c.requires in
    rw (← c.self.view_is) (one-slot n c.args.at _ xs c.args.value (omega (arith, within, length-take n xs)))
