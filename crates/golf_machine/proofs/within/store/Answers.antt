use Rattle.std.proofs.Common.{◌≡◌, ◌<◌, ◌∷◌, length, arith}
use Rattle.std.specs.Prelude.{reverse}
use Rattle.std.proofs.lemmas.Option.{slice_get-get_or}
use Rattle.golf_model.specs.Views.{frame_view}
use Rattle.golf_model.proofs.ViewForms.{reverse-push}
use Rattle.golf_machine.proofs.Inner.{stores-done}
use Rattle.golf_machine.proofs.within.store.Goals as goal

pub returns : goal.returns
returns c =
    let f = c.args.frame.now in
    let v = c.in-Some.value in
    let rest = c.pop.new.self.operands in
    let there : c.args.slot < length f.values.slots = omega (arith, c.if-slot-slot_count.false, c.slot_count.ensures) in
    let top : reverse f.values.operands ≡ v ∷ reverse rest = rw c.in-Some.ensures.items (reverse-push rest v) in
    stores-done (frame_view f) _ c.args.slot v _ (reverse rest) top (slice_get-get_or f.values.slots c.args.slot v there)
    (rw (c.set.ensures, c.pop.ensures.slots))
