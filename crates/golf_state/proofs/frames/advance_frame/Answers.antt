use Rattle.std.proofs.Common.{◌≡◌, ℕ, ◌-◌, drop, length, take, ap, ◌∙◌}
use Rattle.std.specs.Prelude.{reverse}
use Rattle.golf_model.specs.Views.{frame_view}
use Rattle.golf_state.proofs.Tops.{reverse-take}
use Rattle.golf_state.proofs.frames.advance_frame.Goals as goal

pub returns-clause-frame : goal.returns-clause-frame
returns-clause-frame c =
    let f = c.args.frame.now in
    let os = f.values.operands in
    let keep : c.truncate.new.self.operands ≡ take (length os - c.args.taken) os =
    c.truncate.ensures.items ∙ ap (λ (n : ℕ). take n os)
    (c.saturating_sub-keep.ensures ∙ ap (λ (n : ℕ). n - c.args.taken) c.operand_count.ensures) in
    let below : reverse c.truncate.new.self.operands ≡ drop c.args.taken (reverse os) =
    ap reverse keep ∙ reverse-take c.args.taken os in
    λ i. record (frame_view f) { at = c.args.after; slots = c.truncate.ensures.slots i; operands = below i }
