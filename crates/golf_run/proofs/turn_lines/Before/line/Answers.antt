use Rattle.std.proofs.Common.{◌++◌, ap, ap₂, ◌∙◌}
use Rattle.std.specs.Prelude.{codes}
use Rattle.golf_run.specs.TurnLines.{starts_text, woken, wakes_text}
use Rattle.golf_run.proofs.TurnLines.{numbers, told-line}
use Rattle.golf_run.proofs.turn_lines.Before.line.Goals as goal

pub returns : goal.returns
returns c = λ code old number h is.
    let next = c.args.self.now.next in
    let new = c.args.state.now in
    let one = c.in_ok-extend_from_slice.ensures.ok
    ∙ ap₂ (λ a b. a ++ b) c.new-line.ensures (c.as_bytes.ensures.value ∙ c.in_ok-head.ensures) in
    let two = c.in_ok-add_started.ensures ∙ ap₂ (λ l n. l ++ starts_text next n) one c.next_goroutine.ensures in
    let three = c.in_ok-extend_from_slice-2.ensures.ok
    ∙ ap₂ (λ a b. a ++ b) two (c.as_bytes-2.ensures.value ∙ c.rests_text.ensures) in
    let four = c.in_ok-add_woken.ensures
    ∙ ap₂ (λ l gs. l ++ wakes_text gs) three (ap numbers c.as_slice-2.ensures ∙ c.in_ok-woken.ensures
    ∙ ap (λ gs. woken (numbers gs) next new) c.as_slice.ensures) in
    told-line c.args.count code old new number c.args.self.now h is _
    (c.in_ok-extend_from_slice-3.ensures.ok ∙ ap (λ l. l ++ codes "\n") four)
