use Rattle.std.proofs.Common.{ℕ, ◌≡◌, ◌+◌, Bool, List, filter, take, slice_get, subst, sym, ap, ◌∙◌}
use Rattle.golf_base.specs.declared.ids.GoroutineId.{GoroutineId}
use Rattle.golf_model.specs.State.{runnable}
use Rattle.golf_run.specs.TurnLines.{is_woken}
use Rattle.golf_run.proofs.TurnLines.{numbers, one-woken, none-woken}
use Rattle.golf_run.proofs.turn_lines.woken.Goals.{then-is_woken+in_ok-push, else-is_woken}
use Rattle.golf_run.proofs.turn_lines.woken.Goals as goal

pub loop-place-preserved : goal.loop-place-preserved
loop-place-preserved c =
    let p : ℕ → Bool = is_woken (numbers c.args.before.now) c.args.next in
    let xs : List ℕ = runnable c.args.state.now in
    let place = c.loop-place.place in
    let g : GoroutineId = c.at-g.result in
    let at = ap (λ (ys : List ℕ). slice_get ys place) (sym c.runnable-found.ensures.all) ∙ c.at-g.ensures in
    elim c.if-is_woken.branch [
      | then-is_woken+in_ok-push w ↦
          subst (λ (gs : List GoroutineId). numbers gs ≡ filter p (take (place + 1) xs))
          (sym (w.woken-is ∙ w.in_ok-push.ensures.ok))
          (one-woken p c.loop-place.woken xs place g c.loop-place.invariant at
          (sym c.is_woken.ensures ∙ w.if-is_woken.true))
      | else-is_woken w ↦
          subst (λ (gs : List GoroutineId). numbers gs ≡ filter p (take (place + 1) xs)) (sym w.woken-is)
          (none-woken p c.loop-place.woken xs place g c.loop-place.invariant at
          (sym c.is_woken.ensures ∙ w.if-is_woken.false))
    ]
