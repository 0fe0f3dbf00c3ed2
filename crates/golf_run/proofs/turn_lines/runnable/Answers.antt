use Rattle.std.proofs.Common.{ℕ, ◌+◌, ◌≡◌, ◌≤◌, List, length, take, slice_get, subst, sym, ap, ◌∙◌, arith}
use Rattle.std.proofs.lemmas.List.{take_all}
use Rattle.golf_model.specs.State.{runnable}
use Rattle.golf_run.proofs.TurnLines.{numbers, one-runnable, runnable-rise}
use Rattle.golf_run.proofs.turn_lines.runnable.Goals as goal

pub loop-place-preserved : goal.loop-place-preserved
loop-place-preserved c =
    subst (λ gs. numbers gs ≡ take (c.loop-place.place + 1) (runnable c.args.state.now)) (sym c.in_ok-push.ensures.ok)
    (one-runnable c.loop-place.list (runnable c.args.state.now) c.loop-place.place c.at.result c.loop-place.invariant
    (ap (λ (xs : List ℕ). slice_get xs c.loop-place.place) (sym c.runnable-found.ensures.all) ∙ c.at.ensures))

pub returns-clause-order : goal.returns-clause-order
returns-clause-order c =
    let xs : List ℕ = runnable c.args.state.now in
    let count = c.count-place-end.ensures ∙ ap (λ (ys : List ℕ). length ys) c.runnable-found.ensures.all in
    let low = c.loop-place-test.false in
    let all : length xs ≤ c.loop-place.place = omega (arith, count, low) in
    runnable-rise c.args.state.now c.loop-place.list (c.loop-place.invariant ∙ take_all c.loop-place.place xs all)
    c.runnable-found.ensures.rises
