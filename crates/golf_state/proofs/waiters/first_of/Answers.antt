use Rattle.std.proofs.Common.{◌≡◌, ℕ, ◌+◌, ◌-◌, ◌<◌, List, ◌++◌, [], length, drop, refl, sym, drop_of_length-le, ap}
use Rattle.std.proofs.Common.{◌∙◌, arith, Option}
use Rattle.std.specs.Prelude.{option_map}
use Rattle.std.proofs.lemmas.List.{length-map}
use Rattle.golf_model.specs.Views.{GoroutineView}
use Rattle.golf_model.specs.Waiters.{first, waiter_of}
use Rattle.golf_state_goroutines.specs.Places.{plain_entry, plain_entries}
use Rattle.golf_state.specs.Seen.{sooner}
use Rattle.golf_state.specs.Waited.{waiting_of}
use Rattle.golf_state.specs.declared.waiters.Waiting.{Waiting}
use Rattle.golf_data.specs.declared.goroutine.Goroutine.{Goroutine}
use Rattle.golf_state.proofs.WaiterLaws.{seen_more}
use Rattle.golf_state.proofs.waiters.first_of.Goals as goal

end : (gs : List (ℕ × Goroutine)) (n : ℕ) → n ≡ length gs → [] ≡ drop n (plain_entries gs)
end gs n e = sym (drop_of_length-le (plain_entries gs) (omega (arith, e, length-map gs plain_entry)))

pub loop-at-init : goal.loop-at-init
loop-at-init c = record {
  within = omega (arith);
  best = λ rest h. h ∙ ap (λ (es : List (ℕ × GoroutineView)). option_map waiting_of
      (first c.args.object.0 c.args.side (es ++ rest))) (end c.args.places.now _ refl);
}

pub loop-at-preserved : goal.loop-at-preserved
loop-at-preserved c =
    let gs = c.args.places.now in
    let at : ℕ = c.loop-at.at - 1 in
    let o = c.args.object.0 in
    let side = c.args.side in
    let next : c.loop-at.at ≡ at + 1 = omega arith in
    let within : at < length gs = omega (arith, c.loop-at.invariant.within) in
    let p : ℕ × Goroutine = c.index-places-at.result in
    record {
      within = omega (arith, c.loop-at.invariant.within);
      best = λ rest h.
          let before : c.loop-at.best ≡ option_map waiting_of
          (first o side (drop (at + 1) (plain_entries gs) ++ rest)) = c.loop-at.invariant.best rest h
          ∙ ap (λ (n : ℕ). option_map waiting_of (first o side (drop n (plain_entries gs) ++ rest))) next in
          c.sooner-best.ensures ∙ ap (λ (w : Option Waiting). sooner w c.loop-at.best) c.waiter_in.ensures
          ∙ ap (sooner (option_map waiting_of (waiter_of o side (plain_entry p)))) before
          ∙ seen_more gs at o side p rest within c.index-places-at.is;
    }
