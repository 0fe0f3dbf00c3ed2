use Rattle.std.proofs.Common.{◌≡◌, Some, sym, ap, ◌∙◌}
use Rattle.std.specs.Prelude.{option_map}
use Rattle.golf_model.specs.Views.{goroutine_view}
use Rattle.golf_theory.specs.Maps.{find}
use Rattle.golf_explore.proofs.WaitPairs.{adds-at}
use Rattle.golf_explore.proofs.alike_states.add_waits_at.Goals as goal

pub returns : goal.returns
returns c =
    let s = c.args.state.now in
    let t = c.args.other.now in
    let r = goroutine_view c.in-Some-goroutine.goroutine.now in
    let q = goroutine_view c.in-Some-goroutine-2.twin.now in
    let one : find c.args.g.0 s.goroutines ≡ Some r = sym c.goroutine.ensures
    ∙ ap (option_map (λ x. goroutine_view x.now)) c.in-Some-goroutine.is in
    let two : find c.in-Some.h.0 t.goroutines ≡ Some q = sym c.goroutine-2.ensures
    ∙ ap (option_map (λ x. goroutine_view x.now)) c.in-Some-goroutine-2.is in
    rw c.in-Some.is (adds-at s c.args.g.0 t c.in-Some.h.0 r q c.args.waits.now.items c.add_waits.new.waits.items
    c.add_waits.result one two c.add_waits.ensures)
