use Rattle.std.proofs.Common.{◌≡◌, sym, ap, ◌∙◌}
use Rattle.golf_model.specs.Views.{goroutine_view}
use Rattle.golf_model.specs.Waiters.{waits_of}
use Rattle.golf_explore.proofs.WaitPairs.{adds-waits}
use Rattle.golf_explore.proofs.alike_states.add_waits.Goals as goal

pub returns-in-Blocked : goal.returns-in-Blocked
returns-in-Blocked c =
    let waits : waits_of c.args.goroutine.now.mode ≡ c.as_slice.result.now = ap waits_of c.in-Blocked.is
    ∙ sym c.as_slice.ensures in
    adds-waits (goroutine_view c.args.goroutine.now) (goroutine_view c.args.twin.now) c.as_slice.result.now
    c.ticket_of.result c.ticket_of-in-Blocked.result c.args.waits.now.items c.add_each.new.waits.items
    c.add_each.result waits c.ticket_of.ensures c.ticket_of-in-Blocked.ensures c.add_each.ensures
