use Rattle.std.proofs.Common.{◌≡◌, ◌<◌, List, [], ◌∷◌, length, Bool, not, sym, ap, ◌∙◌, arith}
use Rattle.std.proofs.lemmas.Bool.{eqb-false}
use Rattle.std.specs.Prelude.{reverse}
use Rattle.std.proofs.lemmas.List.{length-reverse}
use Rattle.golf_data.specs.declared.goroutine.Deferred.{Deferred}
use Rattle.golf_model.specs.Views.{FrameView, frame_view, frame_views}
use Rattle.golf_model.specs.Calls.{is_full}
use Rattle.golf_explore_laws.specs.Local.{leaving_is_local}
use Rattle.golf_explore.proofs.frame_local_turns.is_leaving_local.Goals as goal

-- with deferred calls there must be room for one of them
leaving-room : (ds : List Deferred) (f : FrameView) (callers : List FrameView) (b : Bool) → 0 < length ds
    → b ≡ not (is_full (f ∷ callers)) → b ≡ leaving_is_local ds f callers
leaving-room [] f callers b some e = absurd (omega (arith, some))
leaving-room (d ∷ ds) f callers b some e = e

pub returns : goal.returns
returns c =
    let ds = c.args.frame.now.deferred in
    let same = length-reverse ds in
    let none = eqb-false _ 0 (sym c.is_empty.ensures ∙ c.if-is_empty.false) in
    let here = ap length c.as_slice.ensures in
    leaving-room (reverse ds) (frame_view c.args.frame.now) (frame_views c.args.callers.now) c.has_room.result
    (omega (arith, same, none, here)) (c.has_room.ensures (frame_view c.args.frame.now))
