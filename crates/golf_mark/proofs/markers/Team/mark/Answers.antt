use Rattle.std.proofs.Common.{◌∙◌, arith}
use Rattle.golf_mark.proofs.Readying.{runs_length, runs_parts, all_run, still_rooted}
use Rattle.golf_mark.proofs.markers.Team.mark.Goals as goal

pub conclude-requires-clause-some : goal.conclude-requires-clause-some
conclude-requires-clause-some g c =
    let inside = c.args.self in
    omega (
      arith,
      runs_length inside.marks inside.pool c.deal-dealt.result.items c.run_markers-done.result.items
          c.run_markers-done.ensures,
      c.deal-dealt.ensures.count,
      c.requires.ready.some_marker,
    )

pub conclude-requires-clause-count : goal.conclude-requires-clause-count
conclude-requires-clause-count g c =
    let inside = c.args.self in
    runs_length inside.marks inside.pool c.deal-dealt.result.items c.run_markers-done.result.items
    c.run_markers-done.ensures ∙ c.deal-dealt.ensures.count ∙ c.requires.ready.count

pub conclude-requires-clause-run : goal.conclude-requires-clause-run
conclude-requires-clause-run g c =
    let inside = c.args.self in
    all_run inside.marks inside.pool c.deal-dealt.result.items c.run_markers-done.result.items
    c.run_markers-done.ensures c.deal-dealt.ensures.fresh

pub conclude-requires-clause-parts : goal.conclude-requires-clause-parts
conclude-requires-clause-parts g c =
    let inside = c.args.self in
    runs_parts inside.marks inside.pool c.deal-dealt.result.items c.run_markers-done.result.items
    c.run_markers-done.ensures ∙ c.deal-dealt.ensures.parts ∙ c.requires.ready.parts

pub conclude-requires-clause-rooted : goal.conclude-requires-clause-rooted
conclude-requires-clause-rooted g c =
    let inside = c.args.self in
    still_rooted inside.marks inside.pool c.args.graph.now.roots c.deal-dealt.result.items
    c.run_markers-done.result.items c.run_markers-done.ensures c.deal-dealt.ensures.rooted

pub conclude-requires-clause-hands : goal.conclude-requires-clause-hands
conclude-requires-clause-hands g c =
    let inside = c.args.self in (
      c.requires.ready.no_hand,
      omega (
        arith,
        runs_length inside.marks inside.pool c.deal-dealt.result.items c.run_markers-done.result.items
            c.run_markers-done.ensures,
        c.deal-dealt.ensures.count,
        c.requires.ready.hand_room,
      ),
    )
