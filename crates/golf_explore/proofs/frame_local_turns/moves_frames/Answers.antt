use Rattle.golf_model.specs.Views.{frame_view}
use Rattle.golf_explore.proofs.frame_local_turns.moves_frames.Goals as goal

pub returns-in-Call : goal.returns-in-Call
returns-in-Call c = rw c.in-Call.is (c.has_room.ensures (frame_view c.args.frame.now))
