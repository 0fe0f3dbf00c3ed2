-- What a collection removes from a state, by flags.
use Rattle.std.specs.Prelude.{Bool, List, ◌++◌}
use Rattle.golf_theory.specs.Flags.{kept, left_out}
use Rattle.golf_model.specs.State.{State}
use Rattle.golf_model.specs.Collections.{queued}

-- the finalisers whose flag is false join the queue, in rising order of their objects' numbers
abbrev pub queue_unflagged : List Bool → State → State
queue_unflagged stays s = record s {
  finalisers = kept stays s.finalisers;
  queue = s.queue
      ++ queued (left_out stays s.finalisers);
}
