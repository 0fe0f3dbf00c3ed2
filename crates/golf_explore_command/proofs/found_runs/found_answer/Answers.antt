use Rattle.std.proofs.Common.{refl}
use Rattle.golf_explore_command.proofs.Leaking.{found-shown}
use Rattle.golf_explore_command.proofs.found_runs.found_answer.Goals as goal

pub returns : goal.returns
returns g c = record {
  shows = found-shown c.args.code.now c.args.aim c.args.numbers c.choices_then_collect.ensures
      c.leaks_are_reported.ensures c.requires.found;
  status_is = refl;
  text_is = c.in_ok-found_text.ensures;
}
