use Rattle.std.proofs.Common.{subst}
use Rattle.golf_explore.specs.declared.full_search.Explored.{Explored}
use Rattle.golf_explore.specs.Results.{TellsSearch}
use Rattle.golf_explore_command.proofs.full_answers.answer_on.Goals as goal

pub found_answer-requires-clause-found : goal.found_answer-requires-clause-found
found_answer-requires-clause-found g c κs l = subst (TellsSearch c.args.code.now) c.in-Leak.is c.requires.tells

pub returns-in_ok-answer-in-Leak : goal.returns-in_ok-answer-in-Leak
returns-in_ok-answer-in-Leak g c =
    let found = c.in_ok-answer-in-Leak.ensures in
    record {
      explored = Explored.Leak c.in-Leak.numbers;
      tells = subst (TellsSearch c.args.code.now) c.in-Leak.is c.requires.tells;
      shows = found.shows;
      status_is = found.status_is;
      text_is = found.text_is;
    }
