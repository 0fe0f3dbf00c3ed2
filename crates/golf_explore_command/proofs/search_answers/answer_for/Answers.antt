use Rattle.std.proofs.Common.{refl, subst}
use Rattle.golf_explore.specs.declared.preemption_search.SearchResult.{SearchResult}
use Rattle.golf_explore_command.specs.declared.search_answers.Searched.{Searched}
use Rattle.golf_explore.specs.Sought.{Finds}
use Rattle.golf_explore_command.specs.Answers.{sought_by, IsSearched}
use Rattle.golf_explore_command.proofs.search_answers.answer_for.Goals as goal

pub found_answer-requires-clause-found : goal.found_answer-requires-clause-found
found_answer-requires-clause-found g c κs l =
    let told = subst (IsSearched c.args.code.now c.args.options) c.in-Told-Found.is c.requires.searched in
    (subst (Finds c.args.code.now (sought_by c.args.options.aim)) c.in-Told-Found.field-0-is told).1

pub returns-in_ok-answer-in-Told-Found : goal.returns-in_ok-answer-in-Told-Found
returns-in_ok-answer-in-Told-Found g c =
    let found = c.in_ok-answer-in-Told-Found.ensures in
    let told = subst (IsSearched c.args.code.now c.args.options) c.in-Told-Found.is c.requires.searched in
    record {
      searched = Searched.Told (SearchResult.Found c.in-Told-Found.numbers);
      tells = subst (Finds c.args.code.now (sought_by c.args.options.aim)) c.in-Told-Found.field-0-is told;
      shows = found.shows;
      status_is = found.status_is;
      text_is = found.text_is;
    }

pub returns-in_ok-nothing_line-in-Told-Nothing : goal.returns-in_ok-nothing_line-in-Told-Nothing
returns-in_ok-nothing_line-in-Told-Nothing g c = record {
  searched = Searched.Told (SearchResult.Nothing c.in-Told-Nothing.states);
  tells = tt;
  shows = tt;
  status_is = refl;
  text_is = c.in_ok-nothing_line-in-Told-Nothing.ensures;
}

pub returns-in_ok-list_of-in-Told-Finalisers : goal.returns-in_ok-list_of-in-Told-Finalisers
returns-in_ok-list_of-in-Told-Finalisers g c = record {
  searched = Searched.Told SearchResult.Finalisers;
  tells = tt;
  shows = tt;
  status_is = refl;
  text_is = c.in_ok-list_of-in-Told-Finalisers.ensures;
}

pub returns-in_ok-too_many_line-in-Told-TooMany : goal.returns-in_ok-too_many_line-in-Told-TooMany
returns-in_ok-too_many_line-in-Told-TooMany g c = record {
  searched = Searched.Told SearchResult.TooMany;
  tells = tt;
  shows = tt;
  status_is = refl;
  text_is = c.in_ok-too_many_line-in-Told-TooMany.ensures;
}

pub returns-in_ok-out_of_time_line-in-OutOfTime : goal.returns-in_ok-out_of_time_line-in-OutOfTime
returns-in_ok-out_of_time_line-in-OutOfTime g c = record {
  searched = Searched.OutOfTime c.in-OutOfTime.seconds;
  tells = subst (IsSearched c.args.code.now c.args.options) c.in-OutOfTime.is c.requires.searched;
  shows = tt;
  status_is = refl;
  text_is = c.in_ok-out_of_time_line-in-OutOfTime.ensures;
}
