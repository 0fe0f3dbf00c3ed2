use Rattle.std.proofs.Common.{Some, ap, ◌∙◌}
use Rattle.golf_explore_words.specs.declared.line.ExploreLine.{ExploreLine}
use Rattle.golf_explore_words.specs.declared.line.Request.{Request}
use Rattle.golf_explore_command.proofs.Calling.{fails, served}
use Rattle.golf_explore_command.proofs.top.serve.Goals as goal

pub returns-in-Err : goal.returns-in-Err
returns-in-Err g c words is = fails words _ _ _ _ _ _ _ _ _ _ c.in-Err.status c.args.shows c.args.line is
    c.in-Err.ensures.fails

pub returns-in-Ask : goal.returns-in-Ask
returns-in-Ask g c words is =
    let loads = c.in-Ok.ensures.loads in
    served words (ExploreLine.Ask c.in-Ask.question) c.args.shows c.in-Ok.code
    (is ∙ ap (λ line. Some (Request.Serve line)) c.in-Ask.is) loads.1 loads.2 loads.3 loads.4 c.tell_answer.ensures

pub returns-in-Trace : goal.returns-in-Trace
returns-in-Trace g c words is =
    let loads = c.in-Ok.ensures.loads in
    served words (ExploreLine.Trace c.in-Trace.options) c.args.shows c.in-Ok.code
    (is ∙ ap (λ line. Some (Request.Serve line)) c.in-Trace.is) loads.1 loads.2 loads.3 loads.4 (c.tell_turns.ensures c.args.shows)

pub returns : goal.returns
returns g c words is =
    let loads = c.in-Ok.ensures.loads in
    served words (ExploreLine.TraceThreads c.in-TraceThreads.threads) c.args.shows c.in-Ok.code
    (is ∙ ap (λ line. Some (Request.Serve line)) c.in-TraceThreads.is) loads.1 loads.2 loads.3 loads.4
    (c.tell_threads.ensures c.args.shows)
