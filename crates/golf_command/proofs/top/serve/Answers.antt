use Rattle.std.proofs.Common.{sym, ◌∙◌, refl}
use Rattle.golf_command.specs.Means.{words_of}
use Rattle.golf_command.proofs.Asking.{asked-line, asked-within}
use Rattle.golf_command.proofs.top.serve.Goals as goal

pub returns-in-Some : goal.returns-in-Some
returns-in-Some g c =
    let asks = sym c.threads_of.ensures ∙ c.in-Some.is in
    record {
      line = asked-line (words_of c.args.words.now) c.parse-line.result c.in-Some.threads asks c.parse-line.ensures.line;
      within = asked-within c.parse-line.result c.in-Some.threads asks c.parse-line.ensures.limits;
      same = refl;
    }

pub returns-in-None : goal.returns-in-None
returns-in-None g c = c.serve_line.ensures (words_of c.args.words.now) c.parse-line.ensures.line
