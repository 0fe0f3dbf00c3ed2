use Rattle.golf_command.specs.Means.{words_of}
use Rattle.golf_command.proofs.Calling.{tells-threads}
use Rattle.golf_command.proofs.top.golf.Goals as goal

pub serve_threads-requires-clause-some : goal.serve_threads-requires-clause-some
serve_threads-requires-clause-some g c κs lives = (rw c.in-AsksThreads.is at c.serve.ensures).within.0

pub serve_threads-requires-clause-few : goal.serve_threads-requires-clause-few
serve_threads-requires-clause-few g c κs lives = (rw c.in-AsksThreads.is at c.serve.ensures).within.1

pub returns-in-AsksThreads : goal.returns-in-AsksThreads
returns-in-AsksThreads g c = tells-threads (words_of c.args.words.now) c.in-AsksThreads.threads c.serve_threads.result
    _ _ _ (rw c.in-AsksThreads.is at c.serve.ensures) c.serve_threads.ensures
