use Rattle.golf_command.proofs.Fetching.{of-bytes, then-refused}
use Rattle.golf_command.proofs.source_file.load_tree.Goals as goal

pub returns-in-Ok-judge : goal.returns-in-Ok-judge
returns-in-Ok-judge g c =
    let typed = rw c.as_slice.ensures at c.in-Ok-judge.ensures in
    let fetched = c.in-Ok.ensures.fetches in
    (of-bytes fetched.0 typed.0 typed.1, fetched.1, fetched.2)

pub returns : goal.returns
returns g c =
    let fetched = c.in-Ok.ensures.fetches in
    then-refused c.in-Err-judge.refusal fetched.0 fetched.1 fetched.2
    (rw c.as_slice.ensures at c.in-Err-judge.ensures) c.refuse.ensures
