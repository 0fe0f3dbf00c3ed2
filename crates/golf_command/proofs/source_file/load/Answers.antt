use Rattle.golf_command.proofs.Fetching.{of-bytes, then-refused, then-fails}
use Rattle.golf_command.proofs.source_file.load.Goals as goal

pub returns-in-Ok-read-clause-loads : goal.returns-in-Ok-read-clause-loads
returns-in-Ok-read-clause-loads g c =
    let has = rw c.as_slice.ensures at c.in-Ok-read.ensures.answer in
    let fetched = c.in-Ok.ensures.fetches in
    (has.file, of-bytes fetched.0 has.typed has.only, has.is, fetched.1, fetched.2)

pub returns-clause-loads : goal.returns-clause-loads
returns-clause-loads g c =
    let fetched = c.in-Ok.ensures.fetches in
    then-refused c.in-Err-read.refusal fetched.0 fetched.1 fetched.2
    (rw c.as_slice.ensures at c.in-Err-read.ensures.answer) c.refuse.ensures

-- the file is refused, and nothing was written before
pub returns-clause-fails : goal.returns-clause-fails
returns-clause-fails g c =
    let fetched = c.in-Ok.ensures.fetches in
    then-fails c.in-Err-read.refusal fetched.0 fetched.1 fetched.2
    (rw c.as_slice.ensures at c.in-Err-read.ensures.answer) c.refuse.ensures
