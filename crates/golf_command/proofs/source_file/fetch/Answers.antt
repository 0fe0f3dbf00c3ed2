use Rattle.std.proofs.Common.{Err, ap, refl, inl, inr}
use Rattle.golf_command.proofs.Calling.{all-left}
use Rattle.golf_command.proofs.Fetching.{fails-to-read, is-too-long, lacks-memory, too-long-so}
use Rattle.golf_command.proofs.source_file.fetch.Goals as goal

pub returns-in-Ok-clause-fetches : goal.returns-in-Ok-clause-fetches
returns-in-Ok-clause-fetches g c = (
  record {
    told = all-left _ _ c.in-Ok.bytes c.in-Ok.ensures.ok c.in-Ok.ensures.at_end;
    at_end = c.in-Ok.ensures.at_end;
    quiet = c.in-Ok.ensures.cause;
    within = c.in-Ok.ensures.within;
  },
  refl,
  refl,
)

pub returns-in-Err-ReadFault-clause-fetches : goal.returns-in-Err-ReadFault-clause-fetches
returns-in-Err-ReadFault-clause-fetches g c =
    fails-to-read (rw c.in-Err-ReadFault.field-0-is at c.in-Err-ReadFault.ensures.cause) c.read_file.ensures.later
    c.end.ensures

pub returns-in-Err-TooLong-clause-fetches : goal.returns-in-Err-TooLong-clause-fetches
returns-in-Err-TooLong-clause-fetches g c =
    is-too-long (c.in-Err-TooLong.ensures.too_long (ap (λ e. Err e) c.in-Err-TooLong.field-0-is))
    (rw c.in-Err-TooLong.field-0-is at c.in-Err-TooLong.ensures.cause) c.end-in-Err-TooLong.ensures

pub returns-in-Err-Memory-clause-fetches : goal.returns-in-Err-Memory-clause-fetches
returns-in-Err-Memory-clause-fetches g c =
    lacks-memory (rw c.in-Err-Memory.field-0-is at c.in-Err-Memory.ensures.cause) c.end-in-Err-Memory.ensures

-- ---- in words of no line

pub returns-in-Err-ReadFault-clause-fails : goal.returns-in-Err-ReadFault-clause-fails
returns-in-Err-ReadFault-clause-fails g c =
    inl (record {
      rose = rw c.in-Err-ReadFault.field-0-is at c.in-Err-ReadFault.ensures.cause;
      later = c.read_file.ensures.later;
      says = c.end.ensures;
    })

pub returns-in-Err-TooLong-clause-fails : goal.returns-in-Err-TooLong-clause-fails
returns-in-Err-TooLong-clause-fails g c =
    inr (inl (too-long-so _ _ (c.in-Err-TooLong.ensures.too_long (ap (λ e. Err e) c.in-Err-TooLong.field-0-is))
    (rw c.in-Err-TooLong.field-0-is at c.in-Err-TooLong.ensures.cause) c.end-in-Err-TooLong.ensures))

pub returns-in-Err-Memory-clause-fails : goal.returns-in-Err-Memory-clause-fails
returns-in-Err-Memory-clause-fails g c =
    inr (inr (record {
      quiet = rw c.in-Err-Memory.field-0-is at c.in-Err-Memory.ensures.cause;
      says = c.end-in-Err-Memory.ensures;
    }))
