use Rattle.golf_cert.proofs.Counts.{least_computed}
use Rattle.golf_cert.proofs.laws.least_is_computed.Goals as goal

pub returns : goal.returns
returns c = record { computed = least_computed }
