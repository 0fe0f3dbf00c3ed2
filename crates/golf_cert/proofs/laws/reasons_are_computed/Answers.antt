use Rattle.golf_cert.proofs.Computing.{reasons_computed}
use Rattle.golf_cert.proofs.laws.reasons_are_computed.Goals as goal

pub returns : goal.returns
returns c = record { computed = reasons_computed }
