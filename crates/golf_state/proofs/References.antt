-- A value that is a reference.
-- For: `reference_in` (golf_state/src/operands.rt)
-- By: cases of the value
use Rattle.std.proofs.Common.{◌≡◌}
use Rattle.golf_base.specs.declared.ids.ObjectId.{ObjectId}
use Rattle.golf_data.specs.declared.value.Value.{Value}
use Rattle.golf_state.specs.declared.operands.Reference.{Reference}
use Rattle.golf_state.specs.Operands.{reference_of}

pub is-reference : (v : Value) (o : ObjectId) → reference_of v ≡ Reference.To o → v ≡ Value.Ref o
is-reference (Value.Ref p) o e = cc
is-reference (Value.Int n) o e = cc
is-reference (Value.Bool b) o e = cc
is-reference (Value.Text t) o e = cc
is-reference Value.Unit o e = cc
is-reference Value.Nil o e = cc
