-- The places of a batch.
use Rattle.std.specs.Prelude.{ℕ, List}
use Rattle.golf_marks.specs.declared.batch.Batch.{Batch}
use Rattle.golf_marks.specs.Bits.{marked_in}

-- the places of the batch, in rising order
unfoldable pub batched : Batch → List ℕ
batched b = marked_in b.word b.bits
