use Rattle.std.proofs.Common.{◌≡◌, ◌∙◌, sym}
use Rattle.std.specs.Cmp.{unsigned_Decides}
use Rattle.golf_state_equality.proofs.Entries.{entry-decides, keys-same}
use Rattle.golf_state_equality.proofs.heaps.is_same_entry.Goals as goal

pub returns-then-eq : goal.returns-then-eq
returns-then-eq c =
    let same : c.at-id.result.0 ≡ c.at-twin.result.0 =
    (unsigned_Decides c.at-id.result.0 c.at-twin.result.0).0 (sym c.eq.ensures ∙ c.if-eq.true) in
    let found = c.is_same_found.ensures in
    entry-decides 1 c.args.heap.now.objects c.args.other.now.objects c.args.rank c.at-id.result.0 c.at-twin.result.0
    c.is_same_found.result
    c.count.ensures.numbers.rises c.count-2.ensures.numbers.rises c.at-id.ensures c.at-twin.ensures (
      λ t. (same, sym c.get.ensures ∙ found.0 t ∙ c.get-then-eq.ensures),
      λ h. found.1 (c.get.ensures ∙ h.1 ∙ sym c.get-then-eq.ensures),
    )

pub returns-else-eq : goal.returns-else-eq
returns-else-eq c = (
  λ t. cc c.if-eq.false,
  λ e.
      c.eq.ensures
      ∙ (unsigned_Decides c.at-id.result.0 c.at-twin.result.0).1
      (keys-same c.args.heap.now.objects c.args.other.now.objects c.args.rank c.at-id.result.0 c.at-twin.result.0
      c.at-id.ensures c.at-twin.ensures e),
)
