use Rattle.std.proofs.Common.{◌≡◌, length}
use Rattle.golf_explore.proofs.Partners.{are-partners}
use Rattle.golf_explore.proofs.alike_states.are_partners.Goals as goal

pub returns : goal.returns
returns c =
    let count : length c.as_slice-to.result.now ≡ length c.args.goroutines.now = c.if-to-goroutines.false in
    are-partners c.args.state.now c.args.goroutines.now c.args.other.now c.args.others.now c.args.pairing.now.to
    c.args.pairing.now.from c.as_slice-to.result.now c.as_slice-from.result.now c.have_same_order.result
    c.as_slice-to.ensures c.as_slice-from.ensures count (c.are_paired.ensures c.if-not-are_paired.false)
    (c.are_paired-2.ensures c.if-not-are_paired-2.false) (c.all_fit.ensures c.if-not-all_fit.false)
    c.have_same_order.ensures
