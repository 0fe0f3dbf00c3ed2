use Rattle.std.proofs.Common.{ap, ◌∙◌}
use Rattle.golf_model.specs.Reports.{numbers}
use Rattle.golf_explore.proofs.Partners.{have-partners}
use Rattle.golf_explore.proofs.alike_states.same_goroutines.Goals as goal

pub returns : goal.returns
returns c = have-partners c.args.state.now c.args.other.now (numbers c.as_slice-ones.result.now)
    (numbers c.as_slice-twins.result.now) c.in_ok-pairing.pairing.to c.in_ok-pairing.pairing.from
    c.are_partners.result (ap numbers c.as_slice-ones.ensures ∙ c.in_ok-goroutines.ensures.present)
    (ap numbers c.as_slice-twins.ensures ∙ c.in_ok-others.ensures.present) c.are_partners.ensures
