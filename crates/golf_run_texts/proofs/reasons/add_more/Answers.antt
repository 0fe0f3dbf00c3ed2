use Rattle.std.proofs.Common.{◌++◌, refl, ap, ◌∙◌, append_assoc}
use Rattle.std.specs.Prelude.{codes}
use Rattle.golf_run_texts.specs.Texts.{member_text, more_members}
use Rattle.golf_run_texts.proofs.Growing.{one-more}
use Rattle.golf_run_texts.proofs.reasons.add_more.Goals as goal

pub loop-member-preserved : goal.loop-member-preserved
loop-member-preserved c =
    let text = c.as_bytes.result.now in
    one-more (λ m. codes ", " ++ member_text m) more_members refl
    (λ m ms. refl) c.args.members.now c.loop-member.member-index _ c.args.line.now c.loop-member.line
    c.extend_from_slice-in-loop-member.new.self (codes ", " ++ text) c.loop-member-test.true c.loop-member.invariant
    (ap (λ t. codes ", " ++ t) (c.as_bytes.ensures.value ∙ c.in_ok-member_text.ensures))
    (c.in_ok-extend_from_slice-2.ensures.ok ∙ ap (λ t. t ++ text) c.in_ok-extend_from_slice.ensures.ok
    ∙ append_assoc c.loop-member.line (codes ", ") text)
