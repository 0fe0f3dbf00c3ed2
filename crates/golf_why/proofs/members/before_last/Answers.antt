use Rattle.std.proofs.Common.{◌∙◌, ap, map, take}
use Rattle.std.proofs.lemmas.List.{take_all}
use Rattle.golf_cert.specs.Links.{places_of}
use Rattle.golf_cert.specs.declared.links.Link.TheVariants.{Root}
use Rattle.golf_why.specs.Members.{member_at}
use Rattle.golf_why.proofs.Within.{within-at, before-is}
use Rattle.golf_why.proofs.members.before_last.Goals as goal

pub placed-requires : goal.placed-requires
placed-requires c = within-at c.args.graph.now c.args.links.now c.saturating_sub.result c.loop-link.link-index
    (Root 0) c.nodes-nodes.ensures.in_range c.requires c.loop-link-test.true

pub returns : goal.returns
returns c =
    let g = c.args.graph.now in
    let links = c.args.links.now in
    c.loop-link.invariant ∙ ap (λ ls. map (member_at g) (places_of g ls))
    (take_all c.loop-link.link-index (take c.saturating_sub.result links) c.loop-link-test.false)
    ∙ ap (λ n. map (member_at g) (places_of g (take n links))) c.saturating_sub.ensures ∙ before-is g links
