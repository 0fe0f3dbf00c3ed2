use Rattle.std.proofs.Common.{sym, subst}
use Rattle.golf_marks.specs.Flags.{IsSet}
use Rattle.golf_cert.specs.Verification.{TellsPlace}
use Rattle.golf_cert.specs.declared.links.Link.{Link}
use Rattle.golf_cert.proofs.VerdictLaws.{root_tells}
use Rattle.golf_cert.proofs.verdicts.place_by.Goals as goal

pub returns-in-Root : goal.returns-in-Root
returns-in-Root c =
    let g = c.args.graph.now in
    subst (λ (l : Link). TellsPlace g (IsSet c.args.placed.now) l c.root_by.result) (sym c.in-Root.is)
    (root_tells g (IsSet c.args.placed.now) c.args.roots.now c.in-Root.node c.root_by.result
    c.places_in-places.ensures.in_range c.requires.roots c.root_by.ensures)
