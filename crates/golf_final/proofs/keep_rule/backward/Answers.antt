use Rattle.std.proofs.Common.{◌≡◌, ◌++◌, Bool, List, length, false, replicate, ap, sym, ◌∙◌, subst, arith}
use Rattle.std.proofs.lemmas.List.{length-replicate}
use Rattle.golf_final.specs.Backward.{IsBackward}
use Rattle.golf_final.proofs.Making.{made-in_range, made-backward}
use Rattle.golf_final.proofs.keep_rule.backward.Goals as goal

pub new-requires-2 : goal.new-requires-2
new-requires-2 c =
    let flags = c.in_ok-extend_with.ensures.ok
    ∙ ap (λ (xs : List Bool). xs ++ replicate c.nodes-2.result false) c.new-finalised.ensures in
    let size : length c.extend_with.new.self ≡ c.nodes.result =
    omega (
      arith,
      ap length flags,
      length-replicate c.nodes-2.result false,
      c.nodes-2.ensures.count,
      c.nodes.ensures.count,
    ) in
    made-in_range c.args.graph.now c.nodes.ensures.in_range c.args.flags.now c.args.sets_finalisers c.nodes.result
    c.nodes.ensures.count c.in_ok-numbers.numbers c.in_ok-numbers.ensures c.in_ok-children.children
    c.in_ok-children.ensures
    c.extend_with.new.self size c.in_ok-roots.roots c.in_ok-roots.ensures c.new.result c.new.ensures

pub returns-clause-backward : goal.returns-clause-backward
returns-clause-backward c =
    let flags = c.in_ok-extend_with.ensures.ok
    ∙ ap (λ (xs : List Bool). xs ++ replicate c.nodes-2.result false) c.new-finalised.ensures in
    let size : length c.extend_with.new.self ≡ c.nodes.result =
    omega (
      arith,
      ap length flags,
      length-replicate c.nodes-2.result false,
      c.nodes-2.ensures.count,
      c.nodes.ensures.count,
    ) in
    subst (IsBackward c.args.graph.now c.args.flags.now c.args.sets_finalisers) (sym c.new-2.ensures)
    (made-backward c.args.graph.now c.nodes.ensures.in_range c.args.flags.now c.args.sets_finalisers c.nodes.result
    c.nodes.ensures.count c.in_ok-numbers.numbers c.in_ok-numbers.ensures c.in_ok-children.children
    c.in_ok-children.ensures
    c.extend_with.new.self size c.in_ok-roots.roots c.in_ok-roots.ensures c.new.result c.new.ensures)
