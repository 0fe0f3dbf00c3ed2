use Rattle.std.proofs.Common.{◌≡◌, ℕ, ◌+◌, ◌-◌, ◌<◌, inl, inr, true, subst, arith}
use Rattle.std.proofs.lemmas.Bool.{cases_lt}
use Rattle.golf_model.specs.Graph.{Least, node_count, sleeper_count}
use Rattle.golf_cert.proofs.Walks.{level_below}
use Rattle.golf_cert.proofs.certificates.add_link.Goals as goal

-- a place that has a level is marked
pub returns-then-not-marked_here : goal.returns-then-not-marked_here
returns-then-not-marked_here c =
    let g = c.args.graph.now in
    let p : ℕ = c.args.place in
    let way = (c.requires.levels.levels p c.requires.reached).way in
    let least : Least g p = (way.0, way.1) in
    let set : c.is_marked-marked_here.result ≡ true = elim (cases_lt p (node_count g)) [
      | inl low ↦ (c.is_marked-marked_here.ensures.node low).1 (c.requires.flags.flags p low least)
      | inr high ↦
          let s : ℕ = p - node_count g in
          let low : s < sleeper_count g = omega
          (arith, high, level_below g c.args.walk.now c.requires.levels p c.requires.reached) in
          let is : p ≡ node_count g + s = omega (arith, high) in
          (c.is_marked-marked_here.ensures.sleeper high).1 (c.requires.flags.awake s low (subst (Least g) is least))
    ] in
    let unset = c.if-not-marked_here.true in
    absurd (cc)
