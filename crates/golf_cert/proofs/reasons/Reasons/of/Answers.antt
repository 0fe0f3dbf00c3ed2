use Rattle.std.proofs.Common.{ℕ, ◌+◌, List, get_or, refl, ap, subst, arith}
use Rattle.std.proofs.lemmas.List.{length-map}
use Rattle.golf_model.specs.Graph.{sleeper_place}
use Rattle.golf_cert.specs.Levels.{IsReason}
use Rattle.golf_cert.specs.Links.{placed_by, places_of}
use Rattle.golf_cert.proofs.Computing.{reasons_computed}
use Rattle.golf_cert.proofs.reasons.Reasons.of.Goals as goal

pub returns-then-as_slice-place-eq0-clause-found : goal.returns-then-as_slice-place-eq0-clause-found
returns-then-as_slice-place-eq0-clause-found c = (
  λ some. cc,
  λ d.
      let g = c.args.graph.now in
      let w = c.args.self.now.walk in
      let is = ap (λ (n : ℕ). get_or w.levels (n + c.args.sleeper) 0) c.nodes.ensures.count in
      let zero = ap (λ (l : List ℕ). get_or l (c.nodes.result + c.args.sleeper) 0) c.as_slice.ensures in
      absurd (omega (
        arith,
        c.requires.graph.levels.least (sleeper_place g c.args.sleeper) d,
        is,
        zero,
        c.if-as_slice-place-eq0.true,
      )),
)

pub returns-then-as_slice-place-eq0-clause-computed : goal.returns-then-as_slice-place-eq0-clause-computed
returns-then-as_slice-place-eq0-clause-computed c =
    let g = c.args.graph.now in
    let w = c.args.self.now.walk in
    let is = ap (λ (n : ℕ). get_or w.levels (n + c.args.sleeper) 0) c.nodes.ensures.count in
    let none = ap (λ (l : List ℕ). get_or l (c.nodes.result + c.args.sleeper) 0) c.as_slice.ensures in
    (reasons_computed g c.nodes.ensures.in_range (sleeper_place g c.args.sleeper)).1
    (λ d. omega (
      arith,
      c.requires.graph.levels.least (sleeper_place g c.args.sleeper) d,
      is,
      none,
      c.if-as_slice-place-eq0.true,
    ))

pub returns-clause-found : goal.returns-clause-found
returns-clause-found c = (
  λ _.
      let g = c.args.graph.now in
      let w = c.args.self.now.walk in
      let is = ap (λ (n : ℕ). get_or w.levels (n + c.args.sleeper) 0) c.nodes.ensures.count in
      let some = ap (λ (l : List ℕ). get_or l (c.nodes.result + c.args.sleeper) 0) c.as_slice.ensures in
      let l = c.requires.graph.levels.levels (sleeper_place g c.args.sleeper)
      (omega (arith, is, some, c.if-as_slice-place-eq0.false)) in
      (l.way.0, l.way.1),
  λ _. refl,
)

pub returns-clause-computed : goal.returns-clause-computed
returns-clause-computed c =
    let g = c.args.graph.now in
    let places = places_of g c.in_ok-links.links in
    let r = subst (λ (n : ℕ). IsReason g (n + c.args.sleeper) places) c.nodes.ensures.count
    c.in_ok-links.ensures.reason in
    (((reasons_computed g c.nodes.ensures.in_range (sleeper_place g c.args.sleeper)).0 places).0 r).1

pub returns-clause-shortest : goal.returns-clause-shortest
returns-clause-shortest c =
    λ earlier d.
    let g = c.args.graph.now in
    let r = subst (λ (n : ℕ). IsReason g (n + c.args.sleeper) (places_of g c.in_ok-links.links)) c.nodes.ensures.count
    c.in_ok-links.ensures.reason in
    omega (arith, r.level.least earlier d, length-map c.in_ok-links.links (placed_by g))
