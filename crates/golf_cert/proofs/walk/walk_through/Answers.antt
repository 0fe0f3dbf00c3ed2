use Rattle.std.proofs.Common.{◌≡◌, ℕ, ◌+◌, ◌<◌, List, ◌++◌, length, get_or, replicate, sym, ap, ◌∙◌, subst, arith}
use Rattle.std.specs.Prelude.{◌^◌, slice_get}
use Rattle.std.proofs.lemmas.List.{length-replicate}
use Rattle.golf_theory.specs.Membership.{In, Every}
use Rattle.golf_theory.proofs.Lists.{Every-from, Every-at, In-get_or}
use Rattle.golf_rows.specs.Rows.{row_of}
use Rattle.golf_model.specs.Graph.{node_count, Justifies}
use Rattle.golf_cert.specs.declared.walk.Walk.{Walk}
use Rattle.golf_cert.specs.Steps.{referred_by}
use Rattle.golf_cert.specs.LevelWalk.{claimed_all}
use Rattle.golf_cert.proofs.StepLaws.{referred-justifies, woken-justifies, justified-in}
use Rattle.golf_cert.proofs.Lists.{slice_get-some, slice_get-none}
use Rattle.golf_cert.proofs.Claims.{level_of}
use Rattle.golf_cert.proofs.Walks.{begins, goes_on, ends, order_short, listed_has, listed_below}
use Rattle.golf_cert.proofs.walk.walk_through.Goals as goal

pub claim_all-requires : goal.claim_all-requires
claim_all-requires c =
    let g = c.args.graph.now in
    let is : c.extend_with.new.self ≡ replicate c.places_in.result 0 = c.in_ok-extend_with.ensures.ok
    ∙ ap (λ (l : List ℕ). l ++ replicate c.places_in.result 0) c.new-levels.ensures in
    let size = ap length is ∙ length-replicate {A = ℕ} c.places_in.result 0 ∙ c.places_in.ensures.count in
    subst (λ (l : List ℕ). Every (λ p. p < length c.extend_with.new.self) l) (sym c.roots.ensures)
    (Every-from (λ p. p < length c.extend_with.new.self) g.roots
    (λ p h. let b = Every-at (λ y. y < node_count g) g.roots p c.places_in.ensures.in_range.roots h in omega
    (arith, b, size)))

pub loop-place-init : goal.loop-place-init
loop-place-init c =
    let g = c.args.graph.now in
    let is : c.extend_with.new.self ≡ replicate c.places_in.result 0 = c.in_ok-extend_with.ensures.ok
    ∙ ap (λ (l : List ℕ). l ++ replicate c.places_in.result 0) c.new-levels.ensures in
    let w : Walk = record { levels = c.extend_with.new.self; order = c.new.result } in
    begins g w c.claim_all.new.walk c.places_in.ensures.in_range
    (is ∙ ap (λ (n : ℕ). replicate n 0) c.places_in.ensures.count) c.new.ensures
    (c.in_ok-claim_all.ensures.ok ∙ ap (λ (l : List ℕ). claimed_all 1 l w) c.roots.ensures)

pub next_level-level-requires-clause-place : goal.next_level-level-requires-clause-place
next_level-level-requires-clause-place c =
    let u = c.loop-place.invariant in
    let w = c.loop-place.walk in
    let at = slice_get-some w.order c.loop-place.turn c.in-Some.place
    (sym (c.in-Some.ensures ∙ ap (λ (l : List ℕ). slice_get l c.loop-place.turn) c.as_slice.ensures)) in
    let here = subst (λ (p : ℕ). In p w.order) at.1 (In-get_or w.order c.loop-place.turn 0 at.0) in
    omega (
      arith,
      listed_below c.args.graph.now w u.levelled c.in-Some.place
          (listed_has c.args.graph.now w u.levelled c.in-Some.place here),
      u.levelled.size,
      ap length c.as_slice-in-Some.ensures,
    )

pub next_level-level-requires-clause-small : goal.next_level-level-requires-clause-small
next_level-level-requires-clause-small c =
    let u = c.loop-place.invariant in
    let w = c.loop-place.walk in
    let at = slice_get-some w.order c.loop-place.turn c.in-Some.place
    (sym (c.in-Some.ensures ∙ ap (λ (l : List ℕ). slice_get l c.loop-place.turn) c.as_slice.ensures)) in
    let low : level_of w c.in-Some.place < 2 ^ 32 =
    omega (
      arith,
      u.levelled.small c.loop-place.turn at.0,
      ap (level_of w) at.1,
      at.0,
      order_short c.args.graph.now w u.levelled,
      c.places_in.ensures.small,
    ) in
    let is : get_or c.as_slice-in-Some.result.now c.in-Some.place 0 ≡ level_of w c.in-Some.place =
    ap (λ (l : List ℕ). get_or l c.in-Some.place 0) c.as_slice-in-Some.ensures in
    omega (arith, is, low)

pub loop-place-smaller : goal.loop-place-smaller
loop-place-smaller c =
    let u = c.loop-place.invariant in
    let w = c.loop-place.walk in
    let at = slice_get-some w.order c.loop-place.turn c.in-Some.place
    (sym (c.in-Some.ensures ∙ ap (λ (l : List ℕ). slice_get l c.loop-place.turn) c.as_slice.ensures)) in
    omega (arith, at.0, order_short c.args.graph.now w u.levelled)

pub scan-requires-clause-place : goal.scan-requires-clause-place
scan-requires-clause-place c =
    let u = c.loop-place.invariant in
    let w = c.loop-place.walk in
    let at = slice_get-some w.order c.loop-place.turn c.in-Some.place
    (sym (c.in-Some.ensures ∙ ap (λ (l : List ℕ). slice_get l c.loop-place.turn) c.as_slice.ensures)) in
    let here = subst (λ (p : ℕ). In p w.order) at.1 (In-get_or w.order c.loop-place.turn 0 at.0) in
    listed_below c.args.graph.now w u.levelled c.in-Some.place
    (listed_has c.args.graph.now w u.levelled c.in-Some.place here)

pub loop-place-preserved : goal.loop-place-preserved
loop-place-preserved c =
    let g = c.args.graph.now in
    let rows = c.args.rows.now in
    let u = c.loop-place.invariant in
    let w = c.loop-place.walk in
    let p : ℕ = c.in-Some.place in
    let fit = c.places_in.ensures.in_range in
    let at = slice_get-some w.order c.loop-place.turn p
    (sym (c.in-Some.ensures ∙ ap (λ (l : List ℕ). slice_get l c.loop-place.turn) c.as_slice.ensures)) in
    let level : ℕ = c.next_level-level.result in
    let is : level ≡ level_of w p + 1 = c.next_level-level.ensures
    ∙ ap (λ (l : List ℕ). get_or l p 0 + 1) c.as_slice-in-Some.ensures in
    goes_on (referred_by g p) (row_of rows p) fit u at.0 at.1 is
    (justified-in g rows fit c.requires p)
    (Every-from (Justifies g p) (referred_by g p) (λ q h. referred-justifies g rows fit c.requires p q h))
    (Every-from (Justifies g p) (row_of rows p) (λ q h. woken-justifies g rows fit c.requires p q h))
    c.in_ok-scan.ensures.ok

pub returns : goal.returns
returns c =
    let w = c.loop-place.walk in
    ends c.args.graph.now w c.loop-place.turn c.loop-place.invariant
    (slice_get-none w.order c.loop-place.turn
    (sym (c.in_default.ensures ∙ ap (λ (l : List ℕ). slice_get l c.loop-place.turn) c.as_slice.ensures)))
