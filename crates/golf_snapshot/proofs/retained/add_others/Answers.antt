use Rattle.std.proofs.Common.{◌≡◌, ℕ, ◌+◌, Bool, true, false, not, List, map, length, take, get_or, refl, ap, ◌∙◌}
use Rattle.std.proofs.Common.{arith}
use Rattle.golf_theory.specs.Membership.{is_in}
use Rattle.golf_base.specs.declared.ids.GoroutineId.{GoroutineId}
use Rattle.golf_snapshot.specs.MapEntries.{sleepers_of}
use Rattle.golf_snapshot.proofs.Stepping.{entry-listed, gather-init, gather-listed, gather-end}
use Rattle.golf_snapshot.proofs.Gathering.{TestedNodes, tested-append}
use Rattle.golf_snapshot.proofs.Staying.{next-within, next-sleeps, else-awake, count-next, sleeper-nodes}
use Rattle.golf_snapshot.proofs.retained.add_others.Goals as goal
use Rattle.golf_snapshot.proofs.retained.add_others.Goals.{then-is_next+in_ok-add_sleeper_unless_gone}
use Rattle.golf_snapshot.proofs.retained.add_others.Goals.{else-is_next+in_ok-add_unless_gone}

pub loop-g-init : goal.loop-g-init
loop-g-init c =
    let s = c.args.state.now in
    let test : ℕ → Bool = λ g. not (is_in g (map (λ k. k.0) c.args.gone.now)) in
    (gather-init (TestedNodes s.objects test) refl (tested-append s.objects test) c.args.nodes.now s.goroutines, refl)

pub add_sleeper_unless_gone-requires-clause-within : goal.add_sleeper_unless_gone-requires-clause-within
add_sleeper_unless_gone-requires-clause-within c =
    next-within c.args.live.now c.loop-g.sleeper _ (c.is_next.ensures.next.0 c.if-is_next.true)

pub overflow_add-sleeper : goal.overflow_add-sleeper
overflow_add-sleeper c =
    let within = next-within c.args.live.now c.loop-g.sleeper _ (c.is_next.ensures.next.0 c.if-is_next.true) in
    omega (arith, within, c.is_next.ensures.few)

pub loop-g-preserved : goal.loop-g-preserved
loop-g-preserved c =
    let s = c.args.state.now in
    let live = c.args.live.now in
    let i = c.loop-g.g-index in
    let gs = c.as_slice-g-items.result.now in
    let rises = c.goroutines.ensures.rises in
    let present = ap (λ (xs : List GoroutineId). map (λ g. g.0) xs) c.as_slice-g-items.ensures
    ∙ c.in_ok-goroutines.ensures.present in
    let d : GoroutineId = record { 0 = 0 } in
    let g : GoroutineId = get_or gs i d in
    let test : ℕ → Bool = λ h. not (is_in h (map (λ k. k.0) c.args.gone.now)) in
    let here = entry-listed s.goroutines gs i d rises present c.loop-g-test.true in
    let old = c.loop-g.invariant in
    elim c.if-is_next.branch [
      | then-is_next+in_ok-add_sleeper_unless_gone w ↦ (
          let yes = next-sleeps s live c.requires.live c.loop-g.sleeper g rises
          (c.is_next.ensures.next.0 w.if-is_next.true) in
          let more : length (sleepers_of s.objects (take (i + 1) s.goroutines)) ≡ c.loop-g.sleeper + 1 =
          count-next s live c.requires.live i g.0 c.loop-g.sleeper here.0 here.1 here.2 old.1 true yes in (
            gather-listed (TestedNodes s.objects test) refl
                (tested-append s.objects test) c.args.nodes.now s.goroutines gs i d rises present c.loop-g-test.true
                old.0
                (sleeper-nodes s live c.requires.live i g.0 c.loop-g.sleeper here.0 here.1 here.2 old.1 test
                c.loop-g.nodes c.if-is_next.nodes yes (w.nodes-is ∙ w.in_ok-add_sleeper_unless_gone.ensures)),
            omega (arith, w.sleeper-is, more),
          )
          )
      | else-is_next+in_ok-add_unless_gone w ↦ (
          let awake = else-awake s live c.requires.live i g.0 c.loop-g.sleeper here.0 here.1 here.2 old.1
          (λ e. let yes = c.is_next.ensures.next.1 e in let no = w.if-is_next.false in cc) in
          let same : length (sleepers_of s.objects (take (i + 1) s.goroutines)) ≡ c.loop-g.sleeper + 0 =
          count-next s live c.requires.live i g.0 c.loop-g.sleeper here.0 here.1 here.2 old.1 false awake in (
            gather-listed (TestedNodes s.objects test) refl
                (tested-append s.objects test) c.args.nodes.now s.goroutines gs i d rises present c.loop-g-test.true
                old.0
                (w.nodes-is ∙ w.in_ok-add_unless_gone.ensures),
            omega (arith, w.sleeper-is, same),
          )
          )
    ]

pub returns : goal.returns
returns c =
    let s = c.args.state.now in
    let test : ℕ → Bool = λ g. not (is_in g (map (λ k. k.0) c.args.gone.now)) in
    gather-end (TestedNodes s.objects test) refl
    (tested-append s.objects test) c.args.nodes.now c.loop-g.nodes s.goroutines c.as_slice-g-items.result.now
    c.loop-g.g-index (ap (λ (xs : List GoroutineId). map (λ g. g.0) xs) c.as_slice-g-items.ensures
    ∙ c.in_ok-goroutines.ensures.present) c.loop-g-test.false c.loop-g.invariant.0
