use Rattle.std.proofs.Common.{◌≡◌, ℕ, suc, ◌-◌, ◌<◌, ◌≤◌, ◌∷◌, ◌++◌, List, [], length, get_or, reverse, drop}
use Rattle.std.proofs.Common.{sym, ap, ◌∙◌, arith, append-nil}
use Rattle.std.proofs.lemmas.Option.{slice_get-get_or}
use Rattle.golf_explore.proofs.Parents.{drop-all, back-more}
use Rattle.golf_explore.proofs.paths.add_backwards.Goals as goal

pub loop-at-init : goal.loop-at-init
loop-at-init c =
    let ns : List ℕ = c.args.numbers.now in
    record {
      within = omega arith;
      added = sym (append-nil c.args.path.now.items)
          ∙ ap (λ xs. c.args.path.now.items ++ reverse xs) (sym (drop-all ns));
    }

pub loop-at-preserved : goal.loop-at-preserved
loop-at-preserved c =
    let ns : List ℕ = c.args.numbers.now in
    let before : List ℕ = c.args.path.now.items in
    let at = c.loop-at.at in
    let some : 0 < at = c.loop-at-test.true in
    let within : at ≤ length ns = c.loop-at.invariant.within in
    let below : at - 1 < length ns = omega (arith, some, within) in
    let one : at ≡ suc (at - 1) = omega (arith, some) in
    let x = get_or ns (at - 1) 0 in
    record {
      within = omega (arith, within);
      added =
          c.in_ok-push.ensures.items
          ∙ ap (λ (xs : List ℕ). xs ++ x ∷ []) (c.loop-at.invariant.added
          ∙ ap (λ k. before ++ reverse (drop k ns)) one)
          ∙ back-more ns before (at - 1) x (slice_get-get_or ns (at - 1) 0 below);
    }

pub returns : goal.returns
returns c =
    let ns : List ℕ = c.args.numbers.now in
    let none : c.loop-at.at ≤ 0 = c.loop-at-test.false in
    let zero : c.loop-at.at ≡ 0 = omega (arith, none) in
    c.loop-at.invariant.added ∙ ap (λ k. c.args.path.now.items ++ reverse (drop k ns)) zero
