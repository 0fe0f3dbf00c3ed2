use Rattle.std.proofs.Common.{◌≡◌, ◌+◌, ◌<◌, ℕ, List, length, get_or, set, ap, ◌∙◌, arith, length-set}
use Rattle.std.proofs.lemmas.Option.{slice_get-get_or}
use Rattle.golf_theory.proofs.Lists.{Every-slice_get}
use Rattle.golf_rows.proofs.Counting.{occurs-more, counted-more}
use Rattle.golf_rows.proofs.inverses.count_row.Goals as goal

pub loop-number-preserved : goal.loop-number-preserved
loop-number-preserved c =
    let row = c.args.row.now in
    let i = c.loop-number.number-index in
    let at = get_or row i 0 in
    let counts = c.loop-number.counts in
    let is : c.in_ok-count.count ≡ get_or counts at 0 + 1 = c.in_ok-count.ensures
    ∙ ap (λ (xs : List ℕ). get_or xs at 0 + 1) c.as_slice.ensures in
    let now : c.set.new.self ≡ set counts at (get_or counts at 0 + 1) = c.set.ensures
    ∙ ap (λ (n : ℕ). set counts at n) is in
    let there = Every-slice_get (λ (n : ℕ). n < length c.args.counts.now) row i at c.requires
    (slice_get-get_or row i 0 (omega arith)) in
    record {
      size = ap (λ (xs : List ℕ). length xs) now ∙ length-set counts at (get_or counts at 0 + 1)
          ∙ c.loop-number.invariant.size;
      counted = λ n. omega (
        arith,
        ap (λ (xs : List ℕ). get_or xs n 0) now,
        counted-more counts at n (omega (arith, there, c.loop-number.invariant.size)),
        c.loop-number.invariant.counted n,
        occurs-more n i row (omega arith),
      );
    }
