use Rattle.std.proofs.Common.{◌≡◌, ℕ, ◌+◌, List, ◌∷◌, [], ◌++◌, ap, sym, ◌∙◌, arith}
use Rattle.golf_base.specs.declared.ids.ObjectId.{ObjectId}
use Rattle.golf_final.proofs.Parts.{counted, counted-more, counted-numbers}
use Rattle.golf_final.proofs.keep_rule.count_up.Goals as goal

pub loop-number-preserved : goal.loop-number-preserved
loop-number-preserved c =
    let n : ℕ = c.loop-number.number in
    let z : n ≡ 0 + n = omega arith in
    c.in_ok-push.ensures.ok
    ∙ ap (λ (xs : List ObjectId). xs ++ record { 0 = n } ∷ []) c.loop-number.invariant
    ∙ ap (λ (k : ℕ). counted 0 n ++ record { 0 = k } ∷ []) z
    ∙ sym (counted-more 0 n)

pub returns : goal.returns
returns c =
    let all : c.loop-number.number ≡ c.args.count = omega arith in
    counted-numbers c.args.count c.loop-number.numbers (c.loop-number.invariant ∙ ap (counted 0) all)
