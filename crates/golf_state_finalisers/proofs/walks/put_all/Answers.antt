use Rattle.std.proofs.Common.{◌≡◌, ℕ, ◌++◌, List, [], ◌∷◌, take, get_or, sym, ap, ◌∙◌, subst, arith, append_assoc}
use Rattle.std.proofs.lemmas.Option.{slice_get-get_or}
use Rattle.golf_theory.specs.Maps.{AllBelow, insert}
use Rattle.golf_theory.proofs.MapFinds.{find_above}
use Rattle.golf_blocks.proofs.Parts.{insert-last}
use Rattle.golf_state_finalisers.proofs.Adding.{below-next, take-more}
use Rattle.golf_state_finalisers.proofs.walks.put_all.Goals as goal

below : (to us ps : List (ℕ × ℕ)) (i : ℕ) (p : ℕ × ℕ) → to ≡ us ++ take i ps → AllBelow p.0 (us ++ take i ps) → AllBelow p.0 to
below to us ps i p is b = subst (λ (es : List (ℕ × ℕ)). AllBelow p.0 es) (sym is) b

pub put-requires : goal.put-requires
put-requires c =
    let us = c.args.to.now in
    let ps = c.args.pairs.now in
    let i = c.loop-pair.pair-index in
    let d : ℕ × ℕ = (0, 0) in
    let p : ℕ × ℕ = get_or ps i d in
    find_above p.0 c.loop-pair.to p.0 (below c.loop-pair.to us ps i p c.loop-pair.invariant
    (below-next us ps i p (slice_get-get_or ps i d c.loop-pair-test.true) c.requires)) (omega arith)

pub loop-pair-preserved : goal.loop-pair-preserved
loop-pair-preserved c =
    let us = c.args.to.now in
    let ps = c.args.pairs.now in
    let i = c.loop-pair.pair-index in
    let d : ℕ × ℕ = (0, 0) in
    let p : ℕ × ℕ = get_or ps i d in
    let here = slice_get-get_or ps i d c.loop-pair-test.true in
    let b = below c.loop-pair.to us ps i p c.loop-pair.invariant (below-next us ps i p here c.requires) in
    c.in_ok-put.ensures.ok ∙ insert-last p.0 p.1 c.loop-pair.to b
    ∙ ap (λ (es : List (ℕ × ℕ)). es ++ p ∷ []) c.loop-pair.invariant
    ∙ append_assoc us (take i ps) (p ∷ []) ∙ ap (λ (es : List (ℕ × ℕ)). us ++ es) (sym (take-more ps i p here))
