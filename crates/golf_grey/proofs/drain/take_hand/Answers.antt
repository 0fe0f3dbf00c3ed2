use Rattle.std.proofs.Common.{◌≡◌, ◌<◌, ◌≤◌, ℕ, List, get_or, sym, ap, ◌∙◌, subst, arith, ⊎_elim}
use Rattle.std.specs.Prelude.{slice_get, remove}
use Rattle.std.proofs.lemmas.Option.{get_or_from_slice_get}
use Rattle.std.proofs.lemmas.Bool.{cases_lt}
use mathlib.Core.Option.{some}
use lib.ListN.{get_elem?}
use Rattle.golf_theory.proofs.Sums.{get_or_of}
use Rattle.golf_grey.specs.declared.hand.GreyHand.{GreyHand}
use Rattle.golf_grey.proofs.Stages.{at_low}
use Rattle.golf_grey.proofs.Taking.{at_slice}
use Rattle.golf_grey.proofs.drain.take_hand.Goals as goal

pub returns-then-as_slice-at-clause-from : goal.returns-then-as_slice-at-clause-from
returns-then-as_slice-at-clause-from c = (
  c.loop-at.at,
  at_slice c.args.rest.now c.loop-at.at c.remove.result
      (ap (λ l. slice_get l c.loop-at.at) (sym c.loop-at.invariant.0) ∙ c.remove.ensures.item),
  c.remove.ensures.rest ∙ ap (λ l. remove l c.loop-at.at) c.loop-at.invariant.0,
)

pub returns-then-as_slice-at-clause-number : goal.returns-then-as_slice-at-clause-number
returns-then-as_slice-at-clause-number c =
    let here : get_or c.as_slice.result.now c.loop-at.at c.index-as_slice-at.result ≡ c.remove.result =
    ap (λ l. get_or l c.loop-at.at c.index-as_slice-at.result) c.as_slice.ensures
    ∙ get_or_from_slice_get c.loop-at.rest c.loop-at.at c.remove.result c.index-as_slice-at.result
    c.remove.ensures.item in
    ap (λ (h : GreyHand). h.number) (sym here) ∙ c.if-as_slice-at.true

pub loop-at-preserved : goal.loop-at-preserved
loop-at-preserved c = (
  c.loop-at.invariant.0,
  λ k h low there. ⊎_elim
      (λ (before : k < c.loop-at.at). c.loop-at.invariant.1 k h before there)
      (λ (past : c.loop-at.at ≤ k). λ same. let here : k ≡ c.loop-at.at = omega
      (arith, past, low) in c.if-as_slice-at.false
      (ap (λ (l : List GreyHand). (get_or l c.loop-at.at c.index-as_slice-at.result).number) c.as_slice.ensures
      ∙ ap (λ (h : GreyHand). h.number) (get_or_of c.loop-at.rest c.loop-at.at h c.index-as_slice-at.result
      (subst (λ (i : ℕ). get_elem? c.loop-at.rest i ≡ some h) here there)) ∙ same))
      (cases_lt k c.loop-at.at),
)

pub unreachable-requires : goal.unreachable-requires
unreachable-requires c =
    let low = at_low c.args.rest.now c.requires.0 c.requires.1 c.requires.2 in
    c.loop-at.invariant.1 c.requires.0 c.requires.1 (omega (arith, low, c.len-at-end.ensures, c.loop-at-test.false))
    (subst (λ l. get_elem? l c.requires.0 ≡ some c.requires.1) (sym c.loop-at.invariant.0) c.requires.2)
    c.requires.3
