-- What an expression is by its left operand and the rest, and how the facts stand as the loop follows the spine.
-- For: `expression`, src/expressions.rt; specs/Spines.antt
-- By: cases of an expression; induction over those that wait
use Rattle.std.proofs.Common.{◌≡◌, ℕ, suc, ◌≤◌, ◌-◌, ◌+◌, List, [], ◌∷◌, ◌++◌, map, length, drop, sym, ap, ◌∙◌, subst}
use Rattle.std.proofs.Common.{append_assoc, append-nil, arith, length-append}
use Rattle.std.specs.Prelude.{Some, slice_set, ◌&&◌}
use Rattle.std.specs.Borrow.{Bor}
use Rattle.std.proofs.lemmas.Simd.{map-map}
use Rattle.std.proofs.Math.Seq.{drop-append-add}
use Rattle.golf_syntax_trees.specs.declared.expressions.BinaryOperator.{BinaryOperator}
use Rattle.golf_syntax_trees.specs.declared.expressions.Expr.{Expr, out-Expr, size-Expr}
use Rattle.golf_syntax_trees.specs.declared.expressions.Element.{Element}
use Rattle.golf_syntax_trees.specs.declared.expressions.Expr.TheOpen.{Expr-F}
use Rattle.golf_syntax_trees.specs.declared.expressions.Expr.TheOpen as F
use Rattle.golf_syntax_trees.specs.declared.expressions.Expr.TheFolds.{fold_out-Expr, fold-Element, map-Expr}
use Rattle.golf_syntax_trees.specs.Spines.{left_of, left_step, shown, IsSpine, AreNoLarger, risen}
use Rattle.golf_syntax_trees.proofs.Spines.{along, kept_up, up, no_deeper}
use Rattle.golf_check_types.specs.declared.rules.TheConstants.{WRONG_OPERAND}
use Rattle.golf_check_types.specs.declared.types.Base.TheVariants as base
use Rattle.golf_check_types.specs.declared.fault.TypeFault.{TypeFault}
use Rattle.golf_check_types.specs.declared.facts.Fact.{Fact}
use Rattle.golf_check_types.specs.declared.facts.Fact.TheVariants as fact
use Rattle.golf_check_types.specs.declared.operands.Operand.{Operand}
use Rattle.golf_check_types.specs.declared.operands.Operand.TheVariants as operand
use Rattle.golf_check_types.specs.declared.scopes.Scope.{Scope}
use Rattle.golf_check_types.specs.Facts.{with_parts}
use Rattle.golf_check_types.specs.Faults.{StopsAt, broken}
use Rattle.golf_check_types.specs.Types.{has_base, has_layer, is_slice, element}
use Rattle.golf_check_types.specs.Expressions.{Judged, facts_of, used, given_by, value, value_faults, name_faults}
use Rattle.golf_check_types.specs.Expressions.{selected_from, selector, result_base, binary_fits, index_judged}
use Rattle.golf_check_types.specs.Expressions.{binary_judged}
use Rattle.golf_check_types.specs.Calls.{called_with, call_judged}
use Rattle.golf_check_types.specs.Judgments.{Judge, Put, judge, judge_at, judge_step, element_step}
use Rattle.golf_check_types.proofs.Seams.{refuses_front, expression_filled}
use Rattle.golf_check_bodies.specs.Spines.{after, after_step, after_selector, after_index, after_call, after_binary}
use Rattle.golf_check_bodies.specs.Spines.{joined, raised, kept, standing, RisingJudgment}

-- The facts of a left operand and the rest.

selector-joined : (l : ℕ) (s : Scope) (n : List ℕ) (x : Judged)
    → selector l s n x ≡ joined x (after_selector l s n x.meaning)
selector-joined l s n x = ap (λ fs. record {
  meaning = (selected_from l s.file n x.meaning).meaning;
  faults = x.faults
      ++ (selected_from l s.file n x.meaning).faults;
  inner = fs;
}) (sym (append-nil (facts_of x)))

index-joined : (l : ℕ) (x i : Judged) → index_judged l x i ≡ joined x (after_index l x.meaning i)
index-joined l x i = ap (λ fs. record {
  meaning = operand.Element (element (given_by x));
  faults = fs;
  inner = facts_of x ++ facts_of i;
}) (append_assoc x.faults (value_faults l x.meaning)
    (used l i ++ broken l WRONG_OPERAND (has_layer is_slice (given_by x) && has_base base.Int (given_by i))))

call-joined : (l : ℕ) (s : Scope) (x : Judged) (ys : List Judged)
    → call_judged l s x ys ≡ joined x (after_call l s x.meaning ys)
call-joined l s x ys = ap (λ fs. record {
  meaning = (called_with l s x.meaning ys).meaning;
  faults = fs;
  inner = facts_of x ++ (called_with l s x.meaning ys).inner;
})
    (append_assoc x.faults (name_faults l x.meaning) (called_with l s x.meaning ys).faults)

binary-joined : (l : ℕ) (o : BinaryOperator) (x y : Judged)
    → binary_judged l o x y ≡ joined x (after_binary l o x.meaning y)
binary-joined l o x y = ap (λ fs. record {
  meaning = value (result_base o);
  faults = fs;
  inner = facts_of x
      ++ facts_of y;
}) (append_assoc x.faults (value_faults l x.meaning)
    (used l y ++ broken l WRONG_OPERAND (binary_fits o (given_by x) (given_by y))))

-- one layer of an expression, of whose parts it is known what they are
abbrev judged_layer : Expr-F Expr Element → Judge
judged_layer y = judge_step (map-Expr Expr Element Judge Put judge (fold-Element Judge Put judge_step element_step) y)

layer-joined : (y : Expr-F Expr Element) (left : Expr) (l : ℕ) (s : Scope) → left_step y ≡ Some left
    → judged_layer y l s ≡ joined (judge left l s) (after_step y l s (judge left l s).meaning)
layer-joined (F.Integer digits) left l s p = absurd (cc)
layer-joined (F.Text bytes) left l s p = absurd (cc)
layer-joined (F.Name n) left l s p = absurd (cc)
layer-joined (F.Parens e) left l s p = absurd (cc)
layer-joined (F.StructLiteral n xs) left l s p = absurd (cc)
layer-joined (F.SyncLiteral n) left l s p = absurd (cc)
layer-joined (F.SliceLiteral t xs) left l s p = absurd (cc)
layer-joined F.EmptyLiteral left l s p = absurd (cc)
layer-joined (F.Make t) left l s p = absurd (cc)
layer-joined (F.MakeSized t e) left l s p = absurd (cc)
layer-joined (F.New n) left l s p = absurd (cc)
layer-joined (F.NewSync n) left l s p = absurd (cc)
layer-joined (F.Unary o e) left l s p = absurd (cc)
layer-joined (F.Selector e n) left l s p =
    let same : e ≡ left = cc in
    selector-joined l s n (judge e l s) ∙ ap
    (λ z. joined (judge z l s) (after_selector l s n (judge z l s).meaning)) same
layer-joined (F.Index a i) left l s p =
    let same : a ≡ left = cc in
    index-joined l (judge a l s) (judge i l s)
    ∙ ap (λ z. joined (judge z l s) (after_index l (judge z l s).meaning (judge i l s))) same
layer-joined (F.Call f xs) left l s p =
    let same : f ≡ left = cc in
    ap (call_judged l s (judge f l s)) (map-map (λ j. j l s) judge xs)
    ∙ (call-joined l s (judge f l s) (map (judge_at l s) xs)
    ∙ ap (λ z. joined (judge z l s) (after_call l s (judge z l s).meaning (map (judge_at l s) xs))) same)
layer-joined (F.Binary o a b) left l s p =
    let same : a ≡ left = cc in
    binary-joined l o (judge a l s) (judge b l s)
    ∙ ap (λ z. joined (judge z l s) (after_binary l o (judge z l s).meaning (judge b l s))) same

-- an expression is its left operand and the rest
pub splits : (e left : Expr) (l : ℕ) (s : Scope) → left_of e ≡ Some left → judge e l s ≡ raised l s e (judge left l s)
unfolding left_of after judge
splits e left l s p = ap (λ j. j l s) (fold_out-Expr Judge Put judge_step element_step e)
    ∙ layer-joined (out-Expr e) left l s p

kept-last : (ws vs : List (Bor Expr)) (b : Bor Expr) → ws ≡ vs ++ b ∷ [] → kept (length ws) ≡ kept (length vs)
    ++ fact.Part 0 ∷ []
kept-last ws vs b last =
    let long = ap length last ∙ length-append vs (b ∷ []) in
    let next : length ws ≡ suc (length vs) = omega (arith, long) in
    ap kept next

-- an expression is the innermost one and all the rests
whole_is : (l : ℕ) (s : Scope) (e : Expr) (es : List Expr) (inner : Expr) → IsSpine left_of e es inner
    → risen (raised l s) es (judge inner l s) ≡ judge e l s
whole_is l s = along left_of (λ e. judge e l s) (raised l s) (λ e left. splits e left l s)

-- what refuses the innermost one refuses the whole
refuses_risen : (f : TypeFault) (l : ℕ) (s : Scope) (es : List Expr) (x : Judged) → StopsAt f x.faults
    → StopsAt f (risen (raised l s) es x).faults
refuses_risen f l s = kept_up (λ (x : Judged). StopsAt f x.faults) (raised l s) (λ e x h. refuses_front f x.faults _ h)

same-judged : (j : Judged) (m : Operand) (inner : List Fact) → m ≡ j.meaning → j.faults ≡ [] → inner ≡ j.inner
    → record { meaning = m; faults = []; inner = inner } ≡ j
same-judged j m inner p q r =
    ap (λ x. record { meaning = x; faults = []; inner = inner }) p
    ∙ (ap (λ fs. record { meaning = j.meaning; faults = fs; inner = inner }) (sym q)
    ∙ ap (λ fs. record { meaning = j.meaning; faults = j.faults; inner = fs }) r)

-- what is found stands behind the places that are kept
placed : (k : Judged) (m : Operand) (at n : ℕ) (front new filled : List Fact) → m ≡ k.meaning → k.faults ≡ []
    → new ≡ (front ++ fact.Part 0 ∷ []) ++ k.inner → at ≡ length front → n ≡ length new - at - 1
    → filled ≡ slice_set new at (fact.Expression m n)
    → (standing m at filled ≡ k) × (filled ≡ front ++ facts_of (standing m at filled))
placed k m at n front new filled means none more here counts fills =
    let all : filled ≡ front ++ with_parts k.meaning k.inner = fills
    ∙ expression_filled front k.inner new (fact.Part 0) at n here more means counts in
    let rest : drop (at + 1) filled ≡ k.inner = ap (λ i. drop (i + 1) filled) here
    ∙ (ap (drop (length front + 1)) all ∙ drop-append-add front (with_parts k.meaning k.inner) 1) in
    let same : standing m at filled ≡ k = same-judged k m (drop (at + 1) filled) means none rest in
    (same, all ∙ ap (λ j. front ++ facts_of j) (sym same))

module _ (e : Expr) (old : List Fact) (l : ℕ) (s : Scope) where
  -- the innermost one breaks a rule
  pub whole_refused : (f : TypeFault) (ws : List (Bor Expr)) (inner : Expr) → IsSpine left_of e (shown ws) inner
      → StopsAt f (judge inner l s).faults → StopsAt f (judge e l s).faults
  whole_refused f ws inner spine h = subst (λ j. StopsAt f j.faults) (whole_is l s e (shown ws) inner spine)
      (refuses_risen f l s (shown ws) (judge inner l s) h)

  -- the innermost one is found, and its place filled
  pub starts : (ws : List (Bor Expr)) (inner : Expr) (before mid new filled : List Fact) (m : Operand) (at n : ℕ)
      → IsSpine left_of e (shown ws) inner → AreNoLarger size-Expr (size-Expr e) (shown ws) → before ≡ old
      ++ kept (length ws) → at ≡ length before → mid ≡ before ++ fact.Part 0 ∷ [] → (judge inner l s).faults ≡ []
      → m ≡ (judge inner l s).meaning → new ≡ mid ++ (judge inner l s).inner → n ≡ length new - at - 1
      → filled ≡ slice_set new at (fact.Expression m n) → RisingJudgment l s e old ws m at filled
  starts ws inner before mid new filled m at n spine within keeps here adds none means more counts fills =
      let front = old ++ kept (length ws) in
      let at_front : at ≡ length front = here ∙ ap length keeps in
      let found = placed (judge inner l s) m at n front new filled means none
      (more ∙ ap (λ fs. fs ++ (judge inner l s).inner) (adds ∙ ap (λ fs. fs ++ fact.Part 0 ∷ []) keeps)) at_front
      counts fills in
      record {
        whole = ap (risen (raised l s) (shown ws)) found.0 ∙ whole_is l s e (shown ws) inner spine;
        facts = found.1;
        at = at_front;
        within = within;
      }

  module _ (ws vs : List (Bor Expr)) (b : Bor Expr) (left : Operand) (at : ℕ) (facts : List Fact)
      (r : RisingJudgment l s e old ws left at facts) (last : ws ≡ vs ++ b ∷ []) where
    raises : risen (raised l s) (shown vs) (raised l s b.now (standing left at facts)) ≡ judge e l s
    raises = sym (up ws vs b last (raised l s) (standing left at facts)) ∙ r.whole

    -- the next one outwards breaks a rule
    pub rise_refused : (f : TypeFault) → StopsAt f (after b.now l s left).faults → StopsAt f (judge e l s).faults
    rise_refused f h = subst (λ j. StopsAt f j.faults) raises
        (refuses_risen f l s (shown vs) (raised l s b.now (standing left at facts)) h)

    -- the next one outwards is found, and its place filled
    pub rises : (m : Operand) (next n : ℕ) (new filled : List Fact) → next ≡ at - 1 → (after b.now l s left).faults ≡ []
        → m ≡ (after b.now l s left).meaning → new ≡ facts ++ (after b.now l s left).inner → n ≡ length new - next - 1
        → filled ≡ slice_set new next (fact.Expression m n) → RisingJudgment l s e old vs m next filled
    rises m next n new filled before none means more counts fills =
        let x = standing left at facts in
        let front = old ++ kept (length vs) in
        let p = fact.Part 0 in
        let places : old ++ kept (length ws) ≡ front ++ p ∷ [] = ap (λ fs. old ++ fs) (kept-last ws vs b last)
        ∙ sym (append_assoc old (kept (length vs)) (p ∷ [])) in
        let long : length (old ++ kept (length ws)) ≡ length front + 1 = ap length places
        ∙ length-append front (p ∷ []) in
        let here : next ≡ length front = omega (arith, before, long, r.at) in
        let all : new ≡ (front ++ p ∷ []) ++ (facts_of x ++ (after b.now l s left).inner) = more
        ∙ (ap (λ fs. fs ++ (after b.now l s left).inner) (r.facts ∙ ap (λ fs. fs ++ facts_of x) places)
        ∙ append_assoc (front ++ p ∷ []) (facts_of x) (after b.now l s left).inner) in
        let found = placed (raised l s b.now x) m next n front new filled means none all here counts fills in
        record {
          whole = ap (risen (raised l s) (shown vs)) found.0 ∙ raises;
          facts = found.1;
          at = here;
          within = (no_deeper ws vs b last size-Expr (size-Expr e) r.within).0;
        }

    pub rise_smaller : size-Expr b.now ≤ size-Expr e
    rise_smaller = (no_deeper ws vs b last size-Expr (size-Expr e) r.within).1
