-- The code of an expression by that of its left operand, and how it grows as the loops follow the spine down and up.
-- For: `descend` and `expression`, src/expressions.rt; specs/Spines.antt
-- By: cases of an expression; induction over those that wait
use Rattle.std.proofs.Common.{◌≡◌, ℕ, zero, suc, ◌<◌, ◌≤◌, ◌+◌, Bool, true, false, cond, List, [], ◌∷◌, ◌++◌, map}
use Rattle.std.proofs.Common.{length, drop, refl, sym, ap, ◌∙◌, arith, length-append}
use Rattle.std.specs.Prelude.{Some, None}
use Rattle.std.specs.Borrow.{Bor}
use Rattle.golf_syntax_trees.specs.declared.expressions.BinaryOperator.{BinaryOperator}
use Rattle.golf_syntax_trees.specs.declared.expressions.BinaryOperator.TheVariants as binary
use Rattle.golf_syntax_trees.specs.declared.expressions.Expr.{Expr, out-Expr, out-roll-Expr, size-Expr}
use Rattle.golf_syntax_trees.specs.declared.expressions.Element.{Element}
use Rattle.golf_syntax_trees.specs.declared.expressions.Expr.TheVariants as ex
use Rattle.golf_syntax_trees.specs.declared.expressions.Expr.TheOpen.{Expr-F}
use Rattle.golf_syntax_trees.specs.declared.expressions.Expr.TheOpen as F
use Rattle.golf_syntax_trees.specs.declared.expressions.Expr.TheFolds.{fold_out-Expr, fold-Element, map-Expr}
use Rattle.golf_syntax_trees.specs.Spines.{shown}
use Rattle.golf_syntax_trees.proofs.Spines.{longer, deeper, shorter, no_deeper}
use Rattle.golf_check_types.specs.declared.facts.Fact.{Fact}
use Rattle.golf_check_types.specs.declared.operands.Operand.{Operand}
use Rattle.golf_check_types.specs.declared.operands.Operand.TheVariants as operand
use Rattle.golf_check_types.specs.Calls.{sets_finaliser}
use Rattle.golf_code_layout.specs.Piece.{Piece, all}
use Rattle.golf_code_layout.specs.Emission.{onto}
use Rattle.golf_code_layout.specs.declared.emitted.Emitted.{Emitted}
use Rattle.golf_code_of.specs.declared.tables.Tables.{Tables}
use Rattle.golf_code_of.specs.Expressions.{Made, selector, binary_operator}
use Rattle.golf_code_of.specs.Calls.{pushes, calling, finalising, call}
use Rattle.golf_code_facts.specs.Facts.{operand_in, next_is, skip}
use Rattle.golf_code_facts.specs.Expressions.{Take, taking, taking_step, element_taking_step, arguments}
use Rattle.golf_code_expressions.specs.declared.writer.Draft.{Draft}
use Rattle.golf_code_expressions.specs.declared.writer.Writer.{Writer}
use Rattle.golf_code_expressions.specs.Spines.{has_left, written, written_step, begun, begun_binary, begun_step, ended}
use Rattle.golf_code_expressions.specs.Spines.{ended_step, after_selector, after_call, after_binary, grown}
use Rattle.golf_code_expressions.specs.Spines.{with_emitted, Descended, RisingCode}
use Rattle.golf_code_expressions.proofs.Wholes.{as_many}

-- Parts, and then a construct, whose left operand has this code.

selector_written : (l : ℕ) (m : Operand) (p : Piece) (ms : List Emitted) → has_left m ≡ true
    → onto ms (selector l m p).piece ≡ after_selector l m (onto ms p)
selector_written l (operand.Field i t) p ms h = refl
selector_written l (operand.Value t) p ms h = refl
selector_written l (operand.Method k) p ms h = refl
selector_written l (operand.BuiltIn b) p ms h = refl
selector_written l (operand.Outcome t) p ms h = absurd (cc)
selector_written l (operand.Constant c b) p ms h = absurd (cc)
selector_written l (operand.Truth b) p ms h = absurd (cc)
selector_written l (operand.Variable w t) p ms h = absurd (cc)
selector_written l (operand.Element t) p ms h = absurd (cc)
selector_written l operand.Unknown p ms h = absurd (cc)
selector_written l operand.Nil p ms h = absurd (cc)
selector_written l operand.Blank p ms h = absurd (cc)
selector_written l (operand.Nothing r) p ms h = absurd (cc)
selector_written l (operand.Function k) p ms h = absurd (cc)
selector_written l (operand.Package k) p ms h = absurd (cc)
selector_written l (operand.Struct k) p ms h = absurd (cc)
selector_written l operand.TypeName p ms h = absurd (cc)

binary_written : (l : ℕ) (o : BinaryOperator) (a b : Piece) (ms : List Emitted)
    → onto ms (binary_operator l o a b).piece ≡ after_binary l o b (onto (begun_binary o ms) a)
binary_written l binary.Or a b ms = refl
binary_written l binary.And a b ms = refl
binary_written l _ a b ms = refl

chosen : (c : Bool) (e left : Expr) → cond c (Some e) None ≡ Some left → (c ≡ true) × (e ≡ left)
chosen true e left p = (refl, cc)
chosen false e left p = absurd (cc)

passed : (c : Bool) (e left : Expr) → cond c None (Some e) ≡ Some left → (c ≡ false) × (e ≡ left)
passed false e left p = (refl, cc)
passed true e left p = absurd (cc)

not_passed : (c : Bool) (e : Expr) → cond c None (Some e) ≡ None → c ≡ true
not_passed true e p = refl
not_passed false e p = absurd (cc)

-- a call without the code of a left operand sets a finaliser
pub call_sets : (e f : Expr) (xs : List Expr) (m k : Operand) → e ≡ ex.Call f xs → written e m k ≡ None
    → sets_finaliser k ≡ true
unfolding written
call_sets e f xs m k is none =
    not_passed (sets_finaliser k) f (sym (ap (λ z. written z m k) is
    ∙ (ap (λ z. written z m k) (sym (ex.rolls-Call f xs))
    ∙ ap (λ y. written_step y m k) (out-roll-Expr (F.Call f xs)))) ∙ none)

module _ (t : Tables) (l : ℕ) where
  abbrev code_layer : Expr-F Expr Element → Take
  code_layer y = taking_step t (map-Expr Expr Element Take Take (taking t)
      (fold-Element Take Take (taking_step t) element_taking_step) y)

  call_written : (m : Operand) (p : Piece) (xs : List Expr) (gs : List Fact) (ms : List Emitted)
      → sets_finaliser m ≡ false → onto ms (call l m p (arguments l (map (taking t) xs) gs)).piece ≡ after_call l m
      (length xs) (arguments l (map (taking t) xs) gs) (onto ms p)
  call_written m p xs gs ms h =
      let ys = arguments l (map (taking t) xs) gs in
      ap (λ c. onto ms (cond c (finalising l ys) (all (p ∷ pushes ys ∷ calling l m (length ys) ∷ [])))) h
      ∙ ap (λ n. onto (onto (onto ms p) (pushes ys)) (calling l m n)) (as_many t l xs gs)

  layer : (y : Expr-F Expr Element) (left : Expr) (f : Fact) (fs : List Fact) (ms : List Emitted)
      → written_step y (operand_in f) (next_is fs) ≡ Some left
      → onto ms (code_layer y l (f ∷ fs)).piece ≡ ended_step t l y (operand_in f) fs
      (onto (begun_step y ms) (taking t left l fs).piece)
  layer (F.Integer digits) left f fs ms p = absurd (cc)
  layer (F.Text bytes) left f fs ms p = absurd (cc)
  layer (F.Name n) left f fs ms p = absurd (cc)
  layer (F.Parens e) left f fs ms p = absurd (cc)
  layer (F.StructLiteral n xs) left f fs ms p = absurd (cc)
  layer (F.SyncLiteral n) left f fs ms p = absurd (cc)
  layer (F.SliceLiteral w xs) left f fs ms p = absurd (cc)
  layer F.EmptyLiteral left f fs ms p = absurd (cc)
  layer (F.Make w) left f fs ms p = absurd (cc)
  layer (F.MakeSized w e) left f fs ms p = absurd (cc)
  layer (F.New n) left f fs ms p = absurd (cc)
  layer (F.NewSync n) left f fs ms p = absurd (cc)
  layer (F.Unary o e) left f fs ms p = absurd (cc)
  layer (F.Selector e n) left f fs ms p =
      let is = chosen (has_left (operand_in f)) e left p in
      selector_written l (operand_in f) (taking t e l fs).piece ms is.0
      ∙ ap (λ z. after_selector l (operand_in f) (onto ms (taking t z l fs).piece)) is.1
  layer (F.Index a i) left f fs ms p = let same : a ≡ left =
      cc in ap (λ z. ended_step t l (F.Index a i) (operand_in f) fs (onto ms (taking t z l fs).piece)) same
  layer (F.Call g xs) left f fs ms p =
      let is = passed (sets_finaliser (next_is fs)) g left p in
      call_written (next_is fs) (taking t g l fs).piece xs (skip fs) ms is.0
      ∙ ap (λ z. after_call l (next_is fs) (length xs) (arguments l (map (taking t) xs) (skip fs))
      (onto ms (taking t z l fs).piece)) is.1
  layer (F.Binary o a b) left f fs ms p =
      let same : a ≡ left = cc in
      binary_written l o (taking t a l fs).piece (taking t b l (skip fs)).piece ms
      ∙ ap (λ z. after_binary l o (taking t b l (skip fs)).piece (onto (begun_binary o ms) (taking t z l fs).piece))
      same

  taking_out : (e : Expr) (f : Fact) (fs : List Fact) → taking t e l (f ∷ fs) ≡ code_layer (out-Expr e) l (f ∷ fs)
  unfolding taking
  taking_out e f fs = ap (λ (k : Take). k l (f ∷ fs)) (fold_out-Expr Take Take (taking_step t) element_taking_step e)

  -- an expression is its left operand, between what stands before it and after it
  splits : (e left : Expr) (f : Fact) (fs : List Fact) (ms : List Emitted)
      → written e (operand_in f) (next_is fs) ≡ Some left
      → onto ms (taking t e l (f ∷ fs)).piece ≡ ended t l e (operand_in f) fs
      (onto (begun e ms) (taking t left l fs).piece)
  unfolding written begun ended
  splits e left f fs ms p = ap (λ (x : Made). onto ms x.piece) (taking_out e f fs) ∙ layer (out-Expr e) left f fs ms p

  grown-last : (es : List Expr) (e : Expr) (gs : List Fact) (f : Fact) (fs : List Fact) (ms : List Emitted)
      → drop (length es) gs ≡ f ∷ fs → grown t l (es ++ e ∷ []) gs ms ≡ grown t l es gs
      (ended t l e (operand_in f) fs ms)
  grown-last [] e gs f fs ms p = ap (λ hs. grown t l (e ∷ []) hs ms) p
  grown-last (h ∷ es) e [] f fs ms p = absurd (cc)
  grown-last (h ∷ es) e (g ∷ gs) f fs ms p = ap (ended t l h (operand_in g) gs) (grown-last es e gs f fs ms p)

length-shown : (ws : List (Bor Expr)) → length (shown ws) ≡ length ws
length-shown [] = refl
length-shown (w ∷ ws) = ap (λ n. suc n) (length-shown ws)

past : (n : ℕ) (gs : List Fact) (f : Fact) (fs : List Fact) → drop n gs ≡ f ∷ fs → drop (suc n) gs ≡ fs
past zero gs f fs p = ap (drop 1) p
past (suc n) [] f fs p = absurd (cc)
past (suc n) (g ∷ gs) f fs p = past n gs f fs p

some_left : (n : ℕ) (gs : List Fact) (f : Fact) (fs : List Fact) → drop n gs ≡ f ∷ fs → n + 1 ≤ length gs
some_left zero [] f fs p = absurd (cc)
some_left zero (g ∷ gs) f fs p = omega arith
some_left (suc n) [] f fs p = absurd (cc)
some_left (suc n) (g ∷ gs) f fs p = let rest = some_left n gs f fs p in omega (arith, rest)

left-some : (n : ℕ) (gs : List Fact) → n < length gs → (f : Fact) × ((fs : List Fact) × (drop n gs ≡ f ∷ fs))
left-some n [] low = absurd (omega (arith, low))
left-some zero (g ∷ gs) low = (g, (gs, refl))
left-some (suc n) (g ∷ gs) low = left-some n gs (omega (arith, low))

module _ (e : Expr) (old : Writer) where
  -- one step down
  pub descends : (ws vs : List (Bor Expr)) (b : Bor Expr) (inner left : Expr) (f : Fact) (fs : List Fact)
      (new newer : Writer) → Descended e old ws inner new → b.now ≡ inner → new.facts ≡ f ∷ fs
      → written inner (operand_in f) (next_is fs) ≡ Some left → size-Expr left < size-Expr inner → vs ≡ ws ++ b ∷ []
      → newer.draft ≡ with_emitted new.draft (begun inner new.draft.emitted) → newer.facts ≡ fs
      → Descended e old vs left newer
  descends ws vs b inner left f fs new newer d is next has less more begins past_it =
      let t = old.draft.tables.now in
      let seen : shown vs ≡ shown ws ++ inner ∷ [] = longer ws vs b inner is more in
      let there : drop (length ws) old.facts ≡ f ∷ fs = sym d.facts ∙ next in
      let there_shown : drop (length (shown ws)) old.facts ≡ f ∷ fs = ap (λ n. drop n old.facts) (length-shown ws)
      ∙ there in
      let long : length vs ≡ length ws + 1 = ap length more ∙ length-append ws (b ∷ []) in
      let next_long : length vs ≡ suc (length ws) = omega (arith, long) in
      let some = some_left (length ws) old.facts f fs there in
      let parts : newer.draft.emitted ≡ begun inner new.draft.emitted = ap (λ (x : Draft). x.emitted) begins in
      record {
        whole = λ l. ap (λ es. grown t l es old.facts (onto newer.draft.emitted (taking t left l newer.facts).piece))
            seen
            ∙ (grown-last t l (shown ws) inner old.facts f fs
            (onto newer.draft.emitted (taking t left l newer.facts).piece) there_shown
            ∙ (ap (λ ms. grown t l (shown ws) old.facts
            (ended t l inner (operand_in f) fs (onto ms (taking t left l newer.facts).piece))) parts
            ∙ (ap (λ gs. grown t l (shown ws) old.facts
            (ended t l inner (operand_in f) fs (onto (begun inner new.draft.emitted) (taking t left l gs).piece)))
            past_it
            ∙ (ap (grown t l (shown ws) old.facts) (sym (splits t l inner left f fs new.draft.emitted has))
            ∙ (ap (λ gs. grown t l (shown ws) old.facts (onto new.draft.emitted (taking t inner l gs).piece)) (sym next)
            ∙ d.whole l)))));
        draft = begins ∙ (ap (λ (x : Draft). with_emitted x (begun inner new.draft.emitted)) d.draft
            ∙ ap (with_emitted old.draft) (sym parts));
        facts = past_it ∙ (sym (past (length ws) old.facts f fs there) ∙ ap (λ n. drop n old.facts) (sym next_long));
        enough = omega (arith, long, some);
        within = deeper ws vs b inner is more size-Expr (size-Expr e) d.within d.inner;
        inner = omega (arith, less, d.inner);
      }

  module _ (l : ℕ) where
    module _ (ws vs : List (Bor Expr)) (b : Bor Expr) (d : Draft) (r : RisingCode l e old ws d)
        (last : ws ≡ vs ++ b ∷ []) where
      seen : shown ws ≡ shown vs ++ b.now ∷ []
      seen = shorter ws vs b last

      long : length ws ≡ length vs + 1
      long = ap length last ∙ length-append vs (b ∷ [])

      pub follow_smaller : size-Expr b.now ≤ size-Expr e
      follow_smaller = (no_deeper ws vs b last size-Expr (size-Expr e) r.within).1

      -- what stands after the left operand of the next one outwards is written
      pub rises : (at : List Fact) (more : Draft) → at ≡ drop (length vs) old.facts
          → ((f : Fact) (fs : List Fact) → at ≡ f ∷ fs
          → more ≡ with_emitted d (ended d.tables.now l b.now (operand_in f) fs d.emitted)) → RisingCode l e old vs more
      rises at more there next =
          let t = old.draft.tables.now in
          let found = left-some (length vs) old.facts (omega (arith, long, r.enough)) in
          let is = next found.0 found.1.0 (there ∙ found.1.1) in
          let tables : d.tables.now ≡ t = ap (λ (x : Draft). x.tables.now) r.draft in
          let parts : more.emitted ≡ ended t l b.now (operand_in found.0) found.1.0 d.emitted =
          ap (λ (x : Draft). x.emitted) is ∙ ap
          (λ u. ended u l b.now (operand_in found.0) found.1.0 d.emitted) tables in
          let there_shown : drop (length (shown vs)) old.facts ≡ found.0 ∷ found.1.0 =
          ap (λ n. drop n old.facts) (length-shown vs) ∙ found.1.1 in
          record {
            whole = ap (grown t l (shown vs) old.facts) parts
                ∙ (sym (ap (λ es. grown t l es old.facts d.emitted) seen
                ∙ grown-last t l (shown vs) b.now old.facts found.0 found.1.0 d.emitted there_shown) ∙ r.whole);
            draft = is ∙ (ap (λ (x : Draft). with_emitted x
                (ended d.tables.now l b.now (operand_in found.0) found.1.0 d.emitted)) r.draft
                ∙ ap (with_emitted old.draft) (sym (ap (λ (x : Draft). x.emitted) is)));
            enough = omega (arith, long, r.enough);
            within = (no_deeper ws vs b last size-Expr (size-Expr e) r.within).0;
          }
