-- The code of every expression by its facts is its code.
-- For: `taken_at`, golf_code_facts/specs/Expressions.antt; the law `expressions_follow`, src/lib.rt.
-- By: induction over the tree of an expression, one step for each kind.
use Rattle.std.proofs.Common.{◌≡◌, ℕ, List, [], ◌∷◌, ◌++◌, map, refl, sym, ap, ◌∙◌, append_assoc}
use Rattle.std.specs.Prelude.{flat_map, Option}
use Rattle.std.specs.Option.{option_map}
use Rattle.golf_syntax_trees.specs.declared.expressions.Expr.{Expr, roll-Expr}
use Rattle.golf_syntax_trees.specs.declared.expressions.Element.{Element}
use Rattle.golf_syntax_trees.specs.declared.expressions.Expr.TheOpen.{Expr-F}
use Rattle.golf_syntax_trees.specs.declared.expressions.Expr.TheOpen as F
use Rattle.golf_syntax_trees.specs.declared.expressions.Expr.TheFolds.{fold-Element, fold-roll-Expr, map-Expr}
use Rattle.golf_syntax_trees.proofs.ExpressionInduction.{KnownExpr, KnownElement, bare_exprs, bare_elements, ExprLayer}
use Rattle.golf_syntax_trees.proofs.ExpressionInduction.{bare_expr, every-expr, fold-element}
use Rattle.golf_check_types.specs.declared.facts.Fact.{Fact}
use Rattle.golf_check_types.specs.declared.facts.Fact.TheVariants as fact
use Rattle.golf_check_types.specs.declared.types.Layer.TheVariants as layer
use Rattle.golf_check_types.specs.declared.types.Base.{Base}
use Rattle.golf_check_types.specs.declared.types.GoType.{GoType}
use Rattle.golf_check_types.specs.declared.scopes.Scope.{Scope}
use Rattle.golf_check_types.specs.Scopes.{meaning}
use Rattle.golf_check_types.specs.Types.{plain, with_layer}
use Rattle.golf_check_types.specs.Written.{pointer_to, made_base, write_at}
use Rattle.golf_check_types.specs.Expressions.{facts_of, field_place, put_facts, selected_from}
use Rattle.golf_check_types.specs.Judgments.{Judge, Put, judge, judge_at}
use Rattle.golf_code_layout.specs.Piece.{Piece, all}
use Rattle.golf_code_of.specs.declared.tables.Tables.{Tables}
use Rattle.golf_code_of.specs.Expressions.{Made, only, index, unary_operator, binary_operator, made_sized}
use Rattle.golf_code_of.specs.Expressions.{slice_literal, puts as puts_of, new_struct, new_sync, selector}
use Rattle.golf_code_of.specs.ExpressionCode.{Coded, CodedPut, coded, code_at, argument}
use Rattle.golf_code_of.specs.Calls.{ArgumentCode, call}
use Rattle.golf_code_of.proofs.Judgments.{judgments-agree}
use Rattle.golf_code_of.proofs.JudgeEquations.{element_judge, element-judge-is, judge_layer, judge-rolls}
use Rattle.golf_code_of.proofs.ExprCodes.{element_coded, element-coded-is, coded_layer, coded-rolls}
use Rattle.golf_code_facts.specs.Facts.{base_of, next_is, skip}
use Rattle.golf_code_facts.specs.Expressions.{Take, taking, taking_step, element_taking_step, taken_at, arguments}
use Rattle.golf_code_facts.specs.Expressions.{pieces, puts}
use Rattle.golf_code_facts.specs.Laws.{ExpressionsFollow}
use Rattle.golf_code_facts.proofs.Steps.{skipped, skipped-among, two_parts, One, takes, facts, args, all_taken}
use Rattle.golf_code_facts.proofs.Steps.{called_inner, fields, all_put, base_is}
use Rattle.golf_check_types.specs.declared.operands.Operand.{Operand}

module _ (t : Tables) where
  abbrev P : Expr → Type 0
  P e = (l : ℕ) (s : Scope) (rest : List Fact) → taking t e l (facts_of (judge_at l s e) ++ rest) ≡ (coded t e).code l s

  abbrev element_taking : Element → Take
  element_taking = fold-Element Take Take (taking_step t) element_taking_step

  module _ (l : ℕ) (s : Scope) where
    abbrev one : KnownExpr P → One l
    one x = record {
      take = taking t x.0;
      meaning = (judge_at l s x.0).meaning;
      inner = (judge_at l s x.0).inner;
      code = (coded t x.0).code l s;
      reads = record { code = x.1 l s };
    }

    takes-are : (xs : List (KnownExpr P)) → map (taking t) (bare_exprs P xs) ≡ takes l (map one xs)
    takes-are [] = refl
    takes-are (x ∷ xs) = ap (λ z. taking t x.0 ∷ z) (takes-are xs)

    facts-are : (xs : List (KnownExpr P)) → flat_map facts_of (map (λ (j : Judge). j l s) (map judge (bare_exprs P xs)))
        ≡ facts l (map one xs)
    facts-are [] = refl
    facts-are (x ∷ xs) = ap (λ z. facts_of (judge_at l s x.0) ++ z) (facts-are xs)

    pieces-are : (xs : List (KnownExpr P))
        → pieces (args l (map one xs)) ≡ map (λ (x : Coded). (x.code l s).piece) (map (coded t) (bare_exprs P xs))
    pieces-are [] = refl
    pieces-are (x ∷ xs) = ap (λ z. ((coded t x.0).code l s).piece ∷ z) (pieces-are xs)

    args-are : (xs : List (KnownExpr P)) → args l (map one xs) ≡ map (argument l s) (map (coded t) (bare_exprs P xs))
    args-are [] = refl
    args-are (x ∷ xs) = ap (λ (j : Judge). argument_of (j l s).meaning ∷ args l (map one xs))
        (sym (judgments-agree t x.0)) ∙ ap (λ z. argument l s (coded t x.0) ∷ z) (args-are xs)
      where
        argument_of : Operand → ArgumentCode
        argument_of m = record { meaning = m; piece = ((coded t x.0).code l s).piece }

    abbrev named_one : KnownElement P → List ℕ × One l
    named_one x = (x.0.field, one (x.0.value, x.1))

    element-taking-is : (x : Element) → element_taking x ≡ taking t x.value
    unfolding taking
    element-taking-is = fold-element Take Take (taking_step t) element_taking_step

    put-takes-are : (xs : List (KnownElement P))
        → map element_taking (bare_elements P xs) ≡ map (λ (x : List ℕ × One l). x.1.take) (map named_one xs)
    put-takes-are [] = refl
    put-takes-are (x ∷ xs) = ap (λ z. z ∷ map element_taking (bare_elements P xs)) (element-taking-is x.0)
        ∙ ap (λ z. taking t x.0.value ∷ z) (put-takes-are xs)

    abbrev put-facts : Option Base → List Put → List Fact
    put-facts b zs = put_facts s.file b (map (λ (p : Put). p.name) zs) (map (λ (p : Put). p.judge l s) zs)

    put-facts-are : (b : Option Base) (xs : List (KnownElement P))
        → put-facts b (map element_judge (bare_elements P xs)) ≡ fields l s.file b (map named_one xs)
    put-facts-are b [] = refl
    put-facts-are b (x ∷ xs) =
        ap (λ z. put-facts b (z ∷ map element_judge (bare_elements P xs))) (element-judge-is x.0)
        ∙ ap (λ z. fact.Field (field_place s.file b x.0.field) ∷ (facts_of (judge_at l s x.0.value) ++ z))
        (put-facts-are b xs)

    put-names-are : (xs : List (KnownElement P))
        → map (λ (x : List ℕ × One l). x.0) (map named_one xs) ≡ map (λ (x : CodedPut). x.name)
        (map (element_coded t) (bare_elements P xs))
    put-names-are [] = refl
    put-names-are (x ∷ xs) = ap (λ z. x.0.field ∷ z) (put-names-are xs)
        ∙ ap (λ (z : CodedPut). z.name ∷ map (λ (x : CodedPut). x.name) (map (element_coded t) (bare_elements P xs)))
        (sym (element-coded-is t x.0))

    put-pieces-are : (xs : List (KnownElement P))
        → map (λ (x : List ℕ × One l). x.1.code.piece) (map named_one xs) ≡ map
        (λ (x : CodedPut). (x.value.code l s).piece) (map (element_coded t) (bare_elements P xs))
    put-pieces-are [] = refl
    put-pieces-are (x ∷ xs) = ap (λ z. ((coded t x.0.value).code l s).piece ∷ z) (put-pieces-are xs)
        ∙ ap (λ (z : CodedPut). (z.value.code l s).piece
        ∷ map (λ (x : CodedPut). (x.value.code l s).piece) (map (element_coded t) (bare_elements P xs)))
        (sym (element-coded-is t x.0))

    abbrev taken-of : Expr-F Expr Element → List Fact → Made
    taken-of z fs = taking_step t (map-Expr Expr Element Take Take (taking t) element_taking z) l fs

    -- two expressions
    both : (k : Piece → Piece → Made) (a b : KnownExpr P) (rest : List Fact)
        → (let fs = (facts_of (judge_at l s a.0) ++ facts_of (judge_at l s b.0))
        ++ rest in k (taking t a.0 l fs).piece (taking t b.0 l (skip fs)).piece) ≡ k ((coded t a.0).code l s).piece
        ((coded t b.0).code l s).piece
    both k a b rest =
        two_parts k (taking t a.0 l) (taking t b.0 l) (judge_at l s a.0).meaning (judge_at l s a.0).inner
        (facts_of (judge_at l s b.0)) rest ((coded t a.0).code l s) ((coded t b.0).code l s)
        (a.1 l s (facts_of (judge_at l s b.0) ++ rest)) (b.1 l s rest)

    at : (y : ExprLayer P) (rest : List Fact)
        → taken-of (bare_expr P y) (facts_of (judge_layer (bare_expr P y) l s) ++ rest) ≡
        (coded_layer t (bare_expr P y)).code l s
    at (F.Integer digits) rest = refl
    at (F.Text bytes) rest = refl
    at (F.Name n) rest = refl
    at (F.Parens e) rest = e.1 l s rest
    at (F.StructLiteral n xs) rest =
        ap (λ fs. literal (base_of (option_map plain b))
        (puts l (map element_taking (bare_elements P xs)) (fs ++ rest))) (put-facts-are b xs)
        ∙ ap (λ ts. literal (base_of (option_map plain b)) (puts l ts (fields l s.file b (map named_one xs) ++ rest)))
        (put-takes-are xs)
        ∙ ap (literal (base_of (option_map plain b))) (all_put l s.file b (map named_one xs) rest)
        ∙ ap (λ k. literal k (put_into (map (λ (x : List ℕ × One l). x.0) (map named_one xs))
        (map (λ (x : List ℕ × One l). x.1.code.piece) (map named_one xs)))) (base_is b)
        ∙ ap (λ ns. literal b (put_into ns (map (λ (x : List ℕ × One l). x.1.code.piece) (map named_one xs))))
        (put-names-are xs)
        ∙ ap (λ ps. literal b (put_into (map (λ (x : CodedPut). x.name) (map (element_coded t) (bare_elements P xs)))
        ps)) (put-pieces-are xs)
      where
        b : Option Base
        b = pointer_to (meaning s n)

        put_into : List (List ℕ) → List Piece → Piece
        put_into ns ps = puts_of l s.file b ns ps

        literal : Option Base → Piece → Made
        literal k p = only (all ((new_struct l k).piece ∷ p ∷ []))
    at (F.SyncLiteral n) rest = ap (λ b. new_sync l b) (base_is (made_base n))
    at (F.SliceLiteral w xs) rest =
        ap (λ fs. slice_literal l of_type (pieces (arguments l (map (taking t) (bare_exprs P xs)) (fs ++ rest))))
        (facts-are xs)
        ∙ ap (λ ts. slice_literal l of_type (pieces (arguments l ts (facts l (map one xs) ++ rest)))) (takes-are xs)
        ∙ ap (λ ys. slice_literal l of_type (pieces ys)) (all_taken l (map one xs) rest)
        ∙ ap (λ ps. slice_literal l of_type ps) (pieces-are xs)
      where
        of_type : Option GoType
        of_type = with_layer layer.Slice (write_at l s w).type
    at F.EmptyLiteral rest = refl
    at (F.Make w) rest = refl
    at (F.MakeSized w e) rest = ap (λ (x : Made). made_sized l (write_at l s w).type x.piece) (e.1 l s rest)
    at (F.New n) rest = ap (λ b. new_struct l b) (base_is (pointer_to (meaning s n)))
    at (F.NewSync n) rest = ap (λ b. new_sync l b) (base_is (made_base n))
    at (F.Selector e n) rest =
        ap (λ (x : Made). selector l (selected_from l s.file n (judge_at l s e.0).meaning).meaning x.piece)
        (e.1 l s rest)
        ∙ ap (λ (j : Judge). selector l (selected_from l s.file n (j l s).meaning).meaning
        ((coded t e.0).code l s).piece) (sym (judgments-agree t e.0))
    at (F.Index a i) rest = both (index l) a i rest
    at (F.Call f xs) rest =
        ap (λ fs. called (taking t f.0) (map (taking t) (bare_exprs P xs)) ((F0 ++ fs) ++ rest))
        (called_inner l s m (map (λ (j : Judge). j l s) (map judge (bare_exprs P xs))) ∙ facts-are xs)
        ∙ ap (λ ts. called (taking t f.0) ts ((F0 ++ facts l (map one xs)) ++ rest)) (takes-are xs)
        ∙ ap (called (taking t f.0) (takes l (map one xs))) (append_assoc F0 (facts l (map one xs)) rest)
        ∙ ap (λ (c : Made). call l m c.piece (arguments l (takes l (map one xs))
        (skip (F0 ++ (facts l (map one xs) ++ rest))))) (f.1 l s (facts l (map one xs) ++ rest))
        ∙ ap (λ fs. call l m ((coded t f.0).code l s).piece (arguments l (takes l (map one xs)) fs))
        (skipped m (judge_at l s f.0).inner (facts l (map one xs) ++ rest))
        ∙ ap (call l m ((coded t f.0).code l s).piece) (all_taken l (map one xs) rest)
        ∙ ap (λ (j : Judge). call l (j l s).meaning ((coded t f.0).code l s).piece (args l (map one xs)))
        (sym (judgments-agree t f.0))
        ∙ ap (call l ((coded t f.0).judge l s).meaning ((coded t f.0).code l s).piece) (args-are xs)
      where
        m : Operand
        m = (judge_at l s f.0).meaning

        F0 : List Fact
        F0 = facts_of (judge_at l s f.0)

        called : Take → List Take → List Fact → Made
        called g ts fs = call l (next_is fs) (g l fs).piece (arguments l ts (skip fs))
    at (F.Unary o e) rest = ap (λ (x : Made). unary_operator l o x.piece) (e.1 l s rest)
    at (F.Binary o a b) rest = both (binary_operator l o) a b rest

  rolled : (y : ExprLayer P) → P (roll-Expr (bare_expr P y))
  unfolding taking
  rolled y l s rest =
      ap (λ (k : Take). k l (facts_of (judge_at l s (roll-Expr (bare_expr P y))) ++ rest))
      (fold-roll-Expr Take Take (taking_step t) element_taking_step (bare_expr P y))
      ∙ ap (λ (j : Judge). taken-of l s (bare_expr P y) (facts_of (j l s) ++ rest)) (judge-rolls (bare_expr P y))
      ∙ at l s y rest
      ∙ ap (λ (c : Coded). c.code l s) (sym (coded-rolls t (bare_expr P y)))

  all-follow : (e : Expr) → P e
  all-follow = every-expr P rolled

pub expressions-follow : ExpressionsFollow
expressions-follow t l s e rest = (
  all-follow t e l s rest,
  skipped (judge_at l s e).meaning (judge_at l s e).inner rest,
)

-- an expression before other facts of the same statement
module _ (t : Tables) (l : ℕ) (s : Scope) (e : Expr) where
  pub made-alone : (rest : List Fact) → taken_at t l (facts_of (judge_at l s e) ++ rest) e ≡ code_at t l s e
  made-alone rest = all-follow t e l s rest

  pub past-alone : (rest : List Fact) → skip (facts_of (judge_at l s e) ++ rest) ≡ rest
  past-alone rest = skipped (judge_at l s e).meaning (judge_at l s e).inner rest

  pub made-among : (gs rest : List Fact) → taken_at t l ((facts_of (judge_at l s e) ++ gs) ++ rest) e ≡ code_at t l s e
  made-among gs rest = ap (λ fs. taken_at t l fs e) (append_assoc (facts_of (judge_at l s e)) gs rest)
      ∙ made-alone (gs ++ rest)

  pub past-among : (gs rest : List Fact) → skip ((facts_of (judge_at l s e) ++ gs) ++ rest) ≡ gs ++ rest
  past-among gs rest = skipped-among (judge_at l s e).meaning (judge_at l s e).inner gs rest
